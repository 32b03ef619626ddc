use Rattle.wb_steps.proofs.Operating.{divisions_by_zero, quotient_too_large, quotient_yields, divisions_yield}
use Rattle.wb_steps.proofs.values.divisions.Goals as goal

pub returns : goal.returns
returns c = record { by_zero = divisions_by_zero; too_large = quotient_too_large; quotient = quotient_yields; others = divisions_yield }
