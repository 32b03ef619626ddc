use Rattle.wb_steps.proofs.Instructed.{unary_law, binary_law, divide_by_zero_law, overflow_law}
use Rattle.wb_steps.proofs.instructions.numeric.Goals as goal

pub returns : goal.returns
returns c = record { unary = unary_law; binary = binary_law; divide_by_zero = divide_by_zero_law; overflow = overflow_law }
