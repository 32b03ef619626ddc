use Rattle.wb_decode.proofs.Pairing.{no_code}
use Rattle.wb_decode.proofs.contents.functions.Goals as goal

pub returns-in_default : goal.returns-in_default
returns-in_default c = no_code c.loop-ty.funcs c.args.types.now c.loop-ty.ty-index c.loop-ty.codes _ c.loop-ty-test.true c.loop-ty.invariant c.in_default.ensures.0
