use Rattle.std.proofs.Common.{◌∙◌, arith}
use Rattle.cf_core_text.proofs.Successors.{found, walked, missed}
use Rattle.cf_core_text.proofs.numerals.numeral.Goals as goal

pub returns-in-Zero : goal.returns-in-Zero
returns-in-Zero c = λ g d. c.loop-rest.invariant g d ∙ found g d _ _ _ _ c.rest.view_is c.in-Zero.is

pub returns-in_default : goal.returns-in_default
returns-in_default c = λ g d. c.loop-rest.invariant g d ∙ missed g d _ _ _ _ c.rest.view_is c.in_default.not-Zero c.in_default.not-Suc

pub loop-rest-preserved : goal.loop-rest-preserved
loop-rest-preserved c = λ g d. c.loop-rest.invariant g d ∙ walked g d _ _ _ _ _ _ _ c.rest.view_is c.in-Suc.is c.as_ref-rest.ensures (grind arith)
