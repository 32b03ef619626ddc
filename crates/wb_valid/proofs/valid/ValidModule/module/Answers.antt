use Rattle.std.proofs.Common.{subst}
use Rattle.wb_syntax.specs.Typing.{Valid}
use Rattle.wb_valid.proofs.Parts.{valid_stable}
use Rattle.wb_valid.proofs.valid.ValidModule.module.Goals as goal

pub returns-clause-valid : goal.returns-clause-valid
returns-clause-valid c = valid_stable c.args.self.now (subst (λ m. (Valid m → ⊥) → ⊥) c.self.view_is c.self.invariant)
