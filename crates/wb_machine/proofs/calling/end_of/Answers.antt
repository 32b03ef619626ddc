use Rattle.std.proofs.Common.{sym, subst}
use Rattle.wb_control.specs.Changes.{results_of}
use Rattle.wb_machine.specs.Steps.{Closes}
use Rattle.wb_machine.specs.declared.ends.MachineEnd.TheVariants.{Trap}
use Rattle.wb_machine.proofs.Steps.{trapped_as}
use Rattle.wb_machine.proofs.calling.end_of.Goals as goal

pub returns-in-Traps : goal.returns-in-Traps
returns-in-Traps c = λ first s. subst (λ flow. Closes first flow (results_of c.args.word) s (Trap c.in-Traps.kind)) (sym c.in-Traps.is) (trapped_as first c.in-Traps.kind s)
