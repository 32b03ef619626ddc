use Rattle.std.proofs.Common.{sym}
use Rattle.wb_machine.proofs.First.{no_pages, only_pages}
use Rattle.wb_machine.proofs.opening.first_pages.Goals as goal

pub returns-in-None : goal.returns-in-None
returns-in-None c = sym (no_pages c.args.m.now.memories (sym c.in-None.ensures.value))

pub returns-in-Some : goal.returns-in-Some
returns-in-Some c = only_pages c.args.m.now.memories c.in-Some.limits.now c.requires (sym c.in-Some.ensures.value)
