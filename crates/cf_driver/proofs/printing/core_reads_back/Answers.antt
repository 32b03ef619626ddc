use Rattle.std.specs.Prelude.{List, false}
use Rattle.cf_tree.specs.Tree.{Program}
use Rattle.cf_rules.specs.Programs.{Declaration}
use Rattle.cf_driver.specs.Cores.{IsReadBack}
use Rattle.cf_driver.specs.Sources.{ReadsAs}
use Rattle.cf_driver.proofs.printing.core_reads_back.Goals as goal

pub returns : goal.returns
returns c =
    λ p core read explicit is_core.
    (let scoped = c.cores_are_scoped.ensures c.args.source.now read.tokens false p core c.requires.short (read.lexed.text, read.lexed.lexed) read.reads explicit is_core in
    let back = c.reads_back.ensures core scoped in
    record { tokens = back.0; program = back.1; reads = back.2; explicit = back.3; same = back.4 })
