use Rattle.std.proofs.Common.{ap, arith}
use Rattle.std.proofs.lemmas.Bool.Decides.{nat_tests}
use Rattle.wb_syntax.specs.Grammar.{Malformed, Outside, Import, Table, Start, Element, DataPart, among, mapped, sized, vec}
use Rattle.wb_syntax.specs.Binary.{Memories, limits, by_id}
use Rattle.wb_decode.specs.Sections.{section_of}
use Rattle.wb_decode.proofs.Rows.{reads_as, refused_as}
use Rattle.wb_decode.proofs.sections.by_id.Goals as goal

pub returns-in-2 : goal.returns-in-2
returns-in-2 c = refused_as (Outside Import) (among by_id c.args.id) c.args.bytes.now (ap (among by_id) c.in-2.is)

pub returns-in-4 : goal.returns-in-4
returns-in-4 c = refused_as (Outside Table) (among by_id c.args.id) c.args.bytes.now (ap (among by_id) c.in-4.is)

pub returns-in-5 : goal.returns-in-5
returns-in-5 c = reads_as c.memories.result (λ x. (section_of x.0, x.1.now)) (among by_id c.args.id) (mapped Memories (sized (vec limits))) c.args.bytes.now (ap (among by_id) c.in-5.is) c.memories.ensures

pub returns-in-8 : goal.returns-in-8
returns-in-8 c = refused_as (Outside Start) (among by_id c.args.id) c.args.bytes.now (ap (among by_id) c.in-8.is)

pub returns-in-9 : goal.returns-in-9
returns-in-9 c = refused_as (Outside Element) (among by_id c.args.id) c.args.bytes.now (ap (among by_id) c.in-9.is)

pub returns-in-11 : goal.returns-in-11
returns-in-11 c = refused_as (Outside DataPart) (among by_id c.args.id) c.args.bytes.now (ap (among by_id) c.in-11.is)

pub returns-in_default : goal.returns-in_default
returns-in_default c = refused_as Malformed (among by_id c.args.id) c.args.bytes.now (grind (arith, nat_tests, c.in_default))
