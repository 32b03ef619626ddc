use Rattle.std.proofs.Common.{rules, sym, subst}
use Rattle.wb_syntax.specs.Binary.{Encodes}
use Rattle.wb_encode.specs.Encodable.{AreBodiesWellNested, AreOfTable}
use Rattle.cf_driver.specs.Lowering.{IsLowered, module_of}
use Rattle.cf_driver.proofs.Alike.{ends_alike}
use Rattle.cf_driver.proofs.Encodable.{well_nested, of_table}
use Rattle.cf_driver.proofs.Valid.{valid}
use Rattle.cf_driver.proofs.building.built.Goals as goal

pub encode-requires-clause-bodies : goal.encode-requires-clause-bodies
encode-requires-clause-bodies c =
    let l : IsLowered c.in_ok-program.program c.in-Ok-Some.module = search rules in
    subst AreBodiesWellNested (sym l.same) (well_nested l.sum)

pub encode-requires-clause-instructions : goal.encode-requires-clause-instructions
encode-requires-clause-instructions c =
    let l : IsLowered c.in_ok-program.program c.in-Ok-Some.module = search rules in
    subst AreOfTable (sym l.same) (of_table l.sum)

pub returns-in-Ok-clause-module : goal.returns-in-Ok-clause-module
returns-in-Ok-clause-module c =
    let l : IsLowered c.in_ok-program.program c.in-Ok-Some.module = search rules in
    record {
      program = c.in_ok-program.program;
      read = c.in_ok-program.ensures.program;
      sum = l.sum;
      is_sum = l.is_sum;
      built = record {
        the_module = module_of l.sum;
        encoded = subst (λ m. Encodes m c.in-Ok.bytes.items) l.same c.in-Ok.ensures.spells;
        valid = valid l.sum;
        same = ends_alike l.sum l.fit;
      };
    }
