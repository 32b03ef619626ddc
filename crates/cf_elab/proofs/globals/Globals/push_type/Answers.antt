use Rattle.std.proofs.Common.{◌≡◌, ◌∙◌, ap, string_bytes, reverse, take, drop, false}
use Rattle.cf_elab.specs.Scope.{with_type, is_taken}
use Rattle.cf_elab.specs.Names.{names_of, named_numbers}
use Rattle.cf_elab.specs.contracts.globals.Globals.{the_view}
use Rattle.cf_elab.proofs.Tables.{insert_new, free}
use Rattle.cf_elab.proofs.globals.Globals.push_type.Goals as goal

pub returns-clause-pushed : goal.returns-clause-pushed
returns-clause-pushed c =
    let x = string_bytes c.args.name in
    let g = c.self.inside in
    let new : is_taken (the_view g) x ≡ false = ap (λ v. is_taken v x) c.self.view_is ∙ c.requires in
    let e = ap names_of c.in_ok-insert_full.ensures.keys ∙ insert_new g.types.keys c.args.name (free x (the_view g) new).1 in
    (λ i. record { variables = reverse (names_of g.variables.keys); types = e i; ctors = take g.usable (named_numbers g.ctors.entries); own = drop g.usable (named_numbers g.ctors.entries) })
    ∙ ap (with_type x) c.self.view_is
