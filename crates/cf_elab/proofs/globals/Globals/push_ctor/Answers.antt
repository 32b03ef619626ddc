use Rattle.std.proofs.Common.{◌≡◌, ◌∙◌, ap, string_bytes, reverse, take, drop, false}
use Rattle.cf_elab.specs.Scope.{with_own, is_taken}
use Rattle.cf_elab.specs.Names.{names_of, named_numbers}
use Rattle.cf_elab.specs.contracts.globals.Globals.{the_view}
use Rattle.cf_elab.proofs.Tables.{any_split, insert_named, front_stays, back_grows, free}
use Rattle.cf_elab.proofs.globals.Globals.push_ctor.Goals as goal

pub returns-clause-pushed : goal.returns-clause-pushed
returns-clause-pushed c =
    let x = string_bytes c.args.name in
    let g = c.self.inside in
    let es = g.ctors.entries in
    let new : is_taken (the_view g) x ≡ false = ap (λ v. is_taken v x) c.self.view_is ∙ c.requires in
    let e = ap named_numbers c.in_ok-insert.ensures.entries ∙ insert_named es c.args.name c.args.number (any_split x (named_numbers es) g.usable ∙ (free x (the_view g) new).2) in
    (λ i. record {
      variables = reverse (names_of g.variables.keys);
      types = names_of g.types.keys;
      ctors = (ap (take g.usable) e ∙ front_stays es (x, c.args.number) g.usable c.self.invariant) i;
      own = (ap (drop g.usable) e ∙ back_grows es (x, c.args.number) g.usable c.self.invariant) i;
    })
    ∙ ap (with_own x c.args.number) c.self.view_is
