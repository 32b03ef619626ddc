use Rattle.std.proofs.Common.{◌≡◌, ◌∙◌, ◌∷◌, [], ap, sym, string_bytes, reverse, take, drop, false}
use Rattle.std.proofs.lemmas.List.{reverse-append}
use Rattle.cf_elab.specs.Scope.{with_variable, is_taken}
use Rattle.cf_elab.specs.Names.{names_of, named_numbers}
use Rattle.cf_elab.specs.contracts.globals.Globals.{the_view}
use Rattle.cf_elab.proofs.Tables.{insert_new, free, any_reverse}
use Rattle.std.specs.Str.{bytes_eq}
use Rattle.cf_elab.proofs.globals.Globals.push_variable.Goals as goal

pub returns-clause-pushed : goal.returns-clause-pushed
returns-clause-pushed c =
    let x = string_bytes c.args.name in
    let g = c.self.inside in
    let new : is_taken (the_view g) x ≡ false = ap (λ v. is_taken v x) c.self.view_is ∙ c.requires in
    let e = ap (λ ks. reverse (names_of ks)) c.in_ok-insert_full.ensures.keys ∙ ap reverse (insert_new g.variables.keys c.args.name (sym (any_reverse (bytes_eq x) (names_of g.variables.keys)) ∙ (free x (the_view g) new).0)) ∙ reverse-append (names_of g.variables.keys) (x ∷ []) in
    (λ i. record { variables = e i; types = names_of g.types.keys; ctors = take g.usable (named_numbers g.ctors.entries); own = drop g.usable (named_numbers g.ctors.entries) })
    ∙ ap (with_variable x) c.self.view_is
