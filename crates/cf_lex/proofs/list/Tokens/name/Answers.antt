use Rattle.std.proofs.Common.{◌∙◌, ap, Some, refl, subst, sym}
use Rattle.std.specs.List.{slice_get}
use Rattle.std.specs.Option.{option_map}
use Rattle.std.specs.Prelude.{string_bytes}
use Rattle.cf_lex.specs.Lexed.{IsLexed}
use Rattle.cf_lex.proofs.Seen.{get_bytes_of}
use Rattle.cf_lex.proofs.Used.{named, used}
use Rattle.cf_lex.proofs.list.Tokens.name.Goals as goal

pub returns-in-Some-clause-value : goal.returns-in-Some-clause-value
returns-in-Some-clause-value c =
    ap Some c.as_str.ensures.value ∙ ap (option_map string_bytes) c.in-Some.ensures.key ∙ sym (get_bytes_of c.self.inside.names.keys c.args.n) ∙ ap (λ l. slice_get l.names c.args.n) c.self.view_is

pub returns-in-Some-clause-used : goal.returns-in-Some-clause-used
returns-in-Some-clause-used c =
    let l = subst IsLexed c.self.view_is c.self.invariant.1 in
    let e = ap (option_map string_bytes) c.in-Some.ensures.key ∙ sym (get_bytes_of c.self.inside.names.keys c.args.n) ∙ ap (λ v. slice_get v.names c.args.n) c.self.view_is in
    (λ h. used c.args.self.now l c.args.n (string_bytes c.in-Some.name.now) (sym e), λ h. refl)

pub returns-in-Some-clause-spelled : goal.returns-in-Some-clause-spelled
returns-in-Some-clause-spelled c = λ t h k.
    let l = subst IsLexed c.self.view_is c.self.invariant.1 in
    let e = ap Some c.as_str.ensures.value ∙ ap (option_map string_bytes) c.in-Some.ensures.key ∙ sym (get_bytes_of c.self.inside.names.keys c.args.n) ∙ ap (λ v. slice_get v.names c.args.n) c.self.view_is in
    let f = e ∙ named c.args.self.now l t c.args.n h k in
    cc

pub returns-in-None-clause-value : goal.returns-in-None-clause-value
returns-in-None-clause-value c =
    ap (option_map string_bytes) c.in-None.ensures.key ∙ sym (get_bytes_of c.self.inside.names.keys c.args.n) ∙ ap (λ l. slice_get l.names c.args.n) c.self.view_is

pub returns-in-None-clause-used : goal.returns-in-None-clause-used
returns-in-None-clause-used c =
    let l = subst IsLexed c.self.view_is c.self.invariant.1 in
    let e = ap (option_map string_bytes) c.in-None.ensures.key ∙ sym (get_bytes_of c.self.inside.names.keys c.args.n) ∙ ap (λ v. slice_get v.names c.args.n) c.self.view_is in
    (λ h. absurd (cc), λ h. let f = e ∙ named c.args.self.now l h.0 c.args.n h.1 h.2 in absurd (cc))
