use Rattle.std.proofs.Common.{◌≡◌, ◌∙◌, ap, List, None, Option, Some, get_or, length, nat_lt, subst, sym, ℕ}
use Rattle.std.proofs.lemmas.Bool.{ltb-true}
use Rattle.std.specs.Borrow.{Bor}
use Rattle.std.specs.List.{Contains}
use Rattle.std.specs.Option.{IfSome, is_some, option_copied}
use Rattle.cf_lex.specs.declared.token.Token.{Token}
use Rattle.cf_lex.proofs.list.Tokens.get.Goals as goal

listed : (ts : List Token) (i : ℕ) (r : Option (Bor Token)) → is_some r ≡ nat_lt i (length ts) → IfSome r (λ x. x.now ≡ get_or ts i x.now) → IfSome (option_copied r) (λ t. Contains ts t)
listed ts i None e h = tt
listed ts i (Some x) e h = (i, ltb-true i (length ts) (sym e), sym h)

pub returns-clause-listed : goal.returns-clause-listed
returns-clause-listed c =
    let h = c.get.ensures.lookup in
    let s = listed c.deref.result.now c.args.i c.get.result h.0 h.1 in
    subst (λ ts. IfSome c.copied.result (λ t. Contains ts t)) (c.deref.ensures.value ∙ ap (λ l. l.tokens) c.self.view_is)
    (subst (λ r. IfSome r (λ t. Contains c.deref.result.now t)) (sym c.copied.ensures) s)
