-- Tokens that a symbol takes, by equations.
use Rattle.std.specs.Prelude.{Bool, true, false, IsTrue, ◌≡◌, ◌↔◌}
use mathlib.Core.Path.{refl, sym, ◌∙◌, subst}
use Rattle.cf_grammar.proofs.Logic.{clash}
use Rattle.cf_grammar.specs.Grammar.{Takes, exact, any_name}
use Rattle.cf_grammar.specs.Walking.{IsRefused}
use Rattle.cf_grammar.specs.declared.classes.Class.{Class}
use Rattle.cf_grammar.specs.declared.classes.Class.TheVariants as class
use Rattle.cf_grammar.specs.declared.phrases.Symbol.{Symbol}
use Rattle.cf_grammar.specs.declared.phrases.Symbol.TheVariants.{Is as is, AnyName as NAME}

pub takes_same : {y : Symbol} {j k : Class} → y ≡ is j → j ≡ k → Takes y k
takes_same {y} {j} {k} e f = subst (λ z. Takes z k) (sym e) (subst (λ c. Takes (is j) c) f exact)

pub takes_name : {y : Symbol} {k : Class} {p : Bool} → y ≡ NAME → k ≡ class.Name p → Takes y k
takes_name {y} {k} {p} e f = subst (λ z. Takes z k) (sym e) (subst (λ c. Takes NAME c) (sym f) any_name)

same : {j k : Class} → Takes (is j) k → j ≡ k
same exact = refl

pub refuses : {y : Symbol} {j k : Class} → y ≡ is j → (j ≡ k → ⊥) → IsRefused y k
refuses {y} {j} {k} e f = subst (λ z. IsRefused z k) (sym e) (λ t. f (same t))

-- what a test says
pub same_of : {b : Bool} {j k : Class} → IsTrue b ↔ (j ≡ k) → b ≡ true → j ≡ k
same_of e t = e.0 t

pub other_of : {b : Bool} {j k : Class} → IsTrue b ↔ (j ≡ k) → b ≡ false → j ≡ k → ⊥
other_of e t p = clash (sym (e.1 p) ∙ t)
