-- What `==` of classes computes: for each two classes, whether they are the same.
use Rattle.std.specs.Prelude.{Bool, true, false, ◌≡◌, ◌↔◌, IsTrue, refl}
use mathlib.Core.Path.{sym, ◌∙◌, subst}
use Rattle.cf_grammar.specs.declared.classes.Class.{Class}
use Rattle.cf_grammar.specs.contracts.classes.ClassPartialEq.TheImpl.{ghosts}
use Rattle.cf_grammar.proofs.First.{same}
use Rattle.cf_grammar.proofs.Logic.{clash}
use Rattle.cf_grammar.proofs.EachClass.{all, classes, each, same_refl, same_eq}

abbrev equal : Class → Class → Bool
equal j k = ghosts.eq j k

abbrev agree : Bool → Bool → Bool
agree true b = b
agree false true = false
agree false false = true

agreed : (a b : Bool) → agree a b ≡ true → a ≡ b
agreed true b e = sym e
agreed false true e = clash (sym e)
agreed false false e = refl

all_agree : all (λ j. all (λ k. agree (equal j k) (same j k)) classes) classes ≡ true
all_agree = refl

equal_same : (j k : Class) → equal j k ≡ same j k
equal_same j k = agreed (equal j k) (same j k) (each (λ k. agree (equal j k) (same j k)) (each (λ j. all (λ k. agree (equal j k) (same j k)) classes) all_agree j) k)

pub decides : (b : Bool) (j k : Class) → b ≡ equal j k → IsTrue b ↔ (j ≡ k)
decides b j k e = (λ t. same_eq j k (sym (e ∙ equal_same j k) ∙ t), λ p. e ∙ equal_same j k ∙ subst (λ i. same j i ≡ true) p (same_refl j))
