-- The test for equal trees.
use Rattle.std.proofs.Common.{◌≡◌, ℕ, Bool, true, false, ◌&&◌, nat_eq, List, [], ◌∷◌, refl, ap, sym, ◌∙◌, arith}
use Rattle.std.specs.Prelude.{◌↔◌, IsTrue}
use Rattle.std.proofs.lemmas.Bool.Decides.{nat_tests}
use mathlib.Core.Path.{ap₂}
use Rattle.cf_term.specs.Core.{Tm, var, node, Tms, nil, cons, Head}
use Rattle.cf_term.specs.Codes.{head_number, numbers, head_at, head_back}
use Rattle.cf_term.specs.Same.{same_numbers, same_head, equal, equal_all}
use Rattle.cf_term.proofs.Compared.{false_true}

and_left : (a b : Bool) → a && b ≡ true → a ≡ true
and_left true b e = refl
and_left false b e = absurd (false_true e)

and_right : (a b : Bool) → a && b ≡ true → b ≡ true
and_right true b e = e
and_right false b e = absurd (false_true e)

number_is : (m n : ℕ) → nat_eq m n ≡ true → m ≡ n
number_is m n e = grind (arith, nat_tests, e)

number_same : (n : ℕ) → nat_eq n n ≡ true
number_same n = grind (arith, nat_tests)

numbers_are : (ms ns : List ℕ) → same_numbers ms ns ≡ true → ms ≡ ns
numbers_are [] [] e = refl
numbers_are (m ∷ ms) (n ∷ ns) e = ap₂ (λ k ks. k ∷ ks) (number_is m n (and_left (nat_eq m n) _ e)) (numbers_are ms ns (and_right (nat_eq m n) _ e))
numbers_are [] (n ∷ ns) e = absurd (false_true e)
numbers_are (m ∷ ms) [] e = absurd (false_true e)

numbers_same : (ns : List ℕ) → same_numbers ns ns ≡ true
numbers_same [] = refl
numbers_same (n ∷ ns) = ap₂ (λ a b. a && b) (number_same n) (numbers_same ns)

head_is : (g h : Head) → same_head g h ≡ true → g ≡ h
head_is g h e =
    sym (head_back g)
    ∙ ap₂ (λ n ns. head_at (n, ns)) (number_is (head_number g) (head_number h) (and_left _ _ e)) (numbers_are (numbers g) (numbers h) (and_right (nat_eq (head_number g) (head_number h)) _ e))
    ∙ head_back h

head_same : (h : Head) → same_head h h ≡ true
head_same h = ap₂ (λ a b. a && b) (number_same (head_number h)) (numbers_same (numbers h))

mutual
  tree_is : (t u : Tm) → equal t u ≡ true → t ≡ u
  tree_is (var i) (var j) e = ap var (number_is i j e)
  tree_is (node g ts) (node h us) e = ap₂ node (head_is g h (and_left (same_head g h) _ e)) (trees_are ts us (and_right (same_head g h) _ e))
  tree_is (var i) (node h us) e = absurd (false_true e)
  tree_is (node g ts) (var j) e = absurd (false_true e)

  trees_are : (ts us : Tms) → equal_all ts us ≡ true → ts ≡ us
  trees_are nil nil e = refl
  trees_are (cons t ts) (cons u us) e = ap₂ cons (tree_is t u (and_left (equal t u) _ e)) (trees_are ts us (and_right (equal t u) _ e))
  trees_are nil (cons u us) e = absurd (false_true e)
  trees_are (cons t ts) nil e = absurd (false_true e)

mutual
  tree_same : (t : Tm) → equal t t ≡ true
  tree_same (var i) = number_same i
  tree_same (node h ts) = ap₂ (λ a b. a && b) (head_same h) (trees_same ts)

  trees_same : (ts : Tms) → equal_all ts ts ≡ true
  trees_same nil = refl
  trees_same (cons t ts) = ap₂ (λ a b. a && b) (tree_same t) (trees_same ts)

pub equal_is : (t u : Tm) → IsTrue (equal t u) ↔ (t ≡ u)
equal_is t u = (tree_is t u, λ e. ap (equal t) (sym e) ∙ tree_same t)
