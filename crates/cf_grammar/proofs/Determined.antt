-- At most one answer holds of the tokens of a text.
use Rattle.std.specs.Prelude.{ℕ, suc, ◌+◌, ◌≤◌, List, [], ◌∷◌, ◌++◌, length, Option, Some, None, ◌≡◌, refl}
use Rattle.std.proofs.Common.{arith}
use Rattle.std.proofs.lemmas.List.{length-append}
use mathlib.Core.Path.{ap, ap₂, sym, ◌∙◌, subst, subst_refl, path_j}
use Rattle.cf_grammar.specs.Laws.{OneEnding}
use Rattle.cf_grammar.specs.Grammar.{IsProgram}
use Rattle.cf_grammar.specs.Refusing.{IsFirstDead, IsFirstPast, NoneBefore, excess}
use Rattle.cf_grammar.specs.declared.classes.Class.{Class}
use Rattle.cf_grammar.specs.declared.endings.Ending.{Ending}
use Rattle.cf_grammar.specs.declared.endings.Ending.TheVariants.{Fine, Syntax, Past}
use Rattle.cf_grammar.specs.declared.endings.Fault.{Fault}

-- a text with this front and this token next
abbrev Has : List Class → List Class → Class → Type 0
Has t front next = (rest : List Class) × (t ≡ front ++ next ∷ rest)

regroup : (front : List Class) (next : Class) (mid more : List Class) → (front ++ next ∷ mid) ++ more ≡ front ++ next ∷ (mid ++ more)
regroup [] next mid more = refl
regroup (k ∷ front) next mid more = ap (λ l. k ∷ l) (regroup front next mid more)

shorter : {t : List Class} {front : List Class} (first : List Class) (next : Class) (mid more : List Class) → front ≡ first ++ next ∷ mid → t ≡ front ++ more → Has t first next
shorter first next mid more e p = (mid ++ more, p ∙ ap (λ l. l ++ more) e ∙ regroup first next mid more)

-- where two places of a text stand to one another
data Where (f : List Class) (n : Class) (g : List Class) (m : Class) : Type 0 where
  equal : f ≡ g → n ≡ m → Where f n g m
  earlier : (mid : List Class) → g ≡ f ++ n ∷ mid → Where f n g m
  later : (mid : List Class) → f ≡ g ++ m ∷ mid → Where f n g m

abbrev tail_of : List Class → List Class
tail_of [] = []
tail_of (k ∷ ks) = ks

abbrev head_of : Class → List Class → Class
head_of c [] = c
head_of c (k ∷ ks) = k

further : {f g : List Class} {n m x y : Class} → x ≡ y → Where f n g m → Where (x ∷ f) n (y ∷ g) m
further p (equal e q) = equal (ap₂ (λ k l. k ∷ l) p e) q
further p (earlier mid e) = earlier mid (ap₂ (λ k l. k ∷ l) (sym p) e)
further p (later mid e) = later mid (ap₂ (λ k l. k ∷ l) p e)

compared : (f : List Class) (n : Class) (r g : List Class) (m : Class) (s : List Class) → f ++ n ∷ r ≡ g ++ m ∷ s → Where f n g m
compared [] n r [] m s e = equal refl (ap (head_of n) e)
compared [] n r (y ∷ g) m s e = earlier g (ap (λ k. k ∷ g) (sym (ap (head_of n) e)))
compared (x ∷ f) n r [] m s e = later f (ap (λ k. k ∷ f) (ap (head_of x) e))
compared (x ∷ f) n r (y ∷ g) m s e = further (ap (head_of x) e) (compared f n r g m s (ap tail_of e))

-- a derivation of the same text, written in another way, passes the same limit
excess_moved : {t : List Class} (u : List Class) (e : t ≡ u) (d : IsProgram t) → excess (subst (λ l. IsProgram l) e d) 0 ≡ excess d 0
excess_moved u e d = path_j (λ l q. excess (subst (λ v. IsProgram v) q d) 0 ≡ excess d 0) (ap (λ x. excess x 0) (subst_refl (λ l. IsProgram l) d)) e

-- what the two records say, of any text that has the front
no_program : {ks : List Class} {i : ℕ} (q : IsFirstDead ks i) (t : List Class) → Has t q.front q.next → IsProgram t → ⊥
no_program q t h d = q.dead h.0 (subst (λ l. IsProgram l) (h.1 ∙ sym (regroup q.front q.next [] h.0)) d)

passed : {ks : List Class} {i : ℕ} {f : Fault} (q : IsFirstPast ks i f) (t : List Class) → Has t q.front q.next → (d : IsProgram t) → excess d 0 ≡ Some (i, f)
passed q t h d = sym (excess_moved (q.front ++ q.next ∷ h.0) h.1 d) ∙ q.passes h.0 (subst (λ l. IsProgram l) h.1 d)

abbrev has : {ks : List Class} {i : ℕ} {f : Fault} (q : IsFirstPast ks i f) → Has ((q.front ++ q.next ∷ []) ++ q.live.0) q.front q.next
has q = (q.live.0, regroup q.front q.next [] q.live.0)

abbrev answer : Option (ℕ × Fault) → Ending
answer None = Fine
answer (Some o) = Past o.0 o.1

-- two answers that a program has
same_past : {ks : List Class} {i j : ℕ} {f g : Fault} (p : IsFirstPast ks i f) (q : IsFirstPast ks j g) (t : List Class) → Has t p.front p.next → Has t q.front q.next → IsProgram t → Past i f ≡ Past j g
same_past p q t h k d = ap answer (sym (passed p t h d) ∙ passed q t k d)

moved_has : {t : List Class} {f g : List Class} {n m : Class} → f ≡ g → n ≡ m → Has t f n → Has t g m
moved_has {t} e p h = (h.0, h.1 ∙ ap₂ (λ l k. l ++ k ∷ h.0) e p)

both_past : {ks : List Class} {i j : ℕ} {f g : Fault} (p : IsFirstPast ks i f) (q : IsFirstPast ks j g) → Where p.front p.next q.front q.next → Past i f ≡ Past j g
both_past p q (equal e n) = same_past p q ((p.front ++ p.next ∷ []) ++ p.live.0) (has p) (moved_has e n (has p)) p.live.1
both_past p q (earlier mid e) = same_past p q ((q.front ++ q.next ∷ []) ++ q.live.0) (shorter p.front p.next mid (q.next ∷ q.live.0) e (has q).1) (has q) q.live.1
both_past p q (later mid e) = same_past p q ((p.front ++ p.next ∷ []) ++ p.live.0) (has p) (shorter q.front q.next mid (p.next ∷ p.live.0) e (has p).1) p.live.1

both_dead : {ks : List Class} {i j : ℕ} (p : IsFirstDead ks i) (q : IsFirstDead ks j) → Where p.front p.next q.front q.next → Syntax i ≡ Syntax j
both_dead p q (equal e n) = ap Syntax (sym p.place ∙ ap length e ∙ q.place)
both_dead p q (earlier mid e) = absurd (no_program p (q.front ++ q.live.0) (shorter p.front p.next mid q.live.0 e refl) q.live.1)
both_dead p q (later mid e) = absurd (no_program q (p.front ++ p.live.0) (shorter q.front q.next mid p.live.0 e refl) p.live.1)

too_late : (i j n m l : ℕ) → l ≡ m + suc n → l ≡ i → m ≡ j → i ≤ j → ⊥
too_late i j n m l e p q r = omega arith

not_both : {ks : List Class} {i j : ℕ} {f : Fault} (p : IsFirstDead ks i) (q : IsFirstPast ks j f) → Where p.front p.next q.front q.next → ⊥
not_both p q (equal e n) = no_program p ((q.front ++ q.next ∷ []) ++ q.live.0) (moved_has (sym e) (sym n) (has q)) q.live.1
not_both p q (earlier mid e) = no_program p ((q.front ++ q.next ∷ []) ++ q.live.0) (shorter p.front p.next mid (q.next ∷ q.live.0) e (has q).1) q.live.1
not_both {i = i} {j = j} p q (later mid e) =
    too_late i j (length mid) (length q.front) (length p.front) (ap length e ∙ length-append q.front (q.next ∷ mid)) p.place q.place
    (subst (NoneBefore i) (passed q (p.front ++ p.live.0) (shorter q.front q.next mid p.live.0 e refl) p.live.1) (p.within p.live.0 p.live.1))

is_past : {ks : List Class} {i : ℕ} {f : Fault} (d : IsProgram ks) → excess d 0 ≡ None → IsFirstPast ks i f → Fine ≡ Past i f
is_past {ks} d e q = ap answer (sym e ∙ passed q ks (q.rest, q.parted) d)

places : {ks f g : List Class} {n m : Class} (r s : List Class) → ks ≡ f ++ n ∷ r → ks ≡ g ++ m ∷ s → Where f n g m
places {ks} {f} {g} {n} {m} r s e p = compared f n r g m s (sym e ∙ p)

-- at most one answer holds
pub determined : OneEnding
determined ks Fine Fine p q = refl
determined ks Fine (Syntax j) p q = absurd (no_program q ks (q.rest, q.parted) p.0)
determined ks Fine (Past j g) p q = is_past p.0 p.1 q
determined ks (Syntax i) Fine p q = absurd (no_program p ks (p.rest, p.parted) q.0)
determined ks (Syntax i) (Syntax j) p q = both_dead p q (places p.rest q.rest p.parted q.parted)
determined ks (Syntax i) (Past j g) p q = absurd (not_both p q (places p.rest q.rest p.parted q.parted))
determined ks (Past i f) Fine p q = sym (is_past q.0 q.1 p)
determined ks (Past i f) (Syntax j) p q = absurd (not_both q p (places q.rest p.rest q.parted p.parted))
determined ks (Past i f) (Past j g) p q = both_past p q (places p.rest q.rest p.parted q.parted)
