-- Each turn makes a number smaller: the tokens that are left, the stack, and how deep phrases are nested before their first token.
use Rattle.std.specs.Prelude.{ℕ, zero, suc, ◌+◌, ◌-◌, ◌*◌, ◌≤◌, ◌<◌, Bool, true, false, ◌&&◌, not, nat_le, nat_lt, List, [], ◌∷◌, ◌++◌, length, ◌≡◌, refl}
use Rattle.std.proofs.Common.{arith}
use Rattle.std.proofs.lemmas.Bool.{leb-true, ltb-true}
use Rattle.std.proofs.lemmas.List.{length-append}
use mathlib.Core.Path.{ap, sym, ◌∙◌, subst}
use Rattle.cf_grammar.specs.Grammar.{rules, Among}
use Rattle.cf_grammar.proofs.First.{nullable}
use Rattle.cf_grammar.specs.declared.classes.Class.{Class}
use Rattle.cf_grammar.specs.declared.phrases.Phrase.{Phrase}
use Rattle.cf_grammar.specs.declared.phrases.Symbol.{Symbol}
use Rattle.cf_grammar.specs.declared.phrases.Symbol.TheVariants.{Is as is, AnyName as NAME, Phrase as a}
use Rattle.cf_grammar.proofs.First.{begins, fronts}
use Rattle.cf_grammar.proofs.Logic.{left, right, clash}
use Rattle.cf_grammar.proofs.Follow.{every}
use Rattle.cf_grammar.proofs.Front.{of_each}
use Rattle.cf_grammar.proofs.Rank.{rank, top, solid, falling, ranked_all}

-- what is still to be done, by whether the top of the stack can be left out as empty
abbrev work_of : Bool → List Symbol → ℕ → ℕ
work_of false ys t = 65 * t + length ys + 1
work_of true ys t = 65 * (t - 1) + length ys + 8 * top ys + 1

abbrev pub work : List Symbol → ℕ → ℕ
work ys t = work_of (solid ys) ys t

-- the three things that are known of each right side
falls : (m : Phrase) {r : List Symbol} → Among r (rules m) → falling m r ≡ true
falls m i = of_each (falling m) i (right (nat_le (rank m) 8) (every (falling m) (rules m)) (ranked_all m))

short : (m : Phrase) (r : List Symbol) → falling m r ≡ true → length r ≤ 8
short m r e = leb-true (length r) 8 (left (nat_le (length r) 8) (nat_lt (top r) (rank m) && solid r) e)

lower : (m : Phrase) (r : List Symbol) → falling m r ≡ true → top r < rank m
lower m r e = ltb-true (top r) (rank m) (left (nat_lt (top r) (rank m)) (solid r) (right (nat_le (length r) 8) (nat_lt (top r) (rank m) && solid r) e))

stays : (m : Phrase) (r : List Symbol) → falling m r ≡ true → solid r ≡ true
stays m r e = right (nat_lt (top r) (rank m)) (solid r) (right (nat_le (length r) 8) (nat_lt (top r) (rank m) && solid r) e)

at_most_eight : (m : Phrase) → rank m ≤ 8
at_most_eight m = leb-true (rank m) 8 (left (nat_le (rank m) 8) (every (falling m) (rules m)) (ranked_all m))

top_eight : (ys : List Symbol) → top ys ≤ 8
top_eight [] = omega arith
top_eight (is j ∷ ys) = omega arith
top_eight (NAME ∷ ys) = omega arith
top_eight (a m ∷ ys) = at_most_eight m

top_of : (r ys : List Symbol) (k : Class) → fronts begins r k ≡ true → top (r ++ ys) ≡ top r
top_of [] ys k e = clash (sym e)
top_of (is j ∷ r) ys k e = refl
top_of (NAME ∷ r) ys k e = refl
top_of (a m ∷ r) ys k e = refl

solid_of : (r ys : List Symbol) (k : Class) → fronts begins r k ≡ true → solid r ≡ true → solid (r ++ ys) ≡ true
solid_of [] ys k e s = clash (sym e)
solid_of (is j ∷ r) ys k e s = s
solid_of (NAME ∷ r) ys k e s = s
solid_of (a m ∷ r) ys k e s = s

-- the work of a stack is at most this, whatever its top
at_most : (b : Bool) (ys : List Symbol) (t : ℕ) → top ys ≤ 8 → work_of b ys (suc t) ≤ 65 * suc t + length ys + 1
at_most true ys t e = omega arith
at_most false ys t e = omega arith

-- and with no token left
at_end : (b : Bool) (ys : List Symbol) → ys ≡ [] → work_of b ys 0 ≤ 1
at_end true [] e = omega arith
at_end false [] e = omega arith
at_end b (y ∷ ys) e = clash (ap (λ l. elim l [ [] ↦ false | y ∷ ys ↦ true ]) e)

token_step : (n y w : ℕ) → w ≤ 65 * suc n + y + 1 → w < 65 * (suc (suc n) - 1) + suc y + 8 * 0 + 1
token_step n y w e = omega arith

end_step : (y w : ℕ) → w ≤ 1 → w < 65 * (1 - 1) + suc y + 8 * 0 + 1
end_step y w e = omega arith

-- a token passed: either more are left, or the stack is empty
pub past_token : (y : Symbol) (ys : List Symbol) (t : ℕ) → solid (y ∷ ys) ≡ true → top (y ∷ ys) ≡ 0 → (t ≡ 0 → ys ≡ []) → work ys t < work (y ∷ ys) (suc t)
past_token y ys zero s p q = subst (λ b. work ys 0 < work_of b (y ∷ ys) 1) (sym s) (subst (λ n. work ys 0 < 65 * (1 - 1) + suc (length ys) + 8 * n + 1) (sym p) (end_step (length ys) (work ys 0) (at_end (solid ys) ys (q refl))))
past_token y ys (suc t) s p q = subst (λ b. work ys (suc t) < work_of b (y ∷ ys) (suc (suc t))) (sym s) (subst (λ n. work ys (suc t) < 65 * (suc (suc t) - 1) + suc (length ys) + 8 * n + 1) (sym p) (token_step t (length ys) (work ys (suc t)) (at_most (solid ys) ys t (top_eight ys))))

left_out : (b : Bool) (ys : List Symbol) (t : ℕ) (m : Phrase) → top ys ≤ 8 → work_of b ys (suc t) < work_of false (a m ∷ ys) (suc t)
left_out true ys t m e = omega arith
left_out false ys t m e = omega arith

-- a phrase left out as empty
pub past_empty : (m : Phrase) (ys : List Symbol) (t : ℕ) → nullable (rules m) ≡ true → work ys (suc t) < work (a m ∷ ys) (suc t)
past_empty m ys t e = subst (λ b. work ys (suc t) < work_of (not b) (a m ∷ ys) (suc t)) (sym e) (left_out (solid ys) ys t m (top_eight ys))

opened : (b : Bool) (t y r p m : ℕ) → r ≤ 8 → p < m → m ≤ 8 → 65 * (suc t - 1) + (r + y) + 8 * p + 1 < elim b [ true ↦ 65 * (suc t - 1) + suc y + 8 * m + 1 | false ↦ 65 * suc t + suc y + 1 ]
opened true t y r p m u v z = omega arith
opened false t y r p m u v z = omega arith

by_top : (b : Bool) (m : Phrase) (ys : List Symbol) (t w : ℕ) → w < elim b [ true ↦ 65 * (suc t - 1) + suc (length ys) + 8 * rank m + 1 | false ↦ 65 * suc t + suc (length ys) + 1 ] → w < work_of b (a m ∷ ys) (suc t)
by_top true m ys t w e = e
by_top false m ys t w e = e

-- the work of the new stack
summed : (r ys : List Symbol) (t : ℕ) (k : Class) → fronts begins r k ≡ true → solid r ≡ true → 65 * (suc t - 1) + (length r + length ys) + 8 * top r + 1 ≡ work (r ++ ys) (suc t)
summed r ys t k b s = ap (λ l. 65 * (suc t - 1) + l + 8 * top r + 1) (sym (length-append r ys)) ∙ ap (λ p. 65 * (suc t - 1) + length (r ++ ys) + 8 * p + 1) (sym (top_of r ys k b)) ∙ ap (λ c. work_of c (r ++ ys) (suc t)) (sym (solid_of r ys k b s))

-- a phrase opened
pub past_opening : (m : Phrase) (r ys : List Symbol) (t : ℕ) (k : Class) → Among r (rules m) → fronts begins r k ≡ true → work (r ++ ys) (suc t) < work (a m ∷ ys) (suc t)
past_opening m r ys t k i b =
    let f = falls m i in
    subst (λ w. w < work (a m ∷ ys) (suc t)) (summed r ys t k b (stays m r f))
    (by_top (solid (a m ∷ ys)) m ys t (65 * (suc t - 1) + (length r + length ys) + 8 * top r + 1)
    (opened (solid (a m ∷ ys)) t (length ys) (length r) (top r) (rank m) (short m r f) (lower m r f) (at_most_eight m)))
