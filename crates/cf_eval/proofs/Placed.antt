-- Levels in scopes, and the variables that forms bind.
use Rattle.std.proofs.Common.{◌≡◌, ℕ, zero, suc, ◌+◌, ◌-◌, ◌*◌, ◌<◌, ◌≤◌, Bool, true, false, nat_eq, List, [], ◌∷◌, length, get_or, refl, ap, ◌∙◌, arith}
use Rattle.std.proofs.lemmas.Bool.Decides.{nat_tests}
use mathlib.Core.Path.{fun_ext}
use Rattle.cf_term.specs.Core.{group, branch_parts}
use Rattle.cf_value.specs.Heads.{branches}
use Rattle.cf_value.specs.Stands.{with_level, with_levels, in_context}
use Rattle.cf_value.specs.declared.shapes.Arm.{Arm}
use Rattle.cf_eval.specs.Scopes.{context, with_binders, at_of, binds_at}

pub under_binders : (k l : ℕ) (ls : List ℕ) (n : ℕ) → at_of (with_binders k l ls) n ≡ with_levels k l (at_of ls) n
under_binders zero l ls n = refl
under_binders (suc k) l ls n = ap (λ f. with_level (l + k) f n) (fun_ext (under_binders k l ls))

level_choice : (b : Bool) (d n p : ℕ) → nat_eq n d ≡ b → n < suc d → (n < d → p ≡ d - 1 - n) → elim b as (λ _. ℕ) [ true ↦ 0 | false ↦ suc p ] ≡ suc d - 1 - n
level_choice true d n p q h f = let same : n ≡ d = grind (arith, nat_tests) in omega (arith, same)
level_choice false d n p q h f = let low : n < d = grind (arith, nat_tests) in omega (arith, low, f low)

-- a level of the context
pub in_scope : (d n : ℕ) → n < d → at_of (context d) n ≡ in_context d n
in_scope zero n h = absurd (omega arith)
in_scope (suc d) n h = level_choice (nat_eq n d) d n (at_of (context d) n) refl h (in_scope d n)

outside_choice : (b : Bool) (d n p : ℕ) → nat_eq n d ≡ b → suc d ≤ n → p ≡ d → elim b as (λ _. ℕ) [ true ↦ 0 | false ↦ suc p ] ≡ suc d
outside_choice true d n p q h e = absurd (let same : n ≡ d = grind (arith, nat_tests) in omega (arith, same, h))
outside_choice false d n p q h e = omega (arith, e)

pub out_of_scope : (d n : ℕ) → d ≤ n → at_of (context d) n ≡ d
out_of_scope zero n h = refl
out_of_scope (suc d) n h = outside_choice (nat_eq n d) d n (at_of (context d) n) refl h (out_of_scope d n (omega arith))

-- ---- groups and branches

pub group_second : (n m i j : ℕ) → i ≡ 2 * j + 1 → j < m → binds_at (group n m) i ≡ n
group_second n zero i j e h = absurd (omega arith)
group_second n (suc m) zero j e h = absurd (omega (arith, e))
group_second n (suc m) (suc zero) j e h = refl
group_second n (suc m) (suc (suc i)) zero e h = absurd (omega (arith, e))
group_second n (suc m) (suc (suc i)) (suc j) e h = group_second n m i j (omega (arith, e)) (omega (arith, h))

pub group_last : (n m i : ℕ) → i ≡ 2 * m → binds_at (group n m) i ≡ n
group_last n zero zero e = refl
group_last n zero (suc i) e = absurd (omega (arith, e))
group_last n (suc m) zero e = absurd (omega (arith, e))
group_last n (suc m) (suc zero) e = absurd (omega (arith, e))
group_last n (suc m) (suc (suc i)) e = group_last n m i (omega (arith, e))

pub group_first : (n m i j : ℕ) → i ≡ 2 * j → (j ≡ m → ⊥) → binds_at (group n m) i ≡ 0
group_first n zero zero zero e h = absurd (h refl)
group_first n zero zero (suc j) e h = absurd (omega (arith, e))
group_first n zero (suc i) j e h = refl
group_first n (suc m) zero j e h = refl
group_first n (suc m) (suc zero) j e h = absurd (omega (arith, e))
group_first n (suc m) (suc (suc i)) zero e h = absurd (omega (arith, e))
group_first n (suc m) (suc (suc i)) (suc j) e h = group_first n m i j (omega (arith, e)) (λ q. h (ap suc q))

pub group_past : (n m i j : ℕ) → i ≡ 2 * j + 1 → m ≤ j → binds_at (group n m) i ≡ 0
group_past n zero zero j e h = absurd (omega (arith, e))
group_past n zero (suc i) j e h = refl
group_past n (suc m) zero j e h = absurd (omega (arith, e))
group_past n (suc m) (suc zero) j e h = absurd (omega (arith, e, h))
group_past n (suc m) (suc (suc i)) zero e h = absurd (omega (arith, h))
group_past n (suc m) (suc (suc i)) (suc j) e h = group_past n m i j (omega (arith, e)) (omega (arith, h))

pub names_some : (more : List Arm) (i : ℕ) (a : Arm) → i < length more → a ≡ get_or more i a → a.names ≡ binds_at (branch_parts (branches more)) i
names_some [] i a h e = absurd (omega arith)
names_some (x ∷ xs) zero a h e = ap (λ b. b.names) e
names_some (x ∷ xs) (suc i) a h e = names_some xs i a (omega arith) e

pub names_none : (more : List Arm) (i : ℕ) → length more ≤ i → 0 ≡ binds_at (branch_parts (branches more)) i
names_none [] i h = refl
names_none (x ∷ xs) zero h = absurd (omega arith)
names_none (x ∷ xs) (suc i) h = names_none xs i (omega arith)

pub scope_is : (n b l : ℕ) (ls inner : List ℕ) → n ≡ b → inner ≡ with_binders n l ls → at_of inner ≡ with_levels b l (at_of ls)
scope_is n b l ls inner e i = ap at_of i ∙ fun_ext (under_binders n l ls) ∙ ap (λ m. with_levels m l (at_of ls)) e
