-- Scans over the elements of a list: which are valid so far, and the first that is not.
use Rattle.std.proofs.Common.{◌≡◌, ℕ, ◌+◌, ◌<◌, ◌≤◌, ◌^◌, arith, refl, sym, ap, ◌∙◌, subst, length, get_or, ◌⊎◌, inl, inr}
use Rattle.std.specs.Prelude.{Bool, true, false, nat_le, List, [], ◌∷◌, Option, Some, None, slice_get, IfSome, ◌↔◌}
use Rattle.std.proofs.lemmas.Option.{slice_get_read, slice_get_past}
use Rattle.std.proofs.lemmas.Bool.{cases_lt, leb-true, le-leb, and_parts, and_from}
use Rattle.wb_syntax.specs.Typing.{AreLimits, IsGreatest, IsConstant}
use Rattle.wb_valid.specs.Syntax.{NumType, I32, I64, Instr, End, I32Const, I64Const, Limits}
use Rattle.wb_valid.specs.Effects.{carries}
use Rattle.wb_valid.specs.Scans.{constant_type, is_only_end, is_constant, are_limits, is_greatest}

-- the element at an index passes, as those before it
at_or_before : {A : Type 0} (P : A → Type 0) (xs : List A) (at k : ℕ) (x : A) → slice_get xs at ≡ Some x → P x → ((j : ℕ) → j < at → IfSome (slice_get xs j) P) → k < at + 1 → ((k < at) ⊎ (at ≤ k)) → IfSome (slice_get xs k) P
at_or_before P xs at k x e p before l (inl less) = before k less
at_or_before P xs at k x e p before l (inr more) =
    let same : at ≡ k = omega arith in
    subst (λ o. IfSome o P) (sym e ∙ ap (slice_get xs) same) p

pub passed : {A : Type 0} (P : A → Type 0) (xs : List A) (at : ℕ) (x : A) → at < length xs → x ≡ get_or xs at x → P x → ((j : ℕ) → j < at → IfSome (slice_get xs j) P) → (k : ℕ) → k < at + 1 → IfSome (slice_get xs k) P
passed P xs at x l e p before k m = at_or_before P xs at k x (slice_get_read xs (length xs) at x refl l e) p before m (cases_lt k at)

within_or_past : {A : Type 0} (P : A → Type 0) (xs : List A) (n : ℕ) → ((j : ℕ) → j < length xs → IfSome (slice_get xs j) P) → ((n < length xs) ⊎ (length xs ≤ n)) → IfSome (slice_get xs n) P
within_or_past P xs n all (inl l) = all n l
within_or_past P xs n all (inr l) = subst (λ o. IfSome o P) (sym (slice_get_past xs n l)) tt

-- all elements were passed
pub all_passed : {A : Type 0} (P : A → Type 0) (xs : List A) → ((j : ℕ) → j < length xs → IfSome (slice_get xs j) P) → (n : ℕ) → IfSome (slice_get xs n) P
all_passed P xs all n = within_or_past P xs n all (cases_lt n (length xs))

-- the element at an index does not pass
pub stopped : {A : Type 0} (P : A → Type 0) (xs : List A) (at : ℕ) (x : A) → at < length xs → x ≡ get_or xs at x → (P x → ⊥) → IfSome (slice_get xs at) P → ⊥
stopped P xs at x l e never h = never (subst (λ o. IfSome o P) (slice_get_read xs (length xs) at x refl l e) h)

-- ---- sizes of memories

false_true : false ≡ true → ⊥
false_true e = cc

greatest_is : (least : ℕ) (greatest : Option ℕ) → IsGreatest least greatest ↔ (is_greatest least greatest ≡ true)
greatest_is least None = (λ h. refl, λ h. tt)
greatest_is least (Some greatest) = (
  λ h. and_from (nat_le least greatest) (nat_le greatest (2 ^ 16)) (le-leb least greatest h.0) (le-leb greatest (2 ^ 16) h.1),
  λ h. let p = and_parts (nat_le least greatest) (nat_le greatest (2 ^ 16)) h in (leb-true least greatest p.0, leb-true greatest (2 ^ 16) p.1),
)

pub limits_are : (l : Limits) → AreLimits l ↔ (are_limits l ≡ true)
limits_are l = (
  λ h. and_from (nat_le l.min (2 ^ 16)) (is_greatest l.min l.max) (le-leb l.min (2 ^ 16) h.0) ((greatest_is l.min l.max).0 h.1),
  λ h. let p = and_parts (nat_le l.min (2 ^ 16)) (is_greatest l.min l.max) h in (leb-true l.min (2 ^ 16) p.0, (greatest_is l.min l.max).1 p.1),
)

pub limits_pass : (l : Limits) (b : Bool) → b ≡ are_limits l → b ≡ true → AreLimits l
limits_pass l b e t = (limits_are l).1 (sym e ∙ t)

pub limits_stop : (l : Limits) (b : Bool) → b ≡ are_limits l → b ≡ false → AreLimits l → ⊥
limits_stop l b e f h = false_true (sym f ∙ e ∙ (limits_are l).0 h)

-- ---- initial values

end_is : (is : List Instr) → is_only_end is ≡ true → is ≡ End ∷ []
end_is [] h = cc
end_is (End ∷ []) h = refl
end_is (i ∷ []) h = absurd (false_true h)
end_is (i ∷ j ∷ is) h = absurd (false_true h)

constant_is : (t : NumType) (i : Instr) → carries (Some t) (Some (constant_type i)) ≡ true → IsConstant t (i ∷ End ∷ [])
constant_is I32 (I32Const z) h = (z, refl)
constant_is I64 (I64Const z) h = (z, refl)
constant_is I32 (I64Const z) h = absurd (false_true h)
constant_is I64 (I32Const z) h = absurd (false_true h)
constant_is I32 i h = absurd (false_true h)
constant_is I64 i h = absurd (false_true h)

pub constant_back : (t : NumType) (is : List Instr) → is_constant t is ≡ true → IsConstant t is
constant_back t [] h = absurd (false_true h)
constant_back t (i ∷ is) h =
    let p = and_parts (carries (Some t) (Some (constant_type i))) (is_only_end is) h in
    subst (λ js. IsConstant t (i ∷ js)) (sym (end_is is p.1)) (constant_is t i p.0)

pub constant_of : (t : NumType) (is : List Instr) → IsConstant t is → is_constant t is ≡ true
constant_of I32 is h = ap (is_constant I32) h.1
constant_of I64 is h = ap (is_constant I64) h.1

pub constant_passes : (t : NumType) (is : List Instr) (b : Bool) → b ≡ is_constant t is → b ≡ true → IsConstant t is
constant_passes t is b e h = constant_back t is (sym e ∙ h)

pub constant_stops : (t : NumType) (is : List Instr) (b : Bool) → b ≡ is_constant t is → b ≡ false → IsConstant t is → ⊥
constant_stops t is b e f h = false_true (sym f ∙ e ∙ constant_of t is h)
