-- Each printed name stands for the number that it was printed for.
use Rattle.std.proofs.Common.{◌≡◌, refl, sym, ap, ◌∙◌, subst, arith, inl, inr, append_assoc, ltb-true, lt-ltb, ℕ, zero, suc, ◌+◌, ◌-◌, ◌^◌, ◌<◌, Bool, true, false, cond, ◌||◌, List, [], ◌∷◌, ◌++◌, length, map, Some, None}
use Rattle.std.specs.Prelude.{◌⊎◌, slice_get, position, nat_lt, codes, not}
use Rattle.std.specs.Fmt.{decimal}
use Rattle.std.specs.List.{list_any, position_or_len}
use Rattle.std.specs.Map.{lookup}
use Rattle.std.specs.Str.{bytes_eq}
use Rattle.std.proofs.lemmas.Bool.{cases_lt}
use Rattle.std.proofs.lemmas.Fmt.{decimal_injective}
use Rattle.std.proofs.lemmas.Slice.Eq.{bytes_eq-Decides}
use Rattle.cf_tree.specs.Tree.{Binder}
use Rattle.cf_elab.specs.Scope.{Globals, is_named, is_taken, settled, start, with_own, with_type, with_variable}
use Rattle.cf_elab.specs.declared.numbers.CtorNumber.{CtorNumber}
use Rattle.cf_syntax.specs.Tokens.{begins_plain}
use Rattle.cf_printed.proofs.Tables.{get_either, get_first}

-- the first that passes a test
pub here : {A : Type 0} (p : A → Bool) (x : A) (xs : List A) → p x ≡ true → position p (x ∷ xs) ≡ Some 0
here p x xs e =
    let k : position_or_len p (x ∷ xs) ≡ 0 = ap (λ b. cond (not b) (1 + position_or_len p xs) 0) e in
    ap (λ n. cond (nat_lt n (length (x ∷ xs))) (Some n) None) k ∙ ap (λ b. cond b (Some 0) None) (lt-ltb 0 (length (x ∷ xs)) (omega arith))

-- where a search ends
pub found_at : (n l i : ℕ) → cond (nat_lt n l) (Some n) None ≡ Some i → (n < l) × (n ≡ i)
found_at n l i e = by_test (nat_lt n l) refl e
  where
    by_test : (b : Bool) → nat_lt n l ≡ b → cond b (Some n) None ≡ Some i → (n < l) × (n ≡ i)
    by_test true f h = (ltb-true n l f, cc)
    by_test false f h = absurd (cc)

pub there : {A : Type 0} (p : A → Bool) (x : A) (xs : List A) (i : ℕ) → p x ≡ false → position p xs ≡ Some i → position p (x ∷ xs) ≡ Some (suc i)
there p x xs i e f =
    let r = found_at (position_or_len p xs) (length xs) i f in
    let k : position_or_len p (x ∷ xs) ≡ suc i = ap (λ b. cond (not b) (1 + position_or_len p xs) 0) e ∙ omega (arith, r.1) in
    ap (λ n. cond (nat_lt n (length (x ∷ xs))) (Some n) None) k ∙ ap (λ b. cond b (Some (suc i)) None) (lt-ltb (suc i) (length (x ∷ xs)) (omega (arith, r.0, r.1)))

-- an element that passes, and none in front of it does
pub first_at : {A : Type 0} (p : A → Bool) (xs : List A) (i : ℕ) (y : A) → slice_get xs i ≡ Some y → p y ≡ true → ((j : ℕ) (z : A) → j < i → slice_get xs j ≡ Some z → p z ≡ false) → position p xs ≡ Some i
first_at p [] i y e t f = absurd (cc)
first_at p (x ∷ xs) zero y e t f = let k : x ≡ y = cc in here p x xs (ap p k ∙ t)
first_at p (x ∷ xs) (suc i) y e t f = there p x xs i (f 0 x (omega arith) refl) (first_at p xs i y e t (λ j z l. f (suc j) z (omega (arith, l))))

pub first_entry : {A B : Type 0} (p : A → Bool) (es : List (A × B)) (i : ℕ) (x : A) (k : B) → slice_get es i ≡ Some (x, k) → p x ≡ true → ((j : ℕ) (z : A × B) → j < i → slice_get es j ≡ Some z → p z.0 ≡ false) → lookup p es ≡ Some k
first_entry p [] i x k e t f = absurd (cc)
first_entry p (z ∷ es) zero x k e t f =
    let g : z ≡ (x, k) = cc in
    ap (λ b. cond b (Some z.1) (lookup p es)) (ap (λ q. p q.0) g ∙ t) ∙ ap (λ q. Some q.1) g
first_entry p (z ∷ es) (suc i) x k e t f = ap (λ b. cond b (Some z.1) (lookup p es)) (f 0 z (omega arith) refl) ∙ first_entry p es i x k e t (λ j y l. f (suc j) y (omega (arith, l)))

-- names as texts
pub equal : (x : List ℕ) → bytes_eq x x ≡ true
equal x = (bytes_eq-Decides x x).1 refl

pub apart : (x y : List ℕ) → (x ≡ y → ⊥) → bytes_eq x y ≡ false
apart x y h = by_test (bytes_eq x y) refl
  where
    by_test : (b : Bool) → bytes_eq x y ≡ b → b ≡ false
    by_test true e = absurd (h ((bytes_eq-Decides x y).0 e))
    by_test false e = refl

either_false : (a b : Bool) → (a || b) ≡ false → (a ≡ false) × (b ≡ false)
either_false true b e = absurd (cc)
either_false false b e = (refl, e)

none_at : {A : Type 0} (p : A → Bool) (xs : List A) → list_any p xs ≡ false → (i : ℕ) (y : A) → slice_get xs i ≡ Some y → p y ≡ false
none_at p [] e i y f = absurd (cc)
none_at p (x ∷ xs) e zero y f = let k : x ≡ y = cc in ap p (sym k) ∙ (either_false (p x) (list_any p xs) e).0
none_at p (x ∷ xs) e (suc i) y f = none_at p xs (either_false (p x) (list_any p xs) e).1 i y f

true_false : {A : Type 0} (b : Bool) → b ≡ true → b ≡ false → A
true_false true e f = absurd (cc)
true_false false e f = absurd (cc)

pub get_front : {A : Type 0} (xs ys : List A) (i : ℕ) (x : A) → slice_get xs i ≡ Some x → slice_get (xs ++ ys) i ≡ Some x
get_front [] ys i x e = absurd (cc)
get_front (z ∷ xs) ys zero x e = e
get_front (z ∷ xs) ys (suc i) x e = get_front xs ys i x e

-- no two declared names of a kind are the same
abbrev pub Once : List (List ℕ) → Type 0
Once xs = (i j : ℕ) (x : List ℕ) → slice_get xs i ≡ Some x → slice_get xs j ≡ Some x → i ≡ j

abbrev pub KeysOnce : List (List ℕ × CtorNumber) → Type 0
KeysOnce es = (i j : ℕ) (x : List ℕ) (k l : CtorNumber) → slice_get es i ≡ Some (x, k) → slice_get es j ≡ Some (x, l) → i ≡ j

pub record Distinct (g : Globals) : Type 0 where
  pub variables : Once g.variables
  pub types : Once g.types
  pub ctors : KeysOnce (g.ctors ++ g.own)

-- what is not taken
record Free (g : Globals) (x : List ℕ) : Type 0 where
  variables : (i : ℕ) → slice_get g.variables i ≡ Some x → ⊥
  types : (i : ℕ) → slice_get g.types i ≡ Some x → ⊥
  ctors : (i : ℕ) (k : CtorNumber) → slice_get (g.ctors ++ g.own) i ≡ Some (x, k) → ⊥

free : (g : Globals) (x : List ℕ) → is_taken g x ≡ false → Free g x
free g x e =
    let vs : Bool = list_any (bytes_eq x) g.variables in
    let ts : Bool = list_any (bytes_eq x) g.types in
    let cs : Bool = list_any (λ c. bytes_eq x c.0) g.ctors in
    let os : Bool = list_any (λ c. bytes_eq x c.0) g.own in
    let a = either_false ((vs || ts) || cs) os e in
    let b = either_false (vs || ts) cs a.0 in
    let c = either_false vs ts b.0 in
    record {
      variables = λ i f. true_false (bytes_eq x x) (equal x) (none_at (bytes_eq x) g.variables c.0 i x f);
      types = λ i f. true_false (bytes_eq x x) (equal x) (none_at (bytes_eq x) g.types c.1 i x f);
      ctors = λ i k f. elim (get_either g.ctors g.own i (x, k) f) [
        | inl h ↦ true_false (bytes_eq x x) (equal x) (none_at (λ c. bytes_eq x c.0) g.ctors b.1 i (x, k) h)
        | inr h ↦ true_false (bytes_eq x x) (equal x) (none_at (λ c. bytes_eq x c.0) g.own a.1 h.0 (x, k) h.2)
      ];
    }

once_front : (x : List ℕ) (xs : List (List ℕ)) → ((i : ℕ) → slice_get xs i ≡ Some x → ⊥) → Once xs → Once (x ∷ xs)
once_front x xs f o zero zero y e h = refl
once_front x xs f o zero (suc j) y e h = let k : x ≡ y = cc in absurd (f j (subst (λ z. slice_get xs j ≡ Some z) (sym k) h))
once_front x xs f o (suc i) zero y e h = let k : x ≡ y = cc in absurd (f i (subst (λ z. slice_get xs i ≡ Some z) (sym k) e))
once_front x xs f o (suc i) (suc j) y e h = ap suc (o i j y e h)

once_back : (x : List ℕ) (xs : List (List ℕ)) → ((i : ℕ) → slice_get xs i ≡ Some x → ⊥) → Once xs → Once (xs ++ x ∷ [])
once_back x xs f o i j y e h = cases (get_either xs (x ∷ []) i y e) (get_either xs (x ∷ []) j y h)
  where
    Where : ℕ → Type 0
    Where n = (slice_get xs n ≡ Some y) ⊎ ((m : ℕ) × (n ≡ length xs + m) × (slice_get (x ∷ []) m ≡ Some y))

    cases : (slice_get xs i ≡ Some y) ⊎ ((m : ℕ) × (i ≡ length xs + m) × (slice_get (x ∷ []) m ≡ Some y)) → (slice_get xs j ≡ Some y) ⊎ ((m : ℕ) × (j ≡ length xs + m) × (slice_get (x ∷ []) m ≡ Some y)) → i ≡ j
    cases (inl a) (inl b) = o i j y a b
    cases (inl a) (inr b) = let q = get_first x b.0 y b.2 in absurd (f i (subst (λ z. slice_get xs i ≡ Some z) (sym q.1) a))
    cases (inr a) (inl b) = let q = get_first x a.0 y a.2 in absurd (f j (subst (λ z. slice_get xs j ≡ Some z) (sym q.1) b))
    cases (inr a) (inr b) = let q = get_first x a.0 y a.2 in let r = get_first x b.0 y b.2 in omega (arith, a.1, b.1, q.0, r.0)

entry_first : (e : List ℕ × CtorNumber) (m : ℕ) (y : List ℕ) (k : CtorNumber) → slice_get (e ∷ []) m ≡ Some (y, k) → (m ≡ 0) × (e.0 ≡ y)
entry_first e zero y k h = (refl, (let f : e ≡ (y, k) = cc in ap (λ q. q.0) f))
entry_first e (suc m) y k h = absurd (cc)

keys_back : (e : List ℕ × CtorNumber) (es : List (List ℕ × CtorNumber)) → ((i : ℕ) (k : CtorNumber) → slice_get es i ≡ Some (e.0, k) → ⊥) → KeysOnce es → KeysOnce (es ++ e ∷ [])
keys_back e es f o i j y k l h u = cases (get_either es (e ∷ []) i (y, k) h) (get_either es (e ∷ []) j (y, l) u)
  where
    cases : (slice_get es i ≡ Some (y, k)) ⊎ ((m : ℕ) × (i ≡ length es + m) × (slice_get (e ∷ []) m ≡ Some (y, k))) → (slice_get es j ≡ Some (y, l)) ⊎ ((m : ℕ) × (j ≡ length es + m) × (slice_get (e ∷ []) m ≡ Some (y, l))) → i ≡ j
    cases (inl a) (inl b) = o i j y k l a b
    cases (inl a) (inr b) = let q = entry_first e b.0 y l b.2 in absurd (f i k (subst (λ z. slice_get es i ≡ Some (z, k)) (sym q.1) a))
    cases (inr a) (inl b) = let q = entry_first e a.0 y k a.2 in absurd (f j l (subst (λ z. slice_get es j ≡ Some (z, l)) (sym q.1) b))
    cases (inr a) (inr b) = let q = entry_first e a.0 y k a.2 in let r = entry_first e b.0 y l b.2 in omega (arith, a.1, b.1, q.0, r.0)

pub distinct_variable : (g : Globals) (x : List ℕ) → is_taken g x ≡ false → Distinct g → Distinct (with_variable x g)
distinct_variable g x t d = record { variables = once_front x g.variables (free g x t).variables d.variables; types = d.types; ctors = d.ctors }

pub distinct_type : (g : Globals) (x : List ℕ) → is_taken g x ≡ false → Distinct g → Distinct (with_type x g)
distinct_type g x t d = record { variables = d.variables; types = once_back x g.types (free g x t).types d.types; ctors = d.ctors }

pub distinct_own : (g : Globals) (x : List ℕ) (k : CtorNumber) → is_taken g x ≡ false → Distinct g → Distinct (with_own x k g)
distinct_own g x k t d = record {
  variables = d.variables;
  types = d.types;
  ctors = subst KeysOnce (append_assoc g.ctors g.own ((x, k) ∷ [])) (keys_back (x, k) (g.ctors ++ g.own) (free g x t).ctors d.ctors);
}

append_nil : {A : Type 0} (xs : List A) → xs ≡ xs ++ []
append_nil [] = refl
append_nil (x ∷ xs) = ap (λ l. x ∷ l) (append_nil xs)

pub distinct_settled : (g : Globals) → Distinct g → Distinct (settled g)
distinct_settled g d = record { variables = d.variables; types = d.types; ctors = subst KeysOnce (append_nil (g.ctors ++ g.own)) d.ctors }

entry_is : (e : List ℕ × CtorNumber) (x : List ℕ) (k : CtorNumber) → Some e ≡ Some (x, k) → e.0 ≡ x
entry_is e x k h = let f : e ≡ (x, k) = cc in ap (λ q. q.0) f

pub distinct_start : Distinct start
distinct_start = record {
  variables = λ i j x e h. absurd (cc);
  types = once_front (codes "Flag") [] (λ i e. cc) (λ i j x e h. absurd (cc));
  ctors = ctors_once;
}
  where
    no_is_yes : (x : List ℕ) (k l : CtorNumber) → slice_get start.ctors 0 ≡ Some (x, k) → slice_get start.ctors 1 ≡ Some (x, l) → ⊥
    no_is_yes x k l e h =
        let a : codes "no" ≡ x = entry_is (codes "no", record { data_type = 0; ctor = 0; params = 0 }) x k e in
        let b : codes "yes" ≡ x = entry_is (codes "yes", record { data_type = 0; ctor = 1; params = 0 }) x l h in
        true_false (bytes_eq (codes "no") (codes "yes")) ((bytes_eq-Decides (codes "no") (codes "yes")).1 (a ∙ sym b)) refl

    ctors_once : KeysOnce start.ctors
    ctors_once zero zero x k l e h = refl
    ctors_once zero (suc zero) x k l e h = absurd (no_is_yes x k l e h)
    ctors_once (suc zero) zero x k l e h = absurd (no_is_yes x l k h e)
    ctors_once (suc zero) (suc zero) x k l e h = refl
    ctors_once zero (suc (suc j)) x k l e h = absurd (cc)
    ctors_once (suc (suc i)) j x k l e h = absurd (cc)
    ctors_once (suc zero) (suc (suc j)) x k l e h = absurd (cc)

-- the local variables, the innermost first, as they are printed
abbrev pub local_name : ℕ → List ℕ
local_name k = codes "_" ++ decimal k

abbrev pub locals : ℕ → List Binder
locals zero = []
locals (suc m) = Some (local_name m) ∷ locals m

local_apart : (k m : ℕ) → k < m → m < 2 ^ 64 → bytes_eq (local_name k) (local_name m) ≡ false
local_apart k m h l = apart (local_name k) (local_name m) (λ e.
    let f : decimal k ≡ decimal m = cc in
    let q : k ≡ m = decimal_injective k m (omega arith) l f in
    omega arith)

pub local_found : (m k : ℕ) (rest : List Binder) → k < m → m < 2 ^ 64 → position (is_named (local_name k)) (locals m ++ rest) ≡ Some (m - suc k)
local_found zero k rest h l = absurd (omega arith)
local_found (suc m) k rest h l = elim (cases_lt k m) [
  | inl i ↦
      let r = local_found m k rest i (omega arith) in
      let q : suc (m - suc k) ≡ suc m - suc k = omega arith in
      there (is_named (local_name k)) (Some (local_name m)) (locals m ++ rest) (m - suc k) (local_apart k m i (omega arith)) r ∙ ap Some q
  | inr i ↦
      let e : m ≡ k = omega arith in
      let q : 0 ≡ suc m - suc k = omega arith in
      here (is_named (local_name k)) (Some (local_name m)) (locals m ++ rest) (ap (λ z. bytes_eq (local_name k) (local_name z)) e ∙ equal (local_name k)) ∙ ap Some q
]

plain_apart : (x : List ℕ) (m : ℕ) → begins_plain x ≡ true → bytes_eq x (local_name m) ≡ false
plain_apart x m p = apart x (local_name m) (λ e. let f : begins_plain (local_name m) ≡ true = subst (λ z. begins_plain z ≡ true) e p in cc)

pub past_locals : (m i : ℕ) (x : List ℕ) (rest : List Binder) → begins_plain x ≡ true → position (is_named x) rest ≡ Some i → position (is_named x) (locals m ++ rest) ≡ Some (m + i)
past_locals zero i x rest p e = e ∙ ap Some (omega arith)
past_locals (suc m) i x rest p e = there (is_named x) (Some (local_name m)) (locals m ++ rest) (m + i) (plain_apart x m p) (past_locals m i x rest p e) ∙ ap Some (omega arith)

pub global_found : (x : List ℕ) (vs : List (List ℕ)) (i : ℕ) → slice_get vs i ≡ Some x → ((j : ℕ) → j < i → slice_get vs j ≡ Some x → ⊥) → position (is_named x) (map Some vs) ≡ Some i
global_found x [] i e f = absurd (cc)
global_found x (v ∷ vs) zero e f = let k : v ≡ x = cc in here (is_named x) (Some v) (map Some vs) (ap (bytes_eq x) k ∙ equal x)
global_found x (v ∷ vs) (suc i) e f =
    there (is_named x) (Some v) (map Some vs) i (apart x v (λ k. f 0 (omega arith) (ap Some (sym k)))) (global_found x vs i e (λ j l h. f (suc j) (omega (arith, l)) h))
