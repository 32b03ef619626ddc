-- What the tables of names say of the lists that they are seen as.
use Rattle.std.proofs.Common.{◌≡◌, refl, ap, sym, ◌∙◌, ℕ, zero, suc, ◌-◌, ◌≤◌, Bool, true, false, true≢false, cond, ◌||◌, nat_lt, List, [], ◌∷◌, ◌++◌, length, reverse, take, drop, position, Option, Some, None, option_map, is_some, string_bytes, arith}
use Rattle.std.proofs.lemmas.List.{length-map, map-append, take-append-drop, take-append-le, drop-append-le}
use Rattle.std.proofs.lemmas.List.Folds.{list_any-append}
use Rattle.std.proofs.lemmas.Grind.{reverse_onto, common_steps}
use Rattle.std.proofs.lemmas.Cmp.{nat_list_eq_equiv}
use Rattle.std.proofs.lemmas.Map.Keys.{IsDistinct-head, IsDistinct-tail}
use Rattle.std.specs.List.{list_any, IsDistinct, AllByRecursion}
use Rattle.std.specs.Map.{lookup, keys_of}
use Rattle.std.specs.Str.{bytes_eq}
use Rattle.std.specs.String.{string_eq}
use Rattle.indexmap.specs.IndexMap.{insert_entry}
use Rattle.indexmap.specs.IndexSet.{insert_key}
use Rattle.cf_tree.specs.Tree.{Name}
use Rattle.cf_elab.specs.declared.numbers.CtorNumber.{CtorNumber}
use Rattle.cf_elab.specs.Scope.{Globals, is_taken}
use Rattle.cf_elab.specs.Names.{Text, names_of, named_numbers}
use Rattle.cf_elab.proofs.Places.{place, position_place, place_reverse, Once}

-- the test for a text with these bytes
abbrev pub is_spelled : Name → Text → Bool
is_spelled x k = bytes_eq x (string_bytes k)

place_names : (x : Name) (ks : List Text) → place (bytes_eq x) (names_of ks) ≡ place (is_spelled x) ks
place_names x [] = refl
place_names x (k ∷ ks) = ap (λ o. cond (is_spelled x k) (Some 0) (option_map suc o)) (place_names x ks)

pub position_names : (x : Name) (ks : List Text) → position (is_spelled x) ks ≡ position (bytes_eq x) (names_of ks)
position_names x ks = position_place (is_spelled x) ks ∙ sym (place_names x ks) ∙ sym (position_place (bytes_eq x) (names_of ks))

none_passes : (x : Name) (k : Text) (ks : List Text) → is_spelled x k ≡ true → AllByRecursion (λ y. string_eq k y ≡ false) ks → place (bytes_eq x) (names_of ks) ≡ None
none_passes x k [] e h = refl
none_passes x k (y ∷ ys) e h = ap (λ b. cond b (Some 0) (option_map suc (place (bytes_eq x) (names_of ys)))) (nat_list_eq_equiv.congr x (string_bytes k) (string_bytes y) e ∙ h.0) ∙ ap (option_map suc) (none_passes x k ys e h.1)

distinct_once : (x : Name) (ks : List Text) → IsDistinct string_eq ks → Once (bytes_eq x) (names_of ks)
distinct_once x [] h = tt
distinct_once x (k ∷ ks) h = (λ e. none_passes x k ks e (IsDistinct-head string_eq k ks h), distinct_once x ks (IsDistinct-tail string_eq k ks h))

-- a place from the end
pub position_reverse : (x : Name) (ks : List Text) → IsDistinct string_eq ks
    → position (bytes_eq x) (reverse (names_of ks)) ≡ option_map (λ i. length ks - 1 - i) (position (is_spelled x) ks)
position_reverse x ks h =
    position_place (bytes_eq x) (reverse (names_of ks)) ∙ place_reverse (bytes_eq x) (names_of ks) (distinct_once x ks h) ∙ ap (λ n. option_map (λ i. n - 1 - i) (place (bytes_eq x) (names_of ks))) (length-map ks string_bytes)
    ∙ ap (option_map (λ i. length ks - 1 - i)) (sym (position_place (bytes_eq x) (names_of ks)) ∙ sym (position_names x ks))

pub position_from_end : (x : Name) (ks : List Text) (n : ℕ) (o : Option ℕ)
    → IsDistinct string_eq ks → n ≡ length ks → o ≡ position (is_spelled x) ks → option_map (λ i. n - 1 - i) o ≡ position (bytes_eq x) (reverse (names_of ks))
position_from_end x ks n o h e e' =
    ap (option_map (λ i. n - 1 - i)) e' ∙ ap (λ m. option_map (λ i. m - 1 - i) (position (is_spelled x) ks)) e ∙ sym (position_reverse x ks h)

-- a look-up among the first n entries
abbrev pub within : {A : Type 0} → Option ℕ → ℕ → Option A → Option A
within (Some i) n o = cond (nat_lt i n) o None
within None n o = None

within_zero : {A : Type 0} (o : Option ℕ) (q : Option A) → None ≡ within o 0 q
within_zero (Some i) q = grind (arith, common_steps)
within_zero None q = refl

within_suc : {A : Type 0} (b : Bool) (v : A) (o : Option ℕ) (n : ℕ) (q : Option A) → cond b (Some v) (within o n q) ≡ within (cond b (Some 0) (option_map suc o)) (suc n) (cond b (Some v) q)
within_suc true v o n q = grind (arith, common_steps)
within_suc false v (Some i) n q = grind (arith, common_steps)
within_suc false v None n q = refl

lookup_place : (x : Name) (es : List (Text × CtorNumber)) (n : ℕ)
    → lookup (bytes_eq x) (take n (named_numbers es)) ≡ within (place (is_spelled x) (keys_of es)) n (lookup (is_spelled x) es)
lookup_place x [] zero = refl
lookup_place x [] (suc n) = refl
lookup_place x (e ∷ es) zero = within_zero (place (is_spelled x) (keys_of (e ∷ es))) (lookup (is_spelled x) (e ∷ es))
lookup_place x (e ∷ es) (suc n) =
    ap (cond (is_spelled x e.0) (Some e.1)) (lookup_place x es n) ∙ within_suc (is_spelled x e.0) e.1 (place (is_spelled x) (keys_of es)) n (lookup (is_spelled x) es)

pub lookup_within : (x : Name) (es : List (Text × CtorNumber)) (n : ℕ)
    → within (position (is_spelled x) (keys_of es)) n (lookup (is_spelled x) es) ≡ lookup (bytes_eq x) (take n (named_numbers es))
lookup_within x es n = ap (λ o. within o n (lookup (is_spelled x) es)) (position_place (is_spelled x) (keys_of es)) ∙ sym (lookup_place x es n)

-- whether a name is in a table
pub any_names : (x : Name) (ks : List Text) → list_any (is_spelled x) ks ≡ list_any (bytes_eq x) (names_of ks)
any_names x [] = refl
any_names x (k ∷ ks) = ap (λ b. is_spelled x k || b) (any_names x ks)

or_swap : (a b : Bool) → (a || (b || false)) ≡ (b || a)
or_swap true true = refl
or_swap true false = refl
or_swap false true = refl
or_swap false false = refl

pub any_reverse : {A : Type 0} (p : A → Bool) (xs : List A) → list_any p (reverse xs) ≡ list_any p xs
any_reverse p [] = refl
any_reverse p (x ∷ xs) = ap (list_any p) (reverse_onto xs x []) ∙ list_any-append p (reverse xs) (x ∷ []) ∙ ap (λ b. b || (p x || false)) (any_reverse p xs) ∙ or_swap (list_any p xs) (p x)

pub any_split : (x : Name) (es : List (Name × CtorNumber)) (n : ℕ)
    → list_any (λ c. bytes_eq x c.0) es ≡ (list_any (λ c. bytes_eq x c.0) (take n es) || list_any (λ c. bytes_eq x c.0) (drop n es))
any_split x es n = ap (list_any (λ c. bytes_eq x c.0)) (sym (take-append-drop n es)) ∙ list_any-append (λ c. bytes_eq x c.0) (take n es) (drop n es)

any_step : (b : Bool) (v : CtorNumber) (o : Option CtorNumber) (c : Bool) → is_some o ≡ c → is_some (cond b (Some v) o) ≡ (b || c)
any_step true v o c e = refl
any_step false v o c e = e

any_found : (x : Name) (es : List (Text × CtorNumber)) → is_some (lookup (is_spelled x) es) ≡ list_any (λ c. bytes_eq x c.0) (named_numbers es)
any_found x [] = refl
any_found x (e ∷ es) = any_step (is_spelled x e.0) e.1 (lookup (is_spelled x) es) (list_any (λ c. bytes_eq x c.0) (named_numbers es)) (any_found x es)

pub any_entries : (x : Name) (es : List (Text × CtorNumber)) (n : ℕ)
    → is_some (lookup (is_spelled x) es) ≡ (list_any (λ c. bytes_eq x c.0) (take n (named_numbers es)) || list_any (λ c. bytes_eq x c.0) (drop n (named_numbers es)))
any_entries x es n = any_found x es ∙ any_split x (named_numbers es) n

-- the tests of all tables together
pub taken : (x : Name) (ks ts : List Text) (es : List (Text × CtorNumber)) (n : ℕ) (a b c : Bool)
    → a ≡ list_any (is_spelled x) ks → b ≡ list_any (is_spelled x) ts → c ≡ is_some (lookup (is_spelled x) es)
    → ((a || b) || c) ≡ (((list_any (bytes_eq x) (reverse (names_of ks)) || list_any (bytes_eq x) (names_of ts)) || list_any (λ c. bytes_eq x c.0) (take n (named_numbers es))) || list_any (λ c. bytes_eq x c.0) (drop n (named_numbers es)))
taken x ks ts es n a b c e f g =
    (λ i. ((((e ∙ any_names x ks ∙ sym (any_reverse (bytes_eq x) (names_of ks))) i) || ((f ∙ any_names x ts) i)) || ((g ∙ any_entries x es n) i)))
    ∙ regroup (list_any (bytes_eq x) (reverse (names_of ks)) || list_any (bytes_eq x) (names_of ts)) (list_any (λ c. bytes_eq x c.0) (take n (named_numbers es))) (list_any (λ c. bytes_eq x c.0) (drop n (named_numbers es)))
  where
    regroup : (a b c : Bool) → (a || (b || c)) ≡ ((a || b) || c)
    regroup true b c = refl
    regroup false b c = refl

-- a name that is new goes last
pub insert_new : (ks : List Text) (k : Text) → list_any (bytes_eq (string_bytes k)) (names_of ks) ≡ false → names_of (insert_key string_eq ks k) ≡ names_of ks ++ string_bytes k ∷ []
insert_new ks k e =
    ap (λ b. names_of (cond b ks (ks ++ k ∷ []))) (any_names (string_bytes k) ks ∙ e) ∙ map-append string_bytes ks (k ∷ [])

absent_step : {A : Type 0} (b c : Bool) (xs ys zs : List A) → (b || c) ≡ false → (c ≡ false → ys ≡ zs) → cond b xs ys ≡ zs
absent_step true c xs ys zs e h = absurd (true≢false e)
absent_step false c xs ys zs e h = h e

insert_last : (es : List (Text × CtorNumber)) (k : Text) (v : CtorNumber)
    → list_any (λ c. bytes_eq (string_bytes k) c.0) (named_numbers es) ≡ false → insert_entry string_eq es k v ≡ es ++ (k, v) ∷ []
insert_last [] k v h = refl
insert_last (e ∷ es) k v h =
    absent_step (bytes_eq (string_bytes k) (string_bytes e.0)) (list_any (λ c. bytes_eq (string_bytes k) c.0) (named_numbers es)) ((e.0, v) ∷ es) (e ∷ insert_entry string_eq es k v) (e ∷ (es ++ (k, v) ∷ [])) h
    (λ h'. ap (λ xs. e ∷ xs) (insert_last es k v h'))

pub insert_named : (es : List (Text × CtorNumber)) (k : Text) (v : CtorNumber)
    → list_any (λ c. bytes_eq (string_bytes k) c.0) (named_numbers es) ≡ false → named_numbers (insert_entry string_eq es k v) ≡ named_numbers es ++ (string_bytes k, v) ∷ []
insert_named es k v h = ap named_numbers (insert_last es k v h) ∙ map-append (λ e. (string_bytes e.0, e.1)) es ((k, v) ∷ [])

length_named : (es : List (Text × CtorNumber)) → length (named_numbers es) ≡ length es
length_named [] = refl
length_named (e ∷ es) = ap suc (length_named es)

pub front_stays : (es : List (Text × CtorNumber)) (e : Name × CtorNumber) (n : ℕ) → n ≤ length es → take n (named_numbers es ++ e ∷ []) ≡ take n (named_numbers es)
front_stays es e n h = take-append-le n (named_numbers es) (e ∷ []) (omega (arith, h, length_named es))

pub back_grows : (es : List (Text × CtorNumber)) (e : Name × CtorNumber) (n : ℕ) → n ≤ length es → drop n (named_numbers es ++ e ∷ []) ≡ drop n (named_numbers es) ++ e ∷ []
back_grows es e n h = drop-append-le n (named_numbers es) (e ∷ []) (omega (arith, h, length_named es))

-- none of these tests passes
none_of : (a b c d : Bool) → (((a || b) || c) || d) ≡ false → (a ≡ false) × (b ≡ false) × ((c || d) ≡ false)
none_of true b c d h = absurd (true≢false h)
none_of false true c d h = absurd (true≢false h)
none_of false false c d h = (refl, refl, h)

-- a name that is free is in no table
pub free : (x : Name) (g : Globals) → is_taken g x ≡ false
    → (list_any (bytes_eq x) g.variables ≡ false) × (list_any (bytes_eq x) g.types ≡ false) × ((list_any (λ c. bytes_eq x c.0) g.ctors || list_any (λ c. bytes_eq x c.0) g.own) ≡ false)
free x g h =
    none_of (list_any (bytes_eq x) g.variables) (list_any (bytes_eq x) g.types) (list_any (λ c. bytes_eq x c.0) g.ctors) (list_any (λ c. bytes_eq x c.0) g.own) h
