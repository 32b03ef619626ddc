-- The names seen, as texts and as their bytes.
use Rattle.std.proofs.Common.{◌≡◌, ap, refl, ℕ, zero, suc, ◌+◌, Bool, true, false, cond, ◌||◌, not, List, [], ◌∷◌, ◌++◌, String, Global, if◌then◌else◌}
use Rattle.std.specs.Prelude.{string_bytes}
use Rattle.std.specs.List.{list_any, position_or_len, slice_get}
use Rattle.std.specs.Option.{option_map}
use Rattle.std.specs.Str.{bytes_eq}
use Rattle.indexmap.specs.IndexSet.{insert_key}
use Rattle.cf_lex.specs.Names.{with_name}
use Rattle.cf_lex.specs.Naming.{bytes_of, number_after}

-- whether two texts have the same bytes
abbrev pub same_bytes : String Global → String Global → Bool
same_bytes s t = bytes_eq (string_bytes s) (string_bytes t)

pub number_seen : (name : String Global) (ss : List (String Global)) → position_or_len (same_bytes name) ss ≡ number_after (bytes_of ss) (string_bytes name)
number_seen name [] = refl
number_seen name (s ∷ ss) = ap (λ n. cond (not (bytes_eq (string_bytes name) (string_bytes s))) (1 + n) 0) (number_seen name ss)

any_seen : (name : String Global) (ss : List (String Global)) → list_any (same_bytes name) ss ≡ list_any (bytes_eq (string_bytes name)) (bytes_of ss)
any_seen name [] = refl
any_seen name (s ∷ ss) = ap (λ b. bytes_eq (string_bytes name) (string_bytes s) || b) (any_seen name ss)

bytes_of-push : (ss : List (String Global)) (name : String Global) → bytes_of (ss ++ name ∷ []) ≡ bytes_of ss ++ string_bytes name ∷ []
bytes_of-push [] name = refl
bytes_of-push (s ∷ ss) name = ap (λ t. string_bytes s ∷ t) (bytes_of-push ss name)

one_of : (ss : List (String Global)) (name : String Global) (a b : Bool) → a ≡ b → bytes_of (if a then ss else ss ++ name ∷ []) ≡ (if b then bytes_of ss else bytes_of ss ++ string_bytes name ∷ [])
one_of ss name true true e = refl
one_of ss name true false e = absurd (cc)
one_of ss name false true e = absurd (cc)
one_of ss name false false e = bytes_of-push ss name

pub names_seen : (ss : List (String Global)) (name : String Global) → bytes_of (insert_key same_bytes ss name) ≡ with_name (bytes_of ss) (string_bytes name)
names_seen ss name = one_of ss name (list_any (same_bytes name) ss) (list_any (bytes_eq (string_bytes name)) (bytes_of ss)) (any_seen name ss)

-- the bytes of the text at an index
pub get_bytes_of : (ss : List (String Global)) (n : ℕ) → slice_get (bytes_of ss) n ≡ option_map string_bytes (slice_get ss n)
get_bytes_of [] n = refl
get_bytes_of (s ∷ ss) zero = refl
get_bytes_of (s ∷ ss) (suc n) = get_bytes_of ss n
