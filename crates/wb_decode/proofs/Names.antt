-- Reading bytes as they stand, and names.
use Rattle.std.proofs.Common.{◌≡◌, ℕ, zero, suc, ◌<◌, ◌≤◌, refl, ap, ◌∙◌, arith}
use Rattle.std.specs.Prelude.{Bool, true, false, List, [], ◌∷◌, length, take, drop, IsUtf8}
use Rattle.std.specs.Str.{is_utf8}
use Rattle.std.proofs.lemmas.Str.{is_utf8-from_IsUtf8, IsUtf8-from_is_utf8}
use Rattle.wb_syntax.specs.Grammar.{Malformed, Read, Reads, Stops, go_on, times, vec, index}
use Rattle.wb_syntax.specs.Binary.{any_byte, name}

bytes_there : (n : ℕ) (bytes : List ℕ) → n ≤ length bytes → (times n any_byte).read bytes ≡ Reads (take n bytes) (drop n bytes)
bytes_there zero bytes h = refl
bytes_there (suc n) [] h = absurd (omega (arith, h))
bytes_there (suc n) (b ∷ bytes) h = ap (λ r. go_on r (λ xs left. Reads (b ∷ xs) left)) (bytes_there n bytes (omega (arith, h)))

bytes_missing : (n : ℕ) (bytes : List ℕ) → length bytes < n → (times n any_byte).read bytes ≡ Stops [] Malformed
bytes_missing zero bytes h = absurd (omega (arith, h))
bytes_missing (suc n) [] h = refl
bytes_missing (suc n) (b ∷ bytes) h = ap (λ r. go_on r (λ xs left. Reads (b ∷ xs) left)) (bytes_missing n bytes (omega (arith, h)))

pub vector_there : (n : ℕ) (bytes rest : List ℕ) → index.read bytes ≡ Reads n rest → n ≤ length rest → (vec any_byte).read bytes ≡ Reads (take n rest) (drop n rest)
vector_there n bytes rest e h = ap (λ r. go_on r (λ n left. (times n any_byte).read left)) e ∙ bytes_there n rest h

pub vector_missing : (n : ℕ) (bytes rest : List ℕ) → index.read bytes ≡ Reads n rest → length rest < n → (left : List ℕ) × ((vec any_byte).read bytes ≡ Stops left Malformed)
vector_missing n bytes rest e h = ([], ap (λ r. go_on r (λ n left. (times n any_byte).read left)) e ∙ bytes_missing n rest h)

-- a name by the test of its bytes
abbrev tested : List ℕ → List ℕ → Bool → Read (List ℕ)
tested text rest t = elim t [ true ↦ Reads text rest | false ↦ Stops rest Malformed ]

pub name_is : (text bytes rest : List ℕ) → (vec any_byte).read bytes ≡ Reads text rest → IsUtf8 text → name.read bytes ≡ Reads text rest
name_is text bytes rest e h = ap (λ r. go_on r (λ t left. tested t left (is_utf8 t))) e ∙ ap (tested text rest) (is_utf8-from_IsUtf8 text h)

not_utf8 : (text : List ℕ) (t : Bool) → is_utf8 text ≡ t → (IsUtf8 text → ⊥) → is_utf8 text ≡ false
not_utf8 text true e h = absurd (h (IsUtf8-from_is_utf8 text e))
not_utf8 text false e h = e

pub no_name : (text bytes rest : List ℕ) → (vec any_byte).read bytes ≡ Reads text rest → (IsUtf8 text → ⊥) → (left : List ℕ) × (name.read bytes ≡ Stops left Malformed)
no_name text bytes rest e h = (rest, ap (λ r. go_on r (λ t left. tested t left (is_utf8 t))) e ∙ ap (tested text rest) (not_utf8 text (is_utf8 text) refl h))
