-- The shortest spelling of a whole is made of the shortest spellings of its parts.
use Rattle.std.proofs.Common.{◌≡◌, ℕ, ◌<◌, ◌≤◌, List, ◌++◌, length, refl, sym, ap, ◌∙◌, subst, arith, ◌⊎◌, inl, inr}
use Rattle.std.proofs.lemmas.List.{length-append}
use Rattle.wb_syntax.specs.Grammar.{Splits}
use Rattle.wb_encode.specs.Shortest.{IsShortest}

-- the other bytes are these, or are longer
abbrev pub IsOrIsLonger : (bytes other : List ℕ) → Type 0
IsOrIsLonger bytes other = (other ≡ bytes) ⊎ (length bytes < length other)

pub no_longer : (bytes other : List ℕ) → IsOrIsLonger bytes other → length bytes ≤ length other
no_longer bytes other (inl e) = omega (arith, ap length e)
no_longer bytes other (inr l) = omega (arith, l)

pub longer_front : (a b c d : List ℕ) → length a < length c → length b ≤ length d → length (a ++ b) < length (c ++ d)
longer_front a b c d l k = omega (arith, length-append a b, length-append c d, l, k)

pub longer_back : (a b c d : List ℕ) → length a ≤ length c → length b < length d → length (a ++ b) < length (c ++ d)
longer_back a b c d l k = omega (arith, length-append a b, length-append c d, l, k)

pub joined_longer : (a b c d : List ℕ) → IsOrIsLonger a c → IsOrIsLonger b d → IsOrIsLonger (a ++ b) (c ++ d)
joined_longer a b c d (inl e) (inl f) = inl (λ i. e i ++ f i)
joined_longer a b c d (inl e) (inr l) = inr (longer_back a b c d (no_longer a c (inl e)) l)
joined_longer a b c d (inr l) h = inr (longer_front a b c d l (no_longer b d h))

-- another list after this one, and this one after a third
pub longer_after : (a b c : List ℕ) → IsOrIsLonger a b → IsOrIsLonger b c → IsOrIsLonger a c
longer_after a b c (inl e) (inl f) = inl (f ∙ e)
longer_after a b c (inl e) (inr l) = inr (omega (arith, l, ap length e))
longer_after a b c (inr l) h = inr (omega (arith, l, no_longer b c h))

-- all that it spells is one list
pub alone : {P : List ℕ → Type 0} (bytes : List ℕ) → P bytes → ((other : List ℕ) → P other → other ≡ bytes) → IsShortest P bytes
alone bytes h one = record { spells = h; others = λ other o. inl (one other o) }

-- by another name
pub renamed : {P Q : List ℕ → Type 0} {bytes : List ℕ} → ((bs : List ℕ) → P bs → Q bs) → ((bs : List ℕ) → Q bs → P bs) → IsShortest P bytes → IsShortest Q bytes
renamed {bytes = bytes} to from s = record { spells = to bytes s.spells; others = λ other o. s.others other (from other o) }

-- one part after another
pub both_shortest : {P Q : List ℕ → Type 0} (a b : List ℕ) → IsShortest P a → IsShortest Q b → IsShortest (λ bytes. Splits bytes P Q) (a ++ b)
both_shortest a b s t = record {
  spells = (a, b, s.spells, t.spells, refl);
  others = λ other o. subst (λ (bs : List ℕ). IsOrIsLonger (a ++ b) bs) (sym o.4) (joined_longer a b o.0 o.1 (s.others o.0 o.2) (t.others o.1 o.3));
}

same_of : (a b : List ℕ) → IsOrIsLonger b a → length a ≤ length b → a ≡ b
same_of a b (inl e) l = e
same_of a b (inr k) l = absurd (omega (arith, k, l))

-- the shortest spelling is one
pub shortest_is_one : {P : List ℕ → Type 0} (a b : List ℕ) → IsShortest P a → IsShortest P b → a ≡ b
shortest_is_one a b s t = same_of a b (t.others a s.spells) (no_longer a b (s.others b t.spells))
