-- What was appended in steps was appended, and is the shortest spelling where each step appended the shortest.
use Rattle.std.proofs.Common.{◌≡◌, ℕ, List, [], ◌∷◌, ◌++◌, refl, sym, ap, ◌∙◌, subst, append_assoc, append-nil}
use Rattle.wb_syntax.specs.Grammar.{Splits}
use Rattle.wb_encode.specs.Appended.{Appended, Written}
use Rattle.wb_encode.specs.Shortest.{IsShortest}
use Rattle.wb_encode.proofs.Shorter.{alone, renamed, both_shortest}

-- nothing
pub nothing : (old : List ℕ) (P : List ℕ → Type 0) → P [] → Appended old old P
nothing old P h = record { bytes = []; joined = sym (append-nil old); holds = h }

-- the same bytes, of which more holds
pub turned : {old new : List ℕ} {P Q : List ℕ → Type 0} → Appended old new P → ((bytes : List ℕ) → P bytes → Q bytes) → Appended old new Q
turned a f = record { bytes = a.bytes; joined = a.joined; holds = f a.bytes a.holds }

-- one after another
pub after : {old mid new : List ℕ} {P Q R : List ℕ → Type 0} → Appended old mid P → Appended mid new Q → ((front back : List ℕ) → P front → Q back → R (front ++ back)) → Appended old new R
after {old = old} a b f = record {
  bytes = a.bytes ++ b.bytes;
  joined = b.joined ∙ ap (λ xs. xs ++ b.bytes) a.joined ∙ append_assoc old a.bytes b.bytes;
  holds = f a.bytes b.bytes a.holds b.holds;
}

-- ---- the shortest spelling

-- these bytes
pub extended : {old new more : List ℕ} → new ≡ old ++ more → Written old new (λ bytes. bytes ≡ more)
extended {more = more} e = record { bytes = more; joined = e; holds = alone more refl (λ other o. o) }

-- one byte
pub pushed : {old new : List ℕ} {b : ℕ} → new ≡ old ++ b ∷ [] → Written old new (λ bytes. bytes ≡ b ∷ [])
pushed e = extended e

-- these bytes, of which it is known that they are the shortest
pub known : {old new more : List ℕ} {P : List ℕ → Type 0} → new ≡ old ++ more → IsShortest P more → Written old new P
known {more = more} e s = record { bytes = more; joined = e; holds = s }

-- by another name
pub named : {old new : List ℕ} {P Q : List ℕ → Type 0} → Written old new P → ((bytes : List ℕ) → P bytes → Q bytes) → ((bytes : List ℕ) → Q bytes → P bytes) → Written old new Q
named a to from = record { bytes = a.bytes; joined = a.joined; holds = renamed to from a.holds }

-- one after another
pub both : {old mid new : List ℕ} {P Q : List ℕ → Type 0} → Written old mid P → Written mid new Q → Written old new (λ bytes. Splits bytes P Q)
both a b = after a b both_shortest

-- what was written for one of two equal values was for the other
pub for_same : {A : Type 0} {old new : List ℕ} (Spells : A → List ℕ → Type 0) {x y : A} → x ≡ y → Written old new (Spells x) → Written old new (Spells y)
for_same {old = old} {new = new} Spells e a = subst (λ z. Written old new (Spells z)) e a

-- all that is there was appended to nothing
pub all_of : {old new : List ℕ} {P : List ℕ → Type 0} → old ≡ [] → Appended old new P → P new
all_of {old = old} {P = P} e a = subst P (sym (a.joined ∙ ap (λ xs. xs ++ a.bytes) e)) a.holds

-- these bytes begin with that one, and of the others this holds
abbrev pub Behind : ℕ → (List ℕ → Type 0) → List ℕ → Type 0
Behind b P bytes = (rest : List ℕ) × (bytes ≡ b ∷ rest) × P rest

-- a byte, and then more
pub after_byte : {old mid new : List ℕ} {b : ℕ} {P R : List ℕ → Type 0} → Written old mid (λ bytes. bytes ≡ b ∷ []) → Written mid new P → ((rest : List ℕ) → P rest → R (b ∷ rest)) → ((bytes : List ℕ) → R bytes → Behind b P bytes) → Written old new R
after_byte {b = b} {R = R} a more to from =
    named (both a more) (λ bytes s. subst R (sym (s.4 ∙ ap (λ front. front ++ s.1) s.2)) (to s.1 s.3))
    (λ bytes r. let p = from bytes r in (b ∷ [], p.0, refl, p.2, p.1))
