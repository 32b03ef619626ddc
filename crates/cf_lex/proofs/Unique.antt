-- A text has one answer at most.
use Rattle.std.proofs.Common.{◌≡◌, ◌∙◌, ap, sym, subst, arith, refl, ℕ, ◌+◌, ◌<◌, ◌≤◌, false, List, [], ◌∷◌, ◌++◌, length, Some}
use Rattle.std.proofs.lemmas.List.{append_cancel_left}
use Rattle.std.specs.Str.{encode_utf8_all}
use Rattle.cf_lex.specs.Tokens.{IsFront, IsStuck, Item, Lexes, is_token, spelled, width}
use Rattle.cf_lex.specs.declared.piece.Piece.{Piece}
use Rattle.cf_lex.specs.declared.piece.Piece.TheVariants as piece

-- no piece is empty
pub some_char : (p : Piece) (front : List ℕ) → spelled front ≡ Some p → 0 < length front
some_char p [] s = absurd (cc)
some_char p (c ∷ cs) s = omega arith

same_length : (front other rest left : List ℕ) → front ++ rest ≡ other ++ left → length front ≤ length other → length other ≤ length front → front ≡ other
same_length [] [] rest left e h k = refl
same_length [] (y ∷ ys) rest left e h k = absurd (omega arith)
same_length (x ∷ xs) [] rest left e h k = absurd (omega arith)
same_length (x ∷ xs) (y ∷ ys) rest left e h k =
    let f : xs ++ rest ≡ ys ++ left = cc in
    let g : x ≡ y = cc in
    let i : xs ≡ ys = same_length xs ys rest left f (omega arith) (omega arith) in
    cc

-- two pieces at one front are the same
abbrev Same : Piece → Piece → List ℕ → List ℕ → List ℕ → List ℕ → Type 0
Same p q front other rest left = (p ≡ q) × (front ≡ other) × (rest ≡ left)

one_front : (p q : Piece) (front rest other left : List ℕ) → IsFront p front rest → IsFront q other left → front ++ rest ≡ other ++ left → Same p q front other rest left
one_front p q front rest other left f g e =
    let i : front ≡ other = same_length front other rest left e (g.longest p front rest f.spells e) (f.longest q other left g.spells (sym e)) in
    let s : Some p ≡ Some q = sym f.spells ∙ ap spelled i ∙ g.spells in
    let t : other ++ rest ≡ other ++ left = sym (ap (λ o. o ++ rest) i) ∙ e in
    (cc, i, append_cancel_left other rest left t)

-- the tokens of a piece at byte n
abbrev piece_items : ℕ → Piece → List ℕ → List Item
piece_items n (piece.Token l) front = record { start = n; lexeme = l; text = encode_utf8_all front } ∷ []
piece_items n piece.Blank front = []
piece_items n piece.Comment front = []

no_items : (n : ℕ) (p : Piece) (front : List ℕ) → is_token p ≡ false → piece_items n p front ≡ []
no_items n (piece.Token l) front h = absurd (cc)
no_items n piece.Blank front h = refl
no_items n piece.Comment front h = refl

-- what is left of the answer behind the piece at the front
abbrev Behind : ℕ → List Item → ℕ → List ℕ → Piece → List ℕ → List ℕ → Type 0
Behind n items m end p front rest = (others : List Item) × (items ≡ piece_items n p front ++ others) × Lexes (n + width front) rest others m end

passed : (n : ℕ) (items others : List Item) (m : ℕ) (end : List ℕ) (p q : Piece) (front other rest left : List ℕ) → Same p q front other rest left → items ≡ piece_items n p front ++ others → Lexes (n + width front) rest others m end → Behind n items m end q other left
passed n items others m end p q front other rest left s e l = (
  others,
  e ∙ ap (λ r. piece_items n r front ++ others) s.0 ∙ ap (λ f. piece_items n q f ++ others) s.1,
  subst (λ r. Lexes (n + width other) r others m end) s.2 (subst (λ f. Lexes (n + width f) rest others m end) s.1 l),
)

behind : (n : ℕ) (text : List ℕ) (items : List Item) (m : ℕ) (end : List ℕ) → Lexes n text items m end → (q : Piece) (other left : List ℕ) → text ≡ other ++ left → IsFront q other left → Behind n items m end q other left
behind n text items m end (Lexes.stops a cs h) q other left e g = absurd (h q other left g.spells (sym e))
behind n text items m end (Lexes.skips a p front rest is z tail h f l) q other left e g =
    passed n items items m end p q front other rest left (one_front p q front rest other left f g e) (sym (ap (λ js. js ++ items) (no_items n p front h))) l
behind n text items m end (Lexes.takes a k front rest is z tail f l) q other left e g =
    passed n items is m end (piece.Token k) q front other rest left (one_front (piece.Token k) q front rest other left f g e) refl l

-- where no piece begins, nothing is read
stuck_end : (n : ℕ) (text : List ℕ) (items : List Item) (m : ℕ) (end : List ℕ) → Lexes n text items m end → IsStuck text → ([] ≡ items) × (n ≡ m) × (text ≡ end)
stuck_end n text items m end (Lexes.stops a cs h) s = (refl, refl, refl)
stuck_end n text items m end (Lexes.skips a p front rest is z tail h f l) s = absurd (s p front rest f.spells refl)
stuck_end n text items m end (Lexes.takes a k front rest is z tail f l) s = absurd (s (piece.Token k) front rest f.spells refl)

pub one_lexed : (n : ℕ) (text : List ℕ) (items others : List Item) (m k : ℕ) (left rest : List ℕ) → Lexes n text items m left → Lexes n text others k rest → (items ≡ others) × (m ≡ k) × (left ≡ rest)
one_lexed n text items others m k left rest (Lexes.stops a cs h) d = stuck_end n text others k rest d h
one_lexed n text items others m k left rest (Lexes.skips a p front back is z tail h f l) d =
    let b = behind n text others k rest d p front back refl f in
    let r = one_lexed (n + width front) back items b.0 m k left rest l b.2 in
    (r.0 ∙ sym (b.1 ∙ ap (λ js. js ++ b.0) (no_items n p front h)), r.1, r.2)
one_lexed n text items others m k left rest (Lexes.takes a t front back is z tail f l) d =
    let b = behind n text others k rest d (piece.Token t) front back refl f in
    let r = one_lexed (n + width front) back is b.0 m k left rest l b.2 in
    (ap (λ js. record { start = n; lexeme = t; text = encode_utf8_all front } ∷ js) r.0 ∙ sym b.1, r.1, r.2)
