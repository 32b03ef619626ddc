-- Where the tokens of a text stand.
use Rattle.std.proofs.Common.{◌≡◌, arith, refl, ℕ, ◌+◌, ◌<◌, ◌≤◌, List, [], ◌∷◌, length, map}
use Rattle.std.proofs.lemmas.Str.{length-le-encodes}
use Rattle.cf_lex.specs.Laws.{AreInOrder}
use Rattle.cf_lex.specs.Names.{token_of}
use Rattle.cf_lex.specs.Tokens.{IsFront, Item, Lexes, width}
use Rattle.cf_lex.specs.declared.piece.Piece.{Piece}
use Rattle.cf_lex.specs.declared.piece.Piece.TheVariants as piece
use Rattle.cf_lex.specs.declared.token.Token.{Token}
use Rattle.cf_lex.proofs.Unique.{some_char}
use Rattle.cf_lex.proofs.Widths.{width-append}

some_bytes : (p : Piece) (front rest : List ℕ) → IsFront p front rest → 0 < width front
some_bytes p front rest f = omega (arith, some_char p front f.spells, length-le-encodes front)

-- what was read ends where the rest begins
pub read_to : (n : ℕ) (text : List ℕ) (items : List Item) (m : ℕ) (left : List ℕ) → Lexes n text items m left → n + width text ≡ m + width left
read_to n text items m left (Lexes.stops a cs h) = refl
read_to n text items m left (Lexes.skips a p front rest is z tail h f l) = omega (arith, width-append front rest, read_to (n + width front) rest items m left l)
read_to n text items m left (Lexes.takes a k front rest is z tail f l) = omega (arith, width-append front rest, read_to (n + width front) rest is m left l)

-- there are no more tokens than bytes
pub few : (n : ℕ) (text : List ℕ) (items : List Item) (m : ℕ) (left : List ℕ) → Lexes n text items m left → n + length items ≤ m
few n text items m left (Lexes.stops a cs h) = omega arith
few n text items m left (Lexes.skips a p front rest is z tail h f l) = let r = few (n + width front) rest items m left l in omega (arith, r)
few n text items m left (Lexes.takes a k front rest is z tail f l) =
    let r = few (n + width front) rest is m left l in
    omega (arith, r, some_bytes (piece.Token k) front rest f)

later : (n k : ℕ) (ts : List Token) → n ≤ k → AreInOrder k ts → AreInOrder n ts
later n k [] h o = tt
later n k (t ∷ ts) h o = (omega (arith, o.0), o.1, o.2)

pub in_order : (names : List (List ℕ)) (n : ℕ) (text : List ℕ) (items : List Item) (m : ℕ) (left : List ℕ) → Lexes n text items m left → AreInOrder n (map (token_of names) items)
in_order names n text items m left (Lexes.stops a cs h) = tt
in_order names n text items m left (Lexes.skips a p front rest is z tail h f l) = later n (n + width front) (map (token_of names) items) (omega arith) (in_order names (n + width front) rest items m left l)
in_order names n text items m left (Lexes.takes a k front rest is z tail f l) = (
  omega arith,
  let s = some_bytes (piece.Token k) front rest f in omega (arith, s),
  in_order names (n + width front) rest is m left l,
)
