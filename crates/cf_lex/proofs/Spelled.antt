-- What the text of a token spells.
use Rattle.std.proofs.Common.{◌≡◌, ◌∙◌, ap, sym, subst, refl, ℕ, ◌+◌, List, [], length, Some}
use Rattle.std.specs.List.{Contains, slice_range}
use Rattle.std.specs.Str.{encode_utf8_all}
use Rattle.cf_lex.specs.Lexed.{IsKind, IsLexed, Spells, TokenList}
use Rattle.cf_lex.specs.Names.{kind_of, names_in, number, token_of}
use Rattle.cf_lex.specs.Tokens.{Item, Lexes, spelled, width}
use Rattle.cf_lex.specs.declared.piece.Lexeme.{Lexeme}
use Rattle.cf_lex.specs.declared.piece.Lexeme.TheVariants as lexeme
use Rattle.cf_lex.specs.declared.piece.Piece.TheVariants as piece
use Rattle.cf_lex.specs.declared.token.Token.{Token}
use Rattle.cf_lex.proofs.Used.{Each, IsPlaced, both, from_contains, text_placed}

-- some characters spell the item
abbrev IsRead : Item → Type 0
IsRead i = (cs : List ℕ) × (encode_utf8_all cs ≡ i.text) × (spelled cs ≡ Some (piece.Token i.lexeme))

read : (n : ℕ) (text : List ℕ) (items : List Item) (m : ℕ) (left : List ℕ) → Lexes n text items m left → Each IsRead items
read n text items m left (Lexes.stops a cs h) = tt
read n text items m left (Lexes.skips a p front rest is z tail h f l) = read (a + width front) rest items m left l
read n text items m left (Lexes.takes a k front rest is z tail f l) = ((front, refl, f.spells), read (a + width front) rest is m left l)

is_kind : (names : List (List ℕ)) (l : Lexeme) (text : List ℕ) → IsKind l (kind_of names l text)
is_kind names lexeme.Name text = (number names text, refl)
is_kind names (lexeme.Word w) text = refl
is_kind names lexeme.Whole text = refl
is_kind names lexeme.NatLit text = refl
is_kind names lexeme.Hole text = refl
is_kind names (lexeme.Mark m) text = refl

-- the text of a token spells it
pub spells : (l : TokenList) → IsLexed l → (t : Token) → Contains l.tokens t → Spells t.kind (slice_range l.text t.start t.end)
spells l k t h =
    let names : List (List ℕ) = names_in k.1 in
    let each : Each (λ i. IsPlaced l.text i × IsRead i) k.1 = both (IsPlaced l.text) IsRead k.1 (text_placed l k) (read 0 k.0 k.1 (length l.text) [] k.3) in
    let i = from_contains (token_of names) (λ j. IsPlaced l.text j × IsRead j) k.1 t each (subst (λ ts. Contains ts t) k.4 h) in
    let a : i.0.start ≡ t.start = ap (λ u. u.start) i.2 in
    let b : i.0.start + length i.0.text ≡ t.end = ap (λ u. u.end) i.2 in
    let r : slice_range l.text t.start t.end ≡ i.0.text = sym (λ j. slice_range l.text (a j) (b j)) ∙ i.1.0.reads in
    (i.1.1.0, i.0.lexeme, i.1.1.1 ∙ sym r, i.1.1.2, subst (IsKind i.0.lexeme) (ap (λ u. u.kind) i.2) (is_kind names i.0.lexeme i.0.text))
