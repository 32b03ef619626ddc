-- The tokens of a text, piece by piece.
use Rattle.std.proofs.Common.{◌≡◌, ◌∙◌, ap, sym, subst, arith, refl, ℕ, ◌+◌, ◌<◌, ◌≤◌, false, List, [], ◌∷◌, ◌++◌, length, take, drop, map, append_assoc}
use Rattle.std.proofs.lemmas.List.{append-nil, map-append, take-append-drop}
use Rattle.std.specs.Str.{encode_utf8_all}
use Rattle.cf_lex.specs.Fronts.{Stands}
use Rattle.cf_lex.specs.Names.{first_seen, kind_of, name_of, names_in, token_of, tokens_of}
use Rattle.cf_lex.specs.Naming.{kind_after, names_after, piece_names, piece_tokens}
use Rattle.cf_lex.specs.Tokens.{IsStuck, Item, Lexes, is_token, width}
use Rattle.cf_lex.specs.declared.piece.Lexeme.{Lexeme}
use Rattle.cf_lex.specs.declared.piece.Lexeme.TheVariants as lexeme
use Rattle.cf_lex.specs.declared.piece.Piece.{Piece}
use Rattle.cf_lex.specs.declared.piece.Piece.TheVariants as piece
use Rattle.cf_lex.specs.declared.token.Token.{Token}
use Rattle.cf_lex.specs.declared.token.TokenKind.TheVariants as kind
use Rattle.cf_lex.proofs.Numbers.{numbered, seen_push}
use Rattle.cf_lex.proofs.Standing.{nothing}
use Rattle.cf_lex.proofs.Widths.{width-split}

-- a text was read up to byte `at`, where `rest` stands: these are its tokens and names so far
pub record Progress (text rest : List ℕ) (at : ℕ) (tokens : List Token) (names : List (List ℕ)) : Type 0 where
  pub items : List Item
  pub onward : (more : List Item) (m : ℕ) (left : List ℕ) → Lexes at rest more m left → Lexes 0 text (items ++ more) m left
  pub tokens_are : (more : List (List ℕ)) → tokens ≡ map (token_of (names_in items ++ more)) items
  pub names_are : names ≡ first_seen [] (names_in items)
  pub place : at + width rest ≡ width text

pub start : (text : List ℕ) → Progress text text 0 [] []
start text = record { items = []; onward = λ more m left l. l; tokens_are = λ more. refl; names_are = refl; place = omega arith }

-- the token read behind these items
abbrev item_at : ℕ → Lexeme → List ℕ → Item
item_at at l text = record { start = at; lexeme = l; text = text }

names_in-push : (items : List Item) (t : Item) → names_in (items ++ t ∷ []) ≡ names_in items ++ name_of t.lexeme t.text
names_in-push [] t = append-nil (name_of t.lexeme t.text)
names_in-push (s ∷ ss) t = ap (λ ns. name_of s.lexeme s.text ++ ns) (names_in-push ss t) ∙ sym (append_assoc (name_of s.lexeme s.text) (names_in ss) (name_of t.lexeme t.text))

kind_seen : (names : List (List ℕ)) (l : Lexeme) (text : List ℕ) (more : List (List ℕ)) → kind_of (names ++ (name_of l text ++ more)) l text ≡ kind_after (first_seen [] names) l text
kind_seen names lexeme.Name text more = ap kind.Name (numbered names text more)
kind_seen names (lexeme.Word k) text more = refl
kind_seen names lexeme.Whole text more = refl
kind_seen names lexeme.NatLit text more = refl
kind_seen names lexeme.Hole text more = refl
kind_seen names (lexeme.Mark m) text more = refl

names_push : (names : List (List ℕ)) (l : Lexeme) (text : List ℕ) → names_after (first_seen [] names) l text ≡ first_seen [] (names ++ name_of l text)
names_push names lexeme.Name text = sym (seen_push [] names text)
names_push names (lexeme.Word k) text = sym (ap (first_seen []) (append-nil names))
names_push names lexeme.Whole text = sym (ap (first_seen []) (append-nil names))
names_push names lexeme.NatLit text = sym (ap (first_seen []) (append-nil names))
names_push names lexeme.Hole text = sym (ap (first_seen []) (append-nil names))
names_push names (lexeme.Mark m) text = sym (ap (first_seen []) (append-nil names))

-- a token whose number is told by the names seen
abbrev seen_token : List (List ℕ) → ℕ → Lexeme → List ℕ → Token
seen_token names at l text = record { start = at; end = at + length text; kind = kind_after names l text }

token_seen : (names : List (List ℕ)) (at : ℕ) (l : Lexeme) (text : List ℕ) (more : List (List ℕ)) → seen_token (first_seen [] names) at l text ≡ token_of (names ++ (name_of l text ++ more)) (item_at at l text)
token_seen names at l text more = ap (λ k. record { start = at; end = at + length text; kind = k }) (sym (kind_seen names l text more))

tokens_push : (items : List Item) (t : Item) (tokens : List Token) (more : List (List ℕ)) → tokens ≡ map (token_of (names_in items ++ (name_of t.lexeme t.text ++ more))) items → tokens ++ seen_token (first_seen [] (names_in items)) t.start t.lexeme t.text ∷ [] ≡ map (token_of (names_in (items ++ t ∷ []) ++ more)) (items ++ t ∷ [])
tokens_push items t tokens more h =
    let all : List (List ℕ) = names_in items ++ (name_of t.lexeme t.text ++ more) in
    let e : names_in (items ++ t ∷ []) ++ more ≡ all = ap (λ ns. ns ++ more) (names_in-push items t) ∙ append_assoc (names_in items) (name_of t.lexeme t.text) more in
    ap (λ ts. ts ++ seen_token (first_seen [] (names_in items)) t.start t.lexeme t.text ∷ []) h
    ∙ ap (λ u. map (token_of all) items ++ u ∷ []) (token_seen (names_in items) t.start t.lexeme t.text more)
    ∙ sym (map-append (token_of all) items (t ∷ []))
    ∙ ap (λ ns. map (token_of ns) (items ++ t ∷ [])) (sym e)

placed : (text rest : List ℕ) (at n : ℕ) → at + width rest ≡ width text → (at + width (take n rest)) + width (drop n rest) ≡ width text
placed text rest at n h = omega (arith, h, width-split n rest)

skipped : (text rest : List ℕ) (at : ℕ) (tokens : List Token) (names : List (List ℕ)) (p : Piece) (n : ℕ) → is_token p ≡ false → Stands rest p n → Progress text rest at tokens names → Progress text (drop n rest) (at + width (take n rest)) tokens names
skipped text rest at tokens names p n h s g = record {
  items = g.items;
  onward = λ more m left l.
      g.onward more m left (subst (λ r. Lexes at r more m left) (take-append-drop n rest) (Lexes.skips at p (take n rest) (drop n rest) more m left h s.2 l));
  tokens_are = g.tokens_are;
  names_are = g.names_are;
  place = placed text rest at n g.place;
}

taken : (text rest : List ℕ) (at : ℕ) (tokens : List Token) (names : List (List ℕ)) (l : Lexeme) (n : ℕ) → Stands rest (piece.Token l) n → Progress text rest at tokens names → Progress text (drop n rest) (at + width (take n rest)) (tokens ++ seen_token names at l (encode_utf8_all (take n rest)) ∷ []) (names_after names l (encode_utf8_all (take n rest)))
taken text rest at tokens names l n s g =
    let bytes : List ℕ = encode_utf8_all (take n rest) in
    let t : Item = item_at at l bytes in
    record {
      items = g.items ++ t ∷ [];
      onward = λ more m left k.
          subst (λ is. Lexes 0 text is m left) (sym (append_assoc g.items (t ∷ []) more))
          (g.onward (t ∷ more) m left (subst (λ r. Lexes at r (t ∷ more) m left) (take-append-drop n rest) (Lexes.takes at l (take n rest) (drop n rest) more m left s.2 k)));
      tokens_are = λ more.
          ap (λ ns. tokens ++ seen_token ns at l bytes ∷ []) g.names_are
          ∙ tokens_push g.items t tokens more (g.tokens_are (name_of l bytes ++ more));
      names_are = ap (λ ns. names_after ns l bytes) g.names_are ∙ names_push (names_in g.items) l bytes ∙ ap (first_seen []) (sym (names_in-push g.items t));
      place = placed text rest at n g.place;
    }

pub step : (text rest : List ℕ) (at : ℕ) (tokens : List Token) (names : List (List ℕ)) (p : Piece) (n : ℕ) → Stands rest p n → Progress text rest at tokens names → Progress text (drop n rest) (at + width (take n rest)) (piece_tokens tokens names p at (encode_utf8_all (take n rest))) (piece_names names p (encode_utf8_all (take n rest)))
step text rest at tokens names (piece.Token l) n s g = taken text rest at tokens names l n s g
step text rest at tokens names piece.Blank n s g = skipped text rest at tokens names piece.Blank n refl s g
step text rest at tokens names piece.Comment n s g = skipped text rest at tokens names piece.Comment n refl s g

-- at the end of the text
pub ends : (text rest : List ℕ) (at : ℕ) (tokens : List Token) (names : List (List ℕ)) → length rest ≤ 0 → Progress text rest at tokens names → (items : List Item) × (m : ℕ) × Lexes 0 text items m [] × (tokens ≡ tokens_of items) × (names ≡ first_seen [] (names_in items))
ends text [] at tokens names h g = (
  g.items,
  at,
  subst (λ is. Lexes 0 text is at []) (append-nil g.items) (g.onward [] at [] (Lexes.stops at [] (nothing [] (omega arith)))),
  g.tokens_are [] ∙ ap (λ ns. map (token_of ns) g.items) (append-nil (names_in g.items)),
  g.names_are,
)
ends text (c ∷ cs) at tokens names h g = absurd (omega arith)

-- where nothing begins
pub refused : (text rest : List ℕ) (at : ℕ) (tokens : List Token) (names : List (List ℕ)) → 0 < length rest → IsStuck rest → Progress text rest at tokens names → (items : List Item) × (c : ℕ) × (left : List ℕ) × Lexes 0 text items at (c ∷ left)
refused text [] at tokens names h s g = absurd (omega arith)
refused text (c ∷ cs) at tokens names h s g = (g.items ++ [], c, cs, g.onward [] at (c ∷ cs) (Lexes.stops at (c ∷ cs) s))
