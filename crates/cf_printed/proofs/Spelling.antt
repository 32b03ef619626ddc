-- The tokens of a printed program, as the grammar meets them.
use Rattle.std.proofs.Common.{◌≡◌, refl, sym, ap, ◌∙◌, subst, arith, append_assoc, length-append, ℕ, ◌+◌, ◌-◌, List, [], ◌∷◌, ◌++◌, length, map, take}
use Rattle.std.specs.Prelude.{slice_range}
use Rattle.std.proofs.lemmas.List.{drop_at, take_at}
use Rattle.cf_lex.specs.Lexed.{TokenList}
use Rattle.cf_lex.specs.Names as lexed
use Rattle.cf_lex.specs.Tokens.{Item}
use Rattle.cf_rules.specs.Programs.{Declaration}
use Rattle.cf_syntax.specs.Tokens.{Token, class_of, end_of, token_of, tokens_of}
use Rattle.cf_core_text.specs.Names.{Names, names_of}
use Rattle.cf_core_text.specs.Text.{behind, gap, joined, spelling}
use Rattle.cf_core_text.specs.Lines.{head_line, line_text, lines}
use Rattle.cf_core_text.specs.declared.pieces.Piece.{Piece}
use Rattle.cf_core_text.specs.declared.pieces.Piece.TheVariants as piece
use Rattle.cf_printed.specs.Printed.{item, items_behind, items_of, lexeme_of, line_items, printed_items, printed_tokens}
use Rattle.cf_printed.proofs.Deriving.{Spell, token_at}
use Rattle.cf_printed.proofs.Deriving as grammar

-- a part of a text
pub slice_mid : (pre x post : List ℕ) (n : ℕ) → length pre ≡ n → slice_range (pre ++ (x ++ post)) n (n + length x) ≡ x
slice_mid pre x post n e =
    let k : (n + length x) - n ≡ length x = omega arith in
    (λ i. take (k i) (drop_at pre (x ++ post) n e i)) ∙ take_at x post (length x) refl

-- what the grammar sees of a printed token
class_is : (N : Names) (names : List (List ℕ)) (p : Piece) → class_of (lexed.kind_of names (lexeme_of p) (spelling N p)) (spelling N p) ≡ grammar.class_of N p
class_is N names (piece.Word w) = refl
class_is N names (piece.Mark m) = refl
class_is N names piece.Fields = refl
class_is N names (piece.Global n) = refl
class_is N names (piece.Local k) = refl
class_is N names (piece.DataType n) = refl
class_is N names (piece.Ctor n c) = refl
class_is N names (piece.Whole z) = refl
class_is N names (piece.NatLit n) = refl
class_is N names (piece.Hole k) = refl

-- all printed tokens of lines
abbrev pub flat : List (List Piece) → List Piece
flat [] = []
flat (l ∷ ls) = l ++ flat ls

module _ (N : Names) (l : TokenList) (names : List (List ℕ)) where
  -- the token of an item
  abbrev read : Item → Token
  read i = token_of l (lexed.token_of names i)

  abbrev read_all : List Item → List Token → List Token
  read_all [] ks = ks
  read_all (i ∷ is) ks = read i ∷ read_all is ks

  all_append : (is js : List Item) (ks : List Token) → read_all (is ++ js) ks ≡ read_all is (read_all js ks)
  all_append [] js ks = refl
  all_append (i ∷ is) js ks = ap (λ z. read i ∷ z) (all_append is js ks)

  pub all_map : (is : List Item) (ks : List Token) → map (token_of l) (map (lexed.token_of names) is) ++ ks ≡ read_all is ks
  all_map [] ks = refl
  all_map (i ∷ is) ks = ap (λ z. read i ∷ z) (all_map is ks)

  read_is : (n : ℕ) (p : Piece) (pre post : List ℕ) → l.text ≡ pre ++ (spelling N p ++ post) → length pre ≡ n → read (item N n p) ≡ token_at N n p
  read_is n p pre post e f =
      let s : slice_range l.text n (n + length (spelling N p)) ≡ spelling N p = ap (λ t. slice_range t n (n + length (spelling N p))) e ∙ slice_mid pre (spelling N p) post n f in
      (λ i. record { at = n; class = class_of (lexed.kind_of names (lexeme_of p) (spelling N p)) (s i); text = s i }) ∙ (λ i. record { at = n; class = class_is N names p i; text = spelling N p })

  spell_one : (n : ℕ) (p : Piece) (ps : List Piece) (pre post : List ℕ) (ks rest : List Token) → l.text ≡ pre ++ (spelling N p ++ post) → length pre ≡ n → Spell N ps ks rest → Spell N (p ∷ ps) (read (item N n p) ∷ ks) rest
  spell_one n p ps pre post ks rest e f s = subst (λ k. Spell N (p ∷ ps) (k ∷ ks) rest) (sym (read_is n p pre post e f)) (Spell.more s)

  spell_behind : (n : ℕ) (p : Piece) (ps qs : List Piece) (pre post : List ℕ) (ks rest : List Token) → l.text ≡ pre ++ (behind N p ps ++ post) → length pre ≡ n → Spell N qs ks rest → Spell N (ps ++ qs) (read_all (items_behind N n p ps) ks) rest
  spell_behind n p [] qs pre post ks rest e f s = s
  spell_behind n p (q ∷ ps) qs pre post ks rest e f s =
      let k : ℕ = n + length (gap p q) in
      let a : l.text ≡ (pre ++ gap p q) ++ (spelling N q ++ (behind N q ps ++ post)) = e ∙ (simp append_assoc) in
      let b : length (pre ++ gap p q) ≡ k = length-append pre (gap p q) ∙ ap (λ i. i + length (gap p q)) f in
      let c : l.text ≡ ((pre ++ gap p q) ++ spelling N q) ++ (behind N q ps ++ post) = a ∙ sym (append_assoc (pre ++ gap p q) (spelling N q) (behind N q ps ++ post)) in
      let d : length ((pre ++ gap p q) ++ spelling N q) ≡ k + length (spelling N q) = length-append (pre ++ gap p q) (spelling N q) ∙ ap (λ i. i + length (spelling N q)) b in
      spell_one k q (ps ++ qs) (pre ++ gap p q) (behind N q ps ++ post) (read_all (items_behind N (k + length (spelling N q)) q ps) ks) rest a b
      (spell_behind (k + length (spelling N q)) q ps qs ((pre ++ gap p q) ++ spelling N q) post ks rest c d s)

  spell_line : (n : ℕ) (ps qs : List Piece) (pre post : List ℕ) (ks rest : List Token) → l.text ≡ pre ++ (joined N ps ++ post) → length pre ≡ n → Spell N qs ks rest → Spell N (ps ++ qs) (read_all (items_of N n ps) ks) rest
  spell_line n [] qs pre post ks rest e f s = s
  spell_line n (p ∷ ps) qs pre post ks rest e f s =
      let a : l.text ≡ pre ++ (spelling N p ++ (behind N p ps ++ post)) = e ∙ ap (λ z. pre ++ z) (append_assoc (spelling N p) (behind N p ps) post) in
      let c : l.text ≡ (pre ++ spelling N p) ++ (behind N p ps ++ post) = a ∙ sym (append_assoc pre (spelling N p) (behind N p ps ++ post)) in
      let d : length (pre ++ spelling N p) ≡ n + length (spelling N p) = length-append pre (spelling N p) ∙ ap (λ i. i + length (spelling N p)) f in
      spell_one n p (ps ++ qs) pre (behind N p ps ++ post) (read_all (items_behind N (n + length (spelling N p)) p ps) ks) rest a f
      (spell_behind (n + length (spelling N p)) p ps qs (pre ++ spelling N p) post ks rest c d s)

  pub spell_lines : (n : ℕ) (ls : List (List Piece)) (pre : List ℕ) (ks : List Token) → l.text ≡ pre ++ line_text N ls → length pre ≡ n → Spell N (flat ls) (read_all (line_items N n ls) ks) ks
  spell_lines n [] pre ks e f = Spell.none
  spell_lines n (p ∷ ls) pre ks e f =
      let k : ℕ = n + length (joined N p) + 1 in
      let a : l.text ≡ (pre ++ (joined N p ++ 10 ∷ [])) ++ line_text N ls = e ∙ simp append_assoc in
      let b : length (pre ++ (joined N p ++ 10 ∷ [])) ≡ k = length-append pre (joined N p ++ 10 ∷ []) ∙ omega (arith, f, length-append (joined N p) (10 ∷ [])) in
      subst (λ z. Spell N (p ++ flat ls) z ks) (sym (all_append (items_of N n p) (line_items N k ls) ks))
      (spell_line n p (flat ls) pre (10 ∷ line_text N ls) (read_all (line_items N k ls) ks) ks e f (spell_lines k ls (pre ++ (joined N p ++ 10 ∷ [])) ks a b))

-- the printed tokens are the tokens of the printed program, before its end
pub spelled : (ds : List Declaration) → Spell (names_of ds) (flat (head_line ∷ lines 1 0 ds)) (tokens_of (printed_tokens ds)) (end_of (printed_tokens ds) ∷ [])
spelled ds =
    let N : Names = names_of ds in
    let l : TokenList = printed_tokens ds in
    let ls : List (List Piece) = head_line ∷ lines 1 0 ds in
    let names : List (List ℕ) = lexed.names_in (printed_items ds) in
    subst (λ z. Spell N (flat ls) z (end_of l ∷ [])) (sym (all_map N l names (printed_items ds) (end_of l ∷ []))) (spell_lines N l names 0 ls [] (end_of l ∷ []) refl refl)
