-- Keywords, marks, numbers and names `_k` are spelled as the tokens that they are.
use Rattle.std.proofs.Common.{◌≡◌, refl, sym, ap, ◌∙◌, arith, le-leb, leb-true, ltb-true, ne_eqb, ℕ, suc, ◌^◌, ◌<◌, ◌≤◌, Bool, true, false, ◌&&◌, ◌||◌, List, [], ◌∷◌, length, Option, Some, None}
use Rattle.std.specs.Prelude.{◌==◌, if◌then◌else◌, ℤ, pos, negsuc, nat_le, IsTrue}
use Rattle.std.specs.Char.{is_ascii_alphanumeric}
use Rattle.std.specs.Fmt.{decimal}
use Rattle.std.specs.Int.{is_in_range}
use Rattle.std.specs.List.{list_all}
use Rattle.std.specs.Option.{option_map}
use Rattle.std.specs.Str.{IsAscii, all_scalars}
use Rattle.std.specs.Str.Parse.{AllDigits}
use Rattle.std.proofs.lemmas.Bool.{lt-leb}
use Rattle.std.proofs.lemmas.Fmt.{decimal_is_IsNumeral, IsAscii-from_digits}
use Rattle.std.proofs.lemmas.Str.{chars-IsAscii, encodes-IsAscii, scalars-chars, IsUtf8-from_ascii}
use Rattle.std.proofs.lemmas.Str.Parse.{digit_from_value}
use Rattle.unicode_ident.specs.Ident.{is_xid_continue}
use Rattle.unicode_ident.proofs.Computing.{unicode_ident}
use Rattle.unicode_ident.proofs.IdentLemmas.{is_xid_start-ascii, is_xid_continue-ascii}
use Rattle.cf_lex.specs.Lexed.{AreChars}
use Rattle.cf_lex.specs.Spelling.{keyword_text, long_mark}
use Rattle.cf_lex.specs.Tokens.{at_end, begins_name, is_blank, is_digit, mark_piece, other_spelled, spelled, stays_on_line, where_all, word_of}
use Rattle.cf_lex.specs.declared.keywords.Keyword.{Keyword}
use Rattle.cf_lex.specs.declared.keywords.Keyword.TheVariants as keyword
use Rattle.cf_lex.specs.declared.marks.Mark.{Mark}
use Rattle.cf_lex.specs.declared.marks.Mark.TheVariants as sign
use Rattle.cf_lex.specs.declared.piece.Lexeme.TheVariants as lexeme
use Rattle.cf_lex.specs.declared.piece.Piece.{Piece}
use Rattle.cf_lex.specs.declared.piece.Piece.TheVariants as read
use Rattle.cf_syntax.specs.Numbers.{fits_word}
use Rattle.cf_core_text.specs.Names.{Names}
use Rattle.cf_core_text.specs.Text.{mark_text}
use Rattle.cf_core_text.specs.declared.pieces.Piece.TheVariants as piece
use Rattle.cf_printed.proofs.Lines.{chars_append}
use Rattle.cf_printed.proofs.Neighbours.{IsToken}
use Rattle.cf_printed.proofs.Truth.{all_map, both, left, or_left, right}

pub word_token : (N : Names) (w : Keyword) → IsToken N (piece.Word w)
unfolding unicode_ident lib.Utf8.encode
word_token N keyword.Explicit = (keyword_text keyword.Explicit, (refl, refl), refl)
word_token N keyword.Use = (keyword_text keyword.Use, (refl, refl), refl)
word_token N keyword.Prelude = (keyword_text keyword.Prelude, (refl, refl), refl)
word_token N keyword.Data = (keyword_text keyword.Data, (refl, refl), refl)
word_token N keyword.Meta = (keyword_text keyword.Meta, (refl, refl), refl)
word_token N keyword.Let = (keyword_text keyword.Let, (refl, refl), refl)
word_token N keyword.LetRec = (keyword_text keyword.LetRec, (refl, refl), refl)
word_token N keyword.MetaLet = (keyword_text keyword.MetaLet, (refl, refl), refl)
word_token N keyword.Fn = (keyword_text keyword.Fn, (refl, refl), refl)
word_token N keyword.Case = (keyword_text keyword.Case, (refl, refl), refl)
word_token N keyword.Of = (keyword_text keyword.Of, (refl, refl), refl)
word_token N keyword.Fail = (keyword_text keyword.Fail, (refl, refl), refl)
word_token N keyword.Con = (keyword_text keyword.Con, (refl, refl), refl)
word_token N keyword.Pair = (keyword_text keyword.Pair, (refl, refl), refl)
word_token N keyword.Fst = (keyword_text keyword.Fst, (refl, refl), refl)
word_token N keyword.Snd = (keyword_text keyword.Snd, (refl, refl), refl)
word_token N keyword.MetaTy = (keyword_text keyword.MetaTy, (refl, refl), refl)
word_token N keyword.ValTy = (keyword_text keyword.ValTy, (refl, refl), refl)
word_token N keyword.CompTy = (keyword_text keyword.CompTy, (refl, refl), refl)
word_token N keyword.Ty = (keyword_text keyword.Ty, (refl, refl), refl)
word_token N keyword.Pi = (keyword_text keyword.Pi, (refl, refl), refl)
word_token N keyword.Sig = (keyword_text keyword.Sig, (refl, refl), refl)
word_token N keyword.UnitTy = (keyword_text keyword.UnitTy, (refl, refl), refl)
word_token N keyword.Unit = (keyword_text keyword.Unit, (refl, refl), refl)
word_token N keyword.UnitRec = (keyword_text keyword.UnitRec, (refl, refl), refl)
word_token N keyword.BoolTy = (keyword_text keyword.BoolTy, (refl, refl), refl)
word_token N keyword.True = (keyword_text keyword.True, (refl, refl), refl)
word_token N keyword.False = (keyword_text keyword.False, (refl, refl), refl)
word_token N keyword.BoolRec = (keyword_text keyword.BoolRec, (refl, refl), refl)
word_token N keyword.NatTy = (keyword_text keyword.NatTy, (refl, refl), refl)
word_token N keyword.Zero = (keyword_text keyword.Zero, (refl, refl), refl)
word_token N keyword.Suc = (keyword_text keyword.Suc, (refl, refl), refl)
word_token N keyword.NatRec = (keyword_text keyword.NatRec, (refl, refl), refl)
word_token N keyword.ListTy = (keyword_text keyword.ListTy, (refl, refl), refl)
word_token N keyword.Nil = (keyword_text keyword.Nil, (refl, refl), refl)
word_token N keyword.Cons = (keyword_text keyword.Cons, (refl, refl), refl)
word_token N keyword.ListRec = (keyword_text keyword.ListRec, (refl, refl), refl)
word_token N keyword.V = (keyword_text keyword.V, (refl, refl), refl)
word_token N keyword.C = (keyword_text keyword.C, (refl, refl), refl)
word_token N keyword.IntTy = (keyword_text keyword.IntTy, (refl, refl), refl)
word_token N keyword.Add = (keyword_text keyword.Add, (refl, refl), refl)
word_token N keyword.Sub = (keyword_text keyword.Sub, (refl, refl), refl)
word_token N keyword.Mul = (keyword_text keyword.Mul, (refl, refl), refl)
word_token N keyword.Div = (keyword_text keyword.Div, (refl, refl), refl)
word_token N keyword.Rem = (keyword_text keyword.Rem, (refl, refl), refl)
word_token N keyword.Eq = (keyword_text keyword.Eq, (refl, refl), refl)
word_token N keyword.Lt = (keyword_text keyword.Lt, (refl, refl), refl)
word_token N keyword.And = (keyword_text keyword.And, (refl, refl), refl)

pub mark_token : (N : Names) (m : Mark) → IsToken N (piece.Mark m)
unfolding unicode_ident lib.Utf8.encode
mark_token N sign.OpenParen = (mark_text sign.OpenParen, (refl, refl), refl)
mark_token N sign.CloseParen = (mark_text sign.CloseParen, (refl, refl), refl)
mark_token N sign.OpenBracket = (mark_text sign.OpenBracket, (refl, refl), refl)
mark_token N sign.CloseBracket = (mark_text sign.CloseBracket, (refl, refl), refl)
mark_token N sign.OpenBrace = (mark_text sign.OpenBrace, (refl, refl), refl)
mark_token N sign.CloseBrace = (mark_text sign.CloseBrace, (refl, refl), refl)
mark_token N sign.Less = (mark_text sign.Less, (refl, refl), refl)
mark_token N sign.Greater = (mark_text sign.Greater, (refl, refl), refl)
mark_token N sign.Tilde = (mark_text sign.Tilde, (refl, refl), refl)
mark_token N sign.Caret = (mark_text sign.Caret, (refl, refl), refl)
mark_token N sign.Colon = (mark_text sign.Colon, (refl, refl), refl)
mark_token N sign.Becomes = (mark_text sign.Becomes, (refl, refl), refl)
mark_token N sign.Semicolon = (mark_text sign.Semicolon, (refl, refl), refl)
mark_token N sign.Dot = (mark_text sign.Dot, (refl, refl), refl)
mark_token N sign.Comma = (mark_text sign.Comma, (refl, refl), refl)
mark_token N sign.Bar = (mark_text sign.Bar, (refl, refl), refl)
mark_token N sign.Arrow = (mark_text sign.Arrow, (refl, refl), refl)
mark_token N sign.DoubleArrow = (mark_text sign.DoubleArrow, (refl, refl), refl)
mark_token N sign.Backslash = (mark_text sign.Backslash, (refl, refl), refl)
mark_token N sign.At = (mark_text sign.At, (refl, refl), refl)

pub fields_token : (N : Names) → IsToken N piece.Fields
fields_token N = mark_token N sign.OpenParen

digits_all : (ds : List ℕ) → AllDigits 10 ds → list_all is_digit ds ≡ true
digits_all [] h = refl
digits_all (c ∷ cs) h =
    let r = digit_from_value c h.0 in
    both (is_digit c) (list_all is_digit cs) (both (nat_le 48 c) (nat_le c 57) (le-leb 48 c r.0) (le-leb c 57 r.1)) (digits_all cs h.1)

-- digits, one or more, as ASCII
record Digits (ds : List ℕ) : Type 0 where
  some : 0 < length ds
  all : list_all is_digit ds ≡ true
  ascii : AreChars ds ds

chars_of : (ds : List ℕ) → IsAscii ds → AreChars ds ds
chars_of ds a = (ap all_scalars (sym (chars-IsAscii ds a)) ∙ scalars-chars ds (IsUtf8-from_ascii ds a), encodes-IsAscii ds a)

decimal_digits : (n : ℕ) → n < 2 ^ 64 → Digits (decimal n)
decimal_digits n h =
    let k = decimal_is_IsNumeral n h in
    record { some = k.0.0; all = digits_all (decimal n) k.0.1; ascii = chars_of (decimal n) (IsAscii-from_digits (decimal n) k.0.1) }

digit_continues : (c : ℕ) → is_digit c ≡ true → is_xid_continue c ≡ true
digit_continues c e =
    let l : 48 ≤ c = leb-true 48 c (left (nat_le 48 c) (nat_le c 57) e) in
    let h : c ≤ 57 = leb-true c 57 (right (nat_le 48 c) (nat_le c 57) e) in
    is_xid_continue-ascii c (omega arith) ∙ or_left (is_ascii_alphanumeric c) (c == 95) (or_left (is_digit c || is_in_range 65 90 c) _ (or_left (is_digit c) _ e))

digit_begins_none : (c : ℕ) → is_digit c ≡ true → begins_name c ≡ false
digit_begins_none c e =
    let l : 48 ≤ c = leb-true 48 c (left (nat_le 48 c) (nat_le c 57) e) in
    let h : c ≤ 57 = leb-true c 57 (right (nat_le 48 c) (nat_le c 57) e) in
    (λ i. is_xid_start-ascii c (omega arith) i || ne_eqb c 95 (λ m. omega arith) i) ∙ (λ i. (lt-leb 65 c (omega arith) i && nat_le c 90) || (lt-leb 97 c (omega arith) i && nat_le c 122) || false)

-- what is spelled where all are of the class
spelled_all : (f : ℕ → Bool) (p : Piece) (cs : List ℕ) → list_all f cs ≡ true → where_all f p cs ≡ Some p
spelled_all f p cs e = ap (λ b. if b then Some p else None) e

pub local_token : (N : Names) (k : ℕ) → k < 2 ^ 64 → IsToken N (piece.Local k)
unfolding unicode_ident lib.Utf8.encode
local_token N k h = let d = decimal_digits k h in local_is (decimal k) d
  where
    local_is : (ds : List ℕ) → Digits ds → (cs : List ℕ) × AreChars (95 ∷ ds) cs × (spelled cs ≡ Some (read.Token lexeme.Name))
    local_is [] d = absurd (omega (arith, d.some))
    local_is (c ∷ ds) d = (95 ∷ c ∷ ds, chars_append (95 ∷ []) (c ∷ ds) (95 ∷ []) (c ∷ ds) (refl, refl) d.ascii, spelled_all is_xid_continue (read.Token lexeme.Name) (c ∷ ds) (all_map is_digit is_xid_continue digit_continues (c ∷ ds) d.all))

-- digits, and digits behind `#` or `-`
digits_spelled : (c : ℕ) (ds : List ℕ) → is_digit c ≡ true → list_all is_digit ds ≡ true → spelled (c ∷ ds) ≡ Some (read.Token lexeme.Whole)
digits_spelled c ds e f =
    let w : Option Piece = where_all is_digit (read.Token lexeme.Whole) ds in
    let o : Option Piece = if is_blank c then at_end (Some read.Blank) ds else other_spelled c ds in
    ap (λ b. if b then where_all is_xid_continue (read.Token (word_of (c ∷ ds))) ds else (if is_digit c then w else o)) (digit_begins_none c e)
    ∙ ap (λ b. if b then w else o) e ∙ spelled_all is_digit (read.Token lexeme.Whole) ds f

natlit_spelled : (c : ℕ) (ds : List ℕ) → is_digit c ≡ true → list_all is_digit ds ≡ true → spelled (35 ∷ c ∷ ds) ≡ Some (read.Token lexeme.NatLit)
unfolding unicode_ident
natlit_spelled c ds e f =
    ap (λ b. if b then where_all is_digit (read.Token lexeme.NatLit) ds else at_end (option_map mark_piece (long_mark 35 c)) ds) e
    ∙ spelled_all is_digit (read.Token lexeme.NatLit) ds f

minus_spelled : (c : ℕ) (ds : List ℕ) → is_digit c ≡ true → list_all is_digit ds ≡ true → spelled (45 ∷ c ∷ ds) ≡ Some (read.Token lexeme.Whole)
unfolding unicode_ident
minus_spelled c ds e f =
    let l : 48 ≤ c = leb-true 48 c (left (nat_le 48 c) (nat_le c 57) e) in
    let w : Option Piece = where_all is_digit (read.Token lexeme.Whole) ds in
    let o : Option Piece = at_end (option_map mark_piece (long_mark 45 c)) ds in
    ap (λ b. if b then where_all stays_on_line read.Comment ds else (if is_digit c then w else o)) (ne_eqb c 45 (λ m. omega arith))
    ∙ ap (λ b. if b then w else o) e ∙ spelled_all is_digit (read.Token lexeme.Whole) ds f

behind_mark : (m : ℕ) (ds : List ℕ) → AreChars (m ∷ []) (m ∷ []) → AreChars ds ds → AreChars (m ∷ ds) (m ∷ ds)
behind_mark m ds h k = chars_append (m ∷ []) ds (m ∷ []) ds h k

pub natlit_token : (N : Names) (n : ℕ) → n < 2 ^ 64 → IsToken N (piece.NatLit n)
unfolding lib.Utf8.encode
natlit_token N n h = natlit_is (decimal n) (decimal_digits n h)
  where
    natlit_is : (ds : List ℕ) → Digits ds → (cs : List ℕ) × AreChars (35 ∷ ds) cs × (spelled cs ≡ Some (read.Token lexeme.NatLit))
    natlit_is [] d = absurd (omega (arith, d.some))
    natlit_is (c ∷ ds) d = (35 ∷ c ∷ ds, behind_mark 35 (c ∷ ds) (refl, refl) d.ascii, natlit_spelled c ds (left (is_digit c) (list_all is_digit ds) d.all) (right (is_digit c) (list_all is_digit ds) d.all))

pub whole_token : (N : Names) (z : ℤ) → IsTrue (fits_word z) → IsToken N (piece.Whole z)
unfolding lib.Utf8.encode
whole_token N (pos n) h = whole_is (decimal n) (decimal_digits n (let k : n < 2 ^ 63 = ltb-true n (2 ^ 63) h in omega arith))
  where
    whole_is : (ds : List ℕ) → Digits ds → (cs : List ℕ) × AreChars ds cs × (spelled cs ≡ Some (read.Token lexeme.Whole))
    whole_is [] d = absurd (omega (arith, d.some))
    whole_is (c ∷ ds) d = (c ∷ ds, d.ascii, digits_spelled c ds (left (is_digit c) (list_all is_digit ds) d.all) (right (is_digit c) (list_all is_digit ds) d.all))
whole_token N (negsuc n) h = minus_is (decimal (suc n)) (decimal_digits (suc n) (let k : n < 2 ^ 63 = ltb-true n (2 ^ 63) h in omega arith))
  where
    minus_is : (ds : List ℕ) → Digits ds → (cs : List ℕ) × AreChars (45 ∷ ds) cs × (spelled cs ≡ Some (read.Token lexeme.Whole))
    minus_is [] d = absurd (omega (arith, d.some))
    minus_is (c ∷ ds) d = (45 ∷ c ∷ ds, behind_mark 45 (c ∷ ds) (refl, refl) d.ascii, minus_spelled c ds (left (is_digit c) (list_all is_digit ds) d.all) (right (is_digit c) (list_all is_digit ds) d.all))
