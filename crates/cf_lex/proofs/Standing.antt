-- What stands at the front of a text, by its first characters.
use Rattle.std.proofs.Common.{◌≡◌, ◌∙◌, ap, sym, subst, arith, ℕ, suc, zero, ◌+◌, ◌<◌, ◌≤◌, Bool, true, false, List, [], ◌∷◌, length, take, drop, get_or, Option, Some, None}
use Rattle.std.specs.List.{list_all, take_while}
use Rattle.std.specs.Option.{option_map}
use Rattle.std.proofs.lemmas.Bool.{cond-false, cond-true}
use Rattle.std.proofs.lemmas.List.Folds.{length-prefix_len}
use Rattle.std.proofs.lemmas.Option.{cond_some}
use Rattle.unicode_ident.specs.Ident.{is_xid_continue}
use Rattle.cf_lex.proofs.Longest.{GoesOn, goes_on, stands, stuck}
use Rattle.cf_lex.specs.Fronts.{IsOther, NoLonger, Stands}
use Rattle.cf_lex.specs.Spelling.{long_mark, short_mark}
use Rattle.cf_lex.specs.Tokens.{IsStuck, at_end, begins_comment, begins_name, begins_natlit, begins_negative, is_blank, is_digit, mark_piece, other_spelled, pair_spelled, spelled, stays_on_line, where_all, word_of}
use Rattle.cf_lex.specs.declared.marks.Mark.{Mark}
use Rattle.cf_lex.specs.declared.piece.Lexeme.TheVariants as lexeme
use Rattle.cf_lex.specs.declared.piece.Piece.{Piece}
use Rattle.cf_lex.specs.declared.piece.Piece.TheVariants as piece

-- what is spelled where all characters of a class are one piece

made_of : (f : ℕ → Bool) (p : Piece) (cs : List ℕ) (found : Option Piece) → found ≡ where_all f p cs → list_all f cs ≡ true → found ≡ Some p
made_of f p cs found e a = e ∙ cond-true (list_all f cs) _ _ a

only_of : (f : ℕ → Bool) (p q : Piece) (cs : List ℕ) (found : Option Piece) → found ≡ where_all f p cs → found ≡ Some q → list_all f cs ≡ true
only_of f p q cs found e s = (cond_some (list_all f cs) _ q (sym e ∙ s)).0

-- a name, a keyword or the hole, by its first character

spelled-word : (c : ℕ) (cs : List ℕ) → begins_name c ≡ true → spelled (c ∷ cs) ≡ where_all is_xid_continue (piece.Token (word_of (c ∷ cs))) cs
spelled-word c cs h = cond-true (begins_name c) _ _ h

word_on : (c : ℕ) → begins_name c ≡ true → GoesOn is_xid_continue (c ∷ []) (λ cs. piece.Token (word_of cs))
word_on c h = record {
  some = omega arith;
  made = λ cs a. made_of is_xid_continue (piece.Token (word_of (c ∷ cs))) cs (spelled (c ∷ cs)) (spelled-word c cs h) a;
  only = λ cs q s. only_of is_xid_continue (piece.Token (word_of (c ∷ cs))) q cs (spelled (c ∷ cs)) (spelled-word c cs h) s;
}

pub word_stands : (text : List ℕ) (x n : ℕ) → 0 < length text → x ≡ get_or text 0 x → begins_name x ≡ true → n ≡ 1 + length (take_while is_xid_continue (drop 1 text)) → Stands text (piece.Token (word_of (take n text))) n
word_stands [] x n l a h e = absurd (omega arith)
word_stands (c ∷ cs) x n l a h e =
    goes_on is_xid_continue (c ∷ []) cs (λ ds. piece.Token (word_of ds)) n (word_on c (subst (λ y. begins_name y ≡ true) a h)) (e ∙ ap (λ k. 1 + k) (length-prefix_len is_xid_continue cs))

-- digits, by the first one

spelled-digits : (c : ℕ) (cs : List ℕ) → begins_name c ≡ false → is_digit c ≡ true → spelled (c ∷ cs) ≡ where_all is_digit (piece.Token lexeme.Whole) cs
spelled-digits c cs h i = cond-false (begins_name c) _ _ h ∙ cond-true (is_digit c) _ _ i

digits_on : (c : ℕ) → begins_name c ≡ false → is_digit c ≡ true → GoesOn is_digit (c ∷ []) (λ cs. piece.Token lexeme.Whole)
digits_on c h i = record {
  some = omega arith;
  made = λ cs a. made_of is_digit (piece.Token lexeme.Whole) cs (spelled (c ∷ cs)) (spelled-digits c cs h i) a;
  only = λ cs q s. only_of is_digit (piece.Token lexeme.Whole) q cs (spelled (c ∷ cs)) (spelled-digits c cs h i) s;
}

pub digits_stand : (text : List ℕ) (x n : ℕ) → 0 < length text → x ≡ get_or text 0 x → begins_name x ≡ false → is_digit x ≡ true → n ≡ 1 + length (take_while is_digit (drop 1 text)) → Stands text (piece.Token lexeme.Whole) n
digits_stand [] x n l a h i e = absurd (omega arith)
digits_stand (c ∷ cs) x n l a h i e =
    goes_on is_digit (c ∷ []) cs (λ ds. piece.Token lexeme.Whole) n (digits_on c (subst (λ y. begins_name y ≡ false) a h) (subst (λ y. is_digit y ≡ true) a i)) (e ∙ ap (λ k. 1 + k) (length-prefix_len is_digit cs))

-- a blank

blank_longest : (c : ℕ) (cs : List ℕ) → begins_name c ≡ false → is_digit c ≡ false → is_blank c ≡ true → NoLonger (c ∷ cs) 1
blank_longest c cs h i b zero q j k s = absurd (omega arith)
blank_longest c cs h i b (suc zero) q j k s = absurd (omega arith)
blank_longest c [] h i b (suc (suc m)) q j k s = absurd (omega arith)
blank_longest c (d ∷ cs) h i b (suc (suc m)) q j k s =
    let e : spelled (c ∷ d ∷ take m cs) ≡ None = cond-false (begins_name c) _ _ h ∙ cond-false (is_digit c) _ _ i ∙ cond-true (is_blank c) _ _ b in
    let t : None ≡ Some q = sym e ∙ s in
    absurd (cc)

blank_at : (c : ℕ) (cs : List ℕ) → begins_name c ≡ false → is_digit c ≡ false → is_blank c ≡ true → Stands (c ∷ cs) piece.Blank 1
blank_at c cs h i b =
    stands (c ∷ cs) piece.Blank 1 (omega arith) (omega arith)
    (cond-false (begins_name c) _ _ h ∙ cond-false (is_digit c) _ _ i ∙ cond-true (is_blank c) _ _ b)
    (blank_longest c cs h i b)

pub blank_stands : (text : List ℕ) (x : ℕ) → 0 < length text → x ≡ get_or text 0 x → begins_name x ≡ false → is_digit x ≡ false → is_blank x ≡ true → Stands text piece.Blank 1
blank_stands [] x l a h i b = absurd (omega arith)
blank_stands (c ∷ cs) x l a h i b =
    blank_at c cs (subst (λ y. begins_name y ≡ false) a h) (subst (λ y. is_digit y ≡ false) a i) (subst (λ y. is_blank y ≡ true) a b)

-- what begins with no name, number or blank

spelled-other : (c : ℕ) (cs : List ℕ) → IsOther c → spelled (c ∷ cs) ≡ other_spelled c cs
spelled-other c cs o = cond-false (begins_name c) _ _ o.no_name ∙ cond-false (is_digit c) _ _ o.no_digit ∙ cond-false (is_blank c) _ _ o.no_blank

-- what the two first characters tell of the piece
abbrev pub Tells : (ℕ → Bool) → Piece → ℕ → ℕ → Type 0
Tells f p c d = (cs : List ℕ) → pair_spelled c d cs ≡ where_all f p cs

pub tells_comment : (c d : ℕ) → begins_comment c d ≡ true → Tells stays_on_line piece.Comment c d
tells_comment c d h cs = cond-true (begins_comment c d) _ _ h

pub tells_negative : (c d : ℕ) → begins_comment c d ≡ false → begins_negative c d ≡ true → Tells is_digit (piece.Token lexeme.Whole) c d
tells_negative c d h i cs = cond-false (begins_comment c d) _ _ h ∙ cond-true (begins_negative c d) _ _ i

pub tells_natlit : (c d : ℕ) → begins_comment c d ≡ false → begins_negative c d ≡ false → begins_natlit c d ≡ true → Tells is_digit (piece.Token lexeme.NatLit) c d
tells_natlit c d h i j cs = cond-false (begins_comment c d) _ _ h ∙ cond-false (begins_negative c d) _ _ i ∙ cond-true (begins_natlit c d) _ _ j

pair_on : (f : ℕ → Bool) (p : Piece) (c d : ℕ) → IsOther c → Tells f p c d → GoesOn f (c ∷ d ∷ []) (λ cs. p)
pair_on f p c d o t = record {
  some = omega arith;
  made = λ cs a. made_of f p cs (spelled (c ∷ d ∷ cs)) (spelled-other c (d ∷ cs) o ∙ t cs) a;
  only = λ cs q s. only_of f p q cs (spelled (c ∷ d ∷ cs)) (spelled-other c (d ∷ cs) o ∙ t cs) s;
}

-- a text that begins with these two characters
pub record BeginsWith (text : List ℕ) (x y : ℕ) : Type 0 where
  pub some : 2 ≤ length text
  pub first : x ≡ get_or text 0 x
  pub second : y ≡ get_or text 1 y

moved : (P : ℕ → ℕ → Type 0) (x y c d : ℕ) → x ≡ c → y ≡ d → P x y → P c d
moved P x y c d a b p = subst (λ z. P z d) a (subst (λ z. P x z) b p)

pub pair_stands : (f : ℕ → Bool) (p : Piece) (text : List ℕ) (x y n : ℕ) → BeginsWith text x y → IsOther (get_or text 0 0) → Tells f p x y → n ≡ 2 + length (take_while f (drop 2 text)) → Stands text p n
pair_stands f p [] x y n b o t e = absurd (omega (arith, b.some))
pair_stands f p (c ∷ []) x y n b o t e = absurd (omega (arith, b.some))
pair_stands f p (c ∷ d ∷ cs) x y n b o t e =
    goes_on f (c ∷ d ∷ []) cs (λ ds. p) n (pair_on f p c d o (moved (Tells f p) x y c d b.first b.second t)) (e ∙ ap (λ k. 2 + k) (length-prefix_len f cs))

-- two characters that begin no comment, negative number or Nat literal
pub record IsMarkPair (c d : ℕ) : Type 0 where
  pub no_comment : begins_comment c d ≡ false
  pub no_negative : begins_negative c d ≡ false
  pub no_natlit : begins_natlit c d ≡ false

spelled-long : (c d : ℕ) (cs : List ℕ) → IsOther c → IsMarkPair c d → spelled (c ∷ d ∷ cs) ≡ at_end (option_map mark_piece (long_mark c d)) cs
spelled-long c d cs o p = spelled-other c (d ∷ cs) o ∙ cond-false (begins_comment c d) _ _ p.no_comment ∙ cond-false (begins_negative c d) _ _ p.no_negative ∙ cond-false (begins_natlit c d) _ _ p.no_natlit

long_longest : (c d : ℕ) (cs : List ℕ) → IsOther c → IsMarkPair c d → NoLonger (c ∷ d ∷ cs) 2
long_longest c d cs o p zero q h i s = absurd (omega arith)
long_longest c d cs o p (suc zero) q h i s = absurd (omega arith)
long_longest c d cs o p (suc (suc zero)) q h i s = absurd (omega arith)
long_longest c d [] o p (suc (suc (suc m))) q h i s = absurd (omega arith)
long_longest c d (e ∷ es) o p (suc (suc (suc m))) q h i s =
    let t : None ≡ Some q = sym (spelled-long c d (e ∷ take m es) o p) ∙ s in
    absurd (cc)

long_at : (c d : ℕ) (cs : List ℕ) (m : Mark) → IsOther c → IsMarkPair c d → long_mark c d ≡ Some m → Stands (c ∷ d ∷ cs) (mark_piece m) 2
long_at c d cs m o p e =
    stands (c ∷ d ∷ cs) (mark_piece m) 2 (omega arith) (omega arith)
    (spelled-long c d [] o p ∙ ap (option_map mark_piece) e) (long_longest c d cs o p)

pub long_stands : (text : List ℕ) (x y : ℕ) (m : Mark) → BeginsWith text x y → IsOther (get_or text 0 0) → IsMarkPair x y → long_mark x y ≡ Some m → Stands text (mark_piece m) 2
long_stands [] x y m b o p e = absurd (omega (arith, b.some))
long_stands (c ∷ []) x y m b o p e = absurd (omega (arith, b.some))
long_stands (c ∷ d ∷ cs) x y m b o p e =
    long_at c d cs m o (moved IsMarkPair x y c d b.first b.second p) (moved (λ z w. long_mark z w ≡ Some m) x y c d b.first b.second e)

no_pair_at : (c d : ℕ) (cs : List ℕ) → IsOther c → IsMarkPair c d → long_mark c d ≡ None → NoLonger (c ∷ d ∷ cs) 1
no_pair_at c d cs o p e zero q h i s = absurd (omega arith)
no_pair_at c d cs o p e (suc zero) q h i s = absurd (omega arith)
no_pair_at c d cs o p e (suc (suc zero)) q h i s =
    let t : None ≡ Some q = sym (spelled-long c d [] o p ∙ ap (option_map mark_piece) e) ∙ s in
    absurd (cc)
no_pair_at c d cs o p e (suc (suc (suc m))) q h i s = long_longest c d cs o p (suc (suc (suc m))) q (omega arith) i s

pub no_pair : (text : List ℕ) (x y : ℕ) → BeginsWith text x y → IsOther (get_or text 0 0) → IsMarkPair x y → long_mark x y ≡ None → NoLonger text 1
no_pair [] x y b o p e = absurd (omega (arith, b.some))
no_pair (c ∷ []) x y b o p e = absurd (omega (arith, b.some))
no_pair (c ∷ d ∷ cs) x y b o p e =
    no_pair_at c d cs o (moved IsMarkPair x y c d b.first b.second p) (moved (λ z w. long_mark z w ≡ None) x y c d b.first b.second e)

-- a mark of one character

pub short_stands : (text : List ℕ) (x : ℕ) (m : Mark) → 1 ≤ length text → x ≡ get_or text 0 x → IsOther (get_or text 0 0) → NoLonger text 1 → short_mark x ≡ Some m → Stands text (mark_piece m) 1
short_stands [] x m l a o n e = absurd (omega arith)
short_stands (c ∷ cs) x m l a o n e =
    stands (c ∷ cs) (mark_piece m) 1 (omega arith) (omega arith) (spelled-other c [] o ∙ ap (option_map mark_piece) (subst (λ y. short_mark y ≡ Some m) a e)) n

pub no_short : (text : List ℕ) (x : ℕ) → 1 ≤ length text → x ≡ get_or text 0 x → IsOther (get_or text 0 0) → NoLonger text 1 → short_mark x ≡ None → IsStuck text
no_short [] x l a o n e = absurd (omega arith)
no_short (c ∷ cs) x l a o n e =
    stuck (c ∷ cs) (λ q s. let t : None ≡ Some q = sym (spelled-other c [] o ∙ ap (option_map mark_piece) (subst (λ y. short_mark y ≡ None) a e)) ∙ s in cc) n

-- a text of one character has no longer front
pub one_only : (text : List ℕ) → length text ≤ 1 → NoLonger text 1
one_only text h m q i j s = omega arith

-- an empty text has no front
pub nothing : (text : List ℕ) → length text ≤ 0 → IsStuck text
nothing [] h = stuck [] (λ q s. cc) (one_only [] (omega arith))
nothing (c ∷ cs) h = absurd (omega arith)
