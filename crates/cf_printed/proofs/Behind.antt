-- What stands behind the first character of a piece.
use Rattle.std.proofs.Common.{◌≡◌, refl, sym, subst, eqb-true, ℕ, Bool, true, false, ◌&&◌, ◌||◌, List, [], ◌∷◌, Option, Some, None}
use Rattle.std.specs.Prelude.{◌==◌, if◌then◌else◌}
use Rattle.std.specs.List.{list_all}
use Rattle.std.specs.Option.{option_map}
use Rattle.unicode_ident.specs.Ident.{is_xid_continue}
use Rattle.cf_lex.specs.Spelling.{long_mark}
use Rattle.cf_lex.specs.Tokens.{at_end, begins_comment, begins_name, begins_natlit, begins_negative, is_blank, is_digit, mark_piece, other_spelled, spelled, stays_on_line, where_all, word_of}
use Rattle.cf_lex.specs.declared.marks.Mark.TheVariants as sign
use Rattle.cf_lex.specs.declared.piece.Lexeme.TheVariants as lexeme
use Rattle.cf_lex.specs.declared.piece.Piece.{Piece}
use Rattle.cf_lex.specs.declared.piece.Piece.TheVariants as piece
use Rattle.cf_printed.proofs.Truth.{all_map, left, or_left, or_right, right, both}

-- a character that a name or a number may go on with; one that begins a name or a number
abbrev pub goes_on : ℕ → Bool
goes_on c = is_xid_continue c || is_digit c

abbrev pub heads : ℕ → Bool
heads x = begins_name x || (is_digit x || ((x == 45) || (x == 35)))

-- the marks of two characters
abbrev pub pair : ℕ → ℕ → Bool
pair x d = ((x == 58) && (d == 61)) || (((x == 45) && (d == 62)) || ((x == 61) && (d == 62)))

-- the characters of a piece behind its first one
pub data Behind (x : ℕ) : List ℕ → Type 0 where
  alone : Behind x []
  wordy : {ys : List ℕ} → heads x ≡ true → list_all goes_on ys ≡ true → Behind x ys
  paired : {d : ℕ} → pair x d ≡ true → Behind x (d ∷ [])
  comment : {ys : List ℕ} → x ≡ 45 → Behind x (45 ∷ ys)

pub of_word : (c : ℕ) → is_xid_continue c ≡ true → goes_on c ≡ true
of_word c e = or_left (is_xid_continue c) (is_digit c) e

pub of_digit : (c : ℕ) → is_digit c ≡ true → goes_on c ≡ true
of_digit c e = or_right (is_xid_continue c) (is_digit c) e

test_of : (b : Bool) (p q : Piece) → (if b then Some p else None) ≡ Some q → b ≡ true
test_of true p q e = refl
test_of false p q e = cc

pub all_of : (f : ℕ → Bool) (p : Piece) (ys : List ℕ) (q : Piece) → where_all f p ys ≡ Some q → list_all f ys ≡ true
all_of f p ys q e = test_of (list_all f ys) p q e

at_end_only : (o : Option Piece) (ys : List ℕ) (q : Piece) → at_end o ys ≡ Some q → (ys ≡ []) × (o ≡ Some q)
at_end_only o [] q e = (refl, e)
at_end_only o (y ∷ ys) q e = absurd (cc)

-- a mark of two characters is one of three
pair_of : (a b c : Bool) (q : Piece) → option_map mark_piece (if a then Some sign.Becomes else (if b then Some sign.Arrow else (if c then Some sign.DoubleArrow else None))) ≡ Some q → (a || (b || c)) ≡ true
pair_of true b c q e = refl
pair_of false true c q e = refl
pair_of false false true q e = refl
pair_of false false false q e = cc

second : (x d : ℕ) (ds : List ℕ) (q : Piece) (a b c : Bool) → begins_comment x d ≡ a → begins_negative x d ≡ b → begins_natlit x d ≡ c → (if a then where_all stays_on_line piece.Comment ds else (if b then where_all is_digit (piece.Token lexeme.Whole) ds else (if c then where_all is_digit (piece.Token lexeme.NatLit) ds else at_end (option_map mark_piece (long_mark x d)) ds))) ≡ Some q → Behind x (d ∷ ds)
second x d ds q true b c h i j e = subst (λ y. Behind x (y ∷ ds)) (sym (eqb-true d 45 (right (x == 45) (d == 45) h))) (Behind.comment (eqb-true x 45 (left (x == 45) (d == 45) h)))
second x d ds q false true c h i j e = Behind.wordy
    (or_right (begins_name x) _ (or_right (is_digit x) _ (or_left (x == 45) _ (left (x == 45) (is_digit d) i))))
    (both (goes_on d) _ (of_digit d (right (x == 45) (is_digit d) i)) (all_map is_digit goes_on of_digit ds (all_of is_digit (piece.Token lexeme.Whole) ds q e)))
second x d ds q false false true h i j e = Behind.wordy
    (or_right (begins_name x) _ (or_right (is_digit x) _ (or_right (x == 45) _ (left (x == 35) (is_digit d) j))))
    (both (goes_on d) _ (of_digit d (right (x == 35) (is_digit d) j)) (all_map is_digit goes_on of_digit ds (all_of is_digit (piece.Token lexeme.NatLit) ds q e)))
second x d ds q false false false h i j e =
    let r = at_end_only (option_map mark_piece (long_mark x d)) ds q e in
    subst (λ z. Behind x (d ∷ z)) (sym r.0) (Behind.paired (pair_of ((x == 58) && (d == 61)) ((x == 45) && (d == 62)) ((x == 61) && (d == 62)) q r.1))

other : (x : ℕ) (ys : List ℕ) (q : Piece) → other_spelled x ys ≡ Some q → Behind x ys
other x [] q e = Behind.alone
other x (d ∷ ds) q e = second x d ds q (begins_comment x d) (begins_negative x d) (begins_natlit x d) refl refl refl e

first : (x : ℕ) (ys : List ℕ) (q : Piece) (a b c : Bool) → begins_name x ≡ a → is_digit x ≡ b → (if a then where_all is_xid_continue (piece.Token (word_of (x ∷ ys))) ys else (if b then where_all is_digit (piece.Token lexeme.Whole) ys else (if c then at_end (Some piece.Blank) ys else other_spelled x ys))) ≡ Some q → Behind x ys
first x ys q true b c h i e = Behind.wordy (or_left (begins_name x) _ h) (all_map is_xid_continue goes_on of_word ys (all_of is_xid_continue (piece.Token (word_of (x ∷ ys))) ys q e))
first x ys q false true c h i e = Behind.wordy (or_right (begins_name x) _ (or_left (is_digit x) _ i)) (all_map is_digit goes_on of_digit ys (all_of is_digit (piece.Token lexeme.Whole) ys q e))
first x ys q false false true h i e = subst (λ z. Behind x z) (sym (at_end_only (Some piece.Blank) ys q e).0) Behind.alone
first x ys q false false false h i e = other x ys q e

-- whatever spells a piece is so
pub behind : (x : ℕ) (ys : List ℕ) (q : Piece) → spelled (x ∷ ys) ≡ Some q → Behind x ys
behind x ys q e = first x ys q (begins_name x) (is_digit x) (is_blank x) refl refl e
