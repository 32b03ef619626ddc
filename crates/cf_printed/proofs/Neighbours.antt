-- Printed tokens side by side: no neighbours without a space make another token.
use Rattle.std.proofs.Common.{◌≡◌, refl, sym, ◌∙◌, subst, arith, inl, inr, ℕ, true, List, [], ◌∷◌, ◌++◌, Some}
use Rattle.std.specs.Prelude.{◌⊎◌}
use Rattle.std.specs.Str.{encode_utf8_all}
use Rattle.std.proofs.lemmas.Str.{encodes_same}
use Rattle.unicode_ident.proofs.Computing.{unicode_ident}
use Rattle.cf_lex.specs.Lexed.{AreChars}
use Rattle.cf_lex.specs.Tokens.{spelled}
use Rattle.cf_lex.specs.declared.marks.Mark.{Mark}
use Rattle.cf_lex.specs.declared.marks.Mark.TheVariants as sign
use Rattle.cf_lex.specs.declared.piece.Piece.TheVariants as read
use Rattle.cf_core_text.specs.declared.pieces.Piece.{Piece}
use Rattle.cf_core_text.specs.declared.pieces.Piece.TheVariants as piece
use Rattle.cf_core_text.specs.Names.{Names}
use Rattle.cf_core_text.specs.Text.{mark_text, opens, spelling, tight}
use Rattle.cf_printed.specs.Printed.{lexeme_of}
use Rattle.cf_printed.proofs.Longest.{Follows, IsStopper, Stops, open_follows, opener, stopper_follows}
use Rattle.cf_printed.proofs.Truth.{or_false}

-- a printed token is spelled as the token that it is, by some characters
abbrev pub IsToken : Names → Piece → Type 0
IsToken N p = (cs : List ℕ) × AreChars (spelling N p) cs × (spelled cs ≡ Some (read.Token (lexeme_of p)))

abbrev pub AreTokens : Names → List Piece → Type 0
AreTokens N [] = Unit {0}
AreTokens N (p ∷ ps) = IsToken N p × AreTokens N ps

-- a text of one character, and that it goes on with nothing
abbrev Closes : List ℕ → Type 0
Closes text = (c : ℕ) × (text ≡ c ∷ []) × (encode_utf8_all (c ∷ []) ≡ c ∷ []) × IsStopper c

abbrev Opens : List ℕ → Type 0
Opens text = (c : ℕ) × (text ≡ c ∷ []) × (encode_utf8_all (c ∷ []) ≡ c ∷ []) × ((d : ℕ) → Stops c [] d)

pub space_stops : IsStopper 32
unfolding unicode_ident
space_stops = (refl, λ e. omega arith)

pub line_stops : IsStopper 10
unfolding unicode_ident
line_stops = (refl, λ e. omega arith)

tight_mark : (N : Names) (p : Piece) (m : Mark) → tight p (piece.Mark m) ≡ true → (opens p ≡ true) ⊎ Closes (mark_text m)
unfolding unicode_ident lib.Utf8.encode
tight_mark N p sign.CloseParen e = inr (41, refl, refl, (refl, λ i. omega arith))
tight_mark N p sign.OpenBracket e = inr (91, refl, refl, (refl, λ i. omega arith))
tight_mark N p sign.CloseBracket e = inr (93, refl, refl, (refl, λ i. omega arith))
tight_mark N p sign.Greater e = inr (62, refl, refl, (refl, λ i. omega arith))
tight_mark N p sign.Semicolon e = inr (59, refl, refl, (refl, λ i. omega arith))
tight_mark N p sign.Dot e = inr (46, refl, refl, (refl, λ i. omega arith))
tight_mark N p sign.Comma e = inr (44, refl, refl, (refl, λ i. omega arith))
tight_mark N p sign.OpenParen e = inl (or_false (opens p) e)
tight_mark N p sign.OpenBrace e = inl (or_false (opens p) e)
tight_mark N p sign.CloseBrace e = inl (or_false (opens p) e)
tight_mark N p sign.Less e = inl (or_false (opens p) e)
tight_mark N p sign.Tilde e = inl (or_false (opens p) e)
tight_mark N p sign.Caret e = inl (or_false (opens p) e)
tight_mark N p sign.Colon e = inl (or_false (opens p) e)
tight_mark N p sign.Becomes e = inl (or_false (opens p) e)
tight_mark N p sign.Bar e = inl (or_false (opens p) e)
tight_mark N p sign.Arrow e = inl (or_false (opens p) e)
tight_mark N p sign.DoubleArrow e = inl (or_false (opens p) e)
tight_mark N p sign.Backslash e = inl (or_false (opens p) e)
tight_mark N p sign.At e = inl (or_false (opens p) e)

-- without a space: behind a mark that opens, or before one that closes
tight_pair : (N : Names) (p q : Piece) → tight p q ≡ true → (opens p ≡ true) ⊎ Closes (spelling N q)
unfolding unicode_ident lib.Utf8.encode
tight_pair N p (piece.Mark m) e = tight_mark N p m e
tight_pair N p piece.Fields e = inr (40, refl, refl, (refl, λ i. omega arith))
tight_pair N p (piece.Word w) e = inl (or_false (opens p) e)
tight_pair N p (piece.Global n) e = inl (or_false (opens p) e)
tight_pair N p (piece.Local k) e = inl (or_false (opens p) e)
tight_pair N p (piece.DataType n) e = inl (or_false (opens p) e)
tight_pair N p (piece.Ctor n c) e = inl (or_false (opens p) e)
tight_pair N p (piece.Whole z) e = inl (or_false (opens p) e)
tight_pair N p (piece.NatLit n) e = inl (or_false (opens p) e)
tight_pair N p (piece.Hole k) e = inl (or_false (opens p) e)

mark_opens : (m : Mark) → opens (piece.Mark m) ≡ true → Opens (mark_text m)
unfolding unicode_ident lib.Utf8.encode
mark_opens sign.OpenParen e = (40, refl, refl, λ c. opener 40 c refl (λ i. omega arith) (λ d. refl))
mark_opens sign.OpenBracket e = (91, refl, refl, λ c. opener 91 c refl (λ i. omega arith) (λ d. refl))
mark_opens sign.Less e = (60, refl, refl, λ c. opener 60 c refl (λ i. omega arith) (λ d. refl))
mark_opens sign.Tilde e = (126, refl, refl, λ c. opener 126 c refl (λ i. omega arith) (λ d. refl))
mark_opens sign.Caret e = (94, refl, refl, λ c. opener 94 c refl (λ i. omega arith) (λ d. refl))
mark_opens sign.Backslash e = (92, refl, refl, λ c. opener 92 c refl (λ i. omega arith) (λ d. refl))
mark_opens m e = absurd (cc)

all_open : (N : Names) (p : Piece) → opens p ≡ true → Opens (spelling N p)
all_open N (piece.Mark m) e = mark_opens m e
all_open N piece.Fields e = mark_opens sign.OpenParen refl
all_open N p e = absurd (cc)

-- the characters of a text of one
one_char : (text cs : List ℕ) (c : ℕ) → text ≡ c ∷ [] → encode_utf8_all (c ∷ []) ≡ c ∷ [] → encode_utf8_all cs ≡ text → cs ≡ c ∷ []
one_char text cs c e f g = encodes_same cs (c ∷ []) (g ∙ e ∙ sym f)

-- a token without a space before it does not go on with the one in front
pub tight_follows : (N : Names) (p q : Piece) → tight p q ≡ true → (t : IsToken N p) (u : IsToken N q) (more : List ℕ) → Follows t.0 (u.0 ++ more)
tight_follows N p q e t u more = elim (tight_pair N p q e) [
  | inl o ↦ let k = all_open N p o in
      open_follows t.0 (u.0 ++ more) k.0 (one_char (spelling N p) t.0 k.0 k.1 k.2 t.1.1) k.3
  | inr k ↦ let f : u.0 ≡ k.0 ∷ [] = one_char (spelling N q) u.0 k.0 k.1 k.2 u.1.1 in
      subst (λ z. Follows t.0 (z ++ more)) (sym f) (stopper_follows t.0 (lexeme_of p) k.0 more t.2 k.3)
]
