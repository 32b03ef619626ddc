-- A piece is the longest where what follows cannot go on with it.
use Rattle.std.proofs.Common.{◌≡◌, ◌≢◌, refl, sym, ◌∙◌, subst, eqb-true, arith, inl, inr, ℕ, ◌≤◌, Bool, true, false, ◌&&◌, ◌||◌, List, [], ◌∷◌, ◌++◌, length, Some, None}
use Rattle.std.specs.Prelude.{◌⊎◌, ◌==◌, if◌then◌else◌}
use Rattle.std.specs.List.{list_all}
use Rattle.unicode_ident.proofs.Computing.{unicode_ident}
use Rattle.cf_lex.specs.Tokens.{IsFront, IsStuck, spelled, stays_on_line}
use Rattle.cf_lex.specs.declared.piece.Lexeme.{Lexeme}
use Rattle.cf_lex.specs.declared.piece.Piece.{Piece}
use Rattle.cf_lex.specs.declared.piece.Piece.TheVariants as piece
use Rattle.cf_printed.proofs.Behind.{Behind, behind, goes_on, heads, pair}
use Rattle.cf_printed.proofs.Truth.{left, right}

-- the text x ∷ xs cannot go on with c
pub record Stops (x : ℕ) (xs : List ℕ) (c : ℕ) : Type 0 where
  pub no_word : heads x ≡ true → goes_on c ≡ true → ⊥
  pub no_pair : xs ≡ [] → pair x c ≡ true → ⊥
  pub no_comment : (more ys : List ℕ) → x ≡ 45 → xs ++ c ∷ more ≡ 45 ∷ ys → ⊥

not_empty : (xs : List ℕ) (c : ℕ) (more : List ℕ) → [] ≡ xs ++ c ∷ more → ⊥
not_empty [] c more e = cc
not_empty (x ∷ xs) c more e = cc

single : (xs : List ℕ) (c : ℕ) (more : List ℕ) (d : ℕ) → d ∷ [] ≡ xs ++ c ∷ more → (xs ≡ []) × (d ≡ c)
single [] c more d e = (refl, cc)
single (y ∷ ys) c more d e = let f : [] ≡ ys ++ c ∷ more = cc in absurd (not_empty ys c more f)

all_at : (f : ℕ → Bool) (xs : List ℕ) (c : ℕ) (more : List ℕ) → list_all f (xs ++ c ∷ more) ≡ true → f c ≡ true
all_at f [] c more e = left (f c) (list_all f more) e
all_at f (x ∷ xs) c more e = all_at f xs c more (right (f x) (list_all f (xs ++ c ∷ more)) e)

no_longer : (x : ℕ) (xs : List ℕ) (c : ℕ) (more : List ℕ) → Stops x xs c → (zs : List ℕ) → zs ≡ xs ++ c ∷ more → Behind x zs → ⊥
no_longer x xs c more s zs e Behind.alone = not_empty xs c more e
no_longer x xs c more s zs e (Behind.wordy h k) = s.no_word h (all_at goes_on xs c more (subst (λ z. list_all goes_on z ≡ true) e k))
no_longer x xs c more s zs e (Behind.paired {d = d} p) = let q = single xs c more d e in s.no_pair q.0 (subst (λ i. pair x i ≡ true) q.1 p)
no_longer x xs c more s zs e (Behind.comment {ys = ys} h) = s.no_comment more ys h (sym e)

-- one front of a text is no longer than another, or goes on with what follows it
longer : (other left us rest : List ℕ) → other ++ left ≡ us ++ rest → (length other ≤ length us) ⊎ ((c : ℕ) × (more tail : List ℕ) × (other ≡ us ++ c ∷ more) × (rest ≡ c ∷ tail))
longer [] left us rest e = inl (omega arith)
longer (x ∷ xs) left [] rest e = inr (x, xs, xs ++ left, refl, sym e)
longer (x ∷ xs) left (u ∷ us) rest e =
    let f : xs ++ left ≡ us ++ rest = cc in
    let g : x ≡ u = cc in
    elim (longer xs left us rest f) [ inl l ↦ inl (omega (arith, l)) | inr r ↦ inr (r.0, r.1, r.2, more g r.3, r.4) ]
  where
    more : {y v : ℕ} {ys vs : List ℕ} → y ≡ v → ys ≡ vs → y ∷ ys ≡ v ∷ vs
    more a b = cc

-- what is left does not go on with these characters
abbrev pub Follows : List ℕ → List ℕ → Type 0
Follows cs rest = (x : ℕ) (xs : List ℕ) → cs ≡ x ∷ xs → (c : ℕ) (tail : List ℕ) → rest ≡ c ∷ tail → Stops x xs c

pub front : (p : Piece) (cs rest : List ℕ) → spelled cs ≡ Some p → Follows cs rest → IsFront p cs rest
front p [] rest e f = absurd (cc)
front p (x ∷ xs) rest e f = record {
  spells = e;
  longest = λ q other left so g. elim (longer other left (x ∷ xs) rest g) [
    | inl l ↦ l
    | inr r ↦ absurd (no_longer x xs r.0 r.1 (f x xs refl r.0 r.2 r.4) (xs ++ r.0 ∷ r.1) refl (behind x (xs ++ r.0 ∷ r.1) q (subst (λ z. spelled z ≡ Some q) r.3 so)))
  ];
}

-- a text that goes on with no mark or comment
pub record Solid (x : ℕ) (xs : List ℕ) : Type 0 where
  pub pairless : (c : ℕ) → xs ≡ [] → pair x c ≡ true → c ≡ 61
  pub uncommented : (c : ℕ) (more ys : List ℕ) → x ≡ 45 → xs ++ c ∷ more ≡ 45 ∷ ys → ⊥

-- a character that goes on with nothing
abbrev pub IsStopper : ℕ → Type 0
IsStopper c = (goes_on c ≡ false) × (c ≢ 61)

stops_at : (x : ℕ) (xs : List ℕ) (c : ℕ) → Solid x xs → IsStopper c → Stops x xs c
stops_at x xs c s t = record { no_word = λ h k. let f : goes_on c ≡ false = t.0 in cc; no_pair = λ m p. t.1 (s.pairless c m p); no_comment = λ more ys. s.uncommented c more ys }

pairs : (x c : ℕ) → pair x c ≡ true → x ≢ 45 → x ≢ 61 → c ≡ 61
pairs x c e n m = either (x == 58) (c == 61) (x == 45) (c == 62) (x == 61) (eqb-true c 61) (λ h. n (eqb-true x 45 h)) (λ h. m (eqb-true x 61 h)) e
  where
    either : {A : Type 0} (a b d f g : Bool) → (b ≡ true → A) → (d ≡ true → ⊥) → (g ≡ true → ⊥) → ((a && b) || ((d && f) || (g && f))) ≡ true → A
    either true true d f g p q r e = p refl
    either true false true f g p q r e = absurd (q refl)
    either true false false f true p q r e = absurd (r refl)
    either true false false f false p q r e = cc
    either false b true f g p q r e = absurd (q refl)
    either false b false f true p q r e = absurd (r refl)
    either false b false f false p q r e = cc

-- no token is `-` or `=` alone, and none begins with `--`
bar_is_none : (l : Lexeme) → spelled (45 ∷ []) ≡ Some (piece.Token l) → ⊥
unfolding unicode_ident
bar_is_none l e = cc

equals_is_none : (l : Lexeme) → spelled (61 ∷ []) ≡ Some (piece.Token l) → ⊥
unfolding unicode_ident
equals_is_none l e = cc

comment_is_none : (ys : List ℕ) (l : Lexeme) → spelled (45 ∷ 45 ∷ ys) ≡ Some (piece.Token l) → ⊥
unfolding unicode_ident
comment_is_none ys l e = either (list_all stays_on_line ys) e
  where
    either : (b : Bool) → (if b then Some piece.Comment else None) ≡ Some (piece.Token l) → ⊥
    either true e = cc
    either false e = cc

solid : (x : ℕ) (xs : List ℕ) (l : Lexeme) → spelled (x ∷ xs) ≡ Some (piece.Token l) → Solid x xs
solid x [] l e = record {
  pairless = λ c f p. pairs x c p (λ m. bar_is_none l (subst (λ y. spelled (y ∷ []) ≡ Some (piece.Token l)) m e)) (λ m. equals_is_none l (subst (λ y. spelled (y ∷ []) ≡ Some (piece.Token l)) m e));
  uncommented = λ c more ys m f. bar_is_none l (subst (λ y. spelled (y ∷ []) ≡ Some (piece.Token l)) m e);
}
solid x (y ∷ ys) l e = record {
  pairless = λ c f p. absurd (cc);
  uncommented = λ c more zs m f.
      let g : y ≡ 45 = cc in
      comment_is_none ys l (subst (λ u. spelled (45 ∷ u ∷ ys) ≡ Some (piece.Token l)) g (subst (λ u. spelled (u ∷ y ∷ ys) ≡ Some (piece.Token l)) m e));
}

-- such a character may follow any token
pub stopper_follows : (cs : List ℕ) (l : Lexeme) (c : ℕ) (tail : List ℕ) → spelled cs ≡ Some (piece.Token l) → IsStopper c → Follows cs (c ∷ tail)
stopper_follows cs l c tail e s x xs f d rest g =
    let h : c ≡ d = cc in
    subst (λ i. Stops x xs i) h (stops_at x xs c (solid x xs l (subst (λ z. spelled z ≡ Some (piece.Token l)) f e)) s)

-- nothing goes on with a character that begins no name, number, mark of two or comment
pub opener : (x c : ℕ) → heads x ≡ false → x ≢ 45 → ((d : ℕ) → pair x d ≡ false) → Stops x [] c
opener x c h n p = record { no_word = λ e k. cc; no_pair = λ e k. let f : pair x c ≡ false = p c in cc; no_comment = λ more ys e f. n e }

pub open_follows : (cs rest : List ℕ) (o : ℕ) → cs ≡ o ∷ [] → ((d : ℕ) → Stops o [] d) → Follows cs rest
open_follows cs rest o e s x xs f c tail g =
    let both : o ∷ [] ≡ x ∷ xs = sym e ∙ f in
    let a : o ≡ x = cc in
    let b : [] ≡ xs = cc in
    subst (λ y. Stops y xs c) a (subst (λ ys. Stops o ys c) b (s c))

-- nothing is left to read
pub no_piece : IsStuck []
no_piece p [] rest e f = cc
no_piece p (x ∷ xs) rest e f = cc
