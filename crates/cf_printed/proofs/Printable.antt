-- The printed tokens of a term are tokens, where its names and numbers are.
use Rattle.std.proofs.Common.{◌≡◌, refl, arith, ltb-true, ℕ, zero, suc, ◌+◌, ◌-◌, ◌^◌, ◌<◌, Bool, true, false, List, [], ◌∷◌, ◌++◌, length, take, drop, Option, Some, None}
use Rattle.std.specs.Prelude.{nat_lt, if◌then◌else◌}
use Rattle.cf_lex.specs.declared.keywords.Keyword.{Keyword}
use Rattle.cf_lex.specs.declared.keywords.Keyword.TheVariants as keyword
use Rattle.cf_lex.specs.declared.marks.Mark.TheVariants as sign
use Rattle.cf_term.specs.Core.{Tm, var, node, Tms, nil, cons, Part, parts, first_part, rest_parts, branch_parts, Branch, Head, PiH, LamH, AppH, LetH, SigH, ZeroH, SucH, LiftH, QuoteH, DataH, ArrH, LitH, LetVH, LetRecH, OLamH, OAppH, ConH, CaseH, SpliceH, HoleH, MarkH}
use Rattle.cf_elab.specs.Scope.{Globals}
use Rattle.cf_core_text.specs.declared.pieces.Piece.{Piece}
use Rattle.cf_core_text.specs.declared.pieces.Piece.TheVariants as piece
use Rattle.cf_core_text.specs.declared.pieces.Place.{Place}
use Rattle.cf_core_text.specs.declared.pieces.Place.TheVariants as place
use Rattle.cf_core_text.specs.Names.{Names}
use Rattle.cf_core_text.specs.Pieces.{Printed, arm, arms, atoms, binder, bound, bracketed, defining, enclosed, further, listed, literal, more_arms, names, placed, printed, printed_all, stands, under, variable, word_of, worded, written}
use Rattle.cf_printed.specs.Scoped.{AreCtors, AreScoped, HasParts, IsBound, IsCtor, IsScoped, IsSmall}
use Rattle.cf_printed.proofs.Neighbours.{AreTokens, IsToken}
use Rattle.cf_printed.proofs.Spelt.{fields_token, local_token, mark_token, natlit_token, whole_token, word_token}

pub app : (N : Names) (ps qs : List Piece) → AreTokens N ps → AreTokens N qs → AreTokens N (ps ++ qs)
app N [] qs t u = u
app N (p ∷ ps) qs t u = (t.0, app N ps qs t.1 u)

-- what is declared can be printed
pub record Tells (N : Names) (g : Globals) : Type 0 where
  pub globals : (k : ℕ) → k < length g.variables → IsToken N (piece.Global k)
  pub types : (n : ℕ) → n < length g.types → IsToken N (piece.DataType n)
  pub ctors : (n c : ℕ) → IsCtor g n c → IsToken N (piece.Ctor n c)

pub under_sum : (d n : ℕ) → under d n ≡ d + n
under_sum d zero = omega arith
under_sum d (suc n) = let e = under_sum d n in omega (arith, e)

abbrev pub EachPrinted : Names → List Printed → Type 0
EachPrinted N [] = Unit {0}
EachPrinted N (f ∷ fs) = AreTokens N f.pieces × EachPrinted N fs

-- what `successor` and `form` choose from
abbrev pub successor_of : Option ℕ → Printed → Printed
successor_of o f = elim o [ Some n ↦ literal (suc n) | None ↦ worded keyword.Suc (f ∷ []) ]

abbrev pub form_of : Option Keyword → (g d : ℕ) → Head → List Printed → Printed
form_of o g d h fs = elim o [ Some w ↦ worded w fs | None ↦ written g d h fs ]

module _ (N : Names) where
  enclosed_t : (ps : List Piece) → AreTokens N ps → AreTokens N (enclosed ps)
  enclosed_t ps t = (mark_token N sign.OpenParen, app N ps (piece.Mark sign.CloseParen ∷ []) t (mark_token N sign.CloseParen, tt))

  either_t : (b : Bool) (ps qs : List Piece) → AreTokens N ps → AreTokens N qs → AreTokens N (if b then ps else qs)
  either_t true ps qs t u = t
  either_t false ps qs t u = u

  placed_t : (p : Place) (f : Printed) → AreTokens N f.pieces → AreTokens N (placed p f)
  placed_t p f t = either_t (stands p f.class) f.pieces (enclosed f.pieces) t (enclosed_t f.pieces t)

  atoms_t : (fs : List Printed) → EachPrinted N fs → AreTokens N (atoms fs)
  atoms_t [] t = tt
  atoms_t (f ∷ fs) t = app N (placed place.Atom f) (atoms fs) (placed_t place.Atom f t.0) (atoms_t fs t.1)

  worded_t : (w : Keyword) (fs : List Printed) → EachPrinted N fs → AreTokens N (worded w fs).pieces
  worded_t w [] t = (word_token N w, tt)
  worded_t w (f ∷ fs) t = (word_token N w, atoms_t (f ∷ fs) t)

  further_t : (fs : List Printed) → EachPrinted N fs → AreTokens N (further fs)
  further_t [] t = tt
  further_t (f ∷ fs) t = (mark_token N sign.Comma, app N f.pieces (further fs) t.0 (further_t fs t.1))

  pub listed_t : (fs : List Printed) → EachPrinted N fs → AreTokens N (listed fs)
  listed_t [] t = tt
  listed_t (f ∷ fs) t = app N f.pieces (further fs) t.0 (further_t fs t.1)

  bracketed_t : (fs : List Printed) (more : List Piece) → EachPrinted N fs → AreTokens N more → AreTokens N (bracketed fs more)
  bracketed_t fs more t u = (mark_token N sign.OpenBracket, app N (listed fs) (piece.Mark sign.CloseBracket ∷ more) (listed_t fs t) (mark_token N sign.CloseBracket, u))

  take_t : (k : ℕ) (fs : List Printed) → EachPrinted N fs → EachPrinted N (take k fs)
  take_t zero fs t = tt
  take_t (suc k) [] t = tt
  take_t (suc k) (f ∷ fs) t = (t.0, take_t k fs t.1)

  drop_t : (k : ℕ) (fs : List Printed) → EachPrinted N fs → EachPrinted N (drop k fs)
  drop_t zero fs t = t
  drop_t (suc k) [] t = tt
  drop_t (suc k) (f ∷ fs) t = drop_t k fs t.1

  -- a literal, or the word `suc` with its atom
  successor_t : (o : Option ℕ) (f : Printed) → AreTokens N f.pieces → IsSmall (successor_of o f).number → AreTokens N (successor_of o f).pieces
  successor_t (Some n) f t s = (natlit_token N (suc n) s, tt)
  successor_t None f t s = worded_t keyword.Suc (f ∷ []) (t, tt)

-- the variables below d are those of the globals, and fewer than 2 ^ 64 others
module _ (N : Names) (g : Globals) (tells : Tells N g) where
  abbrev G : ℕ
  G = length g.variables

  variable_t : (d : ℕ) → d < G + 2 ^ 64 → IsToken N (variable G d)
  variable_t d h = either (nat_lt d G) refl
    where
      either : (b : Bool) → nat_lt d G ≡ b → IsToken N (if b then piece.Global d else piece.Local (d - G))
      either true e = tells.globals d (ltb-true d G e)
      either false e = local_token N (d - G) (omega (arith, h))

  binder_t : (d : ℕ) (a b : Printed) (m : _) → d < G + 2 ^ 64 → AreTokens N a.pieces → AreTokens N b.pieces → AreTokens N (binder G d a (piece.Mark m) b)
  binder_t d a b m h t u = (mark_token N sign.OpenParen, (variable_t d h, (mark_token N sign.Colon, app N a.pieces (piece.Mark sign.CloseParen ∷ piece.Mark m ∷ b.pieces) t (mark_token N sign.CloseParen, (mark_token N m, u)))))

  defining_t : (d : ℕ) (a b : Printed) (more : List Piece) → d < G + 2 ^ 64 → AreTokens N a.pieces → AreTokens N b.pieces → AreTokens N more → AreTokens N (defining G d a b more)
  defining_t d a b more h t u v = (variable_t d h, (mark_token N sign.Colon, app N a.pieces (piece.Mark sign.Becomes ∷ (b.pieces ++ more)) t (mark_token N sign.Becomes, app N b.pieces more u v)))

  bound_t : (d : ℕ) (a b c : Printed) → d < G + 2 ^ 64 → AreTokens N a.pieces → AreTokens N b.pieces → AreTokens N c.pieces → AreTokens N (bound G d a b c)
  bound_t d a b c h t u v = defining_t d a b (piece.Mark sign.Semicolon ∷ c.pieces) h t u (mark_token N sign.Semicolon, v)

  names_t : (d n : ℕ) (more : List Piece) → under d n < G + 2 ^ 64 → AreTokens N more → AreTokens N (names G d n more)
  names_t d zero more h t = t
  names_t d (suc n) more h t =
      let e : under d n ≡ d + n = under_sum d n in
      let f : under (suc d) n ≡ suc d + n = under_sum (suc d) n in
      (variable_t d (omega (arith, e, h)), names_t (suc d) n more (omega (arith, e, f, h)) t)

  -- the bodies of branches are under so many variables as can be told apart
  abbrev Bounded : (d : ℕ) → List Branch → List Printed → Type 0
  Bounded d (b ∷ bs) (t ∷ ts) = (under d b.names < G + 2 ^ 64) × Bounded d bs ts
  Bounded d bs ts = Unit {0}

  arm_t : (d : ℕ) (b : Branch) (t : Printed) (more : List Piece) → IsCtor g b.type b.ctor → under d b.names < G + 2 ^ 64 → AreTokens N t.pieces → AreTokens N more → AreTokens N (arm G d b t more)
  arm_t d b t more c h u v = (tells.ctors b.type b.ctor c, names_t d b.names (piece.Mark sign.Dot ∷ (t.pieces ++ more)) h (mark_token N sign.Dot, app N t.pieces more u v))

  more_arms_t : (d : ℕ) (bs : List Branch) (ts : List Printed) → AreCtors g bs → Bounded d bs ts → EachPrinted N ts → AreTokens N (more_arms G d bs ts)
  more_arms_t d [] ts c h t = (mark_token N sign.CloseBrace, tt)
  more_arms_t d (b ∷ bs) [] c h t = (mark_token N sign.CloseBrace, tt)
  more_arms_t d (b ∷ bs) (u ∷ us) c h t = (mark_token N sign.Bar, arm_t d b u (more_arms G d bs us) c.0 h.0 t.0 (more_arms_t d bs us c.1 h.1 t.1))

  arms_t : (d : ℕ) (bs : List Branch) (ts : List Printed) → AreCtors g bs → Bounded d bs ts → EachPrinted N ts → AreTokens N (arms G d bs ts)
  arms_t d [] ts c h t = (mark_token N sign.CloseBrace, tt)
  arms_t d (b ∷ bs) [] c h t = (mark_token N sign.CloseBrace, tt)
  arms_t d (b ∷ bs) (u ∷ us) c h t = arm_t d b u (more_arms G d bs us) c.0 h.0 t.0 (more_arms_t d bs us c.1 h.1 t.1)

  -- the bodies of a `case`; a group has one definition
  abbrev BoundedIn : (d : ℕ) → Head → List Printed → Type 0
  BoundedIn d (CaseH bs) (t ∷ a ∷ ts) = Bounded d bs ts
  BoundedIn d (LetRecH n) (a ∷ t ∷ u ∷ []) = Unit {0}
  BoundedIn d (LetRecH n) fs = ⊥
  BoundedIn d h fs = Unit {0}

  written_t : (d : ℕ) (h : Head) (fs : List Printed) → d < G + 2 ^ 64 → IsBound g h → BoundedIn d h fs → IsSmall (written G d h fs).number → EachPrinted N fs → AreTokens N (written G d h fs).pieces
  written_t d ZeroH [] l b k s t = (natlit_token N 0 (omega arith), tt)
  written_t d SucH (f ∷ []) l b k s t = successor_t N f.number f t.0 s
  written_t d (PiH i) (a ∷ c ∷ []) l b k s t = (word_token N keyword.Pi, binder_t d a c sign.Arrow l t.0 t.1.0)
  written_t d (LamH i) (a ∷ c ∷ []) l b k s t = (mark_token N sign.Backslash, binder_t d a c sign.Dot l t.0 t.1.0)
  written_t d (AppH i) (a ∷ c ∷ []) l b k s t = app N (placed place.Application a) (placed place.Atom c) (placed_t N place.Application a t.0) (placed_t N place.Atom c t.1.0)
  written_t d LetH (a ∷ c ∷ e ∷ []) l b k s t = (word_token N keyword.MetaLet, bound_t d a c e l t.0 t.1.0 t.1.1.0)
  written_t d SigH (a ∷ c ∷ []) l b k s t = (word_token N keyword.Sig, binder_t d a c sign.Comma l t.0 t.1.0)
  written_t d LiftH (a ∷ []) l b k s t = (mark_token N sign.Caret, placed_t N place.Atom a t.0)
  written_t d QuoteH (a ∷ []) l b k s t = (mark_token N sign.Less, app N a.pieces (piece.Mark sign.Greater ∷ []) t.0 (mark_token N sign.Greater, tt))
  written_t d (DataH n) fs l b k s t = (tells.types n b, bracketed_t N fs [] t tt)
  written_t d ArrH (a ∷ c ∷ []) l b k s t = app N (placed place.Atom a) (piece.Mark sign.DoubleArrow ∷ c.pieces) (placed_t N place.Atom a t.0) (mark_token N sign.DoubleArrow, t.1.0)
  written_t d (LitH z) [] l b k s t = (whole_token N z b, tt)
  written_t d LetVH (a ∷ c ∷ e ∷ []) l b k s t = (word_token N keyword.Let, bound_t d a c e l t.0 t.1.0 t.1.1.0)
  written_t d (LetRecH n) (a ∷ c ∷ e ∷ []) l b k s t = (word_token N keyword.LetRec, defining_t d a c (piece.Mark sign.Semicolon ∷ e.pieces) l t.0 t.1.0 (mark_token N sign.Semicolon, t.1.1.0))
  written_t d (LetRecH n) [] l b k s t = absurd k
  written_t d (LetRecH n) (a ∷ []) l b k s t = absurd k
  written_t d (LetRecH n) (a ∷ c ∷ []) l b k s t = absurd k
  written_t d (LetRecH n) (a ∷ c ∷ e ∷ f ∷ fs) l b k s t = absurd k
  written_t d OLamH (a ∷ c ∷ []) l b k s t = (word_token N keyword.Fn, binder_t d a c sign.Dot l t.0 t.1.0)
  written_t d OAppH (a ∷ c ∷ []) l b k s t = app N (placed place.Chain a) (piece.Mark sign.At ∷ placed place.Atom c) (placed_t N place.Chain a t.0) (mark_token N sign.At, placed_t N place.Atom c t.1.0)
  written_t d (ConH n c m) fs l b k s t = (word_token N keyword.Con, (tells.ctors n c b, bracketed_t N (take m fs) _ (take_t N m fs t) (fields_token N, app N (listed (drop m fs)) (piece.Mark sign.CloseParen ∷ []) (listed_t N (drop m fs) (drop_t N m fs t)) (mark_token N sign.CloseParen, tt))))
  written_t d (CaseH bs) (a ∷ c ∷ fs) l b k s t = (word_token N keyword.Case, app N a.pieces _ t.0 (mark_token N sign.Colon, app N c.pieces _ t.1.0 (word_token N keyword.Of, (mark_token N sign.OpenBrace, arms_t d bs fs b k t.1.1))))
  written_t d SpliceH (a ∷ []) l b k s t = (mark_token N sign.Tilde, placed_t N place.Atom a t.0)
  written_t d (HoleH j) fs l b k s t = absurd b
  written_t d MarkH (a ∷ []) l b k s t = t.0
  written_t d h fs l b k s t = tt

  form_t : (d : ℕ) (h : Head) (fs : List Printed) (o : Option Keyword) → d < G + 2 ^ 64 → IsBound g h → BoundedIn d h fs → IsSmall (form_of o G d h fs).number → EachPrinted N fs → AreTokens N (form_of o G d h fs).pieces
  form_t d h fs (Some w) l b k s t = worded_t N w fs t
  form_t d h fs None l b k s t = written_t d h fs l b k s t

  scoped_under : (d : ℕ) (t : Tm) → IsScoped g d t → d < G + 2 ^ 64
  scoped_under d (var i) s = s.0
  scoped_under d (node h ts) s = s.0

  bodies_bounded : (d : ℕ) (bs : List Branch) (ts : Tms) → AreScoped g d (branch_parts bs) ts → Bounded d bs (printed_all G d (branch_parts bs) ts)
  bodies_bounded d [] ts s = tt
  bodies_bounded d (b ∷ bs) nil s = tt
  bodies_bounded d (b ∷ bs) (cons t ts) s = (scoped_under (under d b.names) t s.0, bodies_bounded d bs ts s.1)

  form_bounded : (d : ℕ) (h : Head) (ts : Tms) → HasParts h ts → AreScoped g d (parts h) ts → BoundedIn d h (printed_all G d (parts h) ts)
  form_bounded d (CaseH bs) nil p s = tt
  form_bounded d (CaseH bs) (cons t nil) p s = tt
  form_bounded d (CaseH bs) (cons t (cons a ts)) p s = bodies_bounded d bs ts s.1.1
  form_bounded d (LetRecH n) nil p s = absurd p
  form_bounded d (LetRecH n) (cons a nil) p s = absurd p
  form_bounded d (LetRecH n) (cons a (cons b nil)) p s = absurd p
  form_bounded d (LetRecH n) (cons a (cons b (cons c nil))) p s = tt
  form_bounded d (LetRecH n) (cons a (cons b (cons c (cons e ts)))) p s = absurd p
  form_bounded d h ts p s = tt

  mutual
    pub printed_t : (d : ℕ) (t : Tm) → IsScoped g d t → AreTokens N (printed G d t).pieces
    printed_t d (var i) s = (variable_t (d - suc i) (omega (arith, s.0, s.1)), tt)
    printed_t d (node h ts) s = form_t d h (printed_all G d (parts h) ts) (word_of h) s.0 s.1 (form_bounded d h ts s.2 s.4) s.3 (printed_all_t d (parts h) ts s.4)

    printed_all_t : (d : ℕ) (ps : List Part) (ts : Tms) → AreScoped g d ps ts → EachPrinted N (printed_all G d ps ts)
    printed_all_t d ps nil s = tt
    printed_all_t d ps (cons t ts) s = (printed_t (under d (first_part ps).binds) t s.0, printed_all_t d (rest_parts ps) ts s.1)
