-- Derivations of printed tokens, with what they mean.
use Rattle.std.proofs.Common.{◌≡◌, refl, subst, ℕ, false, List, [], ◌∷◌, ◌++◌, Some}
use Rattle.std.specs.Prelude.{slice_get}
use Rattle.cf_base.specs.declared.at.At.{At}
use Rattle.cf_lex.specs.declared.marks.Mark.TheVariants as sign
use Rattle.cf_grammar.specs.Grammar.{Takes, rules}
use Rattle.cf_grammar.specs.declared.classes.Class.{Class}
use Rattle.cf_grammar.specs.declared.classes.Class.TheVariants as class
use Rattle.cf_grammar.specs.declared.phrases.Phrase.{Phrase}
use Rattle.cf_grammar.specs.declared.phrases.Symbol.{Symbol}
use Rattle.cf_grammar.specs.declared.phrases.Symbol.TheVariants.{Phrase as a}
use Rattle.cf_parse.specs.Derivation.{Cst, leaf, branch, Csts, nil, cons, Parses, ParsesAll}
use Rattle.cf_syntax.specs.Places.{place}
use Rattle.cf_parse.specs.Meaning.{Sem, meaning, value, values}
use Rattle.cf_parse.specs.Meaning as meant
use Rattle.cf_syntax.specs.Tokens.{Token, begins_plain}
use Rattle.cf_core_text.specs.Names.{Names, ctor_name, global_name, type_name}
use Rattle.cf_core_text.specs.Text.{spelling}
use Rattle.cf_core_text.specs.declared.pieces.Piece.{Piece}
use Rattle.cf_core_text.specs.declared.pieces.Piece.TheVariants as piece

-- what the grammar sees of a printed token
abbrev pub class_of : Names → Piece → Class
class_of N (piece.Word w) = class.Word w
class_of N (piece.Mark m) = class.Mark m
class_of N piece.Fields = class.Mark sign.OpenParen
class_of N (piece.Global n) = class.Name (begins_plain (global_name N n))
class_of N (piece.Local k) = class.Name false
class_of N (piece.DataType n) = class.Name (begins_plain (type_name N n))
class_of N (piece.Ctor n c) = class.Name (begins_plain (ctor_name N n c))
class_of N (piece.Whole z) = class.Whole
class_of N (piece.NatLit n) = class.NatLit
class_of N (piece.Hole k) = class.Hole

-- a printed token that begins at byte n
abbrev pub token_at : Names → ℕ → Piece → Token
token_at N n p = record { at = n; class = class_of N p; text = spelling N p }

-- the place of the first of some tokens
abbrev pub at_of : List Token → At
at_of [] = place false 0
at_of (k ∷ ks) = place false k.at

-- a symbol derives the tokens in front of others, and means this
pub record Means (y : Symbol) (ks : List Token) (v : Sem) (rest : List Token) : Type 0 where
  pub cst : Cst
  pub parses : Parses y cst ks rest
  pub means : value false cst ≡ v

pub record MeansAll (ys : List Symbol) (ks : List Token) (vs : List Sem) (rest : List Token) : Type 0 where
  pub csts : Csts
  pub parses : ParsesAll ys csts ks rest
  pub means : values false csts ≡ vs

pub means_none : (ks : List Token) → MeansAll [] ks [] ks
means_none ks = record { csts = nil; parses = ParsesAll.none; means = refl }

pub means_both : {y : Symbol} {ys : List Symbol} {ks ls rest : List Token} {v : Sem} {vs : List Sem} → Means y ks v ls → MeansAll ys ls vs rest → MeansAll (y ∷ ys) ks (v ∷ vs) rest
means_both m ms = record { csts = cons m.cst ms.csts; parses = ParsesAll.both m.parses ms.parses; means = λ i. m.means i ∷ ms.means i }

pub means_token : {y : Symbol} (k : Token) (ks : List Token) → Takes y k.class → Means y (k ∷ ks) (meant.token (place false k.at) k.class k.text) ks
means_token k ks t = record { cst = leaf k; parses = Parses.token t; means = refl }

none_parses : {y : Symbol} {c : Cst} {rest : List Token} → Parses y c [] rest → ⊥
none_parses h = elim h [ ]

none_parse : {r : List Symbol} {cs : Csts} {t : Token} {ts : List Token} → ParsesAll r cs [] (t ∷ ts) → ⊥
none_parse (ParsesAll.both h hs) = none_parses h

-- a phrase by its right side with this number
pub means_phrase : (n : Phrase) (w : ℕ) {r : List Symbol} {vs : List Sem} (ks : List Token) (t : Token) (ts : List Token) → slice_get (rules n) w ≡ Some r → MeansAll r ks vs (t ∷ ts) → Means (a n) ks (meaning n w (at_of ks) vs) (t ∷ ts)
means_phrase n w [] t ts e m = absurd (none_parse m.parses)
means_phrase n w (k ∷ ks) t ts e m = record { cst = branch n w k.at m.csts; parses = Parses.phrase e m.parses; means = λ i. meaning n w (place false k.at) (m.means i) }

module _ (N : Names) where
  -- printed tokens, at some bytes, in front of other tokens
  pub data Spell : List Piece → List Token → List Token → Type 0 where
    none : {ks : List Token} → Spell [] ks ks
    more : {p : Piece} {ps : List Piece} {n : ℕ} {ks rest : List Token} → Spell ps ks rest → Spell (p ∷ ps) (token_at N n p ∷ ks) rest

  pub record Split (ps qs : List Piece) (ks rest : List Token) : Type 0 where
    pub mid : List Token
    pub front : Spell ps ks mid
    pub back : Spell qs mid rest

  pub split : (ps qs : List Piece) {ks rest : List Token} → Spell (ps ++ qs) ks rest → Split ps qs ks rest
  split [] qs {ks = ks} s = record { mid = ks; front = Spell.none; back = s }
  split (p ∷ ps) qs (Spell.more s) = let r = split ps qs s in record { mid = r.mid; front = Spell.more r.front; back = r.back }

  -- tokens in front of one are one or more
  pub record First (ks : List Token) : Type 0 where
    pub first : Token
    pub others : List Token
    pub is : ks ≡ first ∷ others

  pub first_of_all : (ps : List Piece) (ks : List Token) (t : Token) (ts : List Token) → Spell ps ks (t ∷ ts) → First ks
  first_of_all [] ks t ts Spell.none = record { first = t; others = ts; is = refl }
  first_of_all (p ∷ ps) ks t ts (Spell.more {n = n} {ks = ls} s) = record { first = token_at N n p; others = ls; is = refl }

  -- two parts of printed tokens in front of a token
  pub record Cut (ps qs : List Piece) (ks rest : List Token) : Type 0 where
    pub first : Token
    pub others : List Token
    pub front : Spell ps ks (first ∷ others)
    pub back : Spell qs (first ∷ others) rest

  pub cut : (ps qs : List Piece) (ks : List Token) (t : Token) (ts : List Token) → Spell (ps ++ qs) ks (t ∷ ts) → Cut ps qs ks (t ∷ ts)
  cut ps qs ks t ts s =
      let r = split ps qs s in
      let m = first_of_all qs r.mid t ts r.back in
      record { first = m.first; others = m.others; front = subst (λ l. Spell ps ks l) m.is r.front; back = subst (λ l. Spell qs l (t ∷ ts)) m.is r.back }

  -- a symbol derives printed tokens, whatever follows them, and means f of something
  abbrev pub Gives : (y : Symbol) (ps : List Piece) {A : Type 0} (f : A → Sem) → Type 0
  Gives y ps {A = A} f = (ks : List Token) (t : Token) (ts : List Token) → Spell ps ks (t ∷ ts) → (x : A) × Means y ks (f x) (t ∷ ts)

  abbrev pub GivesAll : (ys : List Symbol) (ps : List Piece) {A : Type 0} (f : A → List Sem) → Type 0
  GivesAll ys ps {A = A} f = (ks : List Token) (t : Token) (ts : List Token) → Spell ps ks (t ∷ ts) → (x : A) × MeansAll ys ks (f x) (t ∷ ts)

  pub g_none : GivesAll [] [] {A = Unit {0}} (λ x. [])
  g_none ks t ts Spell.none = (tt, means_none (t ∷ ts))

  -- a token, and more
  pub g_token : {y : Symbol} {ys : List Symbol} (p : Piece) (ps : List Piece) {A : Type 0} {f : A → List Sem} → Takes y (class_of N p) → GivesAll ys ps f → GivesAll (y ∷ ys) (p ∷ ps) {A = ℕ × A} (λ x. meant.token (place false x.0) (class_of N p) (spelling N p) ∷ f x.1)
  g_token p ps h g ks t ts (Spell.more {n = n} {ks = ls} s) = let r = g ls t ts s in ((n, r.0), means_both (means_token (token_at N n p) ls h) r.1)

  -- a phrase, and more
  pub g_both : {y : Symbol} {ys : List Symbol} (ps qs : List Piece) {A B : Type 0} {f : A → Sem} {h : B → List Sem} → Gives y ps f → GivesAll ys qs h → GivesAll (y ∷ ys) (ps ++ qs) {A = A × B} (λ x. f x.0 ∷ h x.1)
  g_both ps qs g gs ks t ts s =
      let r = cut ps qs ks t ts s in
      let x = g ks r.first r.others r.front in
      let z = gs (r.first ∷ r.others) t ts r.back in
      ((x.0, z.0), means_both x.1 z.1)

  -- a phrase by its right side with this number
  pub g_phrase : (n : Phrase) (w : ℕ) {r : List Symbol} {ps : List Piece} {A : Type 0} {f : A → List Sem} → slice_get (rules n) w ≡ Some r → GivesAll r ps f → Gives (a n) ps {A = At × A} (λ x. meaning n w x.0 (f x.1))
  g_phrase n w e g ks t ts s = let r = g ks t ts s in ((at_of ks, r.0), means_phrase n w ks t ts e r.1)

  -- a phrase alone
  pub g_last : {y : Symbol} (ps : List Piece) {A : Type 0} {f : A → Sem} → Gives y ps f → GivesAll (y ∷ []) ps {A = A} (λ x. f x ∷ [])
  g_last ps g ks t ts s = let r = g ks t ts s in (r.0, means_both r.1 (means_none (t ∷ ts)))

  -- what it means, said otherwise
  pub g_map : {y : Symbol} {ps : List Piece} {A B : Type 0} {f : A → Sem} {h : B → Sem} → Gives y ps f → (k : A → B) → ((x : A) → f x ≡ h (k x)) → Gives y ps h
  g_map {y = y} g k e ks t ts s = let r = g ks t ts s in (k r.0, subst (λ v. Means y ks v (t ∷ ts)) (e r.0) r.1)

  -- the same tokens
  pub g_same : {y : Symbol} {ps qs : List Piece} {A : Type 0} {f : A → Sem} → ps ≡ qs → Gives y ps f → Gives y qs f
  g_same {y = y} {f = f} e g = subst (λ z. Gives y z f) e g
