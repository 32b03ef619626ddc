-- Declarations that are printed part by part.
use Rattle.std.proofs.Common.{◌≡◌, ℕ, suc, ◌+◌, ◌-◌, ◌<◌, ◌≤◌, ◌++◌, map, length, get_or, drop, List, [], ◌∷◌, refl, ap, ◌∙◌, arith, add-one}
use Rattle.std.proofs.lemmas.List.{drop_all}
use Rattle.cf_lex.specs.declared.keywords.Keyword.TheVariants as keyword
use Rattle.cf_lex.specs.declared.marks.Mark.TheVariants as sign
use Rattle.cf_term.specs.Core.{Tm}
use Rattle.cf_rules.specs.Programs.{Constructor}
use Rattle.cf_core_text.specs.declared.pieces.Piece.{Piece}
use Rattle.cf_core_text.specs.declared.pieces.Piece.TheVariants as piece
use Rattle.cf_core_text.specs.Pieces.{printed, listed, further}
use Rattle.cf_core_text.specs.Lines.{bar, constructor, constructors, parameters}
use Rattle.cf_core_text.proofs.Steps.{next_of, grows, twice}

fields_next : (g d : ℕ) (ts : List Tm) (k : ℕ) (t : Tm) → k < length ts → t ≡ get_or ts k t
    → further (map (printed g d) (drop k ts)) ≡ (piece.Mark sign.Comma ∷ (printed g d t).pieces) ++ further (map (printed g d) (drop (k + 1) ts))
fields_next g d ts k t h e = rw (next_of ts k t h e) refl

pub fields_step : (g d : ℕ) (ts : List Tm) (k : ℕ) (t : Tm) (old mid new all : List Piece) → old ++ further (map (printed g d) (drop k ts)) ≡ all
    → mid ≡ old ++ piece.Mark sign.Comma ∷ [] → new ≡ mid ++ (printed g d t).pieces → k < length ts → t ≡ get_or ts k t
    → new ++ further (map (printed g d) (drop (k + 1) ts)) ≡ all
fields_step g d ts k t old mid new all e f i h j =
    grows old new (further (map (printed g d) (drop k ts))) (piece.Mark sign.Comma ∷ (printed g d t).pieces) (further (map (printed g d) (drop (k + 1) ts))) all e
    (twice old mid new (piece.Mark sign.Comma ∷ []) (printed g d t).pieces f i)
    (fields_next g d ts k t h j)

pub fields_end : (g d : ℕ) (ts : List Tm) (k : ℕ) → length ts ≤ k → further (map (printed g d) (drop k ts)) ≡ []
fields_end g d ts k h = rw (drop_all k ts h) refl

pub fields_first : (g d : ℕ) (ts rest : List Tm) (t : Tm) → 1 ≤ length ts → t ≡ get_or ts 0 t → rest ≡ drop 1 ts
    → (printed g d t).pieces ++ further (map (printed g d) rest) ≡ listed (map (printed g d) ts)
fields_first g d [] rest t h e r = absurd (omega arith)
fields_first g d (x ∷ xs) rest t h e r = rw (r, e) refl

ctors_next : (g d t : ℕ) (ks : List Constructor) (n : ℕ) (k : Constructor) → n < length ks → k ≡ get_or ks n k
    → constructors g d t n (drop n ks) ≡ (bar n ++ constructor g d t n k) ++ constructors g d t (n + 1) (drop (n + 1) ks)
ctors_next g d t ks n k h e = rw (next_of ks n k h e) (rw (add-one n) refl)

pub ctors_step : (g d t : ℕ) (ks : List Constructor) (n : ℕ) (k : Constructor) (old mid new all : List Piece) → old ++ constructors g d t n (drop n ks) ≡ all
    → mid ≡ old ++ bar n → new ≡ mid ++ constructor g d t n k → n < length ks → k ≡ get_or ks n k → new ++ constructors g d t (n + 1) (drop (n + 1) ks) ≡ all
ctors_step g d t ks n k old mid new all e f i h j =
    grows old new (constructors g d t n (drop n ks)) (bar n ++ constructor g d t n k) (constructors g d t (n + 1) (drop (n + 1) ks)) all e
    (twice old mid new (bar n) (constructor g d t n k) f i)
    (ctors_next g d t ks n k h j)

pub ctors_end : (g d t : ℕ) (ks : List Constructor) (n : ℕ) → length ks ≤ n → constructors g d t n (drop n ks) ≡ []
ctors_end g d t ks n h = rw (drop_all n ks h) refl

pub parameters_next : (n k : ℕ) → k < n
    → parameters k (n - k) ≡ (piece.Mark sign.OpenParen ∷ piece.Local k ∷ piece.Mark sign.Colon ∷ piece.Word keyword.ValTy ∷ piece.Mark sign.CloseParen ∷ []) ++ parameters (k + 1) (n - (k + 1))
parameters_next n k h =
    let e : n - k ≡ suc (n - (k + 1)) = omega arith in
    rw e (rw (add-one k) refl)

pub parameters_end : (n k : ℕ) → n ≤ k → parameters k (n - k) ≡ []
parameters_end n k h =
    let e : n - k ≡ 0 = omega arith in
    rw e refl

pub fields_all : (g d : ℕ) (ts rest : List Tm) (t : Tm) (old mid new : List Piece) → mid ≡ old ++ (printed g d t).pieces → new ≡ mid ++ further (map (printed g d) rest)
    → 1 ≤ length ts → t ≡ get_or ts 0 t → rest ≡ drop 1 ts → new ≡ old ++ listed (map (printed g d) ts)
fields_all g d ts rest t old mid new e f h i r =
    twice old mid new (printed g d t).pieces (further (map (printed g d) rest)) e f ∙ ap (λ ps. old ++ ps) (fields_first g d ts rest t h i r)
