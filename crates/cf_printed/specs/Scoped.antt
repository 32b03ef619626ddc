-- Programs of the core in which every name is a new one and every number stands for something declared above.
use Rattle.std.specs.Prelude.{ℕ, zero, suc, ◌+◌, ◌<◌, ◌^◌, ◌≡◌, true, false, List, [], ◌∷◌, length, IsTrue, Option, Some, None, slice_get}
use Rattle.cf_lex.specs.Lexed.{AreChars}
use Rattle.cf_lex.specs.Tokens.{spelled}
use Rattle.cf_lex.specs.declared.piece.Lexeme.TheVariants as lexeme
use Rattle.cf_lex.specs.declared.piece.Piece.TheVariants as read
use Rattle.cf_syntax.specs.Numbers.{fits_word}
use Rattle.cf_syntax.specs.Tokens.{begins_plain}
use Rattle.cf_term.specs.Core.{Tm, var, node, Tms, nil, cons, Part, parts, first_part, rest_parts, Branch, Head, PiH, LamH, AppH, LetH, SigH, PairH, FstH, SndH, UnitRecH, BoolRecH, SucH, NatRecH, ListTyH, NilH, ConsH, ListRecH, LiftH, QuoteH, VH, CH, DataH, ArrH, LitH, PrimH, LetVH, LetRecH, OLamH, OAppH, ConH, CaseH, FailH, SpliceH, HoleH, MarkH}
use Rattle.cf_rules.specs.Programs.{Constructor, Declaration, DataC, MetaC, ObjectC}
use Rattle.cf_elab.specs.Scope.{Globals, is_taken, with_variable, with_type, with_own, settled}
use Rattle.cf_elab.specs.declared.numbers.CtorNumber.{CtorNumber}
use Rattle.cf_core_text.specs.Pieces.{printed, under}

-- the bytes of a name that can be declared: it is no keyword, and does not begin with `_`
abbrev pub IsName : List ℕ → Type 0
IsName x = (cs : List ℕ) × AreChars x cs × (spelled cs ≡ Some (read.Token lexeme.Name)) × (begins_plain x ≡ true)

-- such a name, which nothing above has
abbrev pub IsNew : Globals → List ℕ → Type 0
IsNew g x = IsName x × (is_taken g x ≡ false)

-- some constructor that may be used has these numbers
abbrev pub IsCtor : Globals → (type ctor : ℕ) → Type 0
IsCtor g n c = (i : ℕ) × (x : List ℕ) × (k : CtorNumber) × (slice_get g.ctors i ≡ Some (x, k)) × (k.data_type ≡ n) × (k.ctor ≡ c)

abbrev pub AreCtors : Globals → List Branch → Type 0
AreCtors g [] = Unit {0}
AreCtors g (b ∷ bs) = IsCtor g b.type b.ctor × AreCtors g bs

-- what a form names is declared, its literal has 64 bits, and it is no hole; a group has one definition
abbrev pub IsBound : Globals → Head → Type 0
IsBound g (DataH n) = n < length g.types
IsBound g (ConH n c k) = IsCtor g n c
IsBound g (CaseH bs) = AreCtors g bs
IsBound g (LitH z) = IsTrue (fits_word z)
IsBound g (LetRecH n) = n ≡ 1
IsBound g (HoleH k) = ⊥
IsBound g h = Unit {0}

-- so many parts, or as many at least
abbrev pub Are : ℕ → Tms → Type 0
Are zero nil = Unit {0}
Are (suc n) (cons t ts) = Are n ts
Are _ _ = ⊥

abbrev pub AreAtLeast : ℕ → Tms → Type 0
AreAtLeast zero ts = Unit {0}
AreAtLeast (suc n) (cons t ts) = AreAtLeast n ts
AreAtLeast (suc n) nil = ⊥

-- a form has its parts; a constructor has its parameters and its fields, a `case` has two parts and a body for each branch
abbrev pub HasParts : Head → Tms → Type 0
HasParts (PiH i) ts = Are 2 ts
HasParts (LamH i) ts = Are 2 ts
HasParts (AppH i) ts = Are 2 ts
HasParts LetH ts = Are 3 ts
HasParts SigH ts = Are 2 ts
HasParts PairH ts = Are 3 ts
HasParts FstH ts = Are 1 ts
HasParts SndH ts = Are 1 ts
HasParts UnitRecH ts = Are 3 ts
HasParts BoolRecH ts = Are 4 ts
HasParts SucH ts = Are 1 ts
HasParts NatRecH ts = Are 4 ts
HasParts ListTyH ts = Are 1 ts
HasParts NilH ts = Are 1 ts
HasParts ConsH ts = Are 2 ts
HasParts ListRecH ts = Are 4 ts
HasParts LiftH ts = Are 1 ts
HasParts QuoteH ts = Are 1 ts
HasParts VH ts = Are 1 ts
HasParts CH ts = Are 1 ts
HasParts (DataH t) ts = Unit {0}
HasParts ArrH ts = Are 2 ts
HasParts (PrimH o) ts = Are 2 ts
HasParts LetVH ts = Are 3 ts
HasParts (LetRecH m) ts = Are 3 ts
HasParts OLamH ts = Are 2 ts
HasParts OAppH ts = Are 2 ts
HasParts (ConH t c k) ts = AreAtLeast k ts
HasParts (CaseH bs) ts = Are (suc (suc (length bs))) ts
HasParts FailH ts = Are 1 ts
HasParts SpliceH ts = Are 1 ts
HasParts MarkH ts = Are 1 ts
HasParts h ts = Are 0 ts

-- a number that is printed, where there is one, has 64 bits
abbrev pub IsSmall : Option ℕ → Type 0
IsSmall None = Unit {0}
IsSmall (Some n) = n < 2 ^ 64

-- a term under d variables, the outermost of which are globals; there are fewer than 2 ^ 64 others
abbrev mutual
  pub IsScoped : Globals → (d : ℕ) → Tm → Type 0
  IsScoped g d (var i) = (d < length g.variables + 2 ^ 64) × (i < d)
  IsScoped g d (node h ts) =
      (d < length g.variables + 2 ^ 64) × IsBound g h × HasParts h ts × IsSmall (printed (length g.variables) d (node h ts)).number × AreScoped g d (parts h) ts

  pub AreScoped : Globals → (d : ℕ) → List Part → Tms → Type 0
  AreScoped g d ps nil = Unit {0}
  AreScoped g d ps (cons t ts) = IsScoped g (under d (first_part ps).binds) t × AreScoped g d (rest_parts ps) ts

abbrev pub EachScoped : Globals → (d : ℕ) → List Tm → Type 0
EachScoped g d [] = Unit {0}
EachScoped g d (t ∷ ts) = IsScoped g d t × EachScoped g d ts

-- the numbers of the next constructor of the data type with number t, which has so many parameters
abbrev pub next_ctor : Globals → (t params : ℕ) → CtorNumber
next_ctor g t p = record { data_type = t; ctor = length g.own; params = p }

-- constructors of the data type with number t, which has p parameters
abbrev pub CtorsScoped : Globals → (t p : ℕ) → List Constructor → Type 0
CtorsScoped g t p [] = Unit {0}
CtorsScoped g t p (c ∷ cs) = IsNew g c.name × EachScoped g (under (length g.variables) p) c.fields × CtorsScoped (with_own c.name (next_ctor g t p) g) t p cs

abbrev pub below_ctors : Globals → (t p : ℕ) → List Constructor → Globals
below_ctors g t p [] = g
below_ctors g t p (c ∷ cs) = below_ctors (with_own c.name (next_ctor g t p) g) t p cs

-- a declaration, and what is declared below it
abbrev pub DeclScoped : Globals → Declaration → Type 0
DeclScoped g (DataC d) = IsNew g d.name × (d.params < 2 ^ 64) × CtorsScoped (with_type d.name g) (length g.types) d.params d.ctors
DeclScoped g (MetaC x a t) = IsNew g x × IsScoped g (length g.variables) a × IsScoped g (length g.variables) t
DeclScoped g (ObjectC x a t) = IsNew g x × IsScoped g (length g.variables) a × IsScoped g (length g.variables) t

abbrev pub below : Globals → Declaration → Globals
below g (DataC d) = settled (below_ctors (with_type d.name g) (length g.types) d.params d.ctors)
below g (MetaC x a t) = with_variable x g
below g (ObjectC x a t) = with_variable x g

-- declarations in order, each below those in front of it
abbrev pub AllScoped : Globals → List Declaration → Type 0
AllScoped g [] = Unit {0}
AllScoped g (d ∷ ds) = DeclScoped g d × AllScoped (below g d) ds
