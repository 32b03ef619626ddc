-- The heads that shapes are seen as, and how many parts a form has.
use Rattle.std.specs.Prelude.{ℕ, ◌≡◌, ◌+◌, ◌*◌, ◌≤◌, List, [], ◌∷◌, length}
use Rattle.cf_term.specs.Core.{Head, Branch, MetaTyH, ValTyH, CompTyH, TyH, PiH, LamH, AppH, LetH, SigH, PairH, FstH, SndH, UnitTyH, UnitH, UnitRecH, BoolTyH, TrueH, FalseH, BoolRecH, NatTyH, ZeroH, SucH, NatRecH, ListTyH, NilH, ConsH, ListRecH, LiftH, QuoteH, VH, CH, IntTyH, DataH, ArrH, LitH, PrimH, LetVH, LetRecH, OLamH, OAppH, ConH, CaseH, FailH, SpliceH, HoleH, MarkH}
use Rattle.cf_value.specs.declared.shapes.Arm.{Arm}
use Rattle.cf_value.specs.declared.shapes.Shape.{Shape}
use Rattle.cf_value.specs.declared.shapes.Shape.TheVariants as shape

-- the branches of a case
abbrev pub branches : List Arm → List Branch
branches [] = []
branches (a ∷ more) = record { type = a.data_type; ctor = a.ctor; names = a.names } ∷ branches more

-- one line for each form
abbrev pub head_of : Shape → Head
head_of shape.MetaTy = MetaTyH
head_of shape.ValTy = ValTyH
head_of shape.CompTy = CompTyH
head_of shape.Ty = TyH
head_of (shape.Pi i) = PiH i
head_of (shape.Lam i) = LamH i
head_of (shape.App i) = AppH i
head_of shape.Let = LetH
head_of shape.Sig = SigH
head_of shape.Pair = PairH
head_of shape.Fst = FstH
head_of shape.Snd = SndH
head_of shape.UnitTy = UnitTyH
head_of shape.Unit = UnitH
head_of shape.UnitRec = UnitRecH
head_of shape.BoolTy = BoolTyH
head_of shape.True = TrueH
head_of shape.False = FalseH
head_of shape.BoolRec = BoolRecH
head_of shape.NatTy = NatTyH
head_of shape.Zero = ZeroH
head_of shape.Suc = SucH
head_of shape.NatRec = NatRecH
head_of shape.ListTy = ListTyH
head_of shape.Nil = NilH
head_of shape.Cons = ConsH
head_of shape.ListRec = ListRecH
head_of shape.Lift = LiftH
head_of shape.Quote = QuoteH
head_of shape.V = VH
head_of shape.C = CH
head_of shape.IntTy = IntTyH
head_of (shape.Data d) = DataH d
head_of shape.Arr = ArrH
head_of (shape.Lit z) = LitH z
head_of (shape.Prim o) = PrimH o
head_of shape.LetV = LetVH
head_of (shape.LetRec n) = LetRecH n
head_of shape.OLam = OLamH
head_of shape.OApp = OAppH
head_of (shape.Con d c m) = ConH d c m
head_of (shape.Case more) = CaseH (branches more.items)
head_of shape.Fail = FailH
head_of shape.Splice = SpliceH
head_of (shape.Hole k) = HoleH k

-- how many parts a form has; a data type and a constructor may have more
abbrev pub arity : Head → ℕ
arity (PiH i) = 2
arity (LamH i) = 2
arity (AppH i) = 2
arity LetH = 3
arity SigH = 2
arity PairH = 3
arity FstH = 1
arity SndH = 1
arity UnitRecH = 3
arity BoolRecH = 4
arity SucH = 1
arity NatRecH = 4
arity ListTyH = 1
arity NilH = 1
arity ConsH = 2
arity ListRecH = 4
arity LiftH = 1
arity QuoteH = 1
arity VH = 1
arity CH = 1
arity ArrH = 2
arity (PrimH o) = 2
arity LetVH = 3
arity (LetRecH n) = 2 * n + 1
arity OLamH = 2
arity OAppH = 2
arity (ConH d c m) = m
arity (CaseH bs) = length bs + 2
arity FailH = 1
arity SpliceH = 1
arity MarkH = 1
arity _ = 0

-- a form of this head can have n parts
abbrev pub Fits : Head → ℕ → Type 0
Fits (DataH d) n = Unit {0}
Fits (ConH d c m) n = m ≤ n
Fits h n = n ≡ arity h
