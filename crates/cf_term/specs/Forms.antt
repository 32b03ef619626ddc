-- Names for the forms of the table: each is a term and a pattern.
use Rattle.std.specs.Prelude.{ℕ, Bool, List, ℤ}
use Rattle.cf_term.specs.Core.{Tm, node, Tms, nil, cons, Branch, MetaTyH, ValTyH, CompTyH, TyH, PiH, LamH, AppH, LetH, SigH, PairH, FstH, SndH, UnitTyH, UnitH, UnitRecH, BoolTyH, TrueH, FalseH, BoolRecH, NatTyH, ZeroH, SucH, NatRecH, ListTyH, NilH, ConsH, ListRecH, LiftH, QuoteH, VH, CH, IntTyH, DataH, ArrH, LitH, PrimH, LetVH, LetRecH, OLamH, OAppH, ConH, CaseH, FailH, SpliceH, HoleH, MarkH}
use Rattle.cf_term.specs.declared.operations.Op.{Op}

pattern abbrev pub MetaTy : Tm
MetaTy = node MetaTyH nil

pattern abbrev pub ValTy : Tm
ValTy = node ValTyH nil

pattern abbrev pub CompTy : Tm
CompTy = node CompTyH nil

pattern abbrev pub Ty : Tm
Ty = node TyH nil

pattern abbrev pub Pi : Bool → Tm → Tm → Tm
Pi i a b = node (PiH i) (cons a (cons b nil))

pattern abbrev pub Lam : Bool → Tm → Tm → Tm
Lam i a t = node (LamH i) (cons a (cons t nil))

pattern abbrev pub App : Bool → Tm → Tm → Tm
App i t u = node (AppH i) (cons t (cons u nil))

pattern abbrev pub Let : Tm → Tm → Tm → Tm
Let a t u = node LetH (cons a (cons t (cons u nil)))

pattern abbrev pub Sig : Tm → Tm → Tm
Sig a b = node SigH (cons a (cons b nil))

pattern abbrev pub Pair : Tm → Tm → Tm → Tm
Pair s t u = node PairH (cons s (cons t (cons u nil)))

pattern abbrev pub Fst : Tm → Tm
Fst t = node FstH (cons t nil)

pattern abbrev pub Snd : Tm → Tm
Snd t = node SndH (cons t nil)

pattern abbrev pub UnitTy : Tm
UnitTy = node UnitTyH nil

pattern abbrev pub Triv : Tm
Triv = node UnitH nil

pattern abbrev pub UnitRec : Tm → Tm → Tm → Tm
UnitRec p u n = node UnitRecH (cons p (cons u (cons n nil)))

pattern abbrev pub BoolTy : Tm
BoolTy = node BoolTyH nil

pattern abbrev pub True : Tm
True = node TrueH nil

pattern abbrev pub False : Tm
False = node FalseH nil

pattern abbrev pub BoolRec : Tm → Tm → Tm → Tm → Tm
BoolRec p t f n = node BoolRecH (cons p (cons t (cons f (cons n nil))))

pattern abbrev pub NatTy : Tm
NatTy = node NatTyH nil

pattern abbrev pub Zero : Tm
Zero = node ZeroH nil

pattern abbrev pub Suc : Tm → Tm
Suc n = node SucH (cons n nil)

pattern abbrev pub NatRec : Tm → Tm → Tm → Tm → Tm
NatRec p z s n = node NatRecH (cons p (cons z (cons s (cons n nil))))

pattern abbrev pub ListTy : Tm → Tm
ListTy a = node ListTyH (cons a nil)

pattern abbrev pub Nil : Tm → Tm
Nil a = node NilH (cons a nil)

pattern abbrev pub Cons : Tm → Tm → Tm
Cons t u = node ConsH (cons t (cons u nil))

pattern abbrev pub ListRec : Tm → Tm → Tm → Tm → Tm
ListRec p n c l = node ListRecH (cons p (cons n (cons c (cons l nil))))

pattern abbrev pub Lift : Tm → Tm
Lift a = node LiftH (cons a nil)

pattern abbrev pub Quote : Tm → Tm
Quote o = node QuoteH (cons o nil)

pattern abbrev pub V : Tm → Tm
V a = node VH (cons a nil)

pattern abbrev pub C : Tm → Tm
C b = node CH (cons b nil)

pattern abbrev pub IntTy : Tm
IntTy = node IntTyH nil

pattern abbrev pub Data : ℕ → Tms → Tm
Data d ts = node (DataH d) ts

pattern abbrev pub Arr : Tm → Tm → Tm
Arr a b = node ArrH (cons a (cons b nil))

pattern abbrev pub Lit : ℤ → Tm
Lit z = node (LitH z) nil

pattern abbrev pub Prim : Op → Tm → Tm → Tm
Prim o t u = node (PrimH o) (cons t (cons u nil))

pattern abbrev pub LetV : Tm → Tm → Tm → Tm
LetV a t u = node LetVH (cons a (cons t (cons u nil)))

pattern abbrev pub LetRec : ℕ → Tms → Tm
LetRec n ts = node (LetRecH n) ts

pattern abbrev pub OLam : Tm → Tm → Tm
OLam a t = node OLamH (cons a (cons t nil))

pattern abbrev pub OApp : Tm → Tm → Tm
OApp t u = node OAppH (cons t (cons u nil))

pattern abbrev pub Con : ℕ → ℕ → ℕ → Tms → Tm
Con d c m ts = node (ConH d c m) ts

pattern abbrev pub Case : List Branch → Tm → Tm → Tms → Tm
Case bs t b ts = node (CaseH bs) (cons t (cons b ts))

pattern abbrev pub Fail : Tm → Tm
Fail a = node FailH (cons a nil)

pattern abbrev pub Splice : Tm → Tm
Splice u = node SpliceH (cons u nil)

pattern abbrev pub Hole : ℕ → Tm
Hole k = node (HoleH k) nil

pattern abbrev pub Mark : Tm → Tm
Mark t = node MarkH (cons t nil)
