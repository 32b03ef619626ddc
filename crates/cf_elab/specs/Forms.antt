-- The core form of each written form.
use Rattle.std.specs.Prelude.{ℕ, zero, suc, List}
use Rattle.cf_term.specs.declared.operations.Op.{Op}
use Rattle.cf_term.specs.declared.operations.Op.TheVariants as core
use Rattle.cf_term.specs.Core.{Tm, node, Tms, cons, Branch, Head, MetaTyH, ValTyH, CompTyH, TyH, PiH, LamH, AppH, LetH, SigH, PairH, FstH, SndH, UnitTyH, UnitH, UnitRecH, BoolTyH, TrueH, FalseH, BoolRecH, NatTyH, ZeroH, SucH, NatRecH, ListTyH, NilH, ConsH, ListRecH, LiftH, QuoteH, VH, CH, IntTyH, ArrH, LitH, PrimH, LetVH, LetRecH, OLamH, OAppH, CaseH, FailH, SpliceH}
use Rattle.cf_term.specs.Forms.{Zero, Suc}
use Rattle.cf_elab.specs.Resolving.{Resolving, pure, fresh}
use Rattle.cf_tree.specs.declared.heads.Op as written
use Rattle.cf_tree.specs.declared.heads.Op.TheVariants as op
use Rattle.cf_tree.specs.declared.heads.Head as tree
use Rattle.cf_tree.specs.declared.heads.Head.TheVariants as head

-- the operation of the same name
abbrev pub core_op : written.Op → Op
core_op op.Add = core.Add
core_op op.Sub = core.Sub
core_op op.Mul = core.Mul
core_op op.Div = core.Div
core_op op.Rem = core.Rem
core_op op.Eq = core.Eq
core_op op.Lt = core.Lt

-- k times `suc` on `zero`
abbrev pub numeral : ℕ → Tm
numeral zero = Zero
numeral (suc k) = Suc (numeral k)

-- how many definitions stand among the parts of a `letrec`: each is a type and a body, and the last part is alone
abbrev pub definitions : Tms → ℕ
definitions (cons a (cons t ts)) = suc (definitions ts)
definitions _ = 0

-- the form itself, which takes no hole
abbrev pub plain : Head → Tms → Resolving Tm
plain h ts = pure (node h ts)

-- the core of a form over its finished parts, the branches of a `case` beside them
abbrev pub formed : tree.Head → List Branch → Tms → Resolving Tm
formed head.MetaTy bs ts = plain MetaTyH ts
formed head.ValTy bs ts = plain ValTyH ts
formed head.CompTy bs ts = plain CompTyH ts
formed head.Ty bs ts = plain TyH ts
formed (head.Pi i) bs ts = plain (PiH i) ts
formed (head.Lam i) bs ts = plain (LamH i) ts
formed (head.App i) bs ts = plain (AppH i) ts
formed head.Let bs ts = plain LetH ts
formed head.Sig bs ts = plain SigH ts
formed head.Pair bs ts = plain PairH ts
formed head.Fst bs ts = plain FstH ts
formed head.Snd bs ts = plain SndH ts
formed head.UnitTy bs ts = plain UnitTyH ts
formed head.Unit bs ts = plain UnitH ts
formed head.UnitRec bs ts = plain UnitRecH ts
formed head.BoolTy bs ts = plain BoolTyH ts
formed head.True bs ts = plain TrueH ts
formed head.False bs ts = plain FalseH ts
formed head.BoolRec bs ts = plain BoolRecH ts
formed head.NatTy bs ts = plain NatTyH ts
formed head.Zero bs ts = plain ZeroH ts
formed head.Suc bs ts = plain SucH ts
formed (head.NatLit k) bs ts = pure (numeral k)
formed head.NatRec bs ts = plain NatRecH ts
formed head.ListTy bs ts = plain ListTyH ts
formed head.Nil bs ts = plain NilH ts
formed head.Cons bs ts = plain ConsH ts
formed head.ListRec bs ts = plain ListRecH ts
formed head.Lift bs ts = plain LiftH ts
formed head.Quote bs ts = plain QuoteH ts
formed head.V bs ts = plain VH ts
formed head.C bs ts = plain CH ts
formed head.IntTy bs ts = plain IntTyH ts
formed head.Arr bs ts = plain ArrH ts
formed (head.Lit z) bs ts = plain (LitH z) ts
formed (head.Prim o) bs ts = plain (PrimH (core_op o)) ts
formed head.LetV bs ts = plain LetVH ts
formed head.LetRec bs ts = plain (LetRecH (definitions ts)) ts
formed head.OLam bs ts = plain OLamH ts
formed head.OApp bs ts = plain OAppH ts
formed head.Case bs ts = plain (CaseH bs) ts
formed head.Fail bs ts = plain FailH ts
formed head.Splice bs ts = plain SpliceH ts
formed head.Hole bs ts = fresh
formed head.Missing bs ts = fresh
