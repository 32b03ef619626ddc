-- The root of a term in three pieces, as it is compared: its form, its own numbers, and its branches.
use Rattle.std.specs.Prelude.{List, []}
use Rattle.cf_term.specs.Core.{Tm, var, node, Branch, MetaTyH, ValTyH, CompTyH, TyH, LetH, SigH, PairH, FstH, SndH, UnitTyH, UnitH, UnitRecH, BoolTyH, TrueH, FalseH, BoolRecH, NatTyH, ZeroH, SucH, NatRecH, ListTyH, NilH, ConsH, ListRecH, LiftH, QuoteH, VH, CH, IntTyH, ArrH, LetVH, OLamH, OAppH, FailH, SpliceH, PiH, LamH, AppH, DataH, LitH, PrimH, LetRecH, ConH, CaseH, HoleH, MarkH}
use Rattle.cf_term.specs.declared.comparing.Form.{Form}
use Rattle.cf_term.specs.declared.comparing.Form.TheVariants as form
use Rattle.cf_term.specs.declared.comparing.Own.{Own}
use Rattle.cf_term.specs.declared.comparing.Own.TheVariants as own

-- a mark, which is no form, counts as the first one
abbrev pub form_of : Tm → Form
form_of (var i) = form.Var
form_of (node MetaTyH ts) = form.MetaTy
form_of (node ValTyH ts) = form.ValTy
form_of (node CompTyH ts) = form.CompTy
form_of (node TyH ts) = form.Ty
form_of (node LetH ts) = form.Let
form_of (node SigH ts) = form.Sig
form_of (node PairH ts) = form.Pair
form_of (node FstH ts) = form.Fst
form_of (node SndH ts) = form.Snd
form_of (node UnitTyH ts) = form.UnitTy
form_of (node UnitH ts) = form.Unit
form_of (node UnitRecH ts) = form.UnitRec
form_of (node BoolTyH ts) = form.BoolTy
form_of (node TrueH ts) = form.True
form_of (node FalseH ts) = form.False
form_of (node BoolRecH ts) = form.BoolRec
form_of (node NatTyH ts) = form.NatTy
form_of (node ZeroH ts) = form.Zero
form_of (node SucH ts) = form.Suc
form_of (node NatRecH ts) = form.NatRec
form_of (node ListTyH ts) = form.ListTy
form_of (node NilH ts) = form.Nil
form_of (node ConsH ts) = form.Cons
form_of (node ListRecH ts) = form.ListRec
form_of (node LiftH ts) = form.Lift
form_of (node QuoteH ts) = form.Quote
form_of (node VH ts) = form.V
form_of (node CH ts) = form.C
form_of (node IntTyH ts) = form.IntTy
form_of (node ArrH ts) = form.Arr
form_of (node LetVH ts) = form.LetV
form_of (node OLamH ts) = form.OLam
form_of (node OAppH ts) = form.OApp
form_of (node FailH ts) = form.Fail
form_of (node SpliceH ts) = form.Splice
form_of (node (PiH i) ts) = form.Pi
form_of (node (LamH i) ts) = form.Lam
form_of (node (AppH i) ts) = form.App
form_of (node (DataH d) ts) = form.Data
form_of (node (LitH z) ts) = form.Lit
form_of (node (PrimH o) ts) = form.Prim
form_of (node (LetRecH n) ts) = form.LetRec
form_of (node (ConH d c m) ts) = form.Con
form_of (node (CaseH bs) ts) = form.Case
form_of (node (HoleH k) ts) = form.Hole
form_of (node MarkH ts) = form.MetaTy

-- the numbers of a form that are no parts
abbrev pub own_of : Tm → Own
own_of (var i) = own.Index i
own_of (node (HoleH k) ts) = own.Index k
own_of (node (DataH d) ts) = own.Index d
own_of (node (LitH z) ts) = own.Integer z
own_of (node (PrimH o) ts) = own.Operation o
own_of (node (LetRecH n) ts) = own.Count n
own_of (node (ConH d c m) ts) = own.Constructor d c m
own_of (node _ ts) = own.Nothing

-- the branches, where the form is a case
abbrev pub branches_of : Tm → List Branch
branches_of (node (CaseH bs) ts) = bs
branches_of _ = []
