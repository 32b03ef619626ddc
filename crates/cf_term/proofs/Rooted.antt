-- A root is its form with its own numbers and its branches.
use Rattle.std.proofs.Common.{◌≡◌, ℕ, ℤ, pos, false, List, refl, ap, sym, ◌∙◌, arith}
use Rattle.cf_term.specs.Core.{Tm, var, node, nil, Branch, MetaTyH, ValTyH, CompTyH, TyH, LetH, SigH, PairH, FstH, SndH, UnitTyH, UnitH, UnitRecH, BoolTyH, TrueH, FalseH, BoolRecH, NatTyH, ZeroH, SucH, NatRecH, ListTyH, NilH, ConsH, ListRecH, LiftH, QuoteH, VH, CH, IntTyH, ArrH, LetVH, OLamH, OAppH, FailH, SpliceH, PiH, LamH, AppH, DataH, LitH, PrimH, LetRecH, ConH, CaseH, HoleH, MarkH}
use Rattle.cf_term.specs.declared.operations.Op.{Op}
use Rattle.cf_term.specs.declared.operations.Op.TheVariants as op
use Rattle.cf_term.specs.declared.comparing.Form.{Form}
use Rattle.cf_term.specs.declared.comparing.Form.TheVariants as form
use Rattle.cf_term.specs.declared.comparing.Own.{Own}
use Rattle.cf_term.specs.declared.comparing.Own.TheVariants as own
use Rattle.cf_term.specs.Same.{root}
use Rattle.cf_term.specs.Roots.{form_of, own_of, branches_of}
use Rattle.cf_term.proofs.Measured.{weight_of}

abbrev index : Own → ℕ
index (own.Index i) = i
index _ = 0

abbrev integer : Own → ℤ
integer (own.Integer z) = z
integer _ = pos 0

abbrev operation : Own → Op
operation (own.Operation o) = o
operation _ = op.Add

abbrev size : Own → ℕ
size (own.Count n) = n
size _ = 0

abbrev constructor_type : Own → ℕ
constructor_type (own.Constructor d c m) = d
constructor_type _ = 0

abbrev constructor_number : Own → ℕ
constructor_number (own.Constructor d c m) = c
constructor_number _ = 0

abbrev constructor_params : Own → ℕ
constructor_params (own.Constructor d c m) = m
constructor_params _ = 0

-- the root of these pieces
abbrev root_at : Form → Own → List Branch → Tm
root_at form.Var o bs = var (index o)
root_at form.MetaTy o bs = node MetaTyH nil
root_at form.ValTy o bs = node ValTyH nil
root_at form.CompTy o bs = node CompTyH nil
root_at form.Ty o bs = node TyH nil
root_at form.Let o bs = node LetH nil
root_at form.Sig o bs = node SigH nil
root_at form.Pair o bs = node PairH nil
root_at form.Fst o bs = node FstH nil
root_at form.Snd o bs = node SndH nil
root_at form.UnitTy o bs = node UnitTyH nil
root_at form.Unit o bs = node UnitH nil
root_at form.UnitRec o bs = node UnitRecH nil
root_at form.BoolTy o bs = node BoolTyH nil
root_at form.True o bs = node TrueH nil
root_at form.False o bs = node FalseH nil
root_at form.BoolRec o bs = node BoolRecH nil
root_at form.NatTy o bs = node NatTyH nil
root_at form.Zero o bs = node ZeroH nil
root_at form.Suc o bs = node SucH nil
root_at form.NatRec o bs = node NatRecH nil
root_at form.ListTy o bs = node ListTyH nil
root_at form.Nil o bs = node NilH nil
root_at form.Cons o bs = node ConsH nil
root_at form.ListRec o bs = node ListRecH nil
root_at form.Lift o bs = node LiftH nil
root_at form.Quote o bs = node QuoteH nil
root_at form.V o bs = node VH nil
root_at form.C o bs = node CH nil
root_at form.IntTy o bs = node IntTyH nil
root_at form.Arr o bs = node ArrH nil
root_at form.LetV o bs = node LetVH nil
root_at form.OLam o bs = node OLamH nil
root_at form.OApp o bs = node OAppH nil
root_at form.Fail o bs = node FailH nil
root_at form.Splice o bs = node SpliceH nil
root_at form.Pi o bs = node (PiH false) nil
root_at form.Lam o bs = node (LamH false) nil
root_at form.App o bs = node (AppH false) nil
root_at form.Data o bs = node (DataH (index o)) nil
root_at form.Lit o bs = node (LitH (integer o)) nil
root_at form.Prim o bs = node (PrimH (operation o)) nil
root_at form.LetRec o bs = node (LetRecH (size o)) nil
root_at form.Con o bs = node (ConH (constructor_type o) (constructor_number o) (constructor_params o)) nil
root_at form.Case o bs = node (CaseH bs) nil
root_at form.Hole o bs = node (HoleH (index o)) nil

root_back : (t : Tm) → weight_of t ≡ 1 → root_at (form_of t) (own_of t) (branches_of t) ≡ root t
root_back (var i) e = refl
root_back (node MarkH ts) e = absurd (omega (arith, e))
root_back (node h ts) e = refl

form_root : (t : Tm) → form_of (root t) ≡ form_of t
form_root (var i) = refl
form_root (node (PiH i) ts) = refl
form_root (node (LamH i) ts) = refl
form_root (node (AppH i) ts) = refl
form_root (node h ts) = refl

own_root : (t : Tm) → own_of (root t) ≡ own_of t
own_root (var i) = refl
own_root (node (PiH i) ts) = refl
own_root (node (LamH i) ts) = refl
own_root (node (AppH i) ts) = refl
own_root (node h ts) = refl

branches_root : (t : Tm) → branches_of (root t) ≡ branches_of t
branches_root (var i) = refl
branches_root (node (PiH i) ts) = refl
branches_root (node (LamH i) ts) = refl
branches_root (node (AppH i) ts) = refl
branches_root (node h ts) = refl

pub root_form : (t u : Tm) → root t ≡ root u → form_of t ≡ form_of u
root_form t u e = sym (form_root t) ∙ ap form_of e ∙ form_root u

pub root_own : (t u : Tm) → root t ≡ root u → own_of t ≡ own_of u
root_own t u e = sym (own_root t) ∙ ap own_of e ∙ own_root u

pub root_branches : (t u : Tm) → root t ≡ root u → branches_of t ≡ branches_of u
root_branches t u e = sym (branches_root t) ∙ ap branches_of e ∙ branches_root u

pub root_whole : (t u : Tm) → weight_of t ≡ 1 → weight_of u ≡ 1 → form_of t ≡ form_of u → own_of t ≡ own_of u → branches_of t ≡ branches_of u → root t ≡ root u
root_whole t u wt wu f o b = sym (root_back t wt) ∙ (λ i. root_at (f i) (o i) (b i)) ∙ root_back u wu
