-- The written forms by the number of their parts.
use Rattle.cf_tree.specs.declared.heads.Head.{Head}
use Rattle.cf_tree.specs.declared.heads.Head.TheVariants as head
use Rattle.cf_elab.specs.declared.kinds.Unary.{Unary}
use Rattle.cf_elab.specs.declared.kinds.Unary.TheVariants as unary
use Rattle.cf_elab.specs.declared.kinds.Binary.{Binary}
use Rattle.cf_elab.specs.declared.kinds.Binary.TheVariants as binary
use Rattle.cf_elab.specs.declared.kinds.Ternary.{Ternary}
use Rattle.cf_elab.specs.declared.kinds.Ternary.TheVariants as ternary
use Rattle.cf_elab.specs.declared.kinds.Quaternary.{Quaternary}
use Rattle.cf_elab.specs.declared.kinds.Quaternary.TheVariants as quaternary
use Rattle.cf_elab.specs.declared.kinds.Binder.{Binder}
use Rattle.cf_elab.specs.declared.kinds.Binder.TheVariants as binder
use Rattle.cf_elab.specs.declared.kinds.Definer.{Definer}
use Rattle.cf_elab.specs.declared.kinds.Definer.TheVariants as definer

-- the form with one part of this kind
abbrev pub unary_head : Unary → Head
unary_head unary.Fst = head.Fst
unary_head unary.Snd = head.Snd
unary_head unary.Suc = head.Suc
unary_head unary.ListTy = head.ListTy
unary_head unary.Nil = head.Nil
unary_head unary.Lift = head.Lift
unary_head unary.Quote = head.Quote
unary_head unary.V = head.V
unary_head unary.C = head.C
unary_head unary.Fail = head.Fail
unary_head unary.Splice = head.Splice

-- the form with two parts of this kind
abbrev pub binary_head : Binary → Head
binary_head (binary.App i) = head.App i
binary_head binary.Cons = head.Cons
binary_head binary.Arr = head.Arr
binary_head (binary.Prim o) = head.Prim o
binary_head binary.OApp = head.OApp

-- the form with three parts of this kind
abbrev pub ternary_head : Ternary → Head
ternary_head ternary.Pair = head.Pair
ternary_head ternary.UnitRec = head.UnitRec

-- the form with four parts of this kind
abbrev pub quaternary_head : Quaternary → Head
quaternary_head quaternary.BoolRec = head.BoolRec
quaternary_head quaternary.NatRec = head.NatRec
quaternary_head quaternary.ListRec = head.ListRec

-- the form of this kind with the type of a variable, and a part under it
abbrev pub binder_head : Binder → Head
binder_head (binder.Pi i) = head.Pi i
binder_head (binder.Lam i) = head.Lam i
binder_head binder.Sig = head.Sig
binder_head binder.OLam = head.OLam

-- the form of this kind with the type of a variable, what it stands for, and a part under it
abbrev pub definer_head : Definer → Head
definer_head definer.Let = head.Let
definer_head definer.LetV = head.LetV
