-- The forms that are written as a word and atoms.
use Rattle.std.specs.Prelude.{Option, Some, None}
use Rattle.cf_lex.specs.declared.keywords.Keyword.{Keyword}
use Rattle.cf_lex.specs.declared.keywords.Keyword.TheVariants as keyword
use Rattle.cf_tree.specs.declared.heads.Head.{Head}
use Rattle.cf_tree.specs.declared.heads.Head.TheVariants as head
use Rattle.cf_tree.specs.declared.heads.Op.TheVariants as op

-- the form that a word begins
abbrev pub form_of : Keyword → Option Head
form_of keyword.MetaTy = Some head.MetaTy
form_of keyword.ValTy = Some head.ValTy
form_of keyword.CompTy = Some head.CompTy
form_of keyword.Ty = Some head.Ty
form_of keyword.UnitTy = Some head.UnitTy
form_of keyword.Unit = Some head.Unit
form_of keyword.BoolTy = Some head.BoolTy
form_of keyword.True = Some head.True
form_of keyword.False = Some head.False
form_of keyword.NatTy = Some head.NatTy
form_of keyword.Zero = Some head.Zero
form_of keyword.IntTy = Some head.IntTy
form_of keyword.Fail = Some head.Fail
form_of keyword.Fst = Some head.Fst
form_of keyword.Snd = Some head.Snd
form_of keyword.Suc = Some head.Suc
form_of keyword.ListTy = Some head.ListTy
form_of keyword.Nil = Some head.Nil
form_of keyword.V = Some head.V
form_of keyword.C = Some head.C
form_of keyword.Cons = Some head.Cons
form_of keyword.Add = Some (head.Prim op.Add)
form_of keyword.Sub = Some (head.Prim op.Sub)
form_of keyword.Mul = Some (head.Prim op.Mul)
form_of keyword.Div = Some (head.Prim op.Div)
form_of keyword.Rem = Some (head.Prim op.Rem)
form_of keyword.Eq = Some (head.Prim op.Eq)
form_of keyword.Lt = Some (head.Prim op.Lt)
form_of keyword.Pair = Some head.Pair
form_of keyword.UnitRec = Some head.UnitRec
form_of keyword.BoolRec = Some head.BoolRec
form_of keyword.NatRec = Some head.NatRec
form_of keyword.ListRec = Some head.ListRec
form_of y = None
