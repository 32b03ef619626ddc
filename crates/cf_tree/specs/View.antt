-- The tree that a term is seen as: one clause for each form.
use Rattle.std.specs.Prelude.{ℕ, List, [], ◌∷◌, length, Option, Some, None, option_map, string_bytes}
use Rattle.std.specs.declared.alloc.Global.{Global}
use Rattle.std.specs.declared.string.String.{String}
use Rattle.std.specs.declared.vec.Vec.{Vec}
use Rattle.cf_base.specs.declared.at.At.{At}
use Rattle.cf_tree.specs.declared.heads.Head.{Head}
use Rattle.cf_tree.specs.declared.heads.Head.TheVariants as head
use Rattle.cf_tree.specs.declared.forms.Node.{Node}
use Rattle.cf_tree.specs.declared.forms.Node.TheVariants as node
use Rattle.cf_tree.specs.declared.forms.Branch.{Branch}
use Rattle.cf_tree.specs.declared.forms.Definition.{Definition}
use Rattle.cf_tree.specs.declared.decls.CtorTree as ctor
use Rattle.cf_tree.specs.declared.decls.Decl.{Decl}
use Rattle.cf_tree.specs.declared.decls.Decl.TheVariants as decl
use Rattle.cf_tree.specs.Tree.{Name, Named, Binder, Plain, Variable, DataAt, ConAt, Tree, tree, Trees, none, part, branch, CtorTree, DeclTree, DataD, MetaD, ObjectD}

abbrev pub Text : Type 0
Text = String Global

abbrev pub binder_of : Option Text → Binder
binder_of = option_map string_bytes

abbrev pub binders_of : List (Option Text) → List Binder
binders_of [] = []
binders_of (b ∷ bs) = binder_of b ∷ binders_of bs

-- the form without names, with its parts
abbrev pub plain : At → Head → Trees → Tree
plain p h ts = tree p (Plain h) ts

-- parts under no binder
abbrev pub one : Tree → Trees → Trees
one t ts = part [] t ts

-- a last part under one binder
abbrev pub under : Option Text → Tree → Trees
under b t = part (binder_of b ∷ []) t none

abbrev pub one_each : List Tree → Trees → Trees
one_each [] us = us
one_each (t ∷ ts) us = part [] t (one_each ts us)

-- how many there are
abbrev pub count_of : Option (Vec Tree Global) → Option ℕ
count_of None = None
count_of (Some ts) = Some (length ts.items)

abbrev pub items_of : Option (Vec Tree Global) → List Tree
items_of None = []
items_of (Some ts) = ts.items

abbrev pub variables : List Definition → List Binder
variables [] = []
variables (d ∷ ds) = binder_of d.binder ∷ variables ds

-- each definition's type, and what it stands for, under all these variables
abbrev pub definitions : List Binder → List Definition → Trees → Trees
definitions bs [] us = us
definitions bs (d ∷ ds) us = part [] d.ty.value (part bs d.value.value (definitions bs ds us))

abbrev pub branches : List Branch → Trees
branches [] = none
branches (b ∷ bs) = branch b.ctor (binders_of b.names.items) b.body.value (branches bs)

abbrev pub tree_of : At → Node → Tree
tree_of p (node.Var x) = tree p (Variable (string_bytes x)) none
tree_of p node.MetaTy = plain p head.MetaTy none
tree_of p node.ValTy = plain p head.ValTy none
tree_of p node.CompTy = plain p head.CompTy none
tree_of p node.Ty = plain p head.Ty none
tree_of p (node.Pi i b t u) = plain p (head.Pi i) (one t.value (under b u.value))
tree_of p (node.Lam i b t u) = plain p (head.Lam i) (one t.value (under b u.value))
tree_of p (node.App i t u) = plain p (head.App i) (one t.value (one u.value none))
tree_of p (node.Let b s t u) = plain p head.Let (one s.value (one t.value (under b u.value)))
tree_of p (node.Sig b t u) = plain p head.Sig (one t.value (under b u.value))
tree_of p (node.Pair s t u) = plain p head.Pair (one s.value (one t.value (one u.value none)))
tree_of p (node.Fst t) = plain p head.Fst (one t.value none)
tree_of p (node.Snd t) = plain p head.Snd (one t.value none)
tree_of p node.UnitTy = plain p head.UnitTy none
tree_of p node.Unit = plain p head.Unit none
tree_of p (node.UnitRec s t u) = plain p head.UnitRec (one s.value (one t.value (one u.value none)))
tree_of p node.BoolTy = plain p head.BoolTy none
tree_of p node.True = plain p head.True none
tree_of p node.False = plain p head.False none
tree_of p (node.BoolRec s t u v) = plain p head.BoolRec (one s.value (one t.value (one u.value (one v.value none))))
tree_of p node.NatTy = plain p head.NatTy none
tree_of p node.Zero = plain p head.Zero none
tree_of p (node.Suc t) = plain p head.Suc (one t.value none)
tree_of p (node.NatLit k) = plain p (head.NatLit k) none
tree_of p (node.NatRec s t u v) = plain p head.NatRec (one s.value (one t.value (one u.value (one v.value none))))
tree_of p (node.ListTy t) = plain p head.ListTy (one t.value none)
tree_of p (node.Nil t) = plain p head.Nil (one t.value none)
tree_of p (node.Cons t u) = plain p head.Cons (one t.value (one u.value none))
tree_of p (node.ListRec s t u v) = plain p head.ListRec (one s.value (one t.value (one u.value (one v.value none))))
tree_of p (node.Lift t) = plain p head.Lift (one t.value none)
tree_of p (node.Quote t) = plain p head.Quote (one t.value none)
tree_of p (node.V t) = plain p head.V (one t.value none)
tree_of p (node.C t) = plain p head.C (one t.value none)
tree_of p node.IntTy = plain p head.IntTy none
tree_of p (node.Data d ts) = tree p (DataAt d) (one_each ts.items none)
tree_of p (node.Arr t u) = plain p head.Arr (one t.value (one u.value none))
tree_of p (node.Lit z) = plain p (head.Lit z) none
tree_of p (node.Prim o t u) = plain p (head.Prim o) (one t.value (one u.value none))
tree_of p (node.LetV b s t u) = plain p head.LetV (one s.value (one t.value (under b u.value)))
tree_of p (node.LetRec ds u) = plain p head.LetRec (definitions (variables ds.items) ds.items (part (variables ds.items) u.value none))
tree_of p (node.OLam b t u) = plain p head.OLam (one t.value (under b u.value))
tree_of p (node.OApp t u) = plain p head.OApp (one t.value (one u.value none))
tree_of p (node.Con c ps ts) = tree p (ConAt c (count_of ps)) (one_each (items_of ps) (one_each ts.items none))
tree_of p (node.Case t s bs) = plain p head.Case (one t.value (one s.value (branches bs.items)))
tree_of p (node.Fail t) = plain p head.Fail (one t.value none)
tree_of p (node.Splice t) = plain p head.Splice (one t.value none)
tree_of p node.Hole = plain p head.Hole none
tree_of p node.Missing = plain p head.Missing none

abbrev pub names_of : List Text → List Name
names_of [] = []
names_of (x ∷ xs) = string_bytes x ∷ names_of xs

abbrev pub named : At → Text → Named
named p x = record { at = p; name = string_bytes x }

abbrev pub ctor_of : ctor.CtorTree → CtorTree
ctor_of c = record { ctor = named c.at c.name; fields = c.fields.items }

abbrev pub ctors_of : List (ctor.CtorTree) → List CtorTree
ctors_of [] = []
ctors_of (c ∷ cs) = ctor_of c ∷ ctors_of cs

abbrev pub decl_of : Decl → DeclTree
decl_of (decl.DataD p x ps cs) = DataD (named p x) (names_of ps.items) (ctors_of cs.items)
decl_of (decl.MetaD p x a t) = MetaD (named p x) a t
decl_of (decl.ObjectD p x a t) = ObjectD (named p x) a t

abbrev pub decls_of : List Decl → List DeclTree
decls_of [] = []
decls_of (d ∷ ds) = decl_of d ∷ decls_of ds
