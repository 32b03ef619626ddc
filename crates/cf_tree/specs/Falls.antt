-- Each part of a tree is less deep than the tree.
use Rattle.std.specs.Prelude.{List, [], ◌∷◌, ◌≤◌, ◌+◌, max, Some, None}
use Rattle.std.proofs.Common.{arith}
use denote.Param.Weighed.{most}
use Rattle.cf_base.specs.declared.at.At.{At}
use Rattle.cf_tree.specs.Tree.{Tree, Trees, none, part, Binder, depth, depth_all}
use Rattle.cf_tree.specs.View.{tree_of, one_each, definitions, branches, variables}
use Rattle.cf_tree.specs.declared.forms.Node.{Node}
use Rattle.cf_tree.specs.declared.forms.Node.TheVariants as node
use Rattle.cf_tree.specs.declared.forms.Branch.{Branch}
use Rattle.cf_tree.specs.declared.forms.Definition.{Definition}
use Rattle.cf_tree.specs.declared.forms.Tree.TheDeep as deep

pub most_each : (ts : List Tree) (us : Trees) → max (most (λ t. depth t + 1) ts) (depth_all us + 1) ≤ depth_all (one_each ts us) + 1
most_each [] us = omega arith
most_each (t ∷ ts) us = omega (arith, most_each ts us)

pub most_definitions : (bs : List Binder) (ds : List Definition) (us : Trees) → max (most deep.deep-Definition ds) (depth_all us + 1) ≤ depth_all (definitions bs ds us) + 1
most_definitions bs [] us = omega arith
most_definitions bs (d ∷ ds) us = omega (arith, most_definitions bs ds us)

pub most_branches : (bs : List Branch) → most deep.deep-Branch bs ≤ depth_all (branches bs) + 1
most_branches [] = omega arith
most_branches (b ∷ bs) = omega (arith, most_branches bs)

pub falls : (p : At) (n : Node) → max (deep.deep-Node n) 0 ≤ depth (tree_of p n)
falls p (node.Var x) = omega arith
falls p node.MetaTy = omega arith
falls p node.ValTy = omega arith
falls p node.CompTy = omega arith
falls p node.Ty = omega arith
falls p (node.Pi i b t u) = omega arith
falls p (node.Lam i b t u) = omega arith
falls p (node.App i t u) = omega arith
falls p (node.Let b s t u) = omega arith
falls p (node.Sig b t u) = omega arith
falls p (node.Pair s t u) = omega arith
falls p (node.Fst t) = omega arith
falls p (node.Snd t) = omega arith
falls p node.UnitTy = omega arith
falls p node.Unit = omega arith
falls p (node.UnitRec s t u) = omega arith
falls p node.BoolTy = omega arith
falls p node.True = omega arith
falls p node.False = omega arith
falls p (node.BoolRec s t u v) = omega arith
falls p node.NatTy = omega arith
falls p node.Zero = omega arith
falls p (node.Suc t) = omega arith
falls p (node.NatLit k) = omega arith
falls p (node.NatRec s t u v) = omega arith
falls p (node.ListTy t) = omega arith
falls p (node.Nil t) = omega arith
falls p (node.Cons t u) = omega arith
falls p (node.ListRec s t u v) = omega arith
falls p (node.Lift t) = omega arith
falls p (node.Quote t) = omega arith
falls p (node.V t) = omega arith
falls p (node.C t) = omega arith
falls p node.IntTy = omega arith
falls p (node.Data d ts) = omega (arith, most_each ts.items none)
falls p (node.Arr t u) = omega arith
falls p (node.Lit z) = omega arith
falls p (node.Prim o t u) = omega arith
falls p (node.LetV b s t u) = omega arith
falls p (node.LetRec ds u) =
    omega (arith, most_definitions (variables ds.items) ds.items (part (variables ds.items) u.value none))
falls p (node.OLam b t u) = omega arith
falls p (node.OApp t u) = omega arith
falls p (node.Con c None ts) = omega (arith, most_each ts.items none)
falls p (node.Con c (Some ps) ts) = omega (arith, most_each ps.items (one_each ts.items none), most_each ts.items none)
falls p (node.Case t s bs) = omega (arith, most_branches bs.items)
falls p (node.Fail t) = omega arith
falls p (node.Splice t) = omega arith
falls p node.Hole = omega arith
falls p node.Missing = omega arith
