-- Each part of a term is less deep than the term.
use Rattle.std.specs.Prelude.{Bool, true, false, List, [], ◌∷◌, ◌≤◌, ◌+◌, max}
use Rattle.std.proofs.Common.{arith}
use denote.Param.Weighed.{most}
use Rattle.std.specs.declared.rc.Rc.{Rc}
use Rattle.cf_term.specs.Core.{Tm, var, node, Tms, nil, cons, depth, depth_all}
use Rattle.cf_term.specs.View.{tm_of, marked, listed, definitions, bodies}
use Rattle.cf_term.specs.declared.forms.TermNode.{TermNode}
use Rattle.cf_term.specs.declared.forms.TermNode.TheVariants as form
use Rattle.cf_term.specs.declared.forms.Branch as branch
use Rattle.cf_term.specs.declared.forms.Definition.{Definition}
use Rattle.cf_term.specs.declared.forms.Term.TheDeep as deep

pub most_listed : {Z : Type 0} (ts : List (Rc Tm Z)) (us : Tms) → max (most (λ t. depth t.value + 1) ts) (depth_all us + 1) ≤ depth_all (listed ts us) + 1
most_listed [] us = omega arith
most_listed (t ∷ ts) us = omega (arith, most_listed ts us)

pub most_definitions : (ds : List Definition) (us : Tms) → max (most deep.deep-Definition ds) (depth_all us + 1) ≤ depth_all (definitions ds us) + 1
most_definitions [] us = omega arith
most_definitions (d ∷ ds) us = omega (arith, most_definitions ds us)

pub most_bodies : (bs : List (branch.Branch)) → most deep.deep-Branch bs ≤ depth_all (bodies bs) + 1
most_bodies [] = omega arith
most_bodies (b ∷ bs) = omega (arith, most_bodies bs)

pub falls_node : (n : TermNode) → max (deep.deep-TermNode n) 0 ≤ depth (tm_of n)
falls_node (form.Var n) = omega arith
falls_node form.MetaTy = omega arith
falls_node form.ValTy = omega arith
falls_node form.CompTy = omega arith
falls_node form.Ty = omega arith
falls_node (form.Pi i a b) = omega arith
falls_node (form.Lam i a t) = omega arith
falls_node (form.App i t u) = omega arith
falls_node (form.Let a t u) = omega arith
falls_node (form.Sig a b) = omega arith
falls_node (form.Pair s t u) = omega arith
falls_node (form.Fst t) = omega arith
falls_node (form.Snd t) = omega arith
falls_node form.UnitTy = omega arith
falls_node form.Unit = omega arith
falls_node (form.UnitRec p u n) = omega arith
falls_node form.BoolTy = omega arith
falls_node form.True = omega arith
falls_node form.False = omega arith
falls_node (form.BoolRec p t f n) = omega arith
falls_node form.NatTy = omega arith
falls_node form.Zero = omega arith
falls_node (form.Suc n) = omega arith
falls_node (form.NatRec p z s n) = omega arith
falls_node (form.ListTy a) = omega arith
falls_node (form.Nil a) = omega arith
falls_node (form.Cons t u) = omega arith
falls_node (form.ListRec p n c l) = omega arith
falls_node (form.Lift a) = omega arith
falls_node (form.Quote o) = omega arith
falls_node (form.V a) = omega arith
falls_node (form.C b) = omega arith
falls_node form.IntTy = omega arith
falls_node (form.Data d ts) = omega (arith, most_listed ts.items nil)
falls_node (form.Arr a b) = omega arith
falls_node (form.Lit z) = omega arith
falls_node (form.Prim o t u) = omega arith
falls_node (form.LetV a t u) = omega arith
falls_node (form.LetRec ds u) = omega (arith, most_definitions ds.items (cons u.value nil))
falls_node (form.OLam a t) = omega arith
falls_node (form.OApp t u) = omega arith
falls_node (form.Con d c ps ts) = omega (arith, most_listed ps.items (listed ts.items nil), most_listed ts.items nil)
falls_node (form.Case t b bs) = omega (arith, most_bodies bs.items)
falls_node (form.Fail a) = omega arith
falls_node (form.Splice u) = omega arith
falls_node (form.Hole k) = omega arith

pub depth_marked : (m : Bool) (t : Tm) → depth t ≤ depth (marked m t)
depth_marked m (var i) = omega arith
depth_marked false (node h ts) = omega arith
depth_marked true (node h ts) = omega arith

pub falls : (m : Bool) (n : TermNode) → max (deep.deep-TermNode n) 0 ≤ depth (marked m (tm_of n))
falls m n = omega (arith, falls_node n, depth_marked m (tm_of n))
