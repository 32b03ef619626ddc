-- Lists of parts: how deep they are, and whether they have a hole.
use Rattle.std.proofs.Common.{◌≡◌, ℕ, zero, suc, ◌<◌, ◌≤◌, Bool, true, false, ◌&&◌, List, [], ◌∷◌, refl, ap, length, get_or, arith}
use Rattle.std.specs.List.{list_all}
use Rattle.cf_tree.specs.Tree.{Tree, Trees, none, Binder, depth, depth_all, hole_free, hole_free_all, ctor_hole_free, decl_hole_free}
use Rattle.cf_tree.specs.View.{one_each, definitions, branches, ctor_of, ctors_of, decl_of, decls_of}
use Rattle.cf_tree.specs.Whole.{branch_hole_free, definition_hole_free}
use Rattle.cf_tree.specs.declared.decls.CtorTree as ctor
use Rattle.cf_tree.specs.declared.decls.Decl.{Decl}
use Rattle.cf_tree.specs.declared.forms.Branch.{Branch}
use Rattle.cf_tree.specs.declared.forms.Definition.{Definition}

-- at least as deep as what stands behind
pub behind_each : (ts : List Tree) (us : Trees) → depth_all us ≤ depth_all (one_each ts us)
behind_each [] us = omega arith
behind_each (t ∷ ts) us = omega (arith, behind_each ts us)

pub without_each : (ts : List Tree) (us : Trees) → depth_all (one_each ts none) ≤ depth_all (one_each ts us)
without_each [] us = omega arith
without_each (t ∷ ts) us = omega (arith, without_each ts us)

pub without_definitions : (bs cs : List Binder) (ds : List Definition) (us : Trees) → depth_all (definitions bs ds none) ≤ depth_all (definitions cs ds us)
without_definitions bs cs [] us = omega arith
without_definitions bs cs (d ∷ ds) us = omega (arith, without_definitions bs cs ds us)

-- no element is deeper than the whole
pub within_each : (ts : List Tree) (i : ℕ) (t : Tree) → i < length ts → t ≡ get_or ts i t → depth t ≤ depth_all (one_each ts none)
within_each [] i t h e = absurd (omega (arith, h))
within_each (u ∷ ts) zero t h e = let k : depth t ≡ depth u = ap depth e in omega (arith, k)
within_each (u ∷ ts) (suc i) t h e = omega (arith, within_each ts i t (omega (arith, h)) e)

pub within_branches : (bs : List Branch) (i : ℕ) (b : Branch) → i < length bs → b ≡ get_or bs i b → depth b.body.value ≤ depth_all (branches bs)
within_branches [] i b h e = absurd (omega (arith, h))
within_branches (c ∷ bs) zero b h e = let k : depth b.body.value ≡ depth c.body.value = ap (λ x. depth x.body.value) e in omega (arith, k)
within_branches (c ∷ bs) (suc i) b h e = omega (arith, within_branches bs i b (omega (arith, h)) e)

pub within_definitions : (ds : List Definition) (i : ℕ) (d : Definition) → i < length ds → d ≡ get_or ds i d → (depth d.ty.value ≤ depth_all (definitions [] ds none)) × (depth d.value.value ≤ depth_all (definitions [] ds none))
within_definitions [] i d h e = absurd (omega (arith, h))
within_definitions (c ∷ ds) zero d h e =
    let k : depth d.ty.value ≡ depth c.ty.value = ap (λ x. depth x.ty.value) e in
    let l : depth d.value.value ≡ depth c.value.value = ap (λ x. depth x.value.value) e in
    (omega (arith, k), omega (arith, l))
within_definitions (c ∷ ds) (suc i) d h e =
    let k = within_definitions ds i d (omega (arith, h)) e in
    (omega (arith, k.0), omega (arith, k.1))

-- whether they have a hole
pub both : (x y z : Bool) → (x && (y && z)) ≡ ((x && y) && z)
both true y z = refl
both false y z = refl

pub each_free : (ts : List Tree) (us : Trees) → hole_free_all (one_each ts us) ≡ (list_all hole_free ts && hole_free_all us)
each_free [] us = refl
each_free (t ∷ ts) us = rw (each_free ts us) (both (hole_free t) (list_all hole_free ts) (hole_free_all us))

pub definitions_free : (bs : List Binder) (ds : List Definition) (us : Trees) → hole_free_all (definitions bs ds us) ≡ (list_all definition_hole_free ds && hole_free_all us)
definitions_free bs [] us = refl
definitions_free bs (d ∷ ds) us =
    rw (definitions_free bs ds us, both (hole_free d.ty.value) (hole_free d.value.value) (list_all definition_hole_free ds && hole_free_all us)) (both (definition_hole_free d) (list_all definition_hole_free ds) (hole_free_all us))

pub branches_free : (bs : List Branch) → hole_free_all (branches bs) ≡ list_all branch_hole_free bs
branches_free [] = refl
branches_free (b ∷ bs) = ap (λ x. hole_free b.body.value && x) (branches_free bs)

pub ctors_free : (cs : List (ctor.CtorTree)) → list_all ctor_hole_free (ctors_of cs) ≡ list_all (λ c. ctor_hole_free (ctor_of c)) cs
ctors_free [] = refl
ctors_free (c ∷ cs) = ap (λ x. ctor_hole_free (ctor_of c) && x) (ctors_free cs)

pub decls_free : (ds : List Decl) → list_all decl_hole_free (decls_of ds) ≡ list_all (λ d. decl_hole_free (decl_of d)) ds
decls_free [] = refl
decls_free (d ∷ ds) = ap (λ x. decl_hole_free (decl_of d) && x) (decls_free ds)
