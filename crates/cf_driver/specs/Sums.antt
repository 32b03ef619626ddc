-- Sums of whole numbers, and the programs that are one.
use Rattle.std.specs.Prelude.{◌≡◌, false, List, [], ◌∷◌, codes, Option, Some, None, ℤ}
use Rattle.cf_base.specs.declared.at.At.{At}
use Rattle.cf_tree.specs.declared.heads.Head.TheVariants as head
use Rattle.cf_tree.specs.declared.heads.Op.TheVariants as op
use Rattle.cf_tree.specs.Tree.{Plain, Tree, tree, none, part, ObjectD, Program}

-- a number, or the sum of two
pub data Sum : Type 0 where
  Number : ℤ → Sum
  Plus : Sum → Sum → Sum

-- the sum of two, where each is one
abbrev pub plus : Option Sum → Option Sum → Option Sum
plus (Some a) (Some b) = Some (Plus a b)
plus _ _ = None

-- the sum that a term is, if it is one: an integer, or `add` of two sums
abbrev pub sum_in : Tree → Option Sum
sum_in (tree p (Plain (head.Lit z)) none) = Some (Number z)
sum_in (tree p (Plain (head.Prim op.Add)) (part [] a (part [] b none))) = plus (sum_in a) (sum_in b)
sum_in _ = None

-- the program is `main : Int := body;` alone, without a head line
pub record IsMainAlone (p : Program) (body : Tree) : Type 0 where
  pub at : At
  pub place : At
  pub explicit : p.explicit ≡ false
  pub prelude : p.prelude ≡ false
  pub decls : p.decls ≡ ObjectD (record { at = at; name = codes "main" }) (tree place (Plain head.IntTy) none) body ∷ []

-- the program is `main : Int := s;` alone
pub record IsSum (p : Program) (s : Sum) : Type 0 where
  pub body : Tree
  pub main : IsMainAlone p body
  pub sum : sum_in body ≡ Some s
