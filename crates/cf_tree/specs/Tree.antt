-- Programs as they are written: the forms of the language with names in place of numbers.
use Rattle.std.specs.Prelude.{ℕ, ◌+◌, max, Bool, true, false, ◌&&◌, not, List, Option, Some, None}
use Rattle.std.specs.List.{list_all}
use Rattle.cf_base.specs.declared.at.At.{At}
use Rattle.cf_tree.specs.declared.heads.Head.{Head}
use Rattle.cf_tree.specs.declared.heads.Head.TheVariants as head

-- the bytes of a name
abbrev pub Name : Type 0
Name = List ℕ

-- a name where it is written
pub record Named : Type 0 where
  pub at : At
  pub name : Name

-- a binder has a name, or is `_`
abbrev pub Binder : Type 0
Binder = Option Name

-- what a written form is, without its parts
pub data Form : Type 0 where
  -- a form that has no name in it
  Plain : Head → Form
  Variable : Name → Form
  -- a data type at its parameters
  DataAt : Named → Form
  -- a constructor, and how many of its parts are parameters, where the brackets are written
  ConAt : Named → (params : Option ℕ) → Form

mutual
  pub data Tree : Type 0 where
    tree : At → Form → Trees → Tree

  -- the parts in written order, each with the names that it is under
  pub data Trees : Type 0 where
    none : Trees
    part : List Binder → Tree → Trees → Trees
    -- a branch of a case, behind its constructor
    branch : Named → List Binder → Tree → Trees → Trees

pub record CtorTree : Type 0 where
  pub ctor : Named
  pub fields : List Tree

pub data DeclTree : Type 0 where
  DataD : Named → (params : List Name) → List CtorTree → DeclTree
  MetaD ObjectD : Named → (type body : Tree) → DeclTree

pub record Program : Type 0 where
  pub explicit : Bool
  pub prelude : Bool
  pub decls : List DeclTree

-- the program began with `explicit;`
abbrev pub is_explicit : Program → Bool
is_explicit p = p.explicit

-- a form that is no hole, no missing part, not implicit, and leaves no brackets out
abbrev pub is_settled : Form → Bool
is_settled (Plain (head.Pi i)) = not i
is_settled (Plain (head.Lam i)) = not i
is_settled (Plain (head.App i)) = not i
is_settled (Plain head.Hole) = false
is_settled (Plain head.Missing) = false
is_settled (Plain h) = true
is_settled (Variable x) = true
is_settled (DataAt d) = true
is_settled (ConAt c None) = false
is_settled (ConAt c (Some n)) = true

abbrev mutual
  pub hole_free : Tree → Bool
  hole_free (tree p f ts) = is_settled f && hole_free_all ts

  pub hole_free_all : Trees → Bool
  hole_free_all none = true
  hole_free_all (part bs t ts) = hole_free t && hole_free_all ts
  hole_free_all (branch c bs t ts) = hole_free t && hole_free_all ts

abbrev pub ctor_hole_free : CtorTree → Bool
ctor_hole_free c = list_all hole_free c.fields

abbrev pub decl_hole_free : DeclTree → Bool
decl_hole_free (DataD n ps cs) = list_all ctor_hole_free cs
decl_hole_free (MetaD n a t) = hole_free a && hole_free t
decl_hole_free (ObjectD n a t) = hole_free a && hole_free t

-- no hole, no implicit part, no missing part
abbrev pub is_hole_free : Program → Bool
is_hole_free p = list_all decl_hole_free p.decls

-- how deep a tree is
abbrev mutual
  pub depth : Tree → ℕ
  depth (tree p f ts) = depth_all ts + 1

  pub depth_all : Trees → ℕ
  depth_all none = 0
  depth_all (part bs t ts) = max (depth t) (depth_all ts)
  depth_all (branch c bs t ts) = max (depth t) (depth_all ts)
