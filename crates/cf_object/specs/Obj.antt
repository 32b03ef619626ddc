-- Object terms, as the staged program has them. Lists inside a type stand as types of their own, since a type cannot hold itself in a list.
use Rattle.std.specs.Prelude.{ℕ, suc, pred, ◌+◌, Bool, true, false, ℤ}

-- Whole, or a data type by its number at value types
mutual
  pub data ValType : Type 0 where
    WholeT : ValType
    Of : (d : ℕ) → ValTypes → ValType

  pub data ValTypes : Type 0 where
    NoTypes : ValTypes
    AndType : ValType → ValTypes → ValTypes

-- a value type, or arrows from value types to one
pub data ObjType : Type 0 where
  Value : ValType → ObjType
  Arrow : ValType → ObjType → ObjType

-- operations on two whole numbers
pub data PrimOp : Type 0 where
  Add : PrimOp
  Sub : PrimOp
  Mul : PrimOp
  Div : PrimOp
  Rem : PrimOp
  Eq : PrimOp
  Lt : PrimOp

-- Variables are de Bruijn indices: of a group of definitions the last one has index 0. A constructor is known by its number in the declaration.
mutual
  pub data Obj : Type 0 where
    Var : (x : ℕ) → Obj
    Lit : ℤ → Obj
    Prim : PrimOp → Obj → Obj → Obj
    LetV : ObjType → Obj → Obj → Obj
    LetRec : Defs → Obj → Obj
    OLam : ValType → Obj → Obj
    OApp : Obj → Obj → Obj
    Con : (d tag : ℕ) → ValTypes → Objs → Obj
    Case : Obj → ObjType → Branches → Obj
    Fail : ObjType → Obj

  -- the fields of a constructor
  pub data Objs : Type 0 where
    NoObjs : Objs
    AndObj : Obj → Objs → Objs

  -- the definitions of a letrec, each with its type
  pub data Defs : Type 0 where
    NoDefs : Defs
    AndDef : ObjType → Obj → Defs → Defs

  -- the branches of a Case, each with its data type, its constructor, and the number of names that it binds; the last name has index 0
  pub data Branches : Type 0 where
    NoBranches : Branches
    AndBranch : (d tag binds : ℕ) → Obj → Branches → Branches

-- whether a term of this type is a value, evaluated once
abbrev pub is_value_type : ObjType → Bool
is_value_type (Value a) = true
is_value_type (Arrow a b) = false

-- how many arguments a term of this type takes
abbrev pub arrows : ObjType → ℕ
arrows (Value a) = 0
arrows (Arrow a b) = suc (arrows b)

-- how many definitions a group has
abbrev pub count_defs : Defs → ℕ
count_defs NoDefs = 0
count_defs (AndDef a t ds) = suc (count_defs ds)

-- the nodes of a type and of a term, by the forms of the table of terms: `V` and `C` are forms, a LetRec counts once, and its types are computation types, which stand without `C`
abbrev mutual
  pub type_nodes : ValType → ℕ
  type_nodes WholeT = 1
  type_nodes (Of d ps) = suc (types_nodes ps)

  pub types_nodes : ValTypes → ℕ
  types_nodes NoTypes = 0
  types_nodes (AndType a ps) = type_nodes a + types_nodes ps

-- the nodes of an object type, under its `V` or `C`
abbrev pub obj_type_nodes : ObjType → ℕ
obj_type_nodes (Value a) = suc (type_nodes a)
obj_type_nodes (Arrow a b) = suc (suc (type_nodes a + obj_type_nodes b))

abbrev mutual
  pub nodes : Obj → ℕ
  nodes (Var x) = 1
  nodes (Lit n) = 1
  nodes (Prim op t u) = suc (nodes t + nodes u)
  nodes (LetV a t u) = suc (obj_type_nodes a + nodes t + nodes u)
  nodes (LetRec ds u) = suc (defs_nodes ds + nodes u)
  nodes (OLam a t) = suc (type_nodes a + nodes t)
  nodes (OApp t u) = suc (nodes t + nodes u)
  nodes (Con d tag ps ts) = suc (types_nodes ps + objs_nodes ts)
  nodes (Case t b bs) = suc (nodes t + obj_type_nodes b + branches_nodes bs)
  nodes (Fail a) = suc (obj_type_nodes a)

  pub objs_nodes : Objs → ℕ
  objs_nodes NoObjs = 0
  objs_nodes (AndObj t ts) = nodes t + objs_nodes ts

  pub defs_nodes : Defs → ℕ
  defs_nodes NoDefs = 0
  defs_nodes (AndDef a t ds) = pred (obj_type_nodes a) + nodes t + defs_nodes ds

  pub branches_nodes : Branches → ℕ
  branches_nodes NoBranches = 0
  branches_nodes (AndBranch d tag n u bs) = nodes u + branches_nodes bs
