-- Programs of the core as plain data. A name is the list of its bytes.
use Rattle.std.specs.Prelude.{ℕ, List}
use Rattle.cf_term.specs.Core.{Tm}

-- a constructor, and the types of its fields under the parameters of its type, the last parameter innermost
pub record Constructor : Type 0 where
  pub name : List ℕ
  pub fields : List Tm

-- a data type with so many parameters
pub record Data : Type 0 where
  pub name : List ℕ
  pub params : ℕ
  pub ctors : List Constructor

pub data Declaration : Type 0 where
  DataC : Data → Declaration
  -- a name, a type and a body
  MetaC ObjectC : (name : List ℕ) → (ty body : Tm) → Declaration
