-- Which types operations and accesses take and give.
use Rattle.std.specs.Prelude.{ℕ, Bool, true, false, Option, Some, None}
use Rattle.wb_syntax.specs.declared.syntax.NumType.{NumType}
use Rattle.wb_syntax.specs.Table.{Extension, Signed, Unsigned, Row, Loads, Stores, Takes1, Takes2}
use Rattle.wb_state.specs.Bytes.{bytes_in}
pub use Rattle.wb_plain.specs.declared.kinds.LoadKind.{LoadKind}
pub use Rattle.wb_plain.specs.declared.kinds.StoreKind.{StoreKind}

-- the type of the operands of an operation, and that of its result
pub record Operation : Type 0 where
  pub takes : NumType
  pub gives : NumType

-- the types of an operation with one operand
abbrev pub unary_types : Row → Option Operation
unary_types (Takes1 t r op) = Some (record { takes = t; gives = r })
unary_types _ = None

-- the types of an operation with two operands
abbrev pub binary_types : Row → Option Operation
binary_types (Takes2 t r op) = Some (record { takes = t; gives = r })
binary_types _ = None

-- a load: its type, how many bytes it reads, and their sign
pub record Loading : Type 0 where
  pub gives : NumType
  pub bytes : ℕ
  pub sign : Extension

-- a store: its type, and how many bytes it writes
pub record Storing : Type 0 where
  pub takes : NumType
  pub bytes : ℕ

-- the load of a row
abbrev pub load_types : Row → Option Loading
load_types (Loads t n e) = Some (record { gives = t; bytes = n; sign = e })
load_types _ = None

-- the store of a row
abbrev pub store_types : Row → Option Storing
store_types (Stores t n) = Some (record { takes = t; bytes = n })
store_types _ = None

-- the sign of a load
abbrev pub sign_of : Bool → Extension
sign_of true = Signed
sign_of false = Unsigned

-- a load as its row has it
abbrev pub loading : Option LoadKind → Option Loading
loading None = None
loading (Some k) = Some (record { gives = k.gives; bytes = bytes_in k.width; sign = sign_of k.signed })

-- a store as its row has it
abbrev pub storing : Option StoreKind → Option Storing
storing None = None
storing (Some k) = Some (record { takes = k.takes; bytes = bytes_in k.width })
