-- Names in tables and on the stack of local variables, as their bytes.
use Rattle.std.specs.Prelude.{List, map, Option, option_map, string_bytes}
use Rattle.std.specs.Borrow.{Bor}
use Rattle.std.specs.declared.alloc.Global.{Global}
use Rattle.std.specs.declared.string.String.{String}
use Rattle.cf_tree.specs.Tree.{Name, Binder}
use Rattle.cf_elab.specs.declared.numbers.CtorNumber.{CtorNumber}

-- a name in a table
abbrev pub Text : Type 0
Text = String Global

-- the bytes of each name
abbrev pub names_of : List Text → List Name
names_of = map string_bytes

-- the bytes of each name, with the numbers that stand beside it
abbrev pub named_numbers : List (Text × CtorNumber) → List (Name × CtorNumber)
named_numbers = map (λ e. (string_bytes e.0, e.1))

-- a binder that is lent
abbrev pub lent : Option (Bor Name) → Binder
lent = option_map (λ s. s.now)
