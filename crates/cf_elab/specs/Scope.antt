-- The names in scope, and what a name stands for.
use Rattle.std.specs.Prelude.{ℕ, Bool, false, ◌||◌, List, [], ◌∷◌, ◌++◌, map, Option, Some, None, position, codes}
use Rattle.std.specs.List.{list_any}
use Rattle.std.specs.Map.{lookup}
use Rattle.std.specs.Str.{bytes_eq}
use Rattle.cf_tree.specs.Tree.{Name, Binder}
use Rattle.cf_elab.specs.declared.numbers.CtorNumber.{CtorNumber}

-- what is declared above a place
pub record Globals : Type 0 where
  -- meta definitions and object declarations, the last one first
  pub variables : List Name
  -- data types, in the order of their numbers
  pub types : List Name
  -- constructors that may be used
  pub ctors : List (Name × CtorNumber)
  -- constructors of the data declaration at hand so far: their names are taken, and they may not be used yet
  pub own : List (Name × CtorNumber)

-- `data Flag := no () | yes ();` stands above every program
abbrev pub start : Globals
start = record {
  variables = [];
  types = codes "Flag" ∷ [];
  ctors = (codes "no", record { data_type = 0; ctor = 0; params = 0 }) ∷ (codes "yes", record { data_type = 0; ctor = 1; params = 0 }) ∷ [];
  own = [];
}

-- the local variables under these binders, the innermost first
abbrev pub under : List Binder → List Binder → List Binder
under [] locals = locals
under (b ∷ bs) locals = under bs (b ∷ locals)

-- the binder has this name; `_` has none
abbrev pub is_named : Name → Binder → Bool
is_named x (Some y) = bytes_eq x y
is_named x None = false

-- a variable is counted from the innermost one outwards: local ones first, then global ones
abbrev pub variable_of : Globals → List Binder → Name → Option ℕ
variable_of g locals x = position (is_named x) (locals ++ map Some g.variables)

-- the number of the data type of this name
abbrev pub type_of : Globals → Name → Option ℕ
type_of g x = position (bytes_eq x) g.types

-- the numbers of the constructor of this name, where it may be used
abbrev pub ctor_of : Globals → Name → Option CtorNumber
ctor_of g x = lookup (bytes_eq x) g.ctors

-- some declaration above has the name: global variables, data types and constructors share one space
abbrev pub is_taken : Globals → Name → Bool
is_taken g x =
    list_any (bytes_eq x) g.variables || list_any (bytes_eq x) g.types || list_any (λ c. bytes_eq x c.0) g.ctors || list_any (λ c. bytes_eq x c.0) g.own

-- one more global variable
abbrev pub with_variable : Name → Globals → Globals
with_variable x g = record { variables = x ∷ g.variables; types = g.types; ctors = g.ctors; own = g.own }

-- one more data type, with the next number
abbrev pub with_type : Name → Globals → Globals
with_type x g = record { variables = g.variables; types = g.types ++ x ∷ []; ctors = g.ctors; own = g.own }

-- one more constructor of the data type at hand
abbrev pub with_own : Name → CtorNumber → Globals → Globals
with_own x c g = record { variables = g.variables; types = g.types; ctors = g.ctors; own = g.own ++ (x, c) ∷ [] }

-- the data declaration at hand ends: its constructors may be used
abbrev pub settled : Globals → Globals
settled g = record { variables = g.variables; types = g.types; ctors = g.ctors ++ g.own; own = [] }
