-- The names of data types, constructors and globals, by their numbers.
use Rattle.std.specs.Prelude.{ℕ, List, [], ◌∷◌, Some, None, codes, slice_get}
use Rattle.cf_rules.specs.Programs.{Data, Declaration, DataC, MetaC, ObjectC}

-- the data types, `Flag` first, and the names of meta definitions and object declarations; each in order of declaration
pub record Names : Type 0 where
  pub types : List Data
  pub globals : List (List ℕ)

-- the predeclared data type
abbrev pub flag : Data
flag = record {
  name = codes "Flag";
  params = 0;
  ctors = record { name = codes "no"; fields = [] } ∷ record { name = codes "yes"; fields = [] } ∷ [];
}

-- the data types of declarations, in order
abbrev pub data_types : List Declaration → List Data
data_types [] = []
data_types (DataC t ∷ ds) = t ∷ data_types ds
data_types (MetaC x a t ∷ ds) = data_types ds
data_types (ObjectC x a t ∷ ds) = data_types ds

-- the names of meta definitions and object declarations, in order
abbrev pub global_names : List Declaration → List (List ℕ)
global_names [] = []
global_names (DataC t ∷ ds) = global_names ds
global_names (MetaC x a t ∷ ds) = x ∷ global_names ds
global_names (ObjectC x a t ∷ ds) = x ∷ global_names ds

-- the names of a program
abbrev pub names_of : List Declaration → Names
names_of ds = record { types = flag ∷ data_types ds; globals = global_names ds }

-- the name of the global with number n, or none
abbrev pub global_name : Names → ℕ → List ℕ
global_name N n = elim (slice_get N.globals n) [ Some x ↦ x | None ↦ [] ]

-- the name of the data type with number n, or none
abbrev pub type_name : Names → ℕ → List ℕ
type_name N n = elim (slice_get N.types n) [ Some t ↦ t.name | None ↦ [] ]

-- the name of a data type's constructor with number c, or none
abbrev pub ctor_in : Data → ℕ → List ℕ
ctor_in t c = elim (slice_get t.ctors c) [ Some k ↦ k.name | None ↦ [] ]

-- the name of constructor c of the data type with number n, or none
abbrev pub ctor_name : Names → (n c : ℕ) → List ℕ
ctor_name N n c = elim (slice_get N.types n) [ Some t ↦ ctor_in t c | None ↦ [] ]
