-- The first number whose part of a module is not valid.
use Rattle.std.specs.Prelude.{ℕ, ◌<◌, ◌^◌, nat_le, Bool, true, false, ◌&&◌, List, [], ◌∷◌, Option, Some, None}
use Rattle.wb_valid.specs.Syntax.{NumType, I32, I64, Instr, End, I32Const, I64Const, Limits, Module}
use Rattle.wb_valid.specs.Effects.{carries}
use Rattle.wb_syntax.specs.Typing.{Part, MemoryLimits, IsValid}

-- all parts of a kind are valid, or this is the first that is not
abbrev pub Finds : Module → (ℕ → Part) → Option ℕ → Type 0
Finds m part None = (n : ℕ) → IsValid m (part n)
Finds m part (Some n) = (IsValid m (part n) → ⊥) × ((k : ℕ) → k < n → IsValid m (part k))

-- the type of a constant instruction
abbrev pub constant_type : Instr → Option NumType
constant_type (I32Const z) = Some I32
constant_type (I64Const z) = Some I64
constant_type _ = None

-- an end
abbrev pub is_end : Instr → Bool
is_end End = true
is_end _ = false

-- one end and no more
abbrev pub is_only_end : List Instr → Bool
is_only_end [] = false
is_only_end (i ∷ []) = is_end i
is_only_end (i ∷ j ∷ is) = false

-- one constant of the type, and an end
abbrev pub is_constant : NumType → List Instr → Bool
is_constant t [] = false
is_constant t (i ∷ is) = carries (Some t) (Some (constant_type i)) && is_only_end is

-- the greatest size, where one is given, is no less than the least, and at most 2 ^ 16 pages
abbrev pub is_greatest : ℕ → Option ℕ → Bool
is_greatest least None = true
is_greatest least (Some greatest) = nat_le least greatest && nat_le greatest (2 ^ 16)

-- the sizes are in their bounds and in order
abbrev pub are_limits : Limits → Bool
are_limits l = nat_le l.min (2 ^ 16) && is_greatest l.min l.max

-- the sizes of all memories are valid, or those of one are not
abbrev pub FindsLimits : Module → Option ℕ → Type 0
FindsLimits m None = IsValid m MemoryLimits
FindsLimits m (Some n) = IsValid m MemoryLimits → ⊥
