-- Laws of the definitions.
use Rattle.std.specs.Prelude.{◌≡◌, ℕ, ◌≤◌, List, [], ◌∷◌, ◌++◌, ◌↔◌, Some, ℤ}
use Rattle.wb_syntax.specs.Syntax.{NumType, Module, Func, Instr, End, Code}
use Rattle.wb_syntax.specs.Grammar.{Grammar, Reads}
use Rattle.wb_syntax.specs.Nesting.{flat, IsProper, IsWellNested, nested}
use Rattle.wb_syntax.specs.Binary.{Encodes, decoded, IsModule}
use Rattle.wb_syntax.specs.Typing.{Context, Types, IsTypedBody}
use Rattle.wb_syntax.specs.Execute.{Config, TheStore}
use Rattle.wb_syntax.specs.Runs.{RunEnd, HasEnded, runs, run_main, mach}

-- reading finds each spelling, whatever follows it, and reads spellings alone
pub record IsLawful {A : Type 0} (g : Grammar A) : Type 0 where
  pub finds : (x : A) (front back : List ℕ) → g.Is x front → g.read (front ++ back) ≡ Reads x back
  pub only : (x : A) (bytes left : List ℕ) → g.read bytes ≡ Reads x left → (front : List ℕ) × g.Is x front × (bytes ≡ front ++ left)

-- bytes are a module's by the grammar exactly where they are read as it
abbrev pub DecodedExactly : Type 0
DecodedExactly = (m : Module) (bytes : List ℕ) → Encodes m bytes ↔ (decoded bytes ≡ IsModule m)

-- each list of bytes is at most one module's
abbrev pub EncodesOne : Type 0
EncodesOne = (m n : Module) (bytes : List ℕ) → Encodes m bytes → Encodes n bytes → m ≡ n

-- the nested code of a body is the one code that is written out as it
abbrev pub NestedExactly : Type 0
NestedExactly = (body : List Instr) (c : Code) → (nested body ≡ Some c) ↔ (IsProper c × (body ≡ flat c ++ End ∷ []))

-- the bodies that the binary format has are those of nested code
abbrev pub WellNestedExactly : Type 0
WellNestedExactly = (body : List Instr) → IsWellNested body ↔ ((c : Code) × (nested body ≡ Some c))

-- a body that is typed has nested code, and it is the code that was typed
abbrev pub TypedIsProper : Type 0
TypedIsProper = (m : Module) (f : Func) (t : IsTypedBody m f) → IsProper t.code × (nested f.body ≡ Some t.code)

-- code that has a type has it over any stack, and leaves what is below as it is (the standard, 3.3.6)
abbrev pub StandsOnAny : Type 0
StandsOnAny = (c : Context) (is : Code) (a b below : List NumType) → Types c is a b → Types c is (a ++ below) (b ++ below)

-- more steps change nothing of a run that has ended
abbrev pub RunsEndedStay : Type 0
RunsEndedStay = (m : Module) (room words n k : ℕ) (c : Config) (e : RunEnd) → runs m room words n c ≡ e → HasEnded e → n ≤ k → runs m room words k c ≡ e

-- the same of a run of main, from any store
abbrev pub MainEndedStays : Type 0
MainEndedStays = (m : Module) (room : ℕ) (s : TheStore) (args : List ℤ) (words n k : ℕ) (e : RunEnd) → run_main m room s args words n ≡ e → HasEnded e → n ≤ k → run_main m room s args words k ≡ e

-- the same of the first run of a module
abbrev pub MachEndedStays : Type 0
MachEndedStays = (m : Module) (args : List ℤ) (words n k : ℕ) (e : RunEnd) → mach m args words n ≡ e → HasEnded e → n ≤ k → mach m args words k ≡ e
