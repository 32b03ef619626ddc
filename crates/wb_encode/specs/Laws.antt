-- Which modules the encoder may be given, and what its bytes are.
use Rattle.std.specs.Prelude.{◌≡◌, ℕ, List}
use Rattle.wb_syntax.specs.declared.syntax.Module.{Module}
use Rattle.wb_syntax.specs.Binary.{Encodes}
use Rattle.wb_syntax.specs.Typing.{Valid}
use Rattle.wb_encode.specs.Appended.{Every}
use Rattle.wb_encode.specs.Shortest.{IsCanonical, HasItems}
use Rattle.wb_encode.specs.Encodable.{AreBodiesWellNested, AreInitialValuesWellNested, AreOfTable, AreLocalsFew}

-- all that the encoder asks of a module
pub record IsEncodable (m : Module) : Type 0 where
  pub bodies : AreBodiesWellNested m
  pub initial_values : AreInitialValuesWellNested m
  pub instructions : AreOfTable m
  pub locals : AreLocalsFew m

-- a module that has bytes meets it
abbrev pub EncodedIsEncodable : Type 0
EncodedIsEncodable = (m : Module) (bytes : List ℕ) → Encodes m bytes → IsEncodable m

-- a module that is valid meets it, where each of its bodies has few locals
abbrev pub ValidIsEncodable : Type 0
ValidIsEncodable = (m : Module) → Valid m → AreLocalsFew m → IsEncodable m

-- a module has one canonical spelling at most
abbrev pub CanonicalIsOne : Type 0
CanonicalIsOne = (m : Module) (a b : List ℕ) → IsCanonical m a → IsCanonical m b → a ≡ b

-- a canonical spelling has no section that is empty or custom
abbrev pub CanonicalHasItems : Type 0
CanonicalHasItems = (m : Module) (bytes : List ℕ) → IsCanonical m bytes → (e : Encodes m bytes) → Every HasItems e.sections
