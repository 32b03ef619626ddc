-- What was written behind what stood there.
use Rattle.std.specs.Prelude.{◌≡◌, ℕ, ◌<◌, List, [], ◌∷◌, ◌++◌, length, ℤ, pos, negsuc}
use Rattle.wb_syntax.specs.Grammar.{Splits, index}
use Rattle.wb_encode.specs.Shortest.{IsShortest}

-- bytes of which this holds were appended
pub record Appended (old new : List ℕ) (Holds : List ℕ → Type 0) : Type 0 where
  pub bytes : List ℕ
  pub joined : new ≡ old ++ bytes
  pub holds : Holds bytes

-- the shortest spelling was appended
abbrev pub Written : (old new : List ℕ) → (Spells : List ℕ → Type 0) → Type 0
Written old new Spells = Appended old new (IsShortest Spells)

-- it holds of each element
abbrev pub Every : {A : Type 0} → (A → Type 0) → List A → Type 0
Every P [] = Unit {0}
Every P (x ∷ xs) = P x × Every P xs

-- the bytes spell these elements, one after another
abbrev pub EachSpelled : {A : Type 0} → (A → List ℕ → Type 0) → List A → List ℕ → Type 0
EachSpelled Spells [] bytes = bytes ≡ []
EachSpelled Spells (x ∷ xs) bytes = Splits bytes (Spells x) (EachSpelled Spells xs)

-- the same behind their number (the standard, 5.1.3)
abbrev pub VecSpelled : {A : Type 0} → (A → List ℕ → Type 0) → List A → List ℕ → Type 0
VecSpelled Spells xs bytes = Splits bytes (index.Is (length xs)) (EachSpelled Spells xs)

-- an integer from -half to half - 1
abbrev pub IsWithin : ℕ → ℤ → Type 0
IsWithin half (pos n) = n < half
IsWithin half (negsuc n) = n < half

-- the same behind the size of its bytes
abbrev pub SizedSpelled : (List ℕ → Type 0) → List ℕ → Type 0
SizedSpelled Holds bytes = (inner : List ℕ) × Splits bytes (index.Is (length inner)) (λ back. back ≡ inner) × Holds inner

-- a section with these elements, or nothing where there are none
abbrev pub SectionSpelled : {A : Type 0} → ℕ → (A → List ℕ → Type 0) → List A → List ℕ → Type 0
SectionSpelled id Spells [] bytes = bytes ≡ []
SectionSpelled id Spells (x ∷ xs) bytes = (rest : List ℕ) × (bytes ≡ id ∷ rest) × SizedSpelled (VecSpelled Spells (x ∷ xs)) rest
