-- One pass over a body from its end, with where the constructs lead that are open.
use Rattle.std.specs.Prelude.{◌≡◌, ℕ, ◌+◌, List, [], ◌∷◌}
use Rattle.wb_code.specs.Syntax.{Instr, Block, Loop, If, Else, End}
use Rattle.wb_code.specs.Jumps.{Jump}

-- a jump to these places
abbrev pub jump : (past other : ℕ) → Jump
jump p o = record { past = p; other = o }

-- the innermost construct begins
abbrev pub IsTaken : (old new : List Jump) → Jump → Type 0
IsTaken [] new j = Unit {0}
IsTaken (o ∷ os) new j = (j ≡ o) × (new ≡ os)

-- the first branch of the innermost construct ends at this index
abbrev pub IsTurned : ℕ → (old new : List Jump) → Jump → Type 0
IsTurned at [] new j = Unit {0}
IsTurned at (o ∷ os) new j = (j ≡ o) × (new ≡ jump o.past (at + 1) ∷ os)

-- what is open before the instruction at an index, by what is open behind it, and its jump
abbrev pub Passes : ℕ → Instr → (old new : List Jump) → Jump → Type 0
Passes at (Block t) old new j = IsTaken old new j
Passes at (Loop t) old new j = IsTaken old new j
Passes at (If t) old new j = IsTaken old new j
Passes at Else old new j = IsTurned at old new j
Passes at End old new j = new ≡ jump (at + 1) at ∷ old
Passes at i old new j = new ≡ old
