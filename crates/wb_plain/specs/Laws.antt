-- What instructions do to a state is what the definition of execution does at them.
use Rattle.std.specs.Prelude.{◌≡◌, ℕ, false}
use Rattle.wb_syntax.specs.Syntax.{Code}
use Rattle.wb_syntax.specs.Execute.{Config}
use Rattle.wb_plain.specs.Syntax.{Instr, Module}
use Rattle.wb_plain.specs.Effects.{State, SameStore, SameRoom, effect, Ends, has_effect, writes_store}
use Rattle.wb_plain.specs.Follows.{IsStraight, step_of, Follows, KeepsWhereItGoes, is_step}
use Rattle.wb_plain.specs.declared.outcome.Outcome.{Outcome}

-- how an effect ends is a step of the definition, for every module, every room of the memory, every configuration with
-- the locals and the store of the state, and every code that follows
abbrev pub EffectsFollow : Type 0
EffectsFollow =
    (m : Module) (room : ℕ) (c : Config) (rest : Code) (i : Instr) (o : Outcome) (old new : State) → IsStraight i → Ends o (effect room i old) old new
    → Follows o room c rest (step_of m room c rest i old) old new

-- what no instruction changes
abbrev pub EffectsKeep : Type 0
EffectsKeep = (room : ℕ) (i : Instr) (o : Outcome) (old new : State) → IsStraight i → Ends o (effect room i old) old new → KeepsWhereItGoes o room old new × SameRoom old new

-- an instruction that writes to no memory and no global leaves them as they are
abbrev pub EffectsSpare : Type 0
EffectsSpare = (room : ℕ) (i : Instr) (o : Outcome) (old new : State) → writes_store i ≡ false → Ends o (effect room i old) old new → SameStore old new

-- the definition has a step exactly where there is an effect
abbrev pub EffectsAnswer : Type 0
EffectsAnswer = (m : Module) (room : ℕ) (c : Config) (rest : Code) (i : Instr) (s : State) → IsStraight i → is_step (step_of m room c rest i s) ≡ has_effect (effect room i s)
