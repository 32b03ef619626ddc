-- The machine of modules as a machine that steps, from states of at most so many words; and runs of it that follow one another.
use Rattle.std.specs.Prelude.{◌≡◌, ℕ, ◌+◌, ◌≤◌, true, false, nat_lt}
use Rattle.cf_simulation.specs.Simulation.{Move, Goes, Ends, Lost, At, Over, reach}
use Rattle.wb_syntax.specs.declared.syntax.Module.{Module}
use Rattle.wb_syntax.specs.Execute.{Config, machine_step}
use Rattle.wb_syntax.specs.Execute as wasm
use Rattle.wb_syntax.specs.Runs.{RunEnd, Trapped, returned, words_of}

-- a step of a module as a move: to a state, or to the end of the run
abbrev pub as_move : wasm.Move → Move Config RunEnd
as_move (wasm.Goes c) = Goes c
as_move (wasm.Finishes results s) = Ends (returned results s)
as_move (wasm.Traps kind s) = Ends (Trapped kind s)
as_move wasm.NoRule = Lost

-- of this module, where memory has at most `room` pages, with steps from states of at most `most` words alone
module _ (m : Module) (room most : ℕ) where
  -- the machine that steps
  abbrev pub bounded : Config → Move Config RunEnd
  bounded c = elim (nat_lt most (words_of c)) [ true ↦ Lost | false ↦ as_move (machine_step m room c) ]

  -- n steps lead from one state to another
  pub record ComesTo (n : ℕ) (c d : Config) : Type 0 where
    pub reached : reach bounded n c ≡ At d

  -- a run from this state ends so, within n steps
  pub record ComesToEnd (n : ℕ) (c : Config) (e : RunEnd) : Type 0 where
    pub over : reach bounded n c ≡ Over e

-- ---- laws

-- a step is made from a state that has no more words
abbrev pub StepIsMade : Type 0
StepIsMade = (m : Module) (room most : ℕ) (c d : Config) → machine_step m room c ≡ wasm.Goes d → words_of c ≤ most → ComesTo m room most 1 c d

-- and so is a last step
abbrev pub LastStepIsMade : Type 0
LastStepIsMade = (m : Module) (room most : ℕ) (c : Config) (e : RunEnd) → as_move (machine_step m room c) ≡ Ends e → words_of c ≤ most → ComesToEnd m room most 1 c e

-- no step leads nowhere else
abbrev pub NoStepStays : Type 0
NoStepStays = (m : Module) (room most : ℕ) (c : Config) → ComesTo m room most 0 c c

-- steps after steps
abbrev pub StepsFollow : Type 0
StepsFollow = (m : Module) (room most n k : ℕ) (c d e : Config) → ComesTo m room most n c d → ComesTo m room most k d e → ComesTo m room most (n + k) c e

-- an end after steps
abbrev pub EndFollows : Type 0
EndFollows = (m : Module) (room most n k : ℕ) (c d : Config) (e : RunEnd) → ComesTo m room most n c d → ComesToEnd m room most k d e → ComesToEnd m room most (n + k) c e

-- steps are some of them, and then the others
abbrev pub StepsPart : Type 0
StepsPart = (m : Module) (room most n k : ℕ) (c e : Config) → ComesTo m room most (n + k) c e → (d : Config) × ComesTo m room most n c d × ComesTo m room most k d e

-- an end that comes within some steps comes within more
abbrev pub EndStays : Type 0
EndStays = (m : Module) (room most n k : ℕ) (c : Config) (e : RunEnd) → ComesToEnd m room most n c e → n ≤ k → ComesToEnd m room most k c e

-- steps from states of few words are steps from states of more
abbrev pub StepsWithMoreWords : Type 0
StepsWithMoreWords = (m : Module) (room few many n : ℕ) (c d : Config) → few ≤ many → ComesTo m room few n c d → ComesTo m room many n c d

-- and so are those to an end
abbrev pub EndWithMoreWords : Type 0
EndWithMoreWords = (m : Module) (room few many n : ℕ) (c : Config) (e : RunEnd) → few ≤ many → ComesToEnd m room few n c e → ComesToEnd m room many n c e
