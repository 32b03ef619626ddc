-- How small modules run: their end, the words that they need, and their steps.
use Rattle.std.specs.Prelude.{◌≡◌, ℕ, ◌-◌, List, [], ◌∷◌, ℤ, pos, None, refl}
use Rattle.wb_syntax.specs.Syntax.{I64, Module}
use Rattle.wb_syntax.specs.Table.{row_at}
use Rattle.wb_syntax.specs.Execute.{word, TheStore, TrapKind, DivideByZero}
use Rattle.wb_syntax.specs.Runs.{mach, RunEnd, Returned, Trapped, StackFull, Stuck, Running, NoMain}
use Rattle.wb_syntax.proofs.Samples.{seven, endless, counted_loop, factorial, table_of_labels, dividing, set_and_put, set_and_stuck}

no_data : TheStore
no_data = record { memory = None; globals = [] }

-- the first state has four words for the frame and one for the constant; leaving the frame is the only step
five_words : mach seven [] 5 1 ≡ Returned (pos 7) no_data
unfolding no_data
five_words = refl

-- the stack is looked at before anything else, so also with no step to be made
four_words : mach seven [] 4 0 ≡ StackFull no_data
unfolding no_data
four_words = refl

-- the store with one global
global_at : ℕ → TheStore
global_at n = record { memory = None; globals = word I64 n ∷ [] }

-- the store of a full stack is that of the state that has too many words
full_at_first : mach set_and_put [] 4 3 ≡ StackFull (global_at 5)
unfolding global_at
full_at_first = refl

full_behind_a_step : mach set_and_put [] 5 3 ≡ StackFull (global_at 7)
unfolding global_at
full_behind_a_step = refl

-- the store of a state that has no step is its own, with no step to be made too
stuck_behind_a_step : mach set_and_stuck [] 5 1 ≡ Stuck (global_at 7)
unfolding global_at
stuck_behind_a_step = refl

stuck_with_steps_to_spare : mach set_and_stuck [] 5 9 ≡ Stuck (global_at 7)
unfolding global_at
stuck_with_steps_to_spare = refl

-- an end without its store and its state
data Answer : Type 0 where
  Gives : ℤ → Answer
  Traps : TrapKind → Answer
  Full : Answer
  GoesOn : Answer
  Other : Answer

answer : RunEnd → Answer
answer (Returned z s) = Gives z
answer (Trapped kind s) = Traps kind
answer (StackFull s) = Full
answer (Running c) = GoesOn
answer (Stuck s) = Other
answer NoMain = Other

-- a loop that branches to itself is still running after so many steps
goes_on : answer (mach endless [] 5 1000) ≡ GoesOn
unfolding answer
goes_on = refl

-- with these words and steps, with one word fewer, and with one step fewer
three : Module → List ℤ → (words steps : ℕ) → List Answer
three m args words steps = answer (mach m args words steps) ∷ answer (mach m args (words - 1) steps) ∷ answer (mach m args words (steps - 1)) ∷ []

-- The ends, words and steps below come from an independent implementation of the same rules.

sum_of_five : three counted_loop (pos 5 ∷ []) 10 67 ≡ Gives (pos 15) ∷ Full ∷ GoesOn ∷ []
unfolding answer three row_at
sum_of_five = refl

factorial_of_six : three factorial (pos 6 ∷ []) 42 55 ≡ Gives (pos 720) ∷ Full ∷ GoesOn ∷ []
unfolding answer three row_at
factorial_of_six = refl

-- past its list, the last label is taken
past_the_table : three table_of_labels (pos 7 ∷ []) 9 9 ≡ Gives (pos 1100) ∷ Full ∷ GoesOn ∷ []
unfolding answer three row_at
past_the_table = refl

-- the step that divides is the one that traps
by_zero : three dividing (pos 0 ∷ []) 8 3 ≡ Traps DivideByZero ∷ Full ∷ GoesOn ∷ []
unfolding answer three row_at
by_zero = refl
