-- Laws of runs, and what the machine that steps says of them.
use Rattle.std.specs.Prelude.{◌≡◌, ◌⊎◌, ℕ, ◌+◌, ◌≤◌, ◌<◌, ◌↔◌}
use Rattle.wb_syntax.specs.declared.syntax.Module.{Module}
use Rattle.wb_syntax.specs.Execute.{TheStore, Config}
use Rattle.wb_syntax.specs.Runs.{RunEnd, Returned, Trapped, Running, StackFull, HasEnded, IsStackFull, words_of, runs}
use Rattle.wb_steps.specs.Moves.{ComesTo, ComesToEnd}

-- a run that has not ended goes on like this
abbrev pub on_running : RunEnd → (Config → RunEnd) → RunEnd
on_running (Running c) next = next c
on_running e next = e

-- a run of n + k steps is one of n, and one of k from where that has come to
abbrev pub RunsPart : Type 0
RunsPart = (m : Module) (room words n k : ℕ) (c : Config) → runs m room words (n + k) c ≡ on_running (runs m room words n c) (runs m room words k)

-- a run that had words enough is the same with more
abbrev pub RunsWithMoreWords : Type 0
RunsWithMoreWords = (m : Module) (room few many n : ℕ) (c : Config) → few ≤ many → (IsStackFull (runs m room few n c) → ⊥) → runs m room many n c ≡ runs m room few n c

-- ---- with as many words as the steps need

-- a run goes on from each state to which steps lead
abbrev pub RunsGoOn : Type 0
RunsGoOn = (m : Module) (room most words k j : ℕ) (c d : Config) → ComesTo m room most k c d → most ≤ words → runs m room words (k + j) c ≡ runs m room words j d

-- and ends with the end to which they lead
abbrev pub RunsEnd : Type 0
RunsEnd = (m : Module) (room most words k n : ℕ) (c : Config) (e : RunEnd) → ComesToEnd m room most k c e → most ≤ words → k ≤ n → runs m room words n c ≡ e

-- ---- with any number of words

-- a run goes on from each state to which steps lead, or is full
abbrev pub RunsGoOnOrFill : Type 0
RunsGoOnOrFill = (m : Module) (room most words k j : ℕ) (c d : Config) → ComesTo m room most k c d →
    (runs m room words (k + j) c ≡ runs m room words j d) ⊎ IsStackFull (runs m room words (k + j) c)

-- and ends with the end to which they lead, or is full
abbrev pub RunsEndOrFill : Type 0
RunsEndOrFill = (m : Module) (room most words k n : ℕ) (c : Config) (e : RunEnd) → ComesToEnd m room most k c e → k ≤ n →
    (runs m room words n c ≡ e) ⊎ IsStackFull (runs m room words n c)

-- a run that is full before a state to which steps lead has fewer words than they need
abbrev pub FullIsLess : Type 0
FullIsLess = (m : Module) (room most words k n : ℕ) (c d : Config) → ComesTo m room most k c d → n < k → IsStackFull (runs m room words n c) → words < most

-- so has one that is full where steps lead to an end
abbrev pub FullIsLessAtEnd : Type 0
FullIsLessAtEnd = (m : Module) (room most words k n : ℕ) (c : Config) (e : RunEnd) → ComesToEnd m room most k c e → IsStackFull (runs m room words n c) → words < most

-- a run does not end before a state to which steps lead, unless it is full
abbrev pub NoEndBefore : Type 0
NoEndBefore = (m : Module) (room most words k n : ℕ) (c d : Config) → ComesTo m room most k c d →
    HasEnded (runs m room words n c) → (IsStackFull (runs m room words n c) → ⊥) → k ≤ n

-- ---- which states a run comes to

-- a run that still goes on has made its steps
abbrev pub RunningHasCome : Type 0
RunningHasCome = (m : Module) (room words n : ℕ) (c d : Config) → runs m room words n c ≡ Running d → ComesTo m room words n c d

-- a run has returned or trapped
abbrev pub HasAnswered : RunEnd → Type 0
HasAnswered (Returned z s) = Unit {0}
HasAnswered (Trapped kind s) = Unit {0}
HasAnswered _ = ⊥

-- such a run has come to its end
abbrev pub EndHasCome : Type 0
EndHasCome = (m : Module) (room words n : ℕ) (c : Config) (e : RunEnd) → runs m room words n c ≡ e → HasAnswered e → ComesToEnd m room words n c e

-- at most n steps, from states of at most so many words, lead to one that has more, and this store
pub record Fills (m : Module) (room words n : ℕ) (c : Config) (s : TheStore) : Type 0 where
  pub steps : ℕ
  pub filled : Config
  pub within : steps ≤ n
  pub comes : ComesTo m room words steps c filled
  pub more : words < words_of filled
  pub store : filled.store ≡ s

-- a run is full exactly where it comes to a state of more words than it has
abbrev pub FullExactly : Type 0
FullExactly = (m : Module) (room words n : ℕ) (c : Config) (s : TheStore) → (runs m room words n c ≡ StackFull s) ↔ Fills m room words n c s
