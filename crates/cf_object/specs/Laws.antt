-- Laws of the object machine.
use Rattle.std.specs.Prelude.{◌≡◌, ℕ, ◌+◌, ◌≤◌, max}
use Rattle.cf_simulation.specs.Simulation.{At, reach}
use Rattle.cf_object.specs.Machine.{State, After, run, HasEnded}
use Rattle.cf_object.specs.Moves.{object_step, reached, most_open}

-- more steps change nothing of a run that has ended
abbrev pub EndedStays : Type 0
EndedStays = (region n more : ℕ) (s : State) (peak : ℕ) (e : After region) → run region n s peak ≡ e → HasEnded region e → n ≤ more → run region more s peak ≡ e

-- a run comes to where the machine that steps comes to
abbrev pub RunsReach : Type 0
RunsReach = (region n : ℕ) (s : State) (peak : ℕ) → reach (object_step region) n s ≡ reached region (run region n s peak)

-- a run of more steps goes on from a state that is reached, with the most calls that were open until then
abbrev pub RunsGoOn : Type 0
RunsGoOn = (region k j : ℕ) (s t : State) (peak : ℕ) → reach (object_step region) k s ≡ At t → run region (k + j) s peak ≡ run region j t (max peak (most_open region k s))
