-- How the program of a sum runs on the object machine.
use Rattle.std.proofs.Common.{◌≡◌, ℕ, zero, suc, List, [], ◌∷◌, Bool, false, refl, sym, ap, ◌∙◌, ℤ}
use Rattle.std.specs.Int.{int_wrapping_add, w64}
use Rattle.cf_base.specs.declared.outcome.Outcome.TheVariants as outcome
use Rattle.cf_object.specs.Obj.{Add}
use Rattle.cf_object.specs.Run.{Num, Run, Is, Bound, DoPrim, DoLet, ByVal}
use Rattle.cf_object.specs.Jumps.{Known, apart, marked}
use Rattle.cf_object.specs.Machine.{LeftOf, RightOf, LetOf, Kept, State, After, Ended, run}
use Rattle.cf_object.specs.Program.{program_run}
use Rattle.cf_driver.specs.Sums.{Sum, Number, Plus}
use Rattle.cf_driver.specs.Lowering.{object_of, program_of}

-- the value of a sum
abbrev pub value : Sum → ℤ
value (Number z) = z
value (Plus a b) = int_wrapping_add w64 (value a) (value b)

-- the term that is run
abbrev run_of : Sum → Run
run_of (Number z) = Is (Num z)
run_of (Plus a b) = DoPrim Add (run_of a) (run_of b)

marked_is : (ks : List Known) (s : Sum) → marked ks (object_of s) ≡ run_of s
marked_is ks (Number z) = refl
marked_is ks (Plus a b) = ap (λ t. DoPrim Add t (marked (apart ks) (object_of b))) (marked_is (apart ks) a) ∙ ap (λ u. DoPrim Add (run_of a) u) (marked_is (apart ks) b)

-- the steps to the value of a sum, and m more
abbrev steps : Sum → ℕ → ℕ
steps (Number z) m = m
steps (Plus a b) m = suc (steps a (suc (steps b (suc m))))

abbrev waits : List Kept → Run → State
waits frames t = record { focus = t; frames = frames; bytes = 0; calls = 0; calls_open = 0 }

module _ (region : ℕ) where
  comes_to_value : (s : Sum) (frames : List Kept) (m : ℕ) → run region (steps s m) (waits frames (run_of s)) 0 ≡ run region m (waits frames (Is (Num (value s)))) 0
  comes_to_value (Number z) frames m = refl
  comes_to_value (Plus a b) frames m =
      comes_to_value a (record { frame = LeftOf Add (run_of b); was_open = 0 } ∷ frames) (suc (steps b (suc m)))
      ∙ comes_to_value b (record { frame = RightOf Add (Num (value a)); was_open = 0 } ∷ frames) (suc m)

  -- the number of steps in which the program ends
  abbrev pub end_steps : Sum → ℕ
  end_steps s = suc (steps s (suc (suc zero)))

  pub program_ends : (s : Sum) → program_run (program_of s) [] region (end_steps s) ≡ Ended (outcome.Returned (value s)) 0 0
  program_ends s =
      ap (λ t. run region (end_steps s) (waits [] (DoLet t (Bound false 0))) 0) (marked_is [] s)
      ∙ comes_to_value s (record { frame = LetOf (Bound false 0); was_open = 0 } ∷ []) (suc (suc zero))
