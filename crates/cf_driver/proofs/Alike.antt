-- The module of a sum ends as the program of the sum does.
use Rattle.std.proofs.Common.{◌≡◌, ℕ, ◌+◌, ◌%◌, ◌^◌, ◌<◌, ◌≤◌, ◌⊎◌, inl, inr, List, [], ◌∷◌, length, refl, sym, ap, ◌∙◌, subst, arith, ℤ, ⊎_elim}
use Rattle.std.specs.Prelude.{◌≢◌}
use Rattle.std.specs.Int.{cast_unsigned, cast_signed, w64}
use Rattle.std.proofs.lemmas.Bool.{cases_lt}
use Rattle.std.proofs.lemmas.Int.{of_z-to_z, to_z-of_z}
use Rattle.cf_base.specs.declared.outcome.Outcome.{Outcome}
use Rattle.cf_base.specs.declared.outcome.Outcome.TheVariants as outcome
use Rattle.cf_object.specs.Machine.{After, Ended}
use Rattle.cf_object.specs.Program.{program_run, first_state, EndsWithin}
use Rattle.cf_object.proofs.EndedStays.{ended_stays_lem}
use Rattle.wb_syntax.specs.Runs.{RunEnd, Returned, StackFull, HasEnded, IsStackFull, mach}
use Rattle.wb_syntax.proofs.Longer.{mach_longer}
use Rattle.cf_driver.specs.Sums.{Sum, Number, Plus}
use Rattle.cf_agreement.specs.Agreement.{Agrees, returned, IsOver, AreArguments, EndsAlike}
use Rattle.cf_driver.specs.Lowering.{program_of, module_of, AllFit}
use Rattle.cf_driver.proofs.SourceRuns.{value, program_ends}
use Rattle.cf_driver.proofs.SourceRuns as source
use Rattle.cf_driver.proofs.ModuleRuns.{bits, no_data, Comes, need, end_steps, mach_comes, mach_with_room}

-- ---- the word that is left is the value

bits_are : (s : Sum) → cast_unsigned w64 (value s) ≡ bits s
bits_are (Number z) = refl
bits_are (Plus a b) =
    of_z-to_z w64 ((cast_unsigned w64 (value a) + cast_unsigned w64 (value b)) % 2 ^ 64) (omega arith)
    ∙ ap (λ x. (x + cast_unsigned w64 (value b)) % 2 ^ 64) (bits_are a)
    ∙ ap (λ y. (bits a + y) % 2 ^ 64) (bits_are b)

value_is : (s : Sum) → AllFit s → cast_signed w64 (bits s) ≡ value s
value_is (Number z) fits = to_z-of_z w64 z fits
value_is (Plus a b) fits = sym (ap (λ x. cast_signed w64 ((x + cast_unsigned w64 (value b)) % 2 ^ 64)) (bits_are a) ∙ ap (λ y. cast_signed w64 ((bits a + y) % 2 ^ 64)) (bits_are b))

agrees : (o : Outcome) (z : ℤ) (e : RunEnd) → o ≡ outcome.Returned z → e ≡ Returned z no_data → Agrees o e
agrees o z e p q = subst (λ x. Agrees x e) (sym p) (subst (λ x. Agrees (outcome.Returned z) x) (sym q) (returned z no_data))

-- ---- each of the two runs has one end

ended_is : (region : ℕ) (o p : Outcome) (calls peak calls' peak' : ℕ) → ◌≡◌ {A = After region} (Ended o calls peak) (Ended p calls' peak') → o ≡ p
ended_is region o p calls peak calls' peak' e = cc

full_ended : (e : RunEnd) → IsStackFull e → HasEnded e
full_ended (StackFull s) h = tt
full_ended _ h = absurd h

comes_ended : (z : ℤ) (e : RunEnd) → Comes e (Returned z no_data) → HasEnded e
comes_ended z e c = ⊎_elim (λ p. subst HasEnded (sym p) tt) (λ p. full_ended e p) c

module _ (s : Sum) (fits : AllFit s) (region : ℕ) where
  outcome_is : (n : ℕ) (o : Outcome) → EndsWithin (program_of s) [] region n o → o ≡ outcome.Returned (value s)
  outcome_is n o ends =
      let first = first_state (program_of s) [] in
      let k = source.end_steps region s in
      ended_is region o (outcome.Returned (value s)) ends.0 ends.1 0 0
      (⊎_elim
      (λ lt. sym (ended_stays_lem region n k first 0 _ ends.2 tt (omega arith)) ∙ program_ends region s)
      (λ le. sym ends.2 ∙ ended_stays_lem region k n first 0 _ (program_ends region s) tt le)
      (cases_lt n k))

  -- the word that is left, as a number, is the value
  comes : (W : ℕ) → Comes (mach (module_of s) [] W (end_steps s)) (Returned (value s) no_data)
  comes W = subst (λ z. Comes (mach (module_of s) [] W (end_steps s)) (Returned z no_data)) (value_is s fits) (mach_comes s W)

  one_end : (W k : ℕ) → HasEnded (mach (module_of s) [] W k) → mach (module_of s) [] W k ≡ mach (module_of s) [] W (end_steps s)
  one_end W k ended =
      ⊎_elim
      (λ lt. sym (mach_longer (module_of s) [] W k (end_steps s) _ refl ended (omega arith)))
      (λ le. mach_longer (module_of s) [] W (end_steps s) k _ refl (comes_ended (value s) _ (comes W)) le)
      (cases_lt k (end_steps s))

  -- ---- the three promises, for `main` without parameters

  ends_forth : (n : ℕ) (o : Outcome) → EndsWithin (program_of s) [] region n o → (W : ℕ) → (k : ℕ) × (Agrees o (mach (module_of s) [] W k) ⊎ IsStackFull (mach (module_of s) [] W k))
  ends_forth n o ends W = (end_steps s, ⊎_elim (λ p. inl (agrees o (value s) _ (outcome_is n o ends) p)) inr (comes W))

  ends_back : (W k : ℕ) → IsOver (mach (module_of s) [] W k) → (n : ℕ) × (o : Outcome) × EndsWithin (program_of s) [] region n o × Agrees o (mach (module_of s) [] W k)
  ends_back W k over =
      let same = one_end W k over.0 in (
        source.end_steps region s,
        outcome.Returned (value s),
        (0, 0, program_ends region s),
        ⊎_elim (λ p. agrees _ (value s) _ refl (same ∙ p)) (λ p. absurd (over.1 (subst IsStackFull (sym same) p))) (comes W),
      )

  ends_with_room : (n : ℕ) (o : Outcome) → EndsWithin (program_of s) [] region n o → (W : ℕ) × (k : ℕ) × Agrees o (mach (module_of s) [] W k)
  ends_with_room n o ends =
      (need s, end_steps s, agrees o (value s) _ (outcome_is n o ends) (mach_with_room s ∙ ap (λ z. Returned z no_data) (value_is s fits)))

-- no arguments
no_arguments : (args : List ℤ) → AreArguments 0 args → args ≡ []
no_arguments [] are = refl
no_arguments (z ∷ zs) are = absurd (omega (arith, are.count))

pub ends_alike : (s : Sum) → AllFit s → (region : ℕ) → EndsAlike (program_of s) 0 region (module_of s)
ends_alike s fits region = record {
  forth = λ args are. subst (λ xs. (n : ℕ) (o : Outcome) → EndsWithin (program_of s) xs region n o → (W : ℕ) → (k : ℕ) × (Agrees o (mach (module_of s) xs W k) ⊎ IsStackFull (mach (module_of s) xs W k))) (sym (no_arguments args are)) (ends_forth s fits region);
  back = λ args are. subst (λ xs. (W k : ℕ) → IsOver (mach (module_of s) xs W k) → (n : ℕ) × (o : Outcome) × EndsWithin (program_of s) xs region n o × Agrees o (mach (module_of s) xs W k)) (sym (no_arguments args are)) (ends_back s fits region);
  room = λ args are. subst (λ xs. (n : ℕ) (o : Outcome) → EndsWithin (program_of s) xs region n o → (W : ℕ) × (k : ℕ) × Agrees o (mach (module_of s) xs W k)) (sym (no_arguments args are)) (ends_with_room s fits region);
}
