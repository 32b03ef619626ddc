-- An end tells the outcome that it agrees with: the kind of a trap does, and the status word where that is Unreached.
use Rattle.std.proofs.Common.{◌≡◌, ℕ, refl, sym, ap, ◌∙◌, subst}
use Rattle.std.specs.Prelude.{nat_eq, if◌then◌else◌}
use Rattle.cf_base.specs.declared.outcome.Outcome.{Outcome}
use Rattle.cf_base.specs.declared.outcome.Outcome.TheVariants as outcome
use Rattle.wb_syntax.specs.Execute.{Unreached, DivideByZero}
use Rattle.wb_syntax.specs.Runs.{RunEnd, Returned, Trapped, status}
use Rattle.cf_object.specs.Program.{EndsWithin}
use Rattle.cf_agreement.specs.Agreement.{Agrees, returned, divided_by_zero, overflowed, heap_full, failed}
use Rattle.cf_agreement.specs.Laws.{AgreeingIsOver, OneOutcome, SameOutcomes}

pub agreeing_is_over_lem : AgreeingIsOver
agreeing_is_over_lem o e (returned z s) = (tt, λ e. e)
agreeing_is_over_lem o e (divided_by_zero s) = (tt, λ e. e)
agreeing_is_over_lem o e (overflowed s) = (tt, λ e. e)
agreeing_is_over_lem o e (heap_full s is) = (tt, λ e. e)
agreeing_is_over_lem o e (failed s is) = (tt, λ e. e)

-- the outcome that a status word tells
abbrev by_status : ℕ → Outcome
by_status n = if nat_eq n 1 then outcome.HeapFull else outcome.Failed

-- the outcome that an end tells
abbrev told_by : RunEnd → Outcome
told_by (Returned z s) = outcome.Returned z
told_by (Trapped Unreached s) = by_status (status s)
told_by (Trapped DivideByZero s) = outcome.DivideByZero
told_by _ = outcome.Overflow

outcome_is : (o : Outcome) (e : RunEnd) → Agrees o e → o ≡ told_by e
outcome_is o e (returned z s) = refl
outcome_is o e (divided_by_zero s) = refl
outcome_is o e (overflowed s) = refl
outcome_is o e (heap_full s is) = sym (ap by_status is)
outcome_is o e (failed s is) = sym (ap by_status is)

pub one_outcome_lem : OneOutcome
one_outcome_lem o p e a b = outcome_is o e a ∙ sym (outcome_is p e b)

-- the module's run for an end of the one program, which has room, is one for an end of the other
pub same_outcomes_lem : SameOutcomes
same_outcomes_lem program other arity region m one two args are n o ends =
    let run = one.room args are n o ends in
    let back = two.back args are run.0 run.1 (agreeing_is_over_lem o _ run.2) in
    (back.0, subst (λ p. EndsWithin other args region back.0 p) (one_outcome_lem back.1 o _ back.3 run.2) back.2)
