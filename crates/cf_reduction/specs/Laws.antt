-- What holds of evaluation and of normal forms.
use Rattle.std.specs.Prelude.{◌≡◌, ◌≤◌, ◌-◌, ◌↔◌, ℕ, Bool, Option, Some, None, IsTrue}
use Rattle.cf_term.specs.Core.{Tm}
use Rattle.cf_term.specs.Closed.{IsClosed}
use Rattle.cf_term.specs.Same.{bare, same}
use Rattle.cf_term.specs.Substitution.{rename}
use Rattle.cf_term.specs.Evaluation.{Out, Done, Spent, Deep, evaluate_by, evaluate, IsValue}
use Rattle.cf_term.specs.NormalForms.{read_back, normal_form, then_read_back}
use Rattle.cf_term.specs.Measures.{nodes}
use Rattle.cf_reduction.specs.Holes.{HolesAre}
use Rattle.cf_reduction.specs.Normal.{IsNormal, IsUnmarked}
use Rattle.cf_term.specs.Reductions.{Reduces, Reaches, Converts}

-- what follows a step is evaluation itself, with the steps and the nest that are left
abbrev pub EvaluationGoesOn : Type 0
EvaluationGoesOn = (k d : ℕ) (t : Tm) → evaluate k d t ≡ evaluate_by evaluate k d t

-- an answer with its value renamed
abbrev pub renamed_out : (ℕ → ℕ) → Out → Out
renamed_out f (Done v k) = Done (rename f v) k
renamed_out f Spent = Spent
renamed_out f Deep = Deep

-- a renamed term has the renamed value, by the same steps
abbrev pub EvaluationRenames : Type 0
EvaluationRenames = (f : ℕ → ℕ) (k d : ℕ) (t : Tm) → evaluate k d (rename f t) ≡ renamed_out f (evaluate k d t)

-- what evaluation answers evaluates to itself, in no step
abbrev pub ValuesStay : Type 0
ValuesStay = (t : Tm) (k d : ℕ) (v : Tm) (l : ℕ) → evaluate k d t ≡ Done v l → IsValue v

-- no more steps are left than were given
abbrev pub EvaluationSpends : Type 0
EvaluationSpends = (t : Tm) (k d : ℕ) (v : Tm) (l : ℕ) → evaluate k d t ≡ Done v l → l ≤ k

-- what evaluation answers is reached by reductions
abbrev pub EvaluationReaches : Type 0
EvaluationReaches = (t : Tm) (k d : ℕ) (v : Tm) (l : ℕ) → evaluate k d t ≡ Done v l → (known : ℕ → Option Tm) → Reaches known t v

-- what is written of a value is reached by reductions
abbrev pub ReadingReaches : Type 0
ReadingReaches = (v : Tm) (k d : ℕ) (t : Tm) (l : ℕ) → read_back k d v ≡ Done t l → (known : ℕ → Option Tm) → Reaches known v t

-- a normal form is reached by reductions
abbrev pub NormalFormReaches : Type 0
NormalFormReaches = (t : Tm) (k d : ℕ) (u : Tm) (l : ℕ) → normal_form k d t ≡ Done u l → (known : ℕ → Option Tm) → Reaches known (bare t) u

-- a term is normal exactly where nothing in it reduces, no variable being defined
abbrev pub NormalTermsDoNotReduce : Type 0
NormalTermsDoNotReduce = (known : ℕ → Option Tm) → ((i : ℕ) → known i ≡ None) → (t : Tm) → IsNormal t ↔ ((u : Tm) → Reduces known t u → ⊥)

-- a normal term evaluates to itself in no step
abbrev pub NormalTermsAreValues : Type 0
NormalTermsAreValues = (t : Tm) → IsNormal t → IsValue t

-- a term without marks is what it is without its marks
abbrev pub UnmarkedTermsAreBare : Type 0
UnmarkedTermsAreBare = (t : Tm) → IsUnmarked t → bare t ≡ t

-- a normal term without marks is its own normal form, by a step for each node
abbrev pub NormalTermsStay : Type 0
NormalTermsStay = (t : Tm) (k d : ℕ) → IsNormal t → IsUnmarked t → nodes t ≤ k → normal_form k d t ≡ Done t (k - nodes t)

-- what is read back of a value is a normal term, and so a normal form is one
abbrev pub NormalFormsAreNormal : Type 0
NormalFormsAreNormal = (t : Tm) (k d : ℕ) (u : Tm) (l : ℕ) → then_read_back d (evaluate k d t) ≡ Done u l → IsNormal u

-- what is read back of the value of a term is reached from the term by reductions
abbrev pub ReadingOfValueReaches : Type 0
ReadingOfValueReaches = (t : Tm) (k d : ℕ) (u : Tm) (l : ℕ) → then_read_back d (evaluate k d t) ≡ Done u l → (known : ℕ → Option Tm) → Reaches known t u

-- reductions bring no variable that was not there, where the values of the defined variables have none
abbrev pub ReductionsStayClosed : Type 0
ReductionsStayClosed = (known : ℕ → Option Tm) (n : ℕ) (t u : Tm) → ((i : ℕ) (v : Tm) → known i ≡ Some v → IsClosed n v) → Reaches known t u → IsClosed n t → IsClosed n u

-- a normal form has no variable that its term has not
abbrev pub NormalFormsStayClosed : Type 0
NormalFormsStayClosed = (t : Tm) (n k d : ℕ) (u : Tm) (l : ℕ) → normal_form k d t ≡ Done u l → IsClosed n t → IsClosed n u

-- reductions bring no hole that was not there, where the values of the defined variables have none
abbrev pub ReductionsKeepHoles : Type 0
ReductionsKeepHoles = (these : ℕ → Bool) (known : ℕ → Option Tm) (t u : Tm) → ((i : ℕ) (v : Tm) → known i ≡ Some v → HolesAre these v) → Reaches known t u → HolesAre these t → HolesAre these u

-- a normal form has no hole that its term has not
abbrev pub NormalFormsKeepHoles : Type 0
NormalFormsKeepHoles = (these : ℕ → Bool) (t : Tm) (k d : ℕ) (u : Tm) (l : ℕ) → normal_form k d t ≡ Done u l → HolesAre these t → HolesAre these u

-- conversion is an equivalence
abbrev pub ConversionIsEquivalence : Type 0
ConversionIsEquivalence = (known : ℕ → Option Tm)
    → ((t : Tm) → Converts known t t) × ((t u : Tm) → Converts known t u → Converts known u t) × ((t u v : Tm) → Converts known t u → Converts known u v → Converts known t v)

-- what is reached by reductions converts
abbrev pub ReachedTermsConvert : Type 0
ReachedTermsConvert = (known : ℕ → Option Tm) (t u : Tm) → Reaches known t u → Converts known t u

-- terms whose normal forms are the same convert
abbrev pub SameNormalFormsConvert : Type 0
SameNormalFormsConvert = (t u : Tm) (k d m e : ℕ) (v w : Tm) (l j : ℕ) → normal_form k d t ≡ Done v l → normal_form m e u ≡ Done w j → IsTrue (same v w) → (known : ℕ → Option Tm) → Converts known t u
