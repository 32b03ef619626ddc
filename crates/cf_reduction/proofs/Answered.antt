-- Answers of an evaluation that ended, and of one that did not.
use Rattle.std.specs.Prelude.{ℕ, Bool, true, false, ◌≡◌, refl}
use mathlib.Core.Path.{sym, subst}
use Rattle.cf_term.specs.Core.{Tm, Tms}
use Rattle.cf_term.specs.Evaluation.{Out, Done, Spent, Deep, Outs, AllDone, AllSpent, AllDeep}

-- the value that was answered, or else this term
abbrev pub value_of : Out → Tm → Tm
value_of (Done v l) t = v
value_of Spent t = t
value_of Deep t = t

-- the same of parts
abbrev pub values_of : Outs → Tms → Tms
values_of (AllDone v l) t = v
values_of AllSpent t = t
values_of AllDeep t = t

-- the steps that are left, or else this number
abbrev pub left_of : Out → ℕ → ℕ
left_of (Done v l) n = l
left_of Spent n = n
left_of Deep n = n

abbrev pub all_left_of : Outs → ℕ → ℕ
all_left_of (AllDone v l) n = l
all_left_of AllSpent n = n
all_left_of AllDeep n = n

abbrev IsDone : Out → Type 0
IsDone (Done v l) = Unit {0}
IsDone Spent = ⊥
IsDone Deep = ⊥

abbrev AreDone : Outs → Type 0
AreDone (AllDone v l) = Unit {0}
AreDone AllSpent = ⊥
AreDone AllDeep = ⊥

pub not_spent : {v : Tm} {l : ℕ} → Spent ≡ Done v l → ⊥
not_spent e = subst IsDone (sym e) tt

pub not_deep : {v : Tm} {l : ℕ} → Deep ≡ Done v l → ⊥
not_deep e = subst IsDone (sym e) tt

pub none_spent : {v : Tms} {l : ℕ} → AllSpent ≡ AllDone v l → ⊥
none_spent e = subst AreDone (sym e) tt

pub none_deep : {v : Tms} {l : ℕ} → AllDeep ≡ AllDone v l → ⊥
none_deep e = subst AreDone (sym e) tt

-- a fact of each of two ways
pub by_cases : (b : Bool) {x y : Outs} (P : Outs → Type 0) → (b ≡ true → P x) → (b ≡ false → P y) → P (elim b [ true ↦ x | false ↦ y ])
by_cases true P p q = p refl
by_cases false P p q = q refl
