-- The laws of renaming and substitution. `skip` and `in_place` are the renaming and the substitution of the two calls; the laws hold of all.
use Rattle.std.specs.Prelude.{ℕ, ◌+◌, ◌<◌, ◌≤◌, ◌≡◌, ◌↔◌, IsTrue}
use Rattle.cf_term.specs.Core.{Tm, var}
use Rattle.cf_term.specs.Closed.{IsClosed}
use Rattle.cf_term.specs.Same.{bare, plain, same}
use Rattle.cf_term.specs.Substitution.{rename, substitute, up, ups, instance, shifted, substituted}

-- two renamings are one
abbrev pub RenamingsCompose : Type 0
RenamingsCompose = (t : Tm) (f g : ℕ → ℕ) → rename f (rename g t) ≡ rename (λ i. f (g i)) t

-- a substitution in a renamed term
abbrev pub SubstitutionOfRenamed : Type 0
SubstitutionOfRenamed = (t : Tm) (s : ℕ → Tm) (f : ℕ → ℕ) → substitute s (rename f t) ≡ substitute (λ i. s (f i)) t

-- a renaming of a term in which was substituted
abbrev pub RenamingOfSubstituted : Type 0
RenamingOfSubstituted = (t : Tm) (f : ℕ → ℕ) (s : ℕ → Tm) → rename f (substitute s t) ≡ substitute (λ i. rename f (s i)) t

-- two substitutions are one
abbrev pub SubstitutionsCompose : Type 0
SubstitutionsCompose = (t : Tm) (s r : ℕ → Tm) → substitute s (substitute r t) ≡ substitute (λ i. substitute s (r i)) t

-- each variable for itself changes nothing
abbrev pub SubstitutionOfVariables : Type 0
SubstitutionOfVariables = (t : Tm) → substitute var t ≡ t

-- a renaming is the substitution of variables
abbrev pub RenamingIsSubstitution : Type 0
RenamingIsSubstitution = (t : Tm) (f : ℕ → ℕ) → rename f t ≡ substitute (λ i. var (f i)) t

-- a term that was shifted past a variable does not have it
abbrev pub SubstitutionOfShifted : Type 0
SubstitutionOfShifted = (t u : Tm) (at : ℕ) → substituted (shifted t at 1) at u ≡ t

-- shifting twice at a place is shifting once
abbrev pub ShiftsAdd : Type 0
ShiftsAdd = (t : Tm) (from m n : ℕ) → shifted (shifted t from m) from n ≡ shifted t from (m + n)

-- shifting by nothing changes nothing
abbrev pub ShiftByNothing : Type 0
ShiftByNothing = (t : Tm) (from : ℕ) → shifted t from 0 ≡ t

-- a substitution in an instance is an instance of what it makes of the two
abbrev pub SubstitutionOfInstance : Type 0
SubstitutionOfInstance = (s : ℕ → Tm) (t u : Tm) → substitute s (instance t u) ≡ instance (substitute (up s) t) (substitute s u)

-- `same` decides whether two terms are equal, marks and `implicit` flags aside
abbrev pub SameDecides : Type 0
SameDecides = (t u : Tm) → IsTrue (same t u) ↔ (plain t ≡ plain u)

-- ---- closed terms

-- a term of n variables is one of more variables
abbrev pub ClosedAmongMore : Type 0
ClosedAmongMore = (t : Tm) (n m : ℕ) → n ≤ m → IsClosed n t → IsClosed m t

-- a renaming that keeps the n variables changes no term of these
abbrev pub RenamingOfClosed : Type 0
RenamingOfClosed = (t : Tm) (n : ℕ) (f : ℕ → ℕ) → ((i : ℕ) → i < n → f i ≡ i) → IsClosed n t → rename f t ≡ t

-- a substitution that keeps the n variables changes no term of these
abbrev pub SubstitutionOfClosed : Type 0
SubstitutionOfClosed = (t : Tm) (n : ℕ) (s : ℕ → Tm) → ((i : ℕ) → i < n → s i ≡ var i) → IsClosed n t → substitute s t ≡ t

-- a term of n variables stays where it is shifted from there on, and where something is put in for a variable from there on
abbrev pub ShiftOfClosed : Type 0
ShiftOfClosed = (t u : Tm) (n at by : ℕ) → n ≤ at → IsClosed n t → (shifted t at by ≡ t) × (substituted t at u ≡ t)

-- a renaming of n variables to variables below m makes a term of m variables
abbrev pub RenamedTermIsClosed : Type 0
RenamedTermIsClosed = (t : Tm) (n m : ℕ) (f : ℕ → ℕ) → ((i : ℕ) → i < n → f i < m) → IsClosed n t → IsClosed m (rename f t)

-- terms of m variables for n variables, under k binders, make a term of m variables under these binders
abbrev pub SubstitutionIsClosed : Type 0
SubstitutionIsClosed = (t : Tm) (k n m : ℕ) (s : ℕ → Tm) → ((i : ℕ) → i < n → IsClosed m (s i)) → IsClosed (n + k) t → IsClosed (m + k) (substitute (ups k s) t)

-- a term of n variables that is shifted has as many variables more
abbrev pub ShiftedTermIsClosed : Type 0
ShiftedTermIsClosed = (t : Tm) (n from by : ℕ) → IsClosed n t → IsClosed (n + by) (shifted t from by)

-- a term of n variables for one of n variables and this one
abbrev pub SubstitutedTermIsClosed : Type 0
SubstitutedTermIsClosed = (t u : Tm) (n at : ℕ) → at ≤ n → IsClosed (n + 1) t → IsClosed n u → IsClosed n (substituted t at u)

-- taking marks away brings no variable
abbrev pub BareTermIsClosed : Type 0
BareTermIsClosed = (t : Tm) (n : ℕ) → IsClosed n t → IsClosed n (bare t)
