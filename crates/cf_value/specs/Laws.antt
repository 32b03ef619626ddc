-- The laws of what values stand for.
use Rattle.std.specs.Prelude.{ℕ, ◌+◌, ◌<◌, ◌≤◌, ◌≡◌}
use Rattle.cf_term.specs.Core.{Tm}
use Rattle.cf_term.specs.Closed.{IsClosed}
use Rattle.cf_term.specs.Evaluation.{IsValue}
use Rattle.cf_term.specs.Substitution.{rename, substitute, up, ups, instance}
use Rattle.cf_value.specs.Val.{Val, Vals, push}
use Rattle.cf_value.specs.Stands.{term_at, env_at, with_levels}
use Rattle.cf_value.specs.Contexts.{IsKnown, IsValueIn, AreValuesIn, below, or_levels, with_variables}

-- a renamed term of a value is the term where the levels stand for the renamed variables
abbrev pub RenamingOfValue : Type 0
RenamingOfValue = (v : Val) (f at : ℕ → ℕ) → rename f (term_at at v) ≡ term_at (λ n. f (at n)) v

-- a value of a context stands for a value, whatever variables its levels stand for
abbrev pub ValueOfContext : Type 0
ValueOfContext = (d : ℕ) (v : Val) → IsValueIn d v → (at : ℕ → ℕ) → IsValue (term_at at v)

-- under n object binders, whose levels are new, an environment with their levels is the substitution under n binders
abbrev pub EnvironmentUnderBinders : Type 0
EnvironmentUnderBinders = (n d : ℕ) (e : Vals) → AreValuesIn d e → (at : ℕ → ℕ) (i : ℕ) → env_at (with_levels n d at) (with_variables n d e) i ≡ ups n (env_at at e) i

-- an argument that is put in is one value more in the environment
abbrev pub ArgumentPutIn : Type 0
ArgumentPutIn = (t : Tm) (u : Val) (e : Vals) (at : ℕ → ℕ) → instance (substitute (up (env_at at e)) t) (term_at at u) ≡ substitute (env_at at (push u e)) t

-- the levels of n object binders more are values of the context that has their variables
abbrev pub VariablesAreValues : Type 0
VariablesAreValues = (n d : ℕ) (e : Vals) → AreValuesIn d e → AreValuesIn (d + n) (with_variables n d e)

-- a value of the context that has the variables of n object binders is known under these binders
abbrev pub ValueUnderBinders : Type 0
ValueUnderBinders = (n d : ℕ) (v : Val) → IsValueIn (d + n) v → IsKnown (or_levels n d (below d)) v

-- a value that is known under object binders is a value of each context that has their levels
abbrev pub ValueOutOfBinders : Type 0
ValueOutOfBinders = (n l d m : ℕ) (v : Val) → l + n ≤ m → d ≤ m → IsKnown (or_levels n l (below d)) v → IsValueIn m v

-- what a value stands for depends on the variables of the levels of its context alone
abbrev pub ReadingsAgree : Type 0
ReadingsAgree = (d : ℕ) (v : Val) (at to : ℕ → ℕ) → IsValueIn d v → ((n : ℕ) → n < d → at n ≡ to n) → term_at at v ≡ term_at to v

-- where each level of its context stands for one of m variables, a value stands for a term of these
abbrev pub ValueIsClosed : Type 0
ValueIsClosed = (v : Val) (d m : ℕ) (at : ℕ → ℕ) → ((n : ℕ) → n < d → at n < m) → IsValueIn d v → IsClosed m (term_at at v)
