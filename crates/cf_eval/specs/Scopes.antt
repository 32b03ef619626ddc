-- Scopes: the levels of the object binders around, over those of a context, the innermost first.
use Rattle.std.specs.Prelude.{ℕ, zero, suc, ◌+◌, List, [], ◌∷◌, length}
use Rattle.cf_term.specs.Core.{Part}
use Rattle.cf_value.specs.Stands.{with_level}
use Rattle.cf_eval.specs.declared.scoping.Outer.{Outer}
use Rattle.cf_eval.specs.declared.scoping.Outer.TheVariants as outer

-- the levels of a context of n variables
abbrev pub context : ℕ → List ℕ
context zero = []
context (suc n) = n ∷ context n

-- the scope under k object binders with the levels from l on
abbrev pub with_binders : (k l : ℕ) → List ℕ → List ℕ
with_binders zero l ls = ls
with_binders (suc k) l ls = (l + k) ∷ with_binders k l ls

-- the variable that a level stands for
abbrev pub at_of : List ℕ → ℕ → ℕ
at_of [] n = 0
at_of (l ∷ ls) n = with_level l (at_of ls) n

-- how many variables a form binds in the part with number i
abbrev pub binds_at : List Part → ℕ → ℕ
binds_at [] i = 0
binds_at (p ∷ ps) zero = p.binds
binds_at (p ∷ ps) (suc i) = binds_at ps i

abbrev pub seen_scope : Outer → List ℕ
seen_scope (outer.Context n) = context n
seen_scope (outer.Binder l ls) = l ∷ ls.value

abbrev pub scope_size : List ℕ → ℕ
scope_size ls = length ls
