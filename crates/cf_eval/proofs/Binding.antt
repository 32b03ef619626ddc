-- Environments under object binders.
use Rattle.std.proofs.Common.{◌≡◌, ℕ, zero, suc, ◌+◌, refl, ap, sym, ◌∙◌, arith}
use mathlib.Core.Path.{fun_ext, ap₂}
use Rattle.cf_term.specs.Substitution.{ups}
use Rattle.cf_value.specs.Contexts.{AreValuesIn, with_variables}
use Rattle.cf_value.specs.Laws.{EnvironmentUnderBinders}
use Rattle.cf_value.specs.Stands.{env_at, with_levels}
use Rattle.cf_value.specs.Val.{Vals, values_in}
use Rattle.cf_eval.specs.Bulk.{bulks}

pub values_with : (n l : ℕ) (e : Vals) → values_in (with_variables n l e) ≡ values_in e + n
values_with zero l e = omega arith
values_with (suc n) l e = omega (arith, values_with n l e)

pub bulks_with : (n l : ℕ) (e : Vals) → bulks (with_variables n l e) ≡ bulks e
bulks_with zero l e = refl
bulks_with (suc n) l e = omega (arith, bulks_with n l e)

-- the substitution under the binders
pub under_is : (law : EnvironmentUnderBinders) (n b d : ℕ) (e inner : Vals) → n ≡ b → inner ≡ with_variables n d e → AreValuesIn d e → (at : ℕ → ℕ) → env_at (with_levels b d at) inner ≡ ups b (env_at at e)
under_is law n b d e inner h i k at =
    ap₂ (λ m x. env_at (with_levels m d at) x) (sym h) i ∙ fun_ext (law n d e k at) ∙ ap (λ m. ups m (env_at at e)) h
