-- A refusal is one for want of memory, or it is not.
use Rattle.std.proofs.Common.{◌≡◌, ◌≢◌, refl, ◌⊎◌, inl, inr, ⊎_elim}
use Rattle.cf_diag.specs.declared.refusal.Refusal.{Refusal}
use Rattle.cf_diag.specs.declared.refusal.Refusal.TheVariants.{NoMemory}

is_memory : (r : Refusal) → (r ≡ NoMemory) ⊎ (r ≢ NoMemory)
is_memory NoMemory = inl refl
is_memory _ = inr (λ e. absurd cc)

-- it is, where it cannot be another one
pub if_memory : (r : Refusal) → (r ≢ NoMemory → ⊥) → r ≡ NoMemory
if_memory r never = ⊎_elim (λ e. e) (λ n. absurd (never n)) (is_memory r)
