-- A module is built from a source, or none for one reason: it is unread, or its program is no sum.
use Rattle.std.proofs.Common.{◌≡◌, ◌∙◌, refl, sym, subst, ◌⊎◌, inl, inr, ℕ, List}
use Rattle.cf_diag.specs.declared.refusal.Refusal.{Refusal}
use Rattle.cf_diag.specs.declared.refusal.Refusal.TheVariants.{Later, NoMemory}
use Rattle.cf_driver.specs.Built.{IsNotBuilt, IsNoSum}
use Rattle.cf_driver.specs.Sources.{IsUnread}
use Rattle.cf_driver.specs.Sums.{IsSum}
use Rattle.cf_exclusion.specs.Laws.{ReadsAsOne, RefusesNoRead, OneRefusalOfSource, RefusesNoBuilt, OneRefusalOfBuild}

-- why nothing is built from a source: it is unread, or its program is no sum
abbrev NotBuilt : List ℕ → Refusal → Type 0
NotBuilt source r = IsUnread source r ⊎ (IsNoSum source × (r ≡ Later))

not_built : (source : List ℕ) (r : Refusal) → IsNotBuilt source r → NotBuilt source r
not_built source Later h = inr (h, refl)
not_built source _ h = inl h

module _ (reads : ReadsAsOne) (refuses : RefusesNoRead) where
  pub refuses_no_built : RefusesNoBuilt
  refuses_no_built source bytes r h g = by_cases (not_built source r g)
    where
      by_cases : NotBuilt source r → r ≡ NoMemory
      by_cases (inl u) = refuses source h.program r h.read u
      by_cases (inr t) = absurd (t.0.no_sum h.sum (subst (λ p. IsSum p h.sum) (reads source h.program t.0.program h.read t.0.read) h.is_sum))

  module _ (one : OneRefusalOfSource) where
    pub one_refusal : OneRefusalOfBuild
    one_refusal source r s h g n o = by_cases (not_built source r h) (not_built source s g)
      where
        by_cases : NotBuilt source r → NotBuilt source s → r ≡ s
        by_cases (inl u) (inl v) = one source r s u v n o
        by_cases (inl u) (inr t) = absurd (n (refuses source t.0.program r t.0.read u))
        by_cases (inr t) (inl u) = absurd (o (refuses source t.0.program s t.0.read u))
        by_cases (inr t) (inr u) = t.1 ∙ sym u.1
