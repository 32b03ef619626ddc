-- A source has one core as text, or none for one reason: it is unread, or its program tells the reason.
use Rattle.std.proofs.Common.{◌≡◌, ◌∙◌, ap, sym, subst, ◌⊎◌, inl, inr, ℕ, true, false, List}
use Rattle.cf_core_text.specs.Lines.{core_text}
use Rattle.cf_diag.specs.declared.refusal.Refusal.{Refusal}
use Rattle.cf_diag.specs.declared.refusal.Refusal.TheVariants.{Unknown, Twice, Later, NoMemory}
use Rattle.cf_elab.specs.Core.{IsCoreOf, core_of}
use Rattle.cf_elab.specs.Resolving.{Resolved, As}
use Rattle.cf_elab.specs.Resolving as resolving
use Rattle.cf_rules.specs.Programs.{Declaration}
use Rattle.cf_tree.specs.Tree.{Program, is_explicit}
use Rattle.cf_driver.specs.Cores.{HasNoCore}
use Rattle.cf_driver.specs.Sources.{ReadsAs, IsUnread}
use Rattle.cf_exclusion.specs.Laws.{ReadsAsOne, RefusesNoRead, OneRefusalOfSource, OneCore, RefusesNoCore, OneRefusalOfCore}

abbrev wrong_name : Resolved (List Declaration) → Refusal
wrong_name (As c holes) = NoMemory
wrong_name (resolving.Unknown at) = Unknown at
wrong_name (resolving.Twice at) = Twice at

-- why a program has no core; want of memory where it has one
abbrev told_by : Program → Refusal
told_by p = elim (is_explicit p) [ true ↦ wrong_name (core_of p) | false ↦ Later ]

explicit_told : (p : Program) → is_explicit p ≡ true → told_by p ≡ wrong_name (core_of p)
explicit_told p e = ap (λ b. elim b [ true ↦ wrong_name (core_of p) | false ↦ Later ]) e

other_told : (p : Program) → is_explicit p ≡ false → told_by p ≡ Later
other_told p e = ap (λ b. elim b [ true ↦ wrong_name (core_of p) | false ↦ Later ]) e

-- why a source has no core: it is unread, or its program tells
abbrev NoCore : List ℕ → Refusal → Type 0
NoCore source r = IsUnread source r ⊎ ((p : Program) × ReadsAs source p × (r ≡ told_by p))

no_core : (source : List ℕ) (r : Refusal) → HasNoCore source r → NoCore source r
no_core source (Unknown at) h = inr (h.program, h.read, ap wrong_name (sym h.wrong) ∙ sym (explicit_told h.program h.explicit))
no_core source (Twice at) h = inr (h.program, h.read, ap wrong_name (sym h.wrong) ∙ sym (explicit_told h.program h.explicit))
no_core source Later h = inr (h.program, h.read, sym (other_told h.program h.other))
no_core source _ h = inl h

module _ (reads : ReadsAsOne) where
  same_core : (p : Program) (c d : List Declaration) → IsCoreOf p c → IsCoreOf p d → c ≡ d
  same_core p c d h g = ap (λ r. elim r [ As x holes ↦ x | resolving.Unknown at ↦ c | resolving.Twice at ↦ c ]) (sym h.1 ∙ g.1)

  pub one_core : OneCore
  one_core source bytes others h g =
      let e = reads source g.program h.program g.read h.read in
      let c = same_core h.program h.core g.core h.is_core (subst (λ p. IsCoreOf p g.core) e g.is_core) in
      h.text ∙ ap core_text c ∙ sym g.text

  module _ (refuses : RefusesNoRead) where
    pub refuses_no_core : RefusesNoCore
    refuses_no_core source bytes r h g = by_cases (no_core source r g)
      where
        core_told : told_by h.program ≡ NoMemory
        core_told = explicit_told h.program h.explicit ∙ ap wrong_name h.is_core.1

        by_cases : NoCore source r → r ≡ NoMemory
        by_cases (inl u) = refuses source h.program r h.read u
        by_cases (inr t) = t.2 ∙ ap told_by (reads source t.0 h.program t.1 h.read) ∙ core_told

    module _ (one : OneRefusalOfSource) where
      pub one_refusal : OneRefusalOfCore
      one_refusal source r s h g n o = by_cases (no_core source r h) (no_core source s g)
        where
          by_cases : NoCore source r → NoCore source s → r ≡ s
          by_cases (inl u) (inl v) = one source r s u v n o
          by_cases (inl u) (inr t) = absurd (n (refuses source t.0 r t.1 u))
          by_cases (inr t) (inl u) = absurd (o (refuses source t.0 s t.1 u))
          by_cases (inr t) (inr u) = t.2 ∙ ap told_by (reads source t.0 u.0 t.1 u.1) ∙ sym u.2
