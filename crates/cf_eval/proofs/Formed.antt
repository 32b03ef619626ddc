-- A form that takes no step is a value.
use Rattle.std.proofs.Common.{◌≡◌, ℕ, zero, suc, ◌≤◌, List, Bool, true, false, refl, sym, ap, ◌∙◌, arith, Option, Some, None}
use mathlib.Core.Path.{subst, ap₂}
use Rattle.cf_term.specs.Core.{var, node, Head, Part, parts, first_part, rest_parts, QuoteH, SpliceH}
use Rattle.cf_term.specs.Evaluation.{Done, Outs, AllDone, contract, formed, evaluate, evaluate_by, evaluate_all_by, finish, step, step_or, before, and_then, IsValue}
use Rattle.cf_value.specs.Heads.{Fits}
use Rattle.cf_value.specs.Val.{Val, VParts, level, form, none, ready, frozen, parts_in}
use Rattle.cf_value.specs.Stands.{term_at, terms_at, with_levels}
use Rattle.cf_value.specs.Contexts.{IsKnown, AreKnownParts, or_levels}
use Rattle.cf_reduction.specs.Laws.{EvaluationGoesOn}
use Rattle.cf_eval.specs.Redexes.{Goal, goal_at, redex, unquoted, ready_part, spliced_value}
use Rattle.cf_eval.specs.Bulk.{bulk, part_bulk}
use Rattle.cf_eval.proofs.Contracted.{shaped, one_ready, redex_fine, Fine, goals_at}

variable_stays : (i k d : ℕ) → evaluate k d (var i) ≡ Done (var i) k
variable_stays i zero d = refl
variable_stays i (suc k) d = refl

pub is_value : (known : ℕ → Type 0) (v : Val) → IsKnown known v → (at : ℕ → ℕ) (k d : ℕ) → evaluate k d (term_at at v) ≡ Done (term_at at v) k
is_value known (level n) h at k d = variable_stays (at n) k d
is_value known (form c l ps) h at k d = h.0 at k d

choose_kept : (b : Bool) (y : Outs) {x z : Outs} → b ≡ true → x ≡ z → elim b as (λ _. Outs) [ true ↦ x | false ↦ y ] ≡ z
choose_kept true y e p = p
choose_kept false y e p = cc

choose_ready : (b : Bool) (x : Outs) {y z : Outs} → b ≡ false → y ≡ z → elim b as (λ _. Outs) [ true ↦ x | false ↦ y ] ≡ z
choose_ready true x e p = cc
choose_ready false x e p = p

module _ (goes : EvaluationGoesOn) where
  -- parts that are values evaluate to themselves
  pub settled : (known : ℕ → Type 0) (l : ℕ) (qs : List Part) (ps : VParts) → AreKnownParts known l qs ps → (at : ℕ → ℕ) (k d : ℕ) → evaluate_all_by evaluate k d qs (terms_at at l qs ps) ≡ AllDone (terms_at at l qs ps) k
  settled known l qs none h at k d = refl
  settled known l qs (ready v ps) h at k d =
      let e : evaluate_by evaluate k d (term_at (with_levels (first_part qs).binds l at) v) ≡ Done (term_at (with_levels (first_part qs).binds l at) v) k =
      sym (goes k d (term_at (with_levels (first_part qs).binds l at) v)) ∙ is_value (or_levels (first_part qs).binds l known) v h.1 (with_levels (first_part qs).binds l at) k d in
      choose_ready (first_part qs).kept _ h.0
      (ap (λ o. and_then o (λ j. evaluate_all_by evaluate j d (rest_parts qs) (terms_at at l (rest_parts qs) ps))) e ∙ ap (before (term_at (with_levels (first_part qs).binds l at) v)) (settled known l (rest_parts qs) ps h.2 at k d))
  settled known l qs (frozen e t ps) h at k d =
      choose_kept (first_part qs).kept _ h.0 (ap (before _) (settled known l (rest_parts qs) ps h.3 at k d))

  pub form_stays : (known : ℕ → Type 0) (h : Head) (l : ℕ) (ps : VParts) → AreKnownParts known l (parts h) ps → (at : ℕ → ℕ)
      → contract h (terms_at at l (parts h) ps) ≡ None → formed h (terms_at at l (parts h) ps) ≡ node h (terms_at at l (parts h) ps) → IsValue (term_at at (form h l ps))
  form_stays known h l ps a at c f k d =
      goes k d (term_at at (form h l ps)) ∙ ap (finish evaluate d h) (settled known l (parts h) ps a at k d) ∙ ap₂ (λ v o. step_or evaluate k d v o) f c

-- ---- quotes

-- what stands for a quote of these parts
abbrev pub Unquoted : (known : ℕ → Type 0) → Head → (l : ℕ) → VParts → Option Val → Type 0
Unquoted known h l ps None = (at : ℕ → ℕ) → formed h (terms_at at l (parts h) ps) ≡ node h (terms_at at l (parts h) ps)
Unquoted known h l ps (Some n) = ((at : ℕ → ℕ) → formed h (terms_at at l (parts h) ps) ≡ term_at at n) × IsKnown known n × bulk n ≤ part_bulk ps

quote_fine : (known : ℕ → Type 0) (l : ℕ) (v : Val) → IsKnown known v → Unquoted known QuoteH l (ready v none) (spliced_value v)
quote_fine known l (level n) kv = λ at. refl
quote_fine known l (form SpliceH m ps) kv =
    one_ready ps (shaped 1 (parts SpliceH) known m ps kv.1 kv.2) (λ x. AreKnownParts known m (parts SpliceH) x → Unquoted known QuoteH l (ready (form SpliceH m x) none) (ready_part x 0))
    (λ t k. (λ at. refl, k.1, omega arith)) kv.2
quote_fine known l (form h m ps) kv = λ at. refl

pub unquoted_fine : (known : ℕ → Type 0) (h : Head) (l : ℕ) (ps : VParts) → Fits h (parts_in ps) → AreKnownParts known l (parts h) ps → Unquoted known h l ps (unquoted h ps)
unquoted_fine known QuoteH l ps f k =
    one_ready ps (shaped 1 (parts QuoteH) known l ps f k) (λ x. AreKnownParts known l (parts QuoteH) x → Unquoted known QuoteH l x (unquoted QuoteH x)) (λ v q. quote_fine known l v q.1) k
unquoted_fine known h l ps f k = λ at. refl

pub unquoted_some : (known : ℕ → Type 0) (h : Head) (l : ℕ) (ps : VParts) (n : Val) → Fits h (parts_in ps) → AreKnownParts known l (parts h) ps → Some n ≡ unquoted h ps → Unquoted known h l ps (Some n)
unquoted_some known h l ps n f k e = subst (Unquoted known h l ps) (sym e) (unquoted_fine known h l ps f k)

pub unquoted_none : (known : ℕ → Type 0) (h : Head) (l : ℕ) (ps : VParts) → Fits h (parts_in ps) → AreKnownParts known l (parts h) ps → None ≡ unquoted h ps → (at : ℕ → ℕ) → formed h (terms_at at l (parts h) ps) ≡ node h (terms_at at l (parts h) ps)
unquoted_none known h l ps f k e = subst (Unquoted known h l ps) (sym e) (unquoted_fine known h l ps f k)

pub no_step : (known : ℕ → Type 0) (h : Head) (l : ℕ) (ps : VParts) → Fits h (parts_in ps) → AreKnownParts known l (parts h) ps → redex h ps ≡ None → (at : ℕ → ℕ) → contract h (terms_at at l (parts h) ps) ≡ None
no_step known h l ps f k e at = (redex_fine known h l ps f k).0 at ∙ ap (goals_at at) e

pub form_known : (goes : EvaluationGoesOn) (known : ℕ → Type 0) (h : Head) (l : ℕ) (ps : VParts) → Fits h (parts_in ps) → AreKnownParts known l (parts h) ps → redex h ps ≡ None → None ≡ unquoted h ps → IsKnown known (form h l ps)
form_known goes known h l ps f k e q =
    ((λ at. form_stays goes known h l ps k at (no_step known h l ps f k e at) (unquoted_none known h l ps f k q at)), f, k)

pub step_some : (known : ℕ → Type 0) (h : Head) (l : ℕ) (ps : VParts) (g : Goal) → Fits h (parts_in ps) → AreKnownParts known l (parts h) ps → Some g ≡ redex h ps → Fine known h l ps (Some g)
step_some known h l ps g f k e = subst (Fine known h l ps) (sym e) (redex_fine known h l ps f k)

-- what follows the parts, where there is a step
pub finish_step : (known : ℕ → Type 0) (h : Head) (l : ℕ) (ps : VParts) (g : Goal) → Fits h (parts_in ps) → AreKnownParts known l (parts h) ps → Some g ≡ redex h ps
    → (at : ℕ → ℕ) (k d : ℕ) → finish evaluate d h (AllDone (terms_at at l (parts h) ps) k) ≡ step evaluate k d (goal_at at g)
finish_step known h l ps g f k e at j d = ap (step_or evaluate j d (formed h (terms_at at l (parts h) ps))) ((step_some known h l ps g f k e).0 at)

-- what follows the parts, where there is none
pub finish_stays : (known : ℕ → Type 0) (h : Head) (l : ℕ) (ps : VParts) → Fits h (parts_in ps) → AreKnownParts known l (parts h) ps → redex h ps ≡ None
    → (at : ℕ → ℕ) (k d : ℕ) → finish evaluate d h (AllDone (terms_at at l (parts h) ps) k) ≡ Done (formed h (terms_at at l (parts h) ps)) k
finish_stays known h l ps f k e at j d = ap (step_or evaluate j d (formed h (terms_at at l (parts h) ps))) (no_step known h l ps f k e at)
