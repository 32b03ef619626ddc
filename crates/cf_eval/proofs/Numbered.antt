-- The parts of a value by number.
use Rattle.std.proofs.Common.{◌≡◌, ℕ, zero, suc, ◌≤◌, ◌<◌, List, [], ◌∷◌, get_or, length, refl, ap, sym, ◌∙◌, arith, Option, None}
use Rattle.cf_value.specs.Val.{Val, VParts}
use Rattle.cf_value.specs.Seen.{seen_part, seen_parts}
use Rattle.cf_value.specs.declared.values.ValuePart.{ValuePart}
use Rattle.cf_value.specs.declared.values.ValuePart.TheVariants as part
use Rattle.cf_eval.specs.Redexes.{Kept, ready_part, kept_part}

ready_later : (q : ValuePart) (ps : VParts) (i : ℕ) → ready_part (seen_part q ps) (suc i) ≡ ready_part ps i
ready_later (part.Ready v) ps i = refl
ready_later (part.Kept f) ps i = refl

kept_later : (q : ValuePart) (ps : VParts) (i : ℕ) → kept_part (seen_part q ps) (suc i) ≡ kept_part ps i
kept_later (part.Ready v) ps i = refl
kept_later (part.Kept f) ps i = refl

pub ready_some : (qs : List ValuePart) (i : ℕ) (q : ValuePart) (r : Option Val) → i < length qs → q ≡ get_or qs i q → ((ps : VParts) → r ≡ ready_part (seen_part q ps) 0) → r ≡ ready_part (seen_parts qs) i
ready_some [] i q r h e f = absurd (omega arith)
ready_some (x ∷ xs) zero q r h e f = f (seen_parts xs) ∙ ap (λ y. ready_part (seen_part y (seen_parts xs)) 0) e
ready_some (x ∷ xs) (suc i) q r h e f = ready_some xs i q r (omega arith) e f ∙ sym (ready_later x (seen_parts xs) i)

pub ready_none : (qs : List ValuePart) (i : ℕ) → length qs ≤ i → None ≡ ready_part (seen_parts qs) i
ready_none [] i h = refl
ready_none (x ∷ xs) zero h = absurd (omega arith)
ready_none (x ∷ xs) (suc i) h = ready_none xs i (omega arith) ∙ sym (ready_later x (seen_parts xs) i)

pub kept_some : (qs : List ValuePart) (i : ℕ) (q : ValuePart) (r : Option Kept) → i < length qs → q ≡ get_or qs i q → ((ps : VParts) → r ≡ kept_part (seen_part q ps) 0) → r ≡ kept_part (seen_parts qs) i
kept_some [] i q r h e f = absurd (omega arith)
kept_some (x ∷ xs) zero q r h e f = f (seen_parts xs) ∙ ap (λ y. kept_part (seen_part y (seen_parts xs)) 0) e
kept_some (x ∷ xs) (suc i) q r h e f = kept_some xs i q r (omega arith) e f ∙ sym (kept_later x (seen_parts xs) i)

pub kept_none : (qs : List ValuePart) (i : ℕ) → length qs ≤ i → None ≡ kept_part (seen_parts qs) i
kept_none [] i h = refl
kept_none (x ∷ xs) zero h = absurd (omega arith)
kept_none (x ∷ xs) (suc i) h = kept_none xs i (omega arith) ∙ sym (kept_later x (seen_parts xs) i)
