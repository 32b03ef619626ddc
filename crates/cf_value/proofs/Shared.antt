-- The parts that have been shared, and the parts that are left.
use Rattle.std.proofs.Common.{◌≡◌, ℕ, zero, suc, ◌+◌, ◌≤◌, ◌<◌, List, [], ◌∷◌, ◌++◌, get_or, drop, length, refl, ap, sym, ◌∙◌, arith, add-one}
use Rattle.std.proofs.Math.Seq.{drop-cons}
use Rattle.cf_value.specs.Val.{VParts, none}
use Rattle.cf_value.specs.Seen.{seen_part, seen_parts}
use Rattle.cf_value.specs.declared.values.ValuePart.{ValuePart}

-- these parts before others
abbrev pub seen_before : List ValuePart → VParts → VParts
seen_before [] ps = ps
seen_before (q ∷ qs) ps = seen_part q (seen_before qs ps)

pub seen_grown : (qs : List ValuePart) (q : ValuePart) (ps : VParts) → seen_before (qs ++ q ∷ []) ps ≡ seen_before qs (seen_part q ps)
seen_grown [] q ps = refl
seen_grown (x ∷ xs) q ps = ap (seen_part x) (seen_grown xs q ps)

seen_all : (qs : List ValuePart) → seen_before qs none ≡ seen_parts qs
seen_all [] = refl
seen_all (q ∷ qs) = ap (seen_part q) (seen_all qs)

-- of the list qs, which is read as ys, the i-th part is q
pub seen_next : (qs ys : List ValuePart) (i : ℕ) (q : ValuePart) → ys ≡ qs → i < length ys → q ≡ get_or ys i q → seen_parts (drop i qs) ≡ seen_part q (seen_parts (drop (i + 1) qs))
seen_next qs ys i q same h e = rw (← same, drop-cons ys i q, ← e, add-one) refl

seen_end : (qs : List ValuePart) (i : ℕ) → length qs ≤ i → seen_parts (drop i qs) ≡ none
seen_end [] zero h = refl
seen_end [] (suc i) h = refl
seen_end (x ∷ xs) zero h = absurd (omega arith)
seen_end (x ∷ xs) (suc i) h = seen_end xs i (omega arith)

pub all_shared : (qs made : List ValuePart) (i : ℕ) → length qs ≤ i → seen_before made (seen_parts (drop i qs)) ≡ seen_parts qs → seen_parts made ≡ seen_parts qs
all_shared qs made i h e = sym (seen_all made) ∙ ap (seen_before made) (sym (seen_end qs i h)) ∙ e

pub one_shared : (qs made : List ValuePart) (i : ℕ) (q r : ValuePart) (rest : VParts) → rest ≡ seen_part q (seen_parts (drop (i + 1) qs)) → ((ps : VParts) → seen_part r ps ≡ seen_part q ps)
    → seen_before made rest ≡ seen_parts qs → seen_before (made ++ r ∷ []) (seen_parts (drop (i + 1) qs)) ≡ seen_parts qs
one_shared qs made i q r rest n e h = seen_grown made r (seen_parts (drop (i + 1) qs)) ∙ ap (seen_before made) (e (seen_parts (drop (i + 1) qs)) ∙ sym n) ∙ h
