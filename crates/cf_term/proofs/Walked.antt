-- A walk over the parts of a form by number, which makes the list of what becomes of them.
use Rattle.std.proofs.Common.{◌≡◌, ℕ, zero, suc, ◌+◌, ◌≤◌, ◌<◌, List, [], ◌∷◌, ◌++◌, Some, None, length, refl, ap, sym, ◌∙◌, arith, length-append, Bool, true, false}
use mathlib.Core.Path.{ap₂}
use Rattle.std.specs.declared.rc.Rc.{Rc}
use Rattle.cf_term.specs.Core.{Tm, var, node, Tms, nil, cons, Part, first_part, rest_parts, depth, depth_all}
use Rattle.cf_term.specs.View.{listed, marked}
use Rattle.cf_term.specs.Forms.{Mark}
use Rattle.cf_term.specs.Numbered.{part_at, length_of, places, terms, with_terms, variable_of, IsPart}
use Rattle.cf_term.specs.Substitution.{lifts, rename, rename_all, ups, substitute, substitute_all}
use Rattle.cf_term.proofs.Places.{listed_length}
use Rattle.cf_term.proofs.Rebuilt.{listed_more}
use Rattle.cf_term.specs.declared.parts.Part as seen

-- the parts from number i on, and where they stand
abbrev pub after : ℕ → Tms → Tms
after zero ts = ts
after (suc i) nil = nil
after (suc i) (cons t ts) = after i ts

abbrev pub places_after : ℕ → List Part → List Part
places_after zero ps = ps
places_after (suc i) ps = places_after i (rest_parts ps)

-- a part that is seen stands before the parts after it
pub seen_next : (ps : List Part) (ts : Tms) (i : ℕ) (p : seen.Part) → IsPart (Some p) (part_at ps ts i) → after i ts ≡ cons p.term.now.value (after (i + 1) ts)
seen_next ps nil i p h = absurd h
seen_next ps (cons t ts) zero p h = ap (λ u. cons u ts) (sym h.2)
seen_next ps (cons t ts) (suc i) p h =
    let e : suc i + 1 ≡ suc (i + 1) = omega arith in
    rw e (seen_next (rest_parts ps) ts i p h)

pub seen_binds : (ps : List Part) (ts : Tms) (i : ℕ) (p : seen.Part) → IsPart (Some p) (part_at ps ts i) → p.binds ≡ (first_part (places_after i ps)).binds
seen_binds ps nil i p h = absurd h
seen_binds ps (cons t ts) zero p h = h.0
seen_binds ps (cons t ts) (suc i) p h = seen_binds (rest_parts ps) ts i p h

pub rest_next : (i : ℕ) (ps : List Part) → rest_parts (places_after i ps) ≡ places_after (i + 1) ps
rest_next zero ps = refl
rest_next (suc i) ps =
    let e : suc i + 1 ≡ suc (i + 1) = omega arith in
    rw e (rest_next i (rest_parts ps))

pub seen_deep : (ps : List Part) (ts : Tms) (i : ℕ) (p : seen.Part) → IsPart (Some p) (part_at ps ts i) → depth p.term.now.value ≤ depth_all ts
seen_deep ps nil i p h = absurd h
seen_deep ps (cons t ts) zero p h = omega (arith, ap depth h.2)
seen_deep ps (cons t ts) (suc i) p h = omega (arith, seen_deep (rest_parts ps) ts i p h)

pub not_past : (ps : List Part) (ts : Tms) (i : ℕ) → i < length_of ts → IsPart None (part_at ps ts i) → ⊥
not_past ps nil i h s = omega arith
not_past ps (cons t ts) zero h s = s
not_past ps (cons t ts) (suc i) h s = not_past (rest_parts ps) ts i (omega arith) s

pub after_end : (ts : Tms) (i : ℕ) → length_of ts ≤ i → after i ts ≡ nil
after_end nil zero h = refl
after_end nil (suc i) h = refl
after_end (cons t ts) zero h = absurd (omega arith)
after_end (cons t ts) (suc i) h = after_end ts i (omega arith)

-- each part as g makes it, which is told how many variables the part is under
abbrev pub mapped : (ℕ → Tm → Tm) → List Part → Tms → Tms
mapped g ps nil = nil
mapped g ps (cons t ts) = cons (g (first_part ps).binds t) (mapped g (rest_parts ps) ts)

-- what is made, and what becomes of the parts that are left, is what becomes of all
abbrev pub Walks : {Z : Type 0} (g : ℕ → Tm → Tm) (ps : List Part) (ts : Tms) (made : List (Rc Tm Z)) (i : ℕ) → Type 0
Walks g ps ts made i = (length made ≡ i) × (listed made (mapped g (places_after i ps) (after i ts)) ≡ mapped g ps ts)

pub one_more : {Z : Type 0} (g : ℕ → Tm → Tm) (ps : List Part) (ts : Tms) (made : List (Rc Tm Z)) (i : ℕ) (p : seen.Part) (r : Rc Tm Z)
    → IsPart (Some p) (part_at ps ts i) → r.value ≡ g p.binds p.term.now.value → Walks g ps ts made i → Walks g ps ts (made ++ r ∷ []) (i + 1)
one_more g ps ts made i p r h e w =
    let n : g (first_part (places_after i ps)).binds p.term.now.value ≡ r.value = ap (λ k. g k p.term.now.value) (sym (seen_binds ps ts i p h)) ∙ sym e in
    let step : mapped g (places_after i ps) (after i ts) ≡ cons r.value (mapped g (places_after (i + 1) ps) (after (i + 1) ts)) =
    ap (mapped g (places_after i ps)) (seen_next ps ts i p h) ∙ ap₂ cons n (ap (λ qs. mapped g qs (after (i + 1) ts)) (rest_next i ps)) in
    (omega (arith, w.0, length-append made (r ∷ [])), listed_more made r _ ∙ ap (listed made) (sym step) ∙ w.1)

pub all_made : {Z : Type 0} (g : ℕ → Tm → Tm) (ps : List Part) (ts : Tms) (made : List (Rc Tm Z)) (i : ℕ)
    → length_of ts ≤ i → Walks g ps ts made i → listed made nil ≡ mapped g ps ts
all_made g ps ts made i h w = ap (λ us. listed made (mapped g (places_after i ps) us)) (sym (after_end ts i h)) ∙ w.1

pub mapped_length : (g : ℕ → Tm → Tm) (ps : List Part) (ts : Tms) → length_of (mapped g ps ts) ≡ length_of ts
mapped_length g ps nil = refl
mapped_length g ps (cons t ts) = omega (arith, mapped_length g (rest_parts ps) ts)

-- as many are made as there are parts
pub made_length : {Z : Type 0} (g : ℕ → Tm → Tm) (ps : List Part) (ts : Tms) (made : List (Rc Tm Z)) → listed made nil ≡ mapped g ps ts → length made ≡ length_of ts
made_length g ps ts made e = omega (arith, listed_length made nil, ap length_of e, mapped_length g ps ts)

pub rename_mapped : (f : ℕ → ℕ) (ps : List Part) (ts : Tms) → mapped (λ n t. rename (lifts n f) t) ps ts ≡ rename_all f ps ts
rename_mapped f ps nil = refl
rename_mapped f ps (cons t ts) = ap (λ us. cons (rename (lifts (first_part ps).binds f) t) us) (rename_mapped f (rest_parts ps) ts)

pub substitute_mapped : (s : ℕ → Tm) (ps : List Part) (ts : Tms) → mapped (λ n t. substitute (ups n s) t) ps ts ≡ substitute_all s ps ts
substitute_mapped s ps nil = refl
substitute_mapped s ps (cons t ts) = ap (λ us. cons (substitute (ups (first_part ps).binds s) t) us) (substitute_mapped s (rest_parts ps) ts)

pub same_mapped : (ps : List Part) (ts : Tms) → mapped (λ n t. t) ps ts ≡ ts
same_mapped ps nil = refl
same_mapped ps (cons t ts) = ap (λ us. cons t us) (same_mapped (rest_parts ps) ts)

-- a term is its variable, or is made again of its parts
pub is_variable : (t : Tm) (i : ℕ) → Some i ≡ variable_of t → t ≡ var i
is_variable (var x) i e = let h : i ≡ x = cc in ap var (sym h)
is_variable (node h ts) i e = cc

-- a marked form with other parts, where it is no variable
pub renamed_again : (f : ℕ → ℕ) (m : Bool) (t : Tm) (us : Tms) → None ≡ variable_of t → us ≡ rename_all f (places t) (terms t) → marked m (with_terms t us) ≡ rename f (marked m t)
renamed_again f m (var x) us n e = cc
renamed_again f false (node h ts) us n e = ap (node h) e
renamed_again f true (node h ts) us n e = ap (λ vs. Mark (node h vs)) e

pub substituted_again : (s : ℕ → Tm) (m : Bool) (t : Tm) (us : Tms)
    → None ≡ variable_of t → us ≡ substitute_all s (places t) (terms t) → marked m (with_terms t us) ≡ substitute s (marked m t)
substituted_again s m (var x) us n e = cc
substituted_again s false (node h ts) us n e = ap (node h) e
substituted_again s true (node h ts) us n e = ap (λ vs. Mark (node h vs)) e

pub again : (t : Tm) (us : Tms) → us ≡ terms t → with_terms t us ≡ t
again (var x) us e = refl
again (node h ts) us e = ap (node h) e

-- what a marked variable is
pub marked_variable : (m : Bool) (t : Tm) (i : ℕ) → Some i ≡ variable_of t → marked m t ≡ var i
marked_variable m t i e = ap (marked m) (is_variable t i e)

pub depth_terms : (t : Tm) → depth_all (terms t) < depth t
depth_terms (var x) = omega arith
depth_terms (node h ts) = omega arith
