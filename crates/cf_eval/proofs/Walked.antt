-- A walk over the parts of a form by number, which evaluates them in order.
use Rattle.std.proofs.Common.{◌≡◌, ℕ, zero, suc, ◌+◌, ◌≤◌, ◌<◌, max, List, [], ◌∷◌, ◌++◌, Some, None, length, refl, ap, sym, ◌∙◌, arith, length-append, Bool, true, false}
use mathlib.Core.Path.{ap₂, subst}
use Rattle.cf_term.specs.Core.{Tm, Tms, nil, cons, Part, first_part, rest_parts, depth, depth_all}
use Rattle.cf_term.specs.Evaluation.{Out, Done, Outs, AllDone, AllSpent, AllDeep, evaluate, evaluate_by, evaluate_all_by, before, and_then}
use Rattle.cf_term.specs.Numbered.{part_at, length_of, IsPart}
use Rattle.cf_term.specs.Same.{bare, bare_all}
use Rattle.cf_term.specs.Substitution.{ups, substitute, substitute_all}
use Rattle.cf_term.specs.declared.parts.Part as seen
use Rattle.cf_term.specs.Closed.{AreClosed, IsClosed}
use Rattle.cf_value.specs.Contexts.{below, AreKnownParts}
use Rattle.cf_value.specs.Seen.{seen_part, seen_parts}
use Rattle.cf_value.specs.Stands.{env_at, term_at, terms_at, with_levels}
use Rattle.cf_value.specs.Val.{Vals, none, parts_in, values_in}
use Rattle.cf_value.specs.declared.values.ValuePart.{ValuePart}
use Rattle.cf_value.specs.declared.values.ValuePart.TheVariants as part
use Rattle.cf_eval.specs.Bulk.{bulks, part_bulk}
use Rattle.cf_eval.specs.Goals.{part_out, part_term}
use Rattle.std.specs.Prelude.{Err}
use Rattle.cf_eval.specs.Answers.{Answers, AnswersAll}
use Rattle.cf_reduction.specs.Laws.{EvaluationGoesOn}
use Rattle.cf_eval.specs.declared.answers.EvalEnd.{EvalEnd}
use Rattle.cf_eval.specs.declared.answers.EvalEnd.TheVariants as end

-- ---- parts by number

-- the parts from number i on, and where they stand
abbrev pub after : ℕ → Tms → Tms
after zero ts = ts
after (suc i) nil = nil
after (suc i) (cons t ts) = after i ts

abbrev pub places_after : ℕ → List Part → List Part
places_after zero ps = ps
places_after (suc i) ps = places_after i (rest_parts ps)

pub seen_next : (ps : List Part) (ts : Tms) (i : ℕ) (p : seen.Part) → IsPart (Some p) (part_at ps ts i) → after i ts ≡ cons p.term.now.value (after (i + 1) ts)
seen_next ps nil i p h = absurd h
seen_next ps (cons t ts) zero p h = ap (λ u. cons u ts) (sym h.2)
seen_next ps (cons t ts) (suc i) p h =
    let e : suc i + 1 ≡ suc (i + 1) = omega arith in
    rw e (seen_next (rest_parts ps) ts i p h)

pub seen_binds : (ps : List Part) (ts : Tms) (i : ℕ) (p : seen.Part) → IsPart (Some p) (part_at ps ts i) → p.binds ≡ (first_part (places_after i ps)).binds
seen_binds ps nil i p h = absurd h
seen_binds ps (cons t ts) zero p h = h.0
seen_binds ps (cons t ts) (suc i) p h = seen_binds (rest_parts ps) ts i p h

pub seen_kept : (ps : List Part) (ts : Tms) (i : ℕ) (p : seen.Part) → IsPart (Some p) (part_at ps ts i) → p.kept ≡ (first_part (places_after i ps)).kept
seen_kept ps nil i p h = absurd h
seen_kept ps (cons t ts) zero p h = h.1
seen_kept ps (cons t ts) (suc i) p h = seen_kept (rest_parts ps) ts i p h

pub rest_next : (i : ℕ) (ps : List Part) → rest_parts (places_after i ps) ≡ places_after (i + 1) ps
rest_next zero ps = refl
rest_next (suc i) ps =
    let e : suc i + 1 ≡ suc (i + 1) = omega arith in
    rw e (rest_next i (rest_parts ps))

pub seen_deep : (ps : List Part) (ts : Tms) (i : ℕ) (p : seen.Part) → IsPart (Some p) (part_at ps ts i) → depth p.term.now.value ≤ depth_all ts
seen_deep ps nil i p h = absurd h
seen_deep ps (cons t ts) zero p h = omega (arith, ap depth h.2)
seen_deep ps (cons t ts) (suc i) p h = omega (arith, seen_deep (rest_parts ps) ts i p h)

pub not_past : (ps : List Part) (ts : Tms) (i : ℕ) → i < length_of ts → IsPart None (part_at ps ts i) → ⊥
not_past ps nil i h s = omega arith
not_past ps (cons t ts) zero h s = s
not_past ps (cons t ts) (suc i) h s = not_past (rest_parts ps) ts i (omega arith) s

pub after_end : (ts : Tms) (i : ℕ) → length_of ts ≤ i → after i ts ≡ nil
after_end nil zero h = refl
after_end nil (suc i) h = refl
after_end (cons t ts) zero h = absurd (omega arith)
after_end (cons t ts) (suc i) h = after_end ts i (omega arith)

-- ---- parts of values, one more at the end

-- terms before others
abbrev pub joined : Tms → Tms → Tms
joined nil us = us
joined (cons t ts) us = cons t (joined ts us)

abbrev pub befores : Tms → Outs → Outs
befores nil o = o
befores (cons t ts) o = before t (befores ts o)

befores_joined : (ts us : Tms) (o : Outs) → befores (joined ts us) o ≡ befores ts (befores us o)
befores_joined nil us o = refl
befores_joined (cons t ts) us o = ap (before t) (befores_joined ts us o)

terms_grown : (at : ℕ → ℕ) (l : ℕ) (ps : List Part) (qs : List ValuePart) (q : ValuePart)
    → terms_at at l ps (seen_parts (qs ++ q ∷ [])) ≡ joined (terms_at at l ps (seen_parts qs)) (cons (part_term at l (first_part (places_after (length qs) ps)).binds q) nil)
terms_grown at l ps [] (part.Ready v) = refl
terms_grown at l ps [] (part.Kept f) = refl
terms_grown at l ps (part.Ready v ∷ qs) q = ap (cons (term_at (with_levels (first_part ps).binds l at) v.value)) (terms_grown at l (rest_parts ps) qs q)
terms_grown at l ps (part.Kept f ∷ qs) q = ap (cons (substitute (ups (first_part ps).binds (env_at at f.env)) (bare f.body.value))) (terms_grown at l (rest_parts ps) qs q)

known_grown : (known : ℕ → Type 0) (l : ℕ) (ps : List Part) (qs : List ValuePart) (q : ValuePart)
    → AreKnownParts known l ps (seen_parts qs) → AreKnownParts known l (places_after (length qs) ps) (seen_part q none) → AreKnownParts known l ps (seen_parts (qs ++ q ∷ []))
known_grown known l ps [] q h k = k
known_grown known l ps (part.Ready v ∷ qs) q h k = (h.0, h.1, known_grown known l (rest_parts ps) qs q h.2 k)
known_grown known l ps (part.Kept f ∷ qs) q h k = (h.0, h.1, h.2, known_grown known l (rest_parts ps) qs q h.3 k)

known_at : (known : ℕ → Type 0) (l : ℕ) (ps : List Part) (p : Part) (q : ValuePart) → (first_part ps).binds ≡ p.binds → (first_part ps).kept ≡ p.kept
    → AreKnownParts known l (p ∷ []) (seen_part q none) → AreKnownParts known l ps (seen_part q none)
known_at known l ps p (part.Ready v) b k h = rw (b, k) h
known_at known l ps p (part.Kept f) b k h = rw (b, k) h

bulk_grown : (qs : List ValuePart) (q : ValuePart) → part_bulk (seen_parts (qs ++ q ∷ [])) ≡ max (part_bulk (seen_parts qs)) (part_bulk (seen_part q none))
bulk_grown [] q = omega arith
bulk_grown (part.Ready v ∷ qs) q = omega (arith, bulk_grown qs q)
bulk_grown (part.Kept f ∷ qs) q = omega (arith, bulk_grown qs q)

pub count_seen : (qs : List ValuePart) → parts_in (seen_parts qs) ≡ length qs
count_seen [] = refl
count_seen (part.Ready v ∷ qs) = omega (arith, count_seen qs)
count_seen (part.Kept f ∷ qs) = omega (arith, count_seen qs)

-- ---- evaluation

-- the parts from number i on, with the values of their variables put in
abbrev pub put : (at : ℕ → ℕ) → Vals → List Part → Tms → Tms
put at e ps ts = substitute_all (env_at at e) ps (bare_all ts)

choose_part : (goes : EvaluationGoesOn) (b : Bool) (k d : ℕ) (t : Tm) (rest : ℕ → Outs)
    → elim b as (λ _. Outs) [ true ↦ before t (rest k) | false ↦ and_then (evaluate_by evaluate k d t) rest ] ≡ and_then (part_out b k d t) rest
choose_part goes true k d t rest = refl
choose_part goes false k d t rest = ap (λ o. and_then o rest) (sym (goes k d t))

-- the first part, and then the others
first_then : (goes : EvaluationGoesOn) (k d : ℕ) (ps : List Part) (t : Tm) (ts : Tms)
    → evaluate_all_by evaluate k d ps (cons t ts) ≡ and_then (part_out (first_part ps).kept k d t) (λ l. evaluate_all_by evaluate l d (rest_parts ps) ts)
first_then goes k d ps t ts = choose_part goes (first_part ps).kept k d t (λ l. evaluate_all_by evaluate l d (rest_parts ps) ts)

-- what is made, and what is still to come, is what becomes of all
abbrev pub Walks : (ps : List Part) (ts : Tms) (e : Vals) (l k d : ℕ) (made : List ValuePart) (i left : ℕ) → Type 0
Walks ps ts e l k d made i left =
    (length made ≡ i)
    × ((at : ℕ → ℕ) → evaluate_all_by evaluate k d ps (put at e ps ts) ≡ befores (terms_at at l ps (seen_parts made)) (evaluate_all_by evaluate left d (places_after i ps) (put at e (places_after i ps) (after i ts))))
    × AreKnownParts (below l) l ps (seen_parts made)
    × AreClosed (values_in e) (places_after i ps) (after i ts)
    × (part_bulk (seen_parts made) ≤ max (bulks e) (depth_all ts))
    × (left ≤ k)

-- the next part is closed
pub next_closed : (ps : List Part) (ts : Tms) (i n : ℕ) (p : seen.Part) → IsPart (Some p) (part_at ps ts i) → AreClosed n (places_after i ps) (after i ts) → IsClosed (n + p.binds) p.term.now.value
next_closed ps ts i n p h c = rw (seen_binds ps ts i p h) (subst (AreClosed n (places_after i ps)) (seen_next ps ts i p h) c).0

-- the next part, as it stands in the whole
pub next_out : (goes : EvaluationGoesOn) (ps : List Part) (ts : Tms) (e : Vals) (at : ℕ → ℕ) (k d : ℕ) (i : ℕ) (p : seen.Part) → IsPart (Some p) (part_at ps ts i)
    → evaluate_all_by evaluate k d (places_after i ps) (put at e (places_after i ps) (after i ts))
    ≡ and_then (part_out p.kept k d (substitute (ups p.binds (env_at at e)) (bare p.term.now.value))) (λ l. evaluate_all_by evaluate l d (places_after (i + 1) ps) (put at e (places_after (i + 1) ps) (after (i + 1) ts)))
next_out goes ps ts e at k d i p h =
    ap (λ us. evaluate_all_by evaluate k d (places_after i ps) (put at e (places_after i ps) us)) (seen_next ps ts i p h)
    ∙ first_then goes k d (places_after i ps) (substitute (ups (first_part (places_after i ps)).binds (env_at at e)) (bare p.term.now.value)) (put at e (rest_parts (places_after i ps)) (after (i + 1) ts))
    ∙ ap₂ (λ b n. and_then (part_out b k d (substitute (ups n (env_at at e)) (bare p.term.now.value))) (λ l. evaluate_all_by evaluate l d (rest_parts (places_after i ps)) (put at e (rest_parts (places_after i ps)) (after (i + 1) ts))))
    (sym (seen_kept ps ts i p h)) (sym (seen_binds ps ts i p h))
    ∙ ap (λ qs. and_then (part_out p.kept k d (substitute (ups p.binds (env_at at e)) (bare p.term.now.value))) (λ l. evaluate_all_by evaluate l d qs (put at e qs (after (i + 1) ts)))) (rest_next i ps)

-- one part more is made
pub one_more : (goes : EvaluationGoesOn) (ps : List Part) (ts : Tms) (e : Vals) (l k d : ℕ) (made : List ValuePart) (i left : ℕ) (p : seen.Part) (q : ValuePart) (saved : ℕ)
    → IsPart (Some p) (part_at ps ts i) → Walks ps ts e l k d made i left
    → ((at : ℕ → ℕ) → part_out p.kept left d (substitute (ups p.binds (env_at at e)) (bare p.term.now.value)) ≡ Done (part_term at l p.binds q) saved)
    → AreKnownParts (below l) l (record { binds = p.binds; kept = p.kept } ∷ []) (seen_part q none) → part_bulk (seen_part q none) ≤ max (bulks e) (depth p.term.now.value) → saved ≤ left
    → Walks ps ts e l k d (made ++ q ∷ []) (i + 1) saved
one_more goes ps ts e l k d made i left p q saved h w o kq b s =
    let n : length made ≡ i = w.0 in
    let binds : (first_part (places_after (length made) ps)).binds ≡ p.binds = ap (λ j. (first_part (places_after j ps)).binds) n ∙ sym (seen_binds ps ts i p h) in
    let kept : (first_part (places_after (length made) ps)).kept ≡ p.kept = ap (λ j. (first_part (places_after j ps)).kept) n ∙ sym (seen_kept ps ts i p h) in (
      omega (arith, n, length-append made (q ∷ [])),
      (λ at. w.1 at
          ∙ ap (befores (terms_at at l ps (seen_parts made)))
          (next_out goes ps ts e at left d i p h ∙ ap (λ r. and_then r (λ m. evaluate_all_by evaluate m d (places_after (i + 1) ps) (put at e (places_after (i + 1) ps) (after (i + 1) ts)))) (o at))
          ∙ sym (befores_joined (terms_at at l ps (seen_parts made)) (cons (part_term at l p.binds q) nil) (evaluate_all_by evaluate saved d (places_after (i + 1) ps) (put at e (places_after (i + 1) ps) (after (i + 1) ts))))
          ∙ ap (λ us. befores us (evaluate_all_by evaluate saved d (places_after (i + 1) ps) (put at e (places_after (i + 1) ps) (after (i + 1) ts))))
          (ap (λ m. joined (terms_at at l ps (seen_parts made)) (cons (part_term at l m q) nil)) (sym binds) ∙ sym (terms_grown at l ps made q))),
      known_grown (below l) l ps made q w.2 (known_at (below l) l (places_after (length made) ps) (record { binds = p.binds; kept = p.kept }) q binds kept kq),
      subst (λ qs. AreClosed (values_in e) qs (after (i + 1) ts)) (rest_next i ps) (subst (AreClosed (values_in e) (places_after i ps)) (seen_next ps ts i p h) w.3).1,
      omega (arith, bulk_grown made q, w.4, b, seen_deep ps ts i p h),
      omega (arith, s, w.5),
    )

befores_all : (ts : Tms) (k : ℕ) → befores ts (AllDone nil k) ≡ AllDone ts k
befores_all nil k = refl
befores_all (cons t ts) k = ap (before t) (befores_all ts k)

-- all parts are made
pub all_made : (ps : List Part) (ts : Tms) (e : Vals) (l k d : ℕ) (made : List ValuePart) (i left : ℕ) → length_of ts ≤ i → Walks ps ts e l k d made i left
    → (at : ℕ → ℕ) → evaluate_all_by evaluate k d ps (put at e ps ts) ≡ AllDone (terms_at at l ps (seen_parts made)) left
all_made ps ts e l k d made i left h w at =
    w.1 at ∙ ap (λ us. befores (terms_at at l ps (seen_parts made)) (evaluate_all_by evaluate left d (places_after i ps) (put at e (places_after i ps) us))) (after_end ts i h)
    ∙ befores_all (terms_at at l ps (seen_parts made)) left

befores_spent : (ts : Tms) → befores ts AllSpent ≡ AllSpent
befores_spent nil = refl
befores_spent (cons t ts) = ap (before t) (befores_spent ts)

befores_deep : (ts : Tms) → befores ts AllDeep ≡ AllDeep
befores_deep nil = refl
befores_deep (cons t ts) = ap (before t) (befores_deep ts)

-- a part is refused, and so are all
pub part_refused : {X Y : Type 0} (goes : EvaluationGoesOn) (x : EvalEnd) (f : X → Out) (g : Y → Outs) (ps : List Part) (ts : Tms) (e : Vals) (l k d : ℕ) (made : List ValuePart) (i left : ℕ) (p : seen.Part) (at : ℕ → ℕ)
    → IsPart (Some p) (part_at ps ts i) → Walks ps ts e l k d made i left
    → Answers {X = X} (Err x) f (part_out p.kept left d (substitute (ups p.binds (env_at at e)) (bare p.term.now.value))) → AnswersAll {X = Y} (Err x) g (evaluate_all_by evaluate k d ps (put at e ps ts))
part_refused goes end.Spent f g ps ts e l k d made i left p at h w a =
    w.1 at ∙ ap (befores (terms_at at l ps (seen_parts made))) (next_out goes ps ts e at left d i p h ∙ ap (λ r. and_then r (λ m. evaluate_all_by evaluate m d (places_after (i + 1) ps) (put at e (places_after (i + 1) ps) (after (i + 1) ts)))) a)
    ∙ befores_spent (terms_at at l ps (seen_parts made))
part_refused goes end.Deep f g ps ts e l k d made i left p at h w a =
    w.1 at ∙ ap (befores (terms_at at l ps (seen_parts made))) (next_out goes ps ts e at left d i p h ∙ ap (λ r. and_then r (λ m. evaluate_all_by evaluate m d (places_after (i + 1) ps) (put at e (places_after (i + 1) ps) (after (i + 1) ts)))) a)
    ∙ befores_deep (terms_at at l ps (seen_parts made))
part_refused goes end.NoMemory f g ps ts e l k d made i left p at h w a = tt
