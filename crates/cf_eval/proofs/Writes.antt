-- Values that are written, part by part.
use Rattle.std.proofs.Common.{◌≡◌, ℕ, zero, suc, ◌+◌, ◌-◌, ◌≤◌, ◌<◌, List, [], ◌∷◌, ◌++◌, length, get_or, drop, Bool, true, false, Result, Err, refl, ap, sym, ◌∙◌, arith, add-one, length-append}
use Rattle.std.proofs.Math.Seq.{drop-cons}
use mathlib.Core.Path.{subst, ap₂}
use Rattle.std.specs.declared.rc.Rc.{Rc}
use Rattle.cf_term.specs.Core.{Tm, var, node, Tms, nil, cons, Part, first_part, rest_parts}
use Rattle.cf_term.specs.Evaluation.{Out, Done, Spent, Deep, Outs, AllDone, AllSpent, AllDeep, evaluate, before, and_then}
use Rattle.cf_term.specs.NormalForms.{write_within, write_all_by, write_then}
use Rattle.cf_term.specs.View.{listed}
use Rattle.cf_value.specs.Contexts.{AreKnownParts}
use Rattle.cf_value.specs.Seen.{seen_part, seen_parts}
use Rattle.cf_value.specs.Stands.{terms_at}
use Rattle.cf_value.specs.Val.{VParts, none}
use Rattle.cf_value.specs.declared.values.ValuePart.{ValuePart}
use Rattle.cf_value.specs.declared.values.ValuePart.TheVariants as part
use Rattle.cf_eval.specs.Answers.{Answers, AnswersAll}
use Rattle.cf_eval.specs.Goals.{part_term}
use Rattle.cf_eval.specs.Scopes.{binds_at}
use Rattle.cf_eval.specs.Writing.{is_kept, then_written, part_written, form_written}
use Rattle.cf_eval.specs.declared.answers.EvalEnd.{EvalEnd}
use Rattle.cf_eval.specs.declared.answers.EvalEnd.TheVariants as end
use Rattle.cf_eval.specs.declared.answers.Written.{Written}
use Rattle.cf_eval.proofs.Walked.{places_after, rest_next, befores}

less_one : (k : ℕ) → suc k - 1 ≡ k
less_one k = omega arith

-- the step of a node is taken, and then its form is written
pub write_next : (r : Result Written EvalEnd) (n d k : ℕ) (t : Tm) → (k ≡ 0 → ⊥) → k ≤ n → ((m : ℕ) → k - 1 ≤ m → Answers r (λ w. Done w.term w.left) (form_written m d (k - 1) t)) → Answers r (λ w. Done w.term w.left) (write_within n d k t)
write_next r zero d k t z h f = absurd (z (omega (arith, h)))
write_next r (suc n) d zero t z h f = absurd (z refl)
write_next r (suc n) d (suc k) (var i) z h f = rw (less_one k) at (f n (omega (arith, h)))
write_next r (suc n) d (suc k) (node c ts) z h f = rw (less_one k) at (f n (omega (arith, h)))

pub no_steps : (n d : ℕ) (t : Tm) → write_within n d 0 t ≡ Spent
no_steps zero d t = refl
no_steps (suc n) d t = refl

-- ---- parts

write_choice : (b : Bool) (n d k : ℕ) (t : Tm) (rest : ℕ → Outs)
    → elim b as (λ _. Outs) [ true ↦ write_then (write_within n d) (evaluate k d t) rest | false ↦ and_then (write_within n d k t) rest ] ≡ and_then (part_written b n d k t) rest
write_choice true n d k t rest = kept_first (evaluate k d t)
  where
    kept_first : (o : Out) → write_then (write_within n d) o rest ≡ and_then (then_written n d o) rest
    kept_first (Done v l) = refl
    kept_first Spent = refl
    kept_first Deep = refl
write_choice false n d k t rest = refl

-- the first part, and then the others
write_first : (n d k : ℕ) (qs : List Part) (t : Tm) (ts : Tms)
    → write_all_by (write_within n d) k d qs (cons t ts) ≡ and_then (part_written (first_part qs).kept n d k t) (λ l. write_all_by (write_within n d) l d (rest_parts qs) ts)
write_first n d k qs t ts = write_choice (first_part qs).kept n d k t (λ l. write_all_by (write_within n d) l d (rest_parts qs) ts)

-- the parts from number i on are the part with this number and those after it
pub parts_next : (xs : List ValuePart) (i : ℕ) (q : ValuePart) → i < length xs → q ≡ get_or xs i q → seen_parts (drop i xs) ≡ seen_part q (seen_parts (drop (i + 1) xs))
parts_next xs i q h e = rw (drop-cons xs i q, ← e, add-one) refl

parts_end : (xs : List ValuePart) (i : ℕ) → length xs ≤ i → seen_parts (drop i xs) ≡ none
parts_end [] zero h = refl
parts_end [] (suc i) h = refl
parts_end (x ∷ xs) zero h = absurd (omega arith)
parts_end (x ∷ xs) (suc i) h = parts_end xs i (omega arith)

binds_after : (qs : List Part) (i : ℕ) → (first_part (places_after i qs)).binds ≡ binds_at qs i
binds_after [] zero = refl
binds_after [] (suc i) = binds_after [] i
binds_after (q ∷ qs) zero = refl
binds_after (q ∷ qs) (suc i) = binds_after qs i

term_first : (at : ℕ → ℕ) (l : ℕ) (qs : List Part) (q : ValuePart) (ps : VParts) → terms_at at l qs (seen_part q ps) ≡ cons (part_term at l (first_part qs).binds q) (terms_at at l (rest_parts qs) ps)
term_first at l qs (part.Ready v) ps = refl
term_first at l qs (part.Kept f) ps = refl

kept_first : (known : ℕ → Type 0) (l : ℕ) (qs : List Part) (q : ValuePart) (ps : VParts) → AreKnownParts known l qs (seen_part q ps) → (first_part qs).kept ≡ is_kept q
kept_first known l qs (part.Ready v) ps h = h.0
kept_first known l qs (part.Kept f) ps h = h.0

known_first : (known : ℕ → Type 0) (l b : ℕ) (qs : List Part) (q : ValuePart) (ps : VParts) → AreKnownParts known l qs (seen_part q ps) → (first_part qs).binds ≡ b → AreKnownParts known l (record { binds = b; kept = is_kept q } ∷ []) (seen_part q none)
known_first known l b qs (part.Ready v) ps h e = rw (sym e) (refl, h.1, tt)
known_first known l b qs (part.Kept f) ps h e = rw (sym e) (refl, h.1, h.2, tt)

known_rest : (known : ℕ → Type 0) (l : ℕ) (qs : List Part) (q : ValuePart) (ps : VParts) → AreKnownParts known l qs (seen_part q ps) → AreKnownParts known l (rest_parts qs) ps
known_rest known l qs (part.Ready v) ps h = h.2
known_rest known l qs (part.Kept f) ps h = h.3

-- what is written, and what is still to come, is what becomes of all
abbrev pub Writes : {Z : Type 0} → (known : ℕ → Type 0) → (at : ℕ → ℕ) → (l : ℕ) → List Part → List ValuePart → (k d : ℕ) → List (Rc Tm Z) → (i left : ℕ) → Type 0
Writes known at l qs xs k d made i left =
    (length made ≡ i)
    × ((n : ℕ) → k ≤ n → write_all_by (write_within n d) k d qs (terms_at at l qs (seen_parts xs))
    ≡ befores (listed made nil) (write_all_by (write_within n d) left d (places_after i qs) (terms_at at l (places_after i qs) (seen_parts (drop i xs)))))
    × AreKnownParts known l (places_after i qs) (seen_parts (drop i xs))
    × (left ≤ k)

befores_listed : {Z : Type 0} (made : List (Rc Tm Z)) (t : Rc Tm Z) (o : Outs) → befores (listed (made ++ t ∷ []) nil) o ≡ befores (listed made nil) (before t.value o)
befores_listed [] t o = refl
befores_listed (x ∷ xs) t o = ap (before x.value) (befores_listed xs t o)

pub part_known : {Z : Type 0} (known : ℕ → Type 0) (at : ℕ → ℕ) (l b : ℕ) (qs : List Part) (xs : List ValuePart) (k d : ℕ) (made : List (Rc Tm Z)) (i left : ℕ) (q : ValuePart)
    → i < length xs → q ≡ get_or xs i q → b ≡ binds_at qs i → Writes known at l qs xs k d made i left → AreKnownParts known l (record { binds = b; kept = is_kept q } ∷ []) (seen_part q none)
part_known known at l b qs xs k d made i left q h e eb w =
    known_first known l b (places_after i qs) q (seen_parts (drop (i + 1) xs)) (subst (AreKnownParts known l (places_after i qs)) (parts_next xs i q h e) w.2) (binds_after qs i ∙ sym eb)

-- the next part, as it stands in the whole
write_out : (known : ℕ → Type 0) (at : ℕ → ℕ) (l b : ℕ) (qs : List Part) (xs : List ValuePart) (n d i left : ℕ) (q : ValuePart)
    → i < length xs → q ≡ get_or xs i q → b ≡ binds_at qs i → AreKnownParts known l (places_after i qs) (seen_parts (drop i xs))
    → write_all_by (write_within n d) left d (places_after i qs) (terms_at at l (places_after i qs) (seen_parts (drop i xs)))
    ≡ and_then (part_written (is_kept q) n d left (part_term at l b q)) (λ m. write_all_by (write_within n d) m d (places_after (i + 1) qs) (terms_at at l (places_after (i + 1) qs) (seen_parts (drop (i + 1) xs))))
write_out known at l b qs xs n d i left q h e eb k =
    let next = parts_next xs i q h e in
    let rest = seen_parts (drop (i + 1) xs) in
    ap (λ ts. write_all_by (write_within n d) left d (places_after i qs) ts) (ap (terms_at at l (places_after i qs)) next ∙ term_first at l (places_after i qs) q rest)
    ∙ write_first n d left (places_after i qs) (part_term at l (first_part (places_after i qs)).binds q) (terms_at at l (rest_parts (places_after i qs)) rest)
    ∙ ap₂ (λ c m. and_then (part_written c n d left (part_term at l m q)) (λ j. write_all_by (write_within n d) j d (rest_parts (places_after i qs)) (terms_at at l (rest_parts (places_after i qs)) rest)))
    (kept_first known l (places_after i qs) q rest (subst (AreKnownParts known l (places_after i qs)) next k)) (binds_after qs i ∙ sym eb)
    ∙ ap (λ rs. and_then (part_written (is_kept q) n d left (part_term at l b q)) (λ j. write_all_by (write_within n d) j d rs (terms_at at l rs rest))) (rest_next i qs)

-- one part more is written
pub one_written : {Z : Type 0} (known : ℕ → Type 0) (at : ℕ → ℕ) (l b : ℕ) (qs : List Part) (xs : List ValuePart) (k d : ℕ) (made : List (Rc Tm Z)) (i left : ℕ) (q : ValuePart) (t : Rc Tm Z) (saved : ℕ)
    → i < length xs → q ≡ get_or xs i q → b ≡ binds_at qs i → Writes known at l qs xs k d made i left
    → ((n : ℕ) → left ≤ n → part_written (is_kept q) n d left (part_term at l b q) ≡ Done t.value saved) → saved ≤ left
    → Writes known at l qs xs k d (made ++ t ∷ []) (i + 1) saved
one_written known at l b qs xs k d made i left q t saved h e eb w o s = (
  omega (arith, w.0, length-append made (t ∷ [])),
  (λ n g. w.1 n g
      ∙ ap (befores (listed made nil)) (write_out known at l b qs xs n d i left q h e eb w.2 ∙ ap (λ r. and_then r (λ m. write_all_by (write_within n d) m d (places_after (i + 1) qs) (terms_at at l (places_after (i + 1) qs) (seen_parts (drop (i + 1) xs))))) (o n (omega (arith, g, w.3))))
      ∙ sym (befores_listed made t (write_all_by (write_within n d) saved d (places_after (i + 1) qs) (terms_at at l (places_after (i + 1) qs) (seen_parts (drop (i + 1) xs)))))),
  subst (λ rs. AreKnownParts known l rs (seen_parts (drop (i + 1) xs))) (rest_next i qs)
      (known_rest known l (places_after i qs) q (seen_parts (drop (i + 1) xs)) (subst (AreKnownParts known l (places_after i qs)) (parts_next xs i q h e) w.2)),
  omega (arith, s, w.3),
)

befores_done : (ts : Tms) (k : ℕ) → befores ts (AllDone nil k) ≡ AllDone ts k
befores_done nil k = refl
befores_done (cons t ts) k = ap (before t) (befores_done ts k)

-- all parts are written
pub all_written : {Z : Type 0} (known : ℕ → Type 0) (at : ℕ → ℕ) (l : ℕ) (qs : List Part) (xs : List ValuePart) (k d : ℕ) (made : List (Rc Tm Z)) (i left : ℕ)
    → length xs ≤ i → Writes known at l qs xs k d made i left → (n : ℕ) → k ≤ n → write_all_by (write_within n d) k d qs (terms_at at l qs (seen_parts xs)) ≡ AllDone (listed made nil) left
all_written known at l qs xs k d made i left h w n g =
    w.1 n g ∙ ap (λ ps. befores (listed made nil) (write_all_by (write_within n d) left d (places_after i qs) (terms_at at l (places_after i qs) ps))) (parts_end xs i h)
    ∙ befores_done (listed made nil) left

befores_spent : (ts : Tms) → befores ts AllSpent ≡ AllSpent
befores_spent nil = refl
befores_spent (cons t ts) = ap (before t) (befores_spent ts)

befores_deep : (ts : Tms) → befores ts AllDeep ≡ AllDeep
befores_deep nil = refl
befores_deep (cons t ts) = ap (before t) (befores_deep ts)

-- a part is refused, and so are all
pub writing_refused : {X Y Z : Type 0} (x : EvalEnd) (f : X → Out) (g : Y → Outs) (known : ℕ → Type 0) (at : ℕ → ℕ) (l b : ℕ) (qs : List Part) (xs : List ValuePart) (k d : ℕ) (made : List (Rc Tm Z)) (i left : ℕ) (q : ValuePart)
    → i < length xs → q ≡ get_or xs i q → b ≡ binds_at qs i → Writes known at l qs xs k d made i left
    → ((n : ℕ) → left ≤ n → Answers {X = X} (Err x) f (part_written (is_kept q) n d left (part_term at l b q))) → (n : ℕ) → k ≤ n → AnswersAll {X = Y} (Err x) g (write_all_by (write_within n d) k d qs (terms_at at l qs (seen_parts xs)))
writing_refused end.Spent f g known at l b qs xs k d made i left q h e eb w a n m =
    w.1 n m ∙ ap (befores (listed made nil)) (write_out known at l b qs xs n d i left q h e eb w.2 ∙ ap (λ r. and_then r (λ j. write_all_by (write_within n d) j d (places_after (i + 1) qs) (terms_at at l (places_after (i + 1) qs) (seen_parts (drop (i + 1) xs))))) (a n (omega (arith, m, w.3))))
    ∙ befores_spent (listed made nil)
writing_refused end.Deep f g known at l b qs xs k d made i left q h e eb w a n m =
    w.1 n m ∙ ap (befores (listed made nil)) (write_out known at l b qs xs n d i left q h e eb w.2 ∙ ap (λ r. and_then r (λ j. write_all_by (write_within n d) j d (places_after (i + 1) qs) (terms_at at l (places_after (i + 1) qs) (seen_parts (drop (i + 1) xs))))) (a n (omega (arith, m, w.3))))
    ∙ befores_deep (listed made nil)
writing_refused end.NoMemory f g known at l b qs xs k d made i left q h e eb w a n m = tt
