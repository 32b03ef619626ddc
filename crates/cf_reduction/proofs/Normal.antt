-- Terms in which nothing reduces are their own normal forms: evaluation takes no step, and reading back one for each node.
use Rattle.std.specs.Prelude.{ℕ, zero, suc, ◌+◌, ◌-◌, ◌≤◌, Bool, true, false, List, ◌≡◌, refl}
use Rattle.std.proofs.Common.{arith}
use mathlib.Core.Path.{ap, ap₂, ◌∙◌}
use Rattle.cf_term.specs.Core.{Tm, var, node, Tms, nil, cons, Part, parts, first_part, rest_parts, MarkH}
use Rattle.cf_term.specs.Same.{bare, bare_all}
use Rattle.cf_term.specs.Measures.{nodes, nodes_all, weight}
use Rattle.cf_term.specs.Evaluation.{Out, Done, Outs, AllDone, contract, formed, finish, step_or, before, and_then, evaluate_by, evaluate_all_by, evaluate_within, evaluate}
use Rattle.cf_reduction.specs.Normal.{IsNormal, AreNormal, IsUnmarked, AreUnmarked}
use Rattle.cf_term.specs.NormalForms.{write_then, write_all_by, written, write_within, then_read_back, normal_form}

either_way : (b : Bool) {x y v : Outs} → x ≡ v → y ≡ v → elim b [ true ↦ x | false ↦ y ] ≡ v
either_way true p q = p
either_way false p q = q

mutual
  no_step : (t : Tm) → IsNormal t → (next : ℕ → ℕ → Tm → Out) (k d : ℕ) → evaluate_by next k d t ≡ Done t k
  no_step (var i) h next k d = refl
  no_step (node c ts) h next k d = ap (finish next d c) (no_steps ts (parts c) h.2 next k d) ∙ ap₂ (λ v o. step_or next k d v o) h.1 h.0

  no_steps : (ts : Tms) (ps : List Part) → AreNormal ts → (next : ℕ → ℕ → Tm → Out) (k d : ℕ) → evaluate_all_by next k d ps ts ≡ AllDone ts k
  no_steps nil ps h next k d = refl
  no_steps (cons t ts) ps h next k d =
      either_way (first_part ps).kept
      (ap (before t) (no_steps ts (rest_parts ps) h.1 next k d))
      (ap (λ o. and_then o (λ l. evaluate_all_by next l d (rest_parts ps) ts)) (no_step t h.0 next k d) ∙ ap (before t) (no_steps ts (rest_parts ps) h.1 next k d))

no_step_within : (n : ℕ) (t : Tm) → IsNormal t → (k d : ℕ) → evaluate_within n k d t ≡ Done t k
no_step_within zero t h k d = no_step t h (λ _ _ _. Rattle.cf_term.specs.Evaluation.Spent) k d
no_step_within (suc n) t h k d = no_step t h (evaluate_within n) k d

-- a normal term evaluates to itself in no step
pub evaluates_to_itself : (t : Tm) → IsNormal t → (k d : ℕ) → evaluate k d t ≡ Done t k
evaluates_to_itself t h k d = no_step_within k t h k d

none_less : (k : ℕ) → k ≡ k - 0
none_less k = omega arith

one_node : (k : ℕ) → k ≡ suc k - 1
one_node k = omega arith

more_nodes : (k w m : ℕ) → w ≡ 1 → k - m ≡ suc k - (w + m)
more_nodes k w m e = omega (arith, e)

in_turn : (k m n : ℕ) → k - m - n ≡ k - (m + n)
in_turn k m n = omega arith

below_more : (m n k : ℕ) → m + n ≤ k → m ≤ k
below_more m n k h = omega (arith, h)

left_more : (m n k : ℕ) → m + n ≤ k → n ≤ k - m
left_more m n k h = omega (arith, h)

left_below : (m n k l : ℕ) → k ≤ l → k - m ≤ l
left_below m n k l h = omega (arith, h)

mutual
  -- each node for one step
  pub writes_itself : (t : Tm) → IsNormal t → IsUnmarked t → (n d k : ℕ) → nodes t ≤ k → k ≤ n → write_within n d k t ≡ Done t (k - nodes t)
  writes_itself (var i) h m zero d k a b = absurd (omega (arith, a, b))
  writes_itself (var i) h m (suc n) d zero a b = absurd (omega (arith, a))
  writes_itself (var i) h m (suc n) d (suc k) a b = ap (Done (var i)) (one_node k)
  writes_itself (node c ts) h m zero d k a b = absurd (omega (arith, a, b, m.0))
  writes_itself (node c ts) h m (suc n) d zero a b = absurd (omega (arith, a, m.0))
  writes_itself (node c ts) h m (suc n) d (suc k) a b =
      ap (written c) (write_themselves ts h.2 m.1 n d k (parts c) (omega (arith, a, m.0)) (omega (arith, b))) ∙ ap (Done (node c ts)) (more_nodes k (weight c) (nodes_all ts) m.0)

  write_themselves : (ts : Tms) → AreNormal ts → AreUnmarked ts → (n d k : ℕ) (ps : List Part) → nodes_all ts ≤ k → k ≤ n → write_all_by (write_within n d) k d ps ts ≡ AllDone ts (k - nodes_all ts)
  write_themselves nil h m n d k ps a b = ap (AllDone nil) (none_less k)
  write_themselves (cons t ts) h m n d k ps a b =
      let e : and_then (write_within n d k t) (λ l. write_all_by (write_within n d) l d (rest_parts ps) ts) ≡ AllDone (cons t ts) (k - (nodes t + nodes_all ts)) =
      ap (λ o. and_then o (λ l. write_all_by (write_within n d) l d (rest_parts ps) ts)) (writes_itself t h.0 m.0 n d k (below_more (nodes t) (nodes_all ts) k a) b)
      ∙ ap (before t) (write_themselves ts h.1 m.1 n d (k - nodes t) (rest_parts ps) (left_more (nodes t) (nodes_all ts) k a) (left_below (nodes t) 0 k n b))
      ∙ ap (AllDone (cons t ts)) (in_turn k (nodes t) (nodes_all ts))
      in
      either_way (first_part ps).kept
      (ap (λ o. write_then (write_within n d) o (λ l. write_all_by (write_within n d) l d (rest_parts ps) ts)) (evaluates_to_itself t h.0 k d) ∙ e)
      e

mutual
  pub bare_unmarked : (t : Tm) → IsUnmarked t → bare t ≡ t
  bare_unmarked (var i) m = refl
  bare_unmarked (node MarkH ts) m = absurd (omega (arith, m.0))
  bare_unmarked (node h ts) m = ap (node h) (all_bare ts m.1)

  all_bare : (ts : Tms) → AreUnmarked ts → bare_all ts ≡ ts
  all_bare nil m = refl
  all_bare (cons t ts) m = ap₂ cons (bare_unmarked t m.0) (all_bare ts m.1)

-- a normal term with no more nodes than steps is its own normal form
pub its_own_normal_form : (t : Tm) (k d : ℕ) → IsNormal t → IsUnmarked t → nodes t ≤ k → normal_form k d t ≡ Done t (k - nodes t)
its_own_normal_form t k d h m a =
    ap (λ u. then_read_back d (evaluate k d u)) (bare_unmarked t m) ∙ ap (then_read_back d) (evaluates_to_itself t h k d) ∙ writes_itself t h m k d k a (omega arith)
