-- Whether terms are closed, by their parts in order.
use Rattle.std.proofs.Common.{◌≡◌, ℕ, zero, suc, ◌+◌, Bool, true, false, List, Some, None, Decides, arith}
use Rattle.cf_term.specs.Core.{Tm, var, node, Tms, nil, cons, Part, rest_parts}
use Rattle.cf_term.specs.Numbered.{part_at, places, terms, variable_of, IsPart}
use Rattle.cf_term.specs.View.{marked}
use Rattle.cf_term.specs.declared.parts.Part as seen
use Rattle.cf_term.specs.Closed.{AreClosed, IsClosed}
use Rattle.cf_term.proofs.Walked.{after, places_after}

-- a part of closed parts is closed
pub part_closed : (n : ℕ) (ps : List Part) (ts : Tms) (i : ℕ) (p : seen.Part) → IsPart (Some p) (part_at ps ts i) → AreClosed n ps ts → IsClosed (n + p.binds) p.term.now.value
part_closed n ps nil i p h c = absurd h
part_closed n ps (cons t ts) zero p h c = rw (h.0, h.2) c.0
part_closed n ps (cons t ts) (suc i) p h c = part_closed n (rest_parts ps) ts i p h c.1

-- a closed part, and closed parts after it
pub from_next : (n : ℕ) (ps : List Part) (ts : Tms) (i : ℕ) (p : seen.Part) → IsPart (Some p) (part_at ps ts i) → IsClosed (n + p.binds) p.term.now.value
    → AreClosed n (places_after (i + 1) ps) (after (i + 1) ts) → AreClosed n (places_after i ps) (after i ts)
from_next n ps nil i p h c cs = absurd h
from_next n ps (cons t ts) zero p h c cs = (rw (h.0, h.2) at c, cs)
from_next n ps (cons t ts) (suc i) p h c cs =
    let e : suc i + 1 ≡ suc (i + 1) = omega arith in
    from_next n (rest_parts ps) ts i p h c (rw e at cs)

-- a form is closed where its parts are
pub decides_parts : (m : Bool) (n : ℕ) (t : Tm) (r : Bool) → None ≡ variable_of t → Decides r (AreClosed n (places t) (terms t)) → Decides r (IsClosed n (marked m t))
decides_parts m n (var i) r e d = cc
decides_parts false n (node h ts) r e d = d
decides_parts true n (node h ts) r e d = let z : n + 0 ≡ n = omega arith in ((λ y. (rw z (d.0 y), tt)), (λ c. d.1 (rw z at c.0)))
