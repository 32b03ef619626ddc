-- Reading a body, one instruction after another.
use Rattle.std.proofs.Common.{◌≡◌, ℕ, zero, suc, ◌<◌, ◌≤◌, sym, ap, subst, ◌∙◌, arith}
use Rattle.std.specs.Prelude.{List, [], ◌∷◌, ◌++◌, length}
use Rattle.wb_syntax.specs.declared.syntax.Instr.{Instr}
use Rattle.wb_syntax.specs.Nesting.{Open, Place, Inside, Closed, Misplaced, place_after}
use Rattle.wb_syntax.specs.Grammar.{Fault, Malformed, Read, Reads, Stops, go_on}
use Rattle.wb_syntax.specs.Binary.{instr, expression, read_on, read_expression}
use Rattle.wb_decode.specs.declared.ends.Fault as program
use Rattle.wb_decode.specs.Reading.{Faulty}
use Rattle.wb_decode.specs.Nest.{opens, LeadsTo}
use Rattle.wb_decode.specs.declared.expressions.Open.{Open as Kept}
use Rattle.wb_decode.specs.declared.expressions.Place as place
use Rattle.wb_decode.specs.declared.expressions.Place.TheVariants as places
use Rattle.wb_decode.proofs.Values.{prepend, prepend_none, prepend_more, still_faulty}

-- with these instructions read and these constructs open, what is left is the rest of the body
pub record Body (whole : Read (List Instr)) (is : List Instr) (os : List Open) (rest : List ℕ) : Type 0 where
  pub most : ℕ
  pub enough : length rest ≤ most
  pub ends : prepend is (read_expression most os rest) ≡ whole

pub begins : (bytes : List ℕ) → Body (expression.read bytes) [] [] bytes
begins bytes = record { most = length bytes; enough = omega arith; ends = prepend_none (expression.read bytes) }

-- what an instruction is followed by
step : (n : ℕ) (os : List Open) (i : Instr) (rest left : List ℕ) → instr.read rest ≡ Reads i left → read_expression (suc n) os rest ≡ read_on (place_after os i) i (λ qs. read_expression n qs left) left
step n os i rest left e = ap (λ r. go_on r (λ i left. read_on (place_after os i) i (λ qs. read_expression n qs left) left)) e

onward : (n : ℕ) (is : List Instr) (os : List Open) (p : Place) (i : Instr) (rest left : List ℕ) → instr.read rest ≡ Reads i left → place_after os i ≡ p → prepend is (read_expression (suc n) os rest) ≡ prepend is (read_on p i (λ qs. read_expression n qs left) left)
onward n is os p i rest left e k = ap (prepend is) (step n os i rest left e ∙ ap (λ q. read_on q i (λ qs. read_expression n qs left) left) k)

inside_at : (n : ℕ) (whole : Read (List Instr)) (is : List Instr) (os qs : List Open) (i : Instr) (rest left : List ℕ) → length rest ≤ n → prepend is (read_expression n os rest) ≡ whole → instr.read rest ≡ Reads i left → length left < length rest → place_after os i ≡ Inside qs → Body whole (is ++ i ∷ []) qs left
inside_at zero whole is os qs i rest left m b e l k = absurd (omega (arith, m, l))
inside_at (suc n) whole is os qs i rest left m b e l k = record {
  most = n;
  enough = omega (arith, m, l);
  ends = sym (prepend_more is i (read_expression n qs left)) ∙ sym (onward n is os (Inside qs) i rest left e k) ∙ b;
}

-- the body goes on
pub inside : (whole : Read (List Instr)) (is : List Instr) (os qs : List Open) (i : Instr) (rest left : List ℕ) → Body whole is os rest → instr.read rest ≡ Reads i left → length left < length rest → place_after os i ≡ Inside qs → Body whole (is ++ i ∷ []) qs left
inside whole is os qs i rest left b e l k = inside_at b.most whole is os qs i rest left b.enough b.ends e l k

closed_at : (n : ℕ) (whole : Read (List Instr)) (is : List Instr) (os : List Open) (i : Instr) (rest left : List ℕ) → length rest ≤ n → prepend is (read_expression n os rest) ≡ whole → instr.read rest ≡ Reads i left → length left < length rest → place_after os i ≡ Closed → whole ≡ Reads (is ++ i ∷ []) left
closed_at zero whole is os i rest left m b e l k = absurd (omega (arith, m, l))
closed_at (suc n) whole is os i rest left m b e l k = sym b ∙ onward n is os Closed i rest left e k

-- the body is closed
pub closed : (whole : Read (List Instr)) (is : List Instr) (os : List Open) (i : Instr) (rest left : List ℕ) → Body whole is os rest → instr.read rest ≡ Reads i left → length left < length rest → place_after os i ≡ Closed → whole ≡ Reads (is ++ i ∷ []) left
closed whole is os i rest left b e l k = closed_at b.most whole is os i rest left b.enough b.ends e l k

misplaced_at : (n : ℕ) (whole : Read (List Instr)) (is : List Instr) (os : List Open) (i : Instr) (rest left : List ℕ) → length rest ≤ n → prepend is (read_expression n os rest) ≡ whole → instr.read rest ≡ Reads i left → length left < length rest → place_after os i ≡ Misplaced → (at : List ℕ) × (whole ≡ Stops at Malformed)
misplaced_at zero whole is os i rest left m b e l k = absurd (omega (arith, m, l))
misplaced_at (suc n) whole is os i rest left m b e l k = (left, sym b ∙ onward n is os Misplaced i rest left e k)

-- an else may not stand here
pub misplaced : (whole : Read (List Instr)) (is : List Instr) (os : List Open) (i : Instr) (rest left : List ℕ) → Body whole is os rest → instr.read rest ≡ Reads i left → length left < length rest → place_after os i ≡ Misplaced → (at : List ℕ) × (whole ≡ Stops at Malformed)
misplaced whole is os i rest left b e l k = misplaced_at b.most whole is os i rest left b.enough b.ends e l k

stops_at : (n : ℕ) (whole : Read (List Instr)) (is : List Instr) (os : List Open) (rest left : List ℕ) (f : Fault) → length rest ≤ n → prepend is (read_expression n os rest) ≡ whole → instr.read rest ≡ Stops left f → whole ≡ Stops left f
stops_at zero whole is os [] left f m b e = sym b ∙ ap (λ (r : Read Instr). go_on r (λ i k. Reads [] k)) e
stops_at zero whole is os (x ∷ rest) left f m b e = absurd (omega (arith, m))
stops_at (suc n) whole is os rest left f m b e = sym b ∙ ap (λ r. prepend is (go_on r (λ i left. read_on (place_after os i) i (λ qs. read_expression n qs left) left))) e

-- the next instruction is not read
pub instr_faulty : (f : program.Fault) (whole : Read (List Instr)) (is : List Instr) (os : List Open) (rest : List ℕ) → Body whole is os rest → Faulty f (instr.read rest) → Faulty f whole
instr_faulty f whole is os rest b = still_faulty f (instr.read rest) whole (λ left g e. stops_at b.most whole is os rest left g b.enough b.ends e)

-- ---- the place, as the program names it

pub leads_inside : (before now : List Kept) (i : Instr) (p : place.Place) → LeadsTo before now i p → p ≡ places.Inside → place_after (opens before) i ≡ Inside (opens now)
leads_inside before now i p h e = subst (LeadsTo before now i) e h

pub leads_closed : (before now : List Kept) (i : Instr) (p : place.Place) → LeadsTo before now i p → p ≡ places.Closed → place_after (opens before) i ≡ Closed
leads_closed before now i p h e = subst (LeadsTo before now i) e h
