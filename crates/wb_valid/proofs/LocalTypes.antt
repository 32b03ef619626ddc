-- A local by its index: the run in which it is, by running sums of the counts.
use Rattle.std.specs.Bool.{nat_le as leb}
use Rattle.std.proofs.Common.{◌≡◌, ℕ, zero, suc, ◌+◌, ◌-◌, ◌<◌, ◌≤◌, arith, refl, sym, ap, ◌∙◌, subst, length, get_or, replicate}
use Rattle.std.specs.Prelude.{true, false, List, [], ◌∷◌, ◌++◌, Option, Some, None, slice_get}
use Rattle.std.specs.List.Sorted.{IsNonDecreasingBy, IsPartitionPoint}
use Rattle.std.proofs.lemmas.Bool.{leb-true, leb-false}
use Rattle.wb_valid.specs.Syntax.{NumType, LocalRun, expanded}
use Rattle.wb_valid.specs.Locals.{running_sums}

-- the type of a run
abbrev pub run_type : Option LocalRun → Option NumType
run_type None = None
run_type (Some r) = Some r.ty

pub behind_front : {A : Type 0} (xs ys : List A) (i : ℕ) → length xs ≤ i → slice_get (xs ++ ys) i ≡ slice_get ys (i - length xs)
behind_front [] ys i l = ap (slice_get ys) (omega arith)
behind_front (x ∷ xs) ys zero l = absurd (omega (arith, l))
behind_front (x ∷ xs) ys (suc i) l = let k : length xs ≤ i = omega arith in behind_front xs ys i k ∙ ap (slice_get ys) (omega arith)

pub in_front : {A : Type 0} (xs ys : List A) (i : ℕ) → i < length xs → slice_get (xs ++ ys) i ≡ slice_get xs i
in_front [] ys i l = absurd (omega (arith, l))
in_front (x ∷ xs) ys zero l = refl
in_front (x ∷ xs) ys (suc i) l = in_front xs ys i (omega arith)

in_run : (n : ℕ) (t : NumType) (ys : List NumType) (i : ℕ) → i < n → slice_get (replicate n t ++ ys) i ≡ Some t
in_run zero t ys i l = absurd (omega (arith, l))
in_run (suc n) t ys zero l = refl
in_run (suc n) t ys (suc i) l = in_run n t ys i (omega arith)

behind_run : (n : ℕ) (t : NumType) (ys : List NumType) (i : ℕ) → n ≤ i → slice_get (replicate n t ++ ys) i ≡ slice_get ys (i - n)
behind_run zero t ys i l = ap (slice_get ys) (omega arith)
behind_run (suc n) t ys zero l = absurd (omega (arith, l))
behind_run (suc n) t ys (suc i) l = let k : n ≤ i = omega arith in behind_run n t ys i k ∙ ap (slice_get ys) (omega arith)

-- the run in which a local is: so many sums are no greater than its number
found : (rs : List LocalRun) (n past k : ℕ) → n ≤ past → k ≤ length rs → ((i : ℕ) → i < k → get_or (running_sums n rs) i 0 ≤ past) → (k < length rs → past < get_or (running_sums n rs) k 0) → slice_get (expanded rs) (past - n) ≡ run_type (slice_get rs k)
found [] n past zero from within below above = refl
found [] n past (suc k) from within below above = refl
found (r ∷ rs) n past zero from within below above =
    let fits : past < n + r.count = above (omega arith) in
    in_run r.count r.ty (expanded rs) (past - n) (omega arith)
found (r ∷ rs) n past (suc k) from within below above =
    let past_run : n + r.count ≤ past = below 0 (omega arith) in
    behind_run r.count r.ty (expanded rs) (past - n) (omega arith)
    ∙ ap (slice_get (expanded rs)) (omega arith)
    ∙ found rs (n + r.count) past k past_run (omega arith) (λ i l. below (suc i) (omega arith)) (λ l. above (omega arith))

pub length_sums : (n : ℕ) (rs : List LocalRun) → length (running_sums n rs) ≡ length rs
length_sums n [] = refl
length_sums n (r ∷ rs) = ap suc (length_sums (n + r.count) rs)

from_first : (rs : List LocalRun) (n j d : ℕ) → j < length (running_sums n rs) → n ≤ get_or (running_sums n rs) j d
from_first [] n j d l = absurd (omega (arith, l))
from_first (r ∷ rs) n zero d l = omega arith
from_first (r ∷ rs) n (suc j) d l = let k = from_first rs (n + r.count) j d (omega arith) in omega (arith, k)

rises : (rs : List LocalRun) (n i j d : ℕ) → i ≤ j → j < length (running_sums n rs) → get_or (running_sums n rs) i d ≤ get_or (running_sums n rs) j d
rises [] n i j d o l = absurd (omega (arith, l))
rises (r ∷ rs) n zero zero d o l = omega arith
rises (r ∷ rs) n zero (suc j) d o l = from_first rs (n + r.count) j d (omega arith)
rises (r ∷ rs) n (suc i) zero d o l = absurd (omega (arith, o))
rises (r ∷ rs) n (suc i) (suc j) d o l = rises rs (n + r.count) i j d (omega arith) (omega arith)

pub sums_rise : (rs : List LocalRun) (sums : List ℕ) → sums ≡ running_sums 0 rs → IsNonDecreasingBy (λ y. y) sums
sums_rise rs sums e = subst (λ xs. IsNonDecreasingBy (λ (y : ℕ). y) xs) (sym e) (λ i j d o l. rises rs 0 i j d o l)

at_point : (rs : List LocalRun) (past k : ℕ) → k ≤ length rs → IsPartitionPoint (λ y. leb y past ≡ true) (λ y. leb y past ≡ false) (running_sums 0 rs) k → slice_get (expanded rs) past ≡ run_type (slice_get rs k)
at_point rs past k within point =
    ap (slice_get (expanded rs)) (omega arith)
    ∙ found rs 0 past k (omega arith) within (λ i l. leb-true (get_or (running_sums 0 rs) i 0) past (point.0 i 0 (omega arith) l))
    (λ l. leb-false (get_or (running_sums 0 rs) k 0) past (point.1 k 0 (omega arith) (omega (arith, length_sums 0 rs))))

-- the local at an index behind the parameters
pub local_at : (params : List NumType) (rs : List LocalRun) (sums : List ℕ) (index k : ℕ) → sums ≡ running_sums 0 rs → length params ≤ index → k ≤ length sums → IsPartitionPoint (λ y. leb y (index - length params) ≡ true) (λ y. leb y (index - length params) ≡ false) sums k → slice_get (params ++ expanded rs) index ≡ run_type (slice_get rs k)
local_at params rs sums index k e past within point =
    behind_front params (expanded rs) index past
    ∙ at_point rs (index - length params) k (omega (arith, ap length e, length_sums 0 rs)) (subst (λ xs. IsPartitionPoint (λ (y : ℕ). leb y (index - length params) ≡ true) (λ (y : ℕ). leb y (index - length params) ≡ false) xs k) e point)
