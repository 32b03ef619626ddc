-- Reading one run of locals after another.
use Rattle.std.proofs.Common.{◌≡◌, ℕ, zero, suc, ◌+◌, ◌-◌, ◌^◌, ◌<◌, ◌≤◌, refl, sym, ap, ◌∙◌, arith}
use Rattle.std.specs.Prelude.{Bool, true, false, nat_lt, List, [], ◌∷◌, ◌++◌}
use Rattle.std.proofs.lemmas.Bool.Decides.{nat_tests}
use Rattle.wb_syntax.specs.declared.syntax.NumType.{NumType}
use Rattle.wb_syntax.specs.declared.syntax.LocalRun.{LocalRun}
use Rattle.wb_syntax.specs.Grammar.{Fault, Malformed, Read, Reads, Stops, Grammar, go_on, refused, followed, mapped, index}
use Rattle.wb_syntax.specs.Binary.{value_type, local_runs}
use Rattle.wb_decode.specs.declared.ends.Fault as program
use Rattle.wb_decode.specs.Reading.{Faulty, local_run}
use Rattle.wb_decode.proofs.Values.{prepend, prepend_more, still_faulty}

-- the runs behind one that was read
abbrev others : (n before : ℕ) → LocalRun → List ℕ → Read (List LocalRun)
others n before r left = go_on ((local_runs n (before + r.count)).read left) (λ rs rest. Reads (r ∷ rs) rest)

after_type : (n before k : ℕ) (r : Read NumType) → go_on r (λ t left. go_on ((local_runs n (before + k)).read left) (λ rs rest. Reads (record { count = k; ty = t } ∷ rs) rest)) ≡ go_on (go_on r (λ t left. Reads (record { count = k; ty = t }) left)) (others n before)
after_type n before k (Reads t left) = refl
after_type n before k (Stops left f) = refl

-- the grammars that stand behind a count, by the test of the sum
abbrev tested_runs : (n before k : ℕ) → Bool → Grammar (List LocalRun)
tested_runs n before k t = elim t [ true ↦ followed value_type (λ ty. mapped (λ rs. record { count = k; ty = ty } ∷ rs) (local_runs n (before + k))) | false ↦ refused Malformed ]

abbrev tested_run : (k : ℕ) → Bool → Grammar LocalRun
tested_run k t = elim t [ true ↦ mapped (λ ty. record { count = k; ty = ty }) value_type | false ↦ refused Malformed ]

after_test : (n before k : ℕ) (left : List ℕ) (t : Bool) → (tested_runs n before k t).read left ≡ go_on ((tested_run k t).read left) (others n before)
after_test n before k left true = after_type n before k (value_type.read left)
after_test n before k left false = refl

after_count : (n before : ℕ) (r : Read ℕ) → go_on r (λ k left. (tested_runs n before k (nat_lt (before + k) (2 ^ 32))).read left) ≡ go_on (go_on r (λ k left. (tested_run k (nat_lt (before + k) (2 ^ 32))).read left)) (others n before)
after_count n before (Reads k left) = after_test n before k left (nat_lt (before + k) (2 ^ 32))
after_count n before (Stops left f) = refl

runs_more : (n before : ℕ) (bytes : List ℕ) → 0 < n → (local_runs n before).read bytes ≡ go_on ((local_run before).read bytes) (others (n - 1) before)
runs_more zero before bytes h = absurd (omega (arith, h))
runs_more (suc n) before bytes h = let e : suc n - 1 ≡ n = omega arith in rw e (after_count n before (index.read bytes))

-- one more run is read
pub run_read : (n before : ℕ) (rs : List LocalRun) (r : LocalRun) (bytes rest : List ℕ) → 0 < n → (local_run before).read bytes ≡ Reads r rest → prepend rs ((local_runs n before).read bytes) ≡ prepend (rs ++ r ∷ []) ((local_runs (n - 1) (before + r.count)).read rest)
run_read n before rs r bytes rest h e = ap (prepend rs) (runs_more n before bytes h ∙ ap (λ x. go_on x (others (n - 1) before)) e) ∙ prepend_more rs r ((local_runs (n - 1) (before + r.count)).read rest)

run_stops : (n before : ℕ) (rs : List LocalRun) (bytes left : List ℕ) (f : Fault) → 0 < n → (local_run before).read bytes ≡ Stops left f → prepend rs ((local_runs n before).read bytes) ≡ Stops left f
run_stops n before rs bytes left f h e = ap (prepend rs) (runs_more n before bytes h ∙ ap (λ x. go_on x (others (n - 1) before)) e)

-- the next run is not read
pub run_faulty : (f : program.Fault) (n before : ℕ) (rs : List LocalRun) (bytes : List ℕ) (whole : Read (List LocalRun)) → 0 < n → prepend rs ((local_runs n before).read bytes) ≡ whole → Faulty f ((local_run before).read bytes) → Faulty f whole
run_faulty f n before rs bytes whole h e = still_faulty f ((local_run before).read bytes) whole (λ left k s. sym e ∙ run_stops n before rs bytes left k h s)

-- too many locals
pub too_many : (before k : ℕ) (bytes rest : List ℕ) → index.read bytes ≡ Reads k rest → 2 ^ 32 ≤ before + k → (left : List ℕ) × ((local_run before).read bytes ≡ Stops left Malformed)
too_many before k bytes rest e h =
    let t : nat_lt (before + k) (2 ^ 32) ≡ false = grind (arith, nat_tests) in
    (rest, ap (λ r. go_on r (λ k left. (tested_run k (nat_lt (before + k) (2 ^ 32))).read left)) e ∙ ap (λ b. (tested_run k b).read rest) t)
