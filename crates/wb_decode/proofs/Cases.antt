-- Reading by the first byte.
use Rattle.std.proofs.Common.{◌≡◌, ℕ, zero, suc, ◌<◌, refl, sym, ap, ◌∙◌, subst, arith}
use Rattle.std.specs.Prelude.{List, ◌∷◌, length, Result, Ok, Err}
use Rattle.wb_syntax.specs.Grammar.{Malformed, Reads, Stops, Grammar, go_on, followed, by_first, by_byte, index}
use Rattle.wb_syntax.specs.Binary.{results}
use Rattle.wb_decode.specs.Reading.{Faulty, Reading}
use Rattle.wb_decode.specs.declared.ends.Fault as program

-- what follows this byte is read behind it
pub first_is : {A : Type 0} (next : ℕ → Grammar A) (bytes rest : List ℕ) (b n : ℕ) → bytes ≡ b ∷ rest → b ≡ n → by_first next bytes ≡ (next n).read rest
first_is next bytes rest b n e is = ap (by_first next) e ∙ ap (λ k. (next k).read rest) is

pub first_faulty : {A : Type 0} (f : program.Fault) (next : ℕ → Grammar A) (bytes rest : List ℕ) (b n : ℕ) → bytes ≡ b ∷ rest → b ≡ n → Faulty f ((next n).read rest) → Faulty f (by_first next bytes)
first_faulty f next bytes rest b n e is h = subst (Faulty f) (sym (first_is next bytes rest b n e is)) h

-- what a reader behind the first byte answers
pub by_case : {X A : Type 0} (r : Result X program.Fault) (view : X → A × List ℕ) (next : ℕ → Grammar A) (bytes rest : List ℕ) (b n : ℕ) → bytes ≡ b ∷ rest → b ≡ n → Reading view (next n) rest r → Reading view (by_byte next) bytes r
by_case (Ok x) view next bytes rest b n e is h = let l = ap length e in (first_is next bytes rest b n e is ∙ h.0, omega (arith, h.1, l))
by_case (Err f) view next bytes rest b n e is h = first_faulty f next bytes rest b n e is h

-- more results than one
results_refused : (n : ℕ) (rest : List ℕ) → 1 < n → (results n).read rest ≡ Stops rest Malformed
results_refused zero rest h = absurd (omega (arith, h))
results_refused (suc zero) rest h = absurd (omega (arith, h))
results_refused (suc (suc n)) rest h = refl

pub many_results : (n : ℕ) (bytes rest : List ℕ) → index.read bytes ≡ Reads n rest → 1 < n → (left : List ℕ) × ((followed index results).read bytes ≡ Stops left Malformed)
many_results n bytes rest e h = (rest, ap (λ r. go_on r (λ n left. (results n).read left)) e ∙ results_refused n rest h)
