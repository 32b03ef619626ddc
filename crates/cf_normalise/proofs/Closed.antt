-- No variable stands free in the terms, and there is no mark in them.
use Rattle.std.proofs.Common.{◌≡◌, ◌∙◌, ◌+◌, ℕ, zero, suc, refl, sym, ap, arith}
use Rattle.cf_term.specs.Core.{Tm}
use Rattle.cf_term.specs.Same.{bare}
use Rattle.cf_term.specs.Substitution.{substitute}
use Rattle.cf_term.specs.Closed.{IsClosed}
use Rattle.cf_normalise.specs.Iterated.{call, function, numeral}

numeral_closed : (n m : ℕ) → IsClosed m (numeral n)
numeral_closed zero m = tt
numeral_closed (suc n) m = (numeral_closed n _, tt)

function_closed : (n m : ℕ) → IsClosed m (function n)
function_closed zero m = (tt, (omega arith, tt))
function_closed (suc n) m =
    (tt, (((tt, (tt, tt)), (omega arith, ((tt, ((tt, ((function_closed n _, (omega arith, tt)), tt)), tt)), (numeral_closed 16 (m + 1), tt)))), tt))

pub call_closed : (n m : ℕ) → IsClosed m (call n)
call_closed n m = (function_closed n _, (tt, tt))

function_bare : (n : ℕ) → bare (function n) ≡ function n
function_bare zero = refl
function_bare (suc n) = rw (function_bare n) refl

function_unchanged : (n : ℕ) (s : ℕ → Tm) → substitute s (function n) ≡ function n
function_unchanged zero s = refl
function_unchanged (suc n) s = rw (function_unchanged n _) refl

call_bare : (n : ℕ) → bare (call n) ≡ call n
call_bare n = rw (function_bare n) refl

call_unchanged : (n : ℕ) (s : ℕ → Tm) → substitute s (call n) ≡ call n
call_unchanged n s = rw (function_unchanged n s) refl

pub bare_call_unchanged : (n : ℕ) (s : ℕ → Tm) → substitute s (bare (call n)) ≡ bare (call n)
bare_call_unchanged n s = ap (substitute s) (call_bare n) ∙ call_unchanged n s ∙ sym (call_bare n)
