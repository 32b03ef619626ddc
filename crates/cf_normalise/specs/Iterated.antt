-- A function that does a thing 16 times in a row, this thing being such a function again, so many levels deep.
use Rattle.std.specs.Prelude.{ℕ, zero, suc, false}
use Rattle.cf_term.specs.Core.{Tm, var}
use Rattle.cf_term.specs.Forms.{App, Lam, NatRec, NatTy, Suc, Triv, UnitTy, Zero}

-- `#n`
abbrev pub numeral : ℕ → Tm
numeral zero = Zero
numeral (suc n) = Suc (numeral n)

-- `\(x : Unit). natrec (\(k : Nat). Unit) x (\(k : Nat). \(r : Unit). f r) #16`, where no variable stands free in f
abbrev pub sixteen_times : Tm → Tm
sixteen_times f = Lam false UnitTy (NatRec (Lam false NatTy UnitTy) (var 0) (Lam false NatTy (Lam false UnitTy (App false f (var 0)))) (numeral 16))

-- `\(x : Unit). x`, and above it 16 times what is one level below
abbrev pub function : ℕ → Tm
function zero = Lam false UnitTy (var 0)
function (suc n) = sixteen_times (function n)

-- its call with `unit`
abbrev pub call : ℕ → Tm
call n = App false (function n) Triv
