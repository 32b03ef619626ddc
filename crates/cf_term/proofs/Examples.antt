-- Evaluation and normal forms of closed examples, computed by their definitions.
use Rattle.std.specs.Prelude.{◌≡◌, refl, ℕ, zero, suc, ◌-◌, false, pos}
use Rattle.cf_term.specs.Core.{Tm, var}
use Rattle.cf_term.specs.Forms.{Lam, App, NatTy, Zero, Suc, NatRec, Lift, Quote, Splice, V, IntTy, Lit, Prim, OLam}
use Rattle.cf_term.specs.Evaluation.{Done, Spent, Deep, evaluate}
use Rattle.cf_term.specs.NormalForms.{normal_form}
use Rattle.cf_term.specs.declared.operations.Op.TheVariants.{Mul}

abbrev numeral : ℕ → Tm
numeral zero = Zero
numeral (suc n) = Suc (numeral n)

abbrev code_of_int : Tm
code_of_int = Lift (V IntTy)

-- \(n : Nat). \(x : ^(V Int)). natrec (\(k : Nat). ^(V Int)) <1> (\(k : Nat). \(r : ^(V Int)). <mul ~x ~r>) n
abbrev power : Tm
power = Lam false NatTy (Lam false code_of_int (NatRec (Lam false NatTy code_of_int) (Quote (Lit (pos 1)))
    (Lam false NatTy (Lam false code_of_int (Quote (Prim Mul (Splice (var 2)) (Splice (var 0)))))) (var 1)))

-- fn (x : Int). ~(power #5 <x>)
abbrev fifth_power : Tm
fifth_power = OLam IntTy (Splice (App false (App false power (numeral 5)) (Quote (var 0))))

-- mul x (.. (mul x 1))
abbrev product : ℕ → Tm
product zero = Lit (pos 1)
product (suc n) = Prim Mul (var 0) (product n)

in_42_steps : normal_form 42 250 fifth_power ≡ Done (OLam IntTy (product 5)) 0
in_42_steps = refl

not_in_41_steps : normal_form 41 250 fifth_power ≡ Spent
not_in_41_steps = refl

-- (\(n : Nat). natrec (\(k : Nat). Nat) #0 (\(k : Nat). \(r : Nat). suc (suc r)) n) t
abbrev doubled : Tm → Tm
doubled t = App false (Lam false NatTy (NatRec (Lam false NatTy NatTy) Zero (Lam false NatTy (Lam false NatTy (Suc (Suc (var 0))))) (var 0))) t

within_the_nest : normal_form 1000000 250 (doubled (doubled (numeral 64))) ≡ Done (numeral 256) (1000000 - 580 - 257)
within_the_nest = refl

past_the_nest : normal_form 1000000 250 (doubled (doubled (doubled (numeral 64)))) ≡ Deep
past_the_nest = refl

-- <~x> is x, in no step
no_step : evaluate 0 0 (Quote (Splice (var 3))) ≡ Done (var 3) 0
no_step = refl
