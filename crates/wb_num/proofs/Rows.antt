-- What the rows of the table are, by ranges of opcodes.
use Rattle.std.proofs.Common.{◌≡◌, ℕ, ◌^◌, ◌<◌, ◌≤◌, Bool, true, false, arith, refl, sym, ap, subst, ◌∙◌}
use Rattle.std.specs.Prelude.{◌==◌, ◌||◌}
use Rattle.std.proofs.lemmas.Bool.Decides.{nat_tests}
use Rattle.wb_syntax.specs.Table.{row_at, between}
use Rattle.wb_syntax.specs.Numbers.{Numeric, Yields, ByZero, TooLarge, binary}
use Rattle.wb_syntax.specs.declared.syntax.NumType.TheVariants.{I32, I64}
use Rattle.wb_syntax.specs.Table.{Row, Takes1, Takes2}
use Rattle.wb_num.specs.Answers.{takes_one, takes_two, operand_bits, result_bits, IsOperand, IsResult}
use Rattle.wb_num.proofs.Between.{holds_between}

same_bits : (k : ℕ) → (k == 32) ≡ true → k ≡ 32
same_bits k h = grind (arith, nat_tests)

-- the operands of i32.add to i32.rotr are words of 32 bits
narrow_bits : (n : ℕ) → 106 ≤ n → n ≤ 120 → operand_bits (row_at n) ≡ 32
unfolding row_at
narrow_bits n from to =
    let h : (operand_bits (row_at n) == 32) ≡ true = holds_between (λ k. operand_bits (row_at k) == 32) 15 106 n refl from (omega arith) in
    same_bits _ h

pub narrow : (n a : ℕ) → 106 ≤ n → n ≤ 120 → IsOperand n a → a < 2 ^ 32
narrow n a from to h = subst (λ (k : ℕ). a < 2 ^ k) (narrow_bits n from to) h

abbrev if_else : Bool → Bool → Bool
if_else given held = elim given [ true ↦ held | false ↦ true ]

then_holds : (given held : Bool) → if_else given held ≡ true → given ≡ true → held ≡ true
then_holds true held h e = h
then_holds false held h e = cc

-- where the operations with two operands are
abbrev pub two_at : ℕ → Bool
two_at n = between 70 79 n || between 81 90 n || between 106 120 n || between 124 138 n

pub two_operands : (n : ℕ) → n < 256 → takes_two (row_at n) ≡ true → two_at n ≡ true
unfolding row_at
two_operands n to h = then_holds (takes_two (row_at n)) (two_at n) (holds_between (λ k. if_else (takes_two (row_at k)) (two_at k)) 256 0 n refl (omega arith) (omega arith)) h

-- where the operations with one operand are
abbrev pub one_at : ℕ → Bool
one_at n = n == 69 || n == 80 || between 103 105 n || between 121 123 n || n == 167 || n == 172 || n == 173

pub one_operand : (n : ℕ) → n < 256 → takes_one (row_at n) ≡ true → one_at n ≡ true
unfolding row_at
one_operand n to h = then_holds (takes_one (row_at n)) (one_at n) (holds_between (λ k. if_else (takes_one (row_at k)) (one_at k)) 256 0 n refl (omega arith) (omega arith)) h

-- division by 0
abbrev is_by_zero : Numeric → Bool
is_by_zero ByZero = true
is_by_zero _ = false

by_zero : (x : Numeric) → is_by_zero x ≡ true → x ≡ ByZero
by_zero (Yields n) h = cc
by_zero ByZero h = refl
by_zero TooLarge h = cc

pub narrow_by_zero : (op a b : ℕ) → 109 ≤ op → op ≤ 112 → b ≡ 0 → binary op a b ≡ ByZero
unfolding row_at
narrow_by_zero op a b from to e = ap (λ d. binary op a d) e ∙ by_zero _ (holds_between (λ k. is_by_zero (binary k a 0)) 4 109 op refl from (omega arith))

pub wide_by_zero : (op a b : ℕ) → 127 ≤ op → op ≤ 130 → b ≡ 0 → binary op a b ≡ ByZero
unfolding row_at
wide_by_zero op a b from to e = ap (λ d. binary op a d) e ∙ by_zero _ (holds_between (λ k. is_by_zero (binary k a 0)) 4 127 op refl from (omega arith))

-- at these opcodes stand operations with two operands
pub narrow_comparison : (n : ℕ) → 70 ≤ n → n ≤ 79 → takes_two (row_at n) ≡ true
unfolding row_at
narrow_comparison n from to = holds_between (λ k. takes_two (row_at k)) 10 70 n refl from (omega arith)

pub narrow_arithmetic : (n : ℕ) → 106 ≤ n → n ≤ 120 → takes_two (row_at n) ≡ true
unfolding row_at
narrow_arithmetic n from to = holds_between (λ k. takes_two (row_at k)) 15 106 n refl from (omega arith)

pub wide_comparison : (n : ℕ) → 81 ≤ n → n ≤ 90 → takes_two (row_at n) ≡ true
unfolding row_at
wide_comparison n from to = holds_between (λ k. takes_two (row_at k)) 10 81 n refl from (omega arith)

pub wide_arithmetic : (n : ℕ) → 124 ≤ n → n ≤ 138 → takes_two (row_at n) ≡ true
unfolding row_at
wide_arithmetic n from to = holds_between (λ k. takes_two (row_at k)) 15 124 n refl from (omega arith)

sixty_four : (k : ℕ) → (k == 64) ≡ true → 64 ≡ k
sixty_four k h = grind (arith, nat_tests)

below_wide : (bits a : ℕ) → (bits == 64) ≡ true → a < 2 ^ 64 → a < 2 ^ bits
below_wide bits a e h = let same : 64 ≡ bits = sixty_four bits e in subst (λ (k : ℕ). a < 2 ^ k) same h

-- and they take words of 64 bits
pub wide_compared : (n a : ℕ) → 81 ≤ n → n ≤ 90 → a < 2 ^ 64 → IsOperand n a
unfolding row_at
wide_compared n a from to h = below_wide _ a (holds_between (λ k. operand_bits (row_at k) == 64) 10 81 n refl from (omega arith)) h

pub wide_computed : (n a : ℕ) → 124 ≤ n → n ≤ 138 → a < 2 ^ 64 → IsOperand n a
unfolding row_at
wide_computed n a from to h = below_wide _ a (holds_between (λ k. operand_bits (row_at k) == 64) 15 124 n refl from (omega arith)) h

-- what fits 32 bits fits each result
fits_row : (row : Row) (n : ℕ) → n < 2 ^ 32 → n < 2 ^ result_bits row
fits_row (Takes1 t I32 op) n h = h
fits_row (Takes1 t I64 op) n h = omega arith
fits_row (Takes2 t I32 op) n h = h
fits_row (Takes2 t I64 op) n h = omega arith
fits_row _ n h = omega arith

pub small_fits : (op n : ℕ) → n < 2 ^ 32 → IsResult op n
small_fits op n h = fits_row (row_at op) n h

same_64 : (k : ℕ) → (k == 64) ≡ true → k ≡ 64
same_64 k h = grind (arith, nat_tests)

wide_result_bits : (n : ℕ) → 124 ≤ n → n ≤ 138 → result_bits (row_at n) ≡ 64
unfolding row_at
wide_result_bits n from to =
    let h : (result_bits (row_at n) == 64) ≡ true = holds_between (λ k. result_bits (row_at k) == 64) 15 124 n refl from (omega arith) in
    same_64 _ h

pub wide_fits : (op n : ℕ) → 124 ≤ op → op ≤ 138 → n < 2 ^ 64 → IsResult op n
wide_fits op n from to h = subst (λ (k : ℕ). n < 2 ^ k) (sym (wide_result_bits op from to)) h
