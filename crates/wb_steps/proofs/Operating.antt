-- Rows by their opcodes, which rise through the table; divisions.
use Rattle.std.proofs.Common.{◌≡◌, ◌≢◌, ◌⊎◌, inl, inr, ⊎_elim, ℕ, zero, suc, ◌-◌, ◌/◌, ◌%◌, ◌^◌, ◌≤◌, List, [], ◌∷◌, Some, None, slice_get, refl, ap, ◌∙◌, arith}
use Rattle.std.proofs.lemmas.Bool.Decides.{nat_tests}
use Rattle.std.specs.Prelude.{Bool, true, false, ◌==◌, ◌&&◌, nat_le, int_div, int_rem}
use Rattle.wb_syntax.specs.declared.syntax.NumType.TheVariants.{I32, I64}
use Rattle.wb_syntax.specs.Table.{Row, rows, row_among, row_at}
use Rattle.wb_syntax.specs.Numbers.{Numeric, Yields, ByZero, TooLarge, bits_of, signed, unsigned}
use Rattle.wb_steps.specs.Operations.{RowsAreFound, DivisionsByZero, QuotientTooLarge, QuotientYields, DivisionsYield}

-- ---- rows

-- opcodes rise, from this number on
ascends : ℕ → List (ℕ × Row) → Bool
ascends least [] = true
ascends least (p ∷ ps) = nat_le least p.0 && ascends (suc p.0) ps

left_of : (a b : Bool) → (a && b) ≡ true → a ≡ true
left_of true b e = refl
left_of false b e = cc

right_of : (a b : Bool) → (a && b) ≡ true → b ≡ true
right_of true b e = e
right_of false b e = cc

none_some : {A B : Type 0} (x : A) → None ≡ Some x → B
none_some x e = cc

some_inj : {A : Type 0} (x y : A) → Some x ≡ Some y → x ≡ y
some_inj x y e = cc

-- no opcode is less
at_least : (least : ℕ) (ps : List (ℕ × Row)) (i opcode : ℕ) (r : Row) → ascends least ps ≡ true → slice_get ps i ≡ Some (opcode, r) → least ≤ opcode
unfolding ascends
at_least least [] i opcode r a e = none_some (opcode, r) e
at_least least (p ∷ ps) zero opcode r a e =
    let same : p.0 ≡ opcode = ap (λ (p : ℕ × Row). p.0) (some_inj p (opcode, r) e) in
    let l : nat_le least p.0 ≡ true = left_of (nat_le least p.0) (ascends (suc p.0) ps) a in
    grind (arith, nat_tests, l, same)
at_least least (p ∷ ps) (suc i) opcode r a e =
    let l : nat_le least p.0 ≡ true = left_of (nat_le least p.0) (ascends (suc p.0) ps) a in
    let k : suc p.0 ≤ opcode = at_least (suc p.0) ps i opcode r (right_of (nat_le least p.0) (ascends (suc p.0) ps) a) e in
    grind (arith, nat_tests, l, k)

found : (least : ℕ) (ps : List (ℕ × Row)) (i opcode : ℕ) (r : Row) → ascends least ps ≡ true → slice_get ps i ≡ Some (opcode, r) → row_among opcode ps ≡ r
unfolding ascends
found least [] i opcode r a e = none_some (opcode, r) e
found least (p ∷ ps) zero opcode r a e =
    let pair = some_inj p (opcode, r) e in
    let first : p.0 ≡ opcode = ap (λ (p : ℕ × Row). p.0) pair in
    let same : (opcode == p.0) ≡ true = grind (arith, nat_tests, first) in
    ap (λ b. elim b [ true ↦ p.1 | false ↦ row_among opcode ps ]) same ∙ ap (λ (p : ℕ × Row). p.1) pair
found least (p ∷ ps) (suc i) opcode r a e =
    let rest = right_of (nat_le least p.0) (ascends (suc p.0) ps) a in
    let k : suc p.0 ≤ opcode = at_least (suc p.0) ps i opcode r rest e in
    let other : (opcode == p.0) ≡ false = grind (arith, nat_tests, k) in
    ap (λ b. elim b [ true ↦ p.1 | false ↦ row_among opcode ps ]) other ∙ found (suc p.0) ps i opcode r rest e

all_ascend : ascends 0 rows ≡ true
unfolding ascends
all_ascend = refl

pub rows_are_found : RowsAreFound
unfolding row_at
rows_are_found i opcode r e = found 0 rows i opcode r all_ascend e

-- ---- divisions

pub divisions_by_zero : DivisionsByZero
divisions_by_zero t x = (refl, refl, refl, refl)

pub quotient_too_large : QuotientTooLarge
quotient_too_large I32 = refl
quotient_too_large I64 = refl

no_zero : (y : ℕ) (r : Numeric) → y ≢ 0 → elim (y == 0) [ true ↦ ByZero | false ↦ r ] ≡ r
no_zero y r h = (let e : (y == 0) ≡ false = grind (arith, nat_tests, h) in ap (λ b. elim b [ true ↦ ByZero | false ↦ r ]) e)

not_equal : (x y : ℕ) → x ≢ y → (x == y) ≡ false
not_equal x y h = grind (arith, nat_tests, h)

not_both : (a b : Bool) → ((a ≡ false) ⊎ (b ≡ false)) → (a && b) ≡ false
not_both true true h = ⊎_elim (λ e. e) (λ e. e) h
not_both true false h = refl
not_both false b h = refl

pub quotient_yields : QuotientYields
quotient_yields t x y h apart =
    let one = 2 ^ (bits_of t - 1) in
    let other = 2 ^ bits_of t - 1 in
    let q = unsigned t (int_div (signed t x) (signed t y)) in
    let e : ((x == one) && (y == other)) ≡ false = not_both (x == one) (y == other) (⊎_elim (λ g. inl (not_equal x one g)) (λ g. inr (not_equal y other g)) apart) in
    no_zero y (elim ((x == one) && (y == other)) [ true ↦ TooLarge | false ↦ Yields q ]) h
    ∙ ap (λ b. elim b [ true ↦ TooLarge | false ↦ Yields q ]) e

pub divisions_yield : DivisionsYield
divisions_yield t x y h =
    (no_zero y (Yields (x / y)) h, no_zero y (Yields (x % y)) h, no_zero y (Yields (unsigned t (int_rem (signed t x) (signed t y)))) h)
