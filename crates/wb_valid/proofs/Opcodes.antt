-- What the rows of the table are, by ranges of opcodes: tests that are computed at each of them.
use Rattle.std.proofs.Common.{◌≡◌, ℕ, zero, suc, ◌+◌, ◌<◌, ◌≤◌, ◌^◌, arith, refl, sym, ap, ◌∙◌, subst, ◌⊎◌, inl, inr}
use Rattle.std.specs.Prelude.{Bool, true, false, ◌&&◌, ◌||◌, nat_le, Some, None}
use Rattle.std.proofs.lemmas.Bool.{cases_lt, leb-true, and_parts, le-leb, lt-leb}
use Rattle.std.proofs.lemmas.Nat.{pow_below}
use Rattle.std.proofs.Math.Nat.{pow-le-pow_right}
use Rattle.wb_syntax.specs.Table.{Row, Loads, Stores, Takes1, Takes2, row_at, between}
use Rattle.wb_valid.specs.Syntax.{NumType, I32, I64}
use Rattle.wb_valid.specs.Operands.{same_type}
use Rattle.wb_valid.specs.Effects.{Moves, Refused, taking, is_access, load_effect, store_effect, unary_effect, binary_effect}
use Rattle.wb_valid.proofs.Fitting.{same_type_is}

-- a test holds at so many numbers from this one on
abbrev tested : (ℕ → Bool) → (count low : ℕ) → Bool
tested p zero low = true
tested p (suc count) low = elim (p low) [ true ↦ tested p count (suc low) | false ↦ false ]

one_holds : (b rest : Bool) → elim b [ true ↦ rest | false ↦ false ] ≡ true → b ≡ true
one_holds true rest h = refl
one_holds false rest h = cc

others_hold : (b rest : Bool) → elim b [ true ↦ rest | false ↦ false ] ≡ true → rest ≡ true
others_hold true rest h = h
others_hold false rest h = cc

this_or_later : (p : ℕ → Bool) (low n : ℕ) → p low ≡ true → low ≤ n → (low < n → p n ≡ true) → ((low < n) ⊎ (n ≤ low)) → p n ≡ true
this_or_later p low n here from later (inl more) = later more
this_or_later p low n here from later (inr least) = let e : low ≡ n = omega arith in subst (λ (m : ℕ). p m ≡ true) e here

holds_at : (p : ℕ → Bool) (count low n : ℕ) → tested p count low ≡ true → low ≤ n → n < low + count → p n ≡ true
holds_at p zero low n h from to = absurd (omega arith)
holds_at p (suc count) low n h from to =
    this_or_later p low n (one_holds (p low) _ h) from (λ more. holds_at p count (suc low) n (others_hold (p low) _ h) (omega arith) (omega arith)) (cases_lt low n)

-- ---- rows with one and with two operands of these types

abbrev is_one : NumType → NumType → Row → Bool
is_one t r (Takes1 u s op) = same_type u t && same_type s r
is_one t r _ = false

abbrev is_two : NumType → NumType → Row → Bool
is_two t r (Takes2 u s op) = same_type u t && same_type s r
is_two t r _ = false

one_effect : (t r : NumType) (row : Row) → is_one t r row ≡ true → Moves (taking (Some t) None) (Some r) ≡ unary_effect row
one_effect t r (Takes1 u s op) h =
    let p = and_parts (same_type u t) (same_type s r) h in
    ap (λ v. Moves (taking (Some v) None) (Some r)) (sym (same_type_is u t p.0)) ∙ ap (λ v. Moves (taking (Some u) None) (Some v)) (sym (same_type_is s r p.1))
one_effect t r _ h = cc

two_effect : (t r : NumType) (row : Row) → is_two t r row ≡ true → Moves (taking (Some t) (Some t)) (Some r) ≡ binary_effect row
two_effect t r (Takes2 u s op) h =
    let p = and_parts (same_type u t) (same_type s r) h in
    ap (λ v. Moves (taking (Some v) (Some v)) (Some r)) (sym (same_type_is u t p.0)) ∙ ap (λ v. Moves (taking (Some u) (Some u)) (Some v)) (sym (same_type_is s r p.1))
two_effect t r _ h = cc

pub narrow_counts : (op : ℕ) → 103 ≤ op → op ≤ 105 → Moves (taking (Some I32) None) (Some I32) ≡ unary_effect (row_at op)
unfolding row_at
narrow_counts op from to = one_effect I32 I32 (row_at op) (holds_at (λ k. is_one I32 I32 (row_at k)) 3 103 op refl from (omega arith))

pub wide_counts : (op : ℕ) → 121 ≤ op → op ≤ 123 → Moves (taking (Some I64) None) (Some I64) ≡ unary_effect (row_at op)
unfolding row_at
wide_counts op from to = one_effect I64 I64 (row_at op) (holds_at (λ k. is_one I64 I64 (row_at k)) 3 121 op refl from (omega arith))

pub extensions : (op : ℕ) → 172 ≤ op → op ≤ 173 → Moves (taking (Some I32) None) (Some I64) ≡ unary_effect (row_at op)
unfolding row_at
extensions op from to = one_effect I32 I64 (row_at op) (holds_at (λ k. is_one I32 I64 (row_at k)) 2 172 op refl from (omega arith))

pub narrow_comparisons : (op : ℕ) → 70 ≤ op → op ≤ 79 → Moves (taking (Some I32) (Some I32)) (Some I32) ≡ binary_effect (row_at op)
unfolding row_at
narrow_comparisons op from to = two_effect I32 I32 (row_at op) (holds_at (λ k. is_two I32 I32 (row_at k)) 10 70 op refl from (omega arith))

pub wide_comparisons : (op : ℕ) → 81 ≤ op → op ≤ 90 → Moves (taking (Some I64) (Some I64)) (Some I32) ≡ binary_effect (row_at op)
unfolding row_at
wide_comparisons op from to = two_effect I64 I32 (row_at op) (holds_at (λ k. is_two I64 I32 (row_at k)) 10 81 op refl from (omega arith))

pub narrow_arithmetic : (op : ℕ) → 106 ≤ op → op ≤ 120 → Moves (taking (Some I32) (Some I32)) (Some I32) ≡ binary_effect (row_at op)
unfolding row_at
narrow_arithmetic op from to = two_effect I32 I32 (row_at op) (holds_at (λ k. is_two I32 I32 (row_at k)) 15 106 op refl from (omega arith))

pub wide_arithmetic : (op : ℕ) → 124 ≤ op → op ≤ 138 → Moves (taking (Some I64) (Some I64)) (Some I64) ≡ binary_effect (row_at op)
unfolding row_at
wide_arithmetic op from to = two_effect I64 I64 (row_at op) (holds_at (λ k. is_two I64 I64 (row_at k)) 15 124 op refl from (omega arith))

-- ---- opcodes that have no such row

-- the number is in none of these ranges
abbrev if_then : Bool → Bool → Bool
if_then given held = elim given [ true ↦ held | false ↦ true ]

then_held : (given held : Bool) → if_then given held ≡ true → given ≡ true → held ≡ true
then_held true held h e = h
then_held false held h e = cc

abbrev is_load : Row → Bool
is_load (Loads t bytes e) = true
is_load _ = false

abbrev is_store : Row → Bool
is_store (Stores t bytes) = true
is_store _ = false

abbrev is_unary : Row → Bool
is_unary (Takes1 t r op) = true
is_unary _ = false

abbrev is_binary : Row → Bool
is_binary (Takes2 t r op) = true
is_binary _ = false

not_load : (m : Bool) (align : ℕ) (row : Row) → (is_load row ≡ true → ⊥) → Refused ≡ load_effect m align row
not_load m align (Loads t bytes e) h = absurd (h refl)
not_load m align _ h = refl

not_store : (m : Bool) (align : ℕ) (row : Row) → (is_store row ≡ true → ⊥) → Refused ≡ store_effect m align row
not_store m align (Stores t bytes) h = absurd (h refl)
not_store m align _ h = refl

not_unary : (row : Row) → (is_unary row ≡ true → ⊥) → Refused ≡ unary_effect row
not_unary (Takes1 t r op) h = absurd (h refl)
not_unary _ h = refl

not_binary : (row : Row) → (is_binary row ≡ true → ⊥) → Refused ≡ binary_effect row
not_binary (Takes2 t r op) h = absurd (h refl)
not_binary _ h = refl

-- a number is in none of these ranges
abbrev pub Outside : (least greatest n : ℕ) → Type 0
Outside least greatest n = least ≤ n → n ≤ greatest → ⊥

out_of : (least greatest n : ℕ) → Outside least greatest n → between least greatest n ≡ true → ⊥
out_of least greatest n out h = let p = and_parts (nat_le least n) (nat_le n greatest) h in out (leb-true least n p.0) (leb-true n greatest p.1)

either : (b c : Bool) → (b ≡ true → ⊥) → (c ≡ true → ⊥) → (b || c) ≡ true → ⊥
either true c f g h = f refl
either false c f g h = g h

pub no_load : (m : Bool) (align op : ℕ) → op < 256 → Outside 0x28 0x29 op → Outside 0x2C 0x35 op → Refused ≡ load_effect m align (row_at op)
unfolding row_at
no_load m align op to a b = not_load m align (row_at op) (λ h. either (between 0x28 0x29 op) (between 0x2C 0x35 op) (out_of 0x28 0x29 op a) (out_of 0x2C 0x35 op b) (then_held (is_load (row_at op)) (between 0x28 0x29 op || between 0x2C 0x35 op) (holds_at (λ k. if_then (is_load (row_at k)) (between 0x28 0x29 k || between 0x2C 0x35 k)) 256 0 op refl (omega arith) (omega arith)) h))

pub no_store : (m : Bool) (align op : ℕ) → op < 256 → Outside 0x36 0x37 op → Outside 0x3A 0x3E op → Refused ≡ store_effect m align (row_at op)
unfolding row_at
no_store m align op to a b = not_store m align (row_at op) (λ h. either (between 0x36 0x37 op) (between 0x3A 0x3E op) (out_of 0x36 0x37 op a) (out_of 0x3A 0x3E op b) (then_held (is_store (row_at op)) (between 0x36 0x37 op || between 0x3A 0x3E op) (holds_at (λ k. if_then (is_store (row_at k)) (between 0x36 0x37 k || between 0x3A 0x3E k)) 256 0 op refl (omega arith) (omega arith)) h))

-- where operations with one operand are
abbrev one_at : ℕ → Bool
one_at n = between 69 69 n || (between 80 80 n || (between 103 105 n || (between 121 123 n || (between 167 167 n || between 172 173 n))))

pub no_unary : (op : ℕ) → op < 256 → Outside 69 69 op → Outside 80 80 op → Outside 103 105 op → Outside 121 123 op → Outside 167 167 op → Outside 172 173 op → Refused ≡ unary_effect (row_at op)
unfolding row_at
no_unary op to a b c d e f = not_unary (row_at op) (λ h.
    either (between 69 69 op) _ (out_of 69 69 op a)
    (either (between 80 80 op) _ (out_of 80 80 op b)
    (either (between 103 105 op) _ (out_of 103 105 op c)
    (either (between 121 123 op) _ (out_of 121 123 op d)
    (either (between 167 167 op) (between 172 173 op) (out_of 167 167 op e) (out_of 172 173 op f)))))
    (then_held (is_unary (row_at op)) (one_at op) (holds_at (λ k. if_then (is_unary (row_at k)) (one_at k)) 256 0 op refl (omega arith) (omega arith)) h))

-- where operations with two operands are
abbrev two_at : ℕ → Bool
two_at n = between 70 79 n || (between 81 90 n || (between 106 120 n || between 124 138 n))

pub no_binary : (op : ℕ) → op < 256 → Outside 70 79 op → Outside 81 90 op → Outside 106 120 op → Outside 124 138 op → Refused ≡ binary_effect (row_at op)
unfolding row_at
no_binary op to a b c d = not_binary (row_at op) (λ h.
    either (between 70 79 op) _ (out_of 70 79 op a)
    (either (between 81 90 op) _ (out_of 81 90 op b)
    (either (between 106 120 op) (between 124 138 op) (out_of 106 120 op c) (out_of 124 138 op d)))
    (then_held (is_binary (row_at op)) (two_at op) (holds_at (λ k. if_then (is_binary (row_at k)) (two_at k)) 256 0 op refl (omega arith) (omega arith)) h))

-- ---- alignments

order_kept : (a e : ℕ) → ((e < a) ⊎ (a ≤ e)) → nat_le a e ≡ nat_le (2 ^ a) (2 ^ e)
order_kept a e (inl l) = lt-leb a e l ∙ sym (lt-leb (2 ^ a) (2 ^ e) (pow_below e a l))
order_kept a e (inr l) = le-leb a e l ∙ sym (le-leb (2 ^ a) (2 ^ e) (let positive : 0 < 2 = omega arith in pow-le-pow_right positive l))

-- powers of two are in the order of their exponents
pub exponents : (has_memory : Bool) (a e : ℕ) → has_memory ≡ true → nat_le a e ≡ is_access has_memory a (2 ^ e)
exponents true a e h = order_kept a e (cases_lt e a)
exponents false a e h = cc
