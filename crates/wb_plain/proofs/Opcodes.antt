-- What the rows of the table are, by ranges of opcodes: tests that are computed at each of them.
use Rattle.std.proofs.Common.{◌≡◌, ℕ, zero, suc, ◌+◌, ◌<◌, ◌≤◌, ◌^◌, arith, refl, sym, ap, ◌∙◌, subst, ◌⊎◌, inl, inr}
use Rattle.std.specs.Prelude.{Bool, true, false, ◌&&◌, ◌||◌, nat_le, Option, Some, None}
use Rattle.std.proofs.lemmas.Bool.{cases_lt, leb-true, and_parts}
use Rattle.wb_syntax.specs.Table.{Row, Takes1, Takes2, row_at, between}
use Rattle.wb_syntax.specs.Numbers.{bits_of}
use Rattle.wb_syntax.specs.Execute.{same_type}
use Rattle.wb_num.specs.Answers.{takes_one, takes_two, operand_bits, result_bits, IsUnaryOperation, IsBinaryOperation, IsOperand, IsResult}
use Rattle.wb_plain.specs.Syntax.{NumType, I32, I64}
use Rattle.wb_plain.specs.Rows.{Operation, unary_types, binary_types, load_types, store_types}

-- a test holds at so many numbers from this one on
abbrev tested : (ℕ → Bool) → (count low : ℕ) → Bool
tested p zero low = true
tested p (suc count) low = elim (p low) [ true ↦ tested p count (suc low) | false ↦ false ]

one_holds : (b rest : Bool) → elim b [ true ↦ rest | false ↦ false ] ≡ true → b ≡ true
one_holds true rest h = refl
one_holds false rest h = cc

others_hold : (b rest : Bool) → elim b [ true ↦ rest | false ↦ false ] ≡ true → rest ≡ true
others_hold true rest h = h
others_hold false rest h = cc

this_or_later : (p : ℕ → Bool) (low n : ℕ) → p low ≡ true → low ≤ n → (low < n → p n ≡ true) → ((low < n) ⊎ (n ≤ low)) → p n ≡ true
this_or_later p low n here from later (inl more) = later more
this_or_later p low n here from later (inr least) = let e : low ≡ n = omega arith in subst (λ (m : ℕ). p m ≡ true) e here

holds_at : (p : ℕ → Bool) (count low n : ℕ) → tested p count low ≡ true → low ≤ n → n < low + count → p n ≡ true
holds_at p zero low n h from to = absurd (omega arith)
holds_at p (suc count) low n h from to =
    this_or_later p low n (one_holds (p low) _ h) from (λ more. holds_at p count (suc low) n (others_hold (p low) _ h) (omega arith) (omega arith)) (cases_lt low n)

-- ---- operations of these types

-- these types
abbrev types : NumType → NumType → Option Operation
types t r = Some (record { takes = t; gives = r })

same_is : (t u : NumType) → same_type t u ≡ true → t ≡ u
same_is I32 I32 h = refl
same_is I64 I64 h = refl
same_is I32 I64 h = cc
same_is I64 I32 h = cc

abbrev are : NumType → NumType → Option Operation → Bool
are t r None = false
are t r (Some o) = same_type t o.takes && same_type r o.gives

types_are : (t r : NumType) (o : Option Operation) → are t r o ≡ true → types t r ≡ o
types_are t r None h = cc
types_are t r (Some o) h =
    let p = and_parts (same_type t o.takes) (same_type r o.gives) h in
    ap (λ v. types v r) (same_is t o.takes p.0) ∙ ap (λ v. types o.takes v) (same_is r o.gives p.1)

pub narrow_counts : (op : ℕ) → 103 ≤ op → op ≤ 105 → types I32 I32 ≡ unary_types (row_at op)
unfolding row_at
narrow_counts op from to = types_are I32 I32 (unary_types (row_at op)) (holds_at (λ k. are I32 I32 (unary_types (row_at k))) 3 103 op refl from (omega arith))

pub wide_counts : (op : ℕ) → 121 ≤ op → op ≤ 123 → types I64 I64 ≡ unary_types (row_at op)
unfolding row_at
wide_counts op from to = types_are I64 I64 (unary_types (row_at op)) (holds_at (λ k. are I64 I64 (unary_types (row_at k))) 3 121 op refl from (omega arith))

pub extensions : (op : ℕ) → 172 ≤ op → op ≤ 173 → types I32 I64 ≡ unary_types (row_at op)
unfolding row_at
extensions op from to = types_are I32 I64 (unary_types (row_at op)) (holds_at (λ k. are I32 I64 (unary_types (row_at k))) 2 172 op refl from (omega arith))

-- ---- opcodes that have no such row

abbrev if_then : Bool → Bool → Bool
if_then given held = elim given [ true ↦ held | false ↦ true ]

then_held : (given held : Bool) → if_then given held ≡ true → given ≡ true → held ≡ true
then_held true held h e = h
then_held false held h e = cc

abbrev is_some : {A : Type 0} → Option A → Bool
is_some None = false
is_some (Some x) = true

not_some : {A : Type 0} (o : Option A) → (is_some o ≡ true → ⊥) → None ≡ o
not_some None h = refl
not_some (Some x) h = absurd (h refl)

-- a number is in none of these ranges
abbrev pub Outside : (least greatest n : ℕ) → Type 0
Outside least greatest n = least ≤ n → n ≤ greatest → ⊥

out_of : (least greatest n : ℕ) → Outside least greatest n → between least greatest n ≡ true → ⊥
out_of least greatest n out h = let p = and_parts (nat_le least n) (nat_le n greatest) h in out (leb-true least n p.0) (leb-true n greatest p.1)

either : (b c : Bool) → (b ≡ true → ⊥) → (c ≡ true → ⊥) → (b || c) ≡ true → ⊥
either true c f g h = f refl
either false c f g h = g h

pub no_load : (op : ℕ) → op < 256 → Outside 0x28 0x29 op → Outside 0x2C 0x35 op → None ≡ load_types (row_at op)
unfolding row_at
no_load op to a b = not_some (load_types (row_at op)) (λ h. either (between 0x28 0x29 op) (between 0x2C 0x35 op) (out_of 0x28 0x29 op a) (out_of 0x2C 0x35 op b) (then_held (is_some (load_types (row_at op))) (between 0x28 0x29 op || between 0x2C 0x35 op) (holds_at (λ k. if_then (is_some (load_types (row_at k))) (between 0x28 0x29 k || between 0x2C 0x35 k)) 256 0 op refl (omega arith) (omega arith)) h))

pub no_store : (op : ℕ) → op < 256 → Outside 0x36 0x37 op → Outside 0x3A 0x3E op → None ≡ store_types (row_at op)
unfolding row_at
no_store op to a b = not_some (store_types (row_at op)) (λ h. either (between 0x36 0x37 op) (between 0x3A 0x3E op) (out_of 0x36 0x37 op a) (out_of 0x3A 0x3E op b) (then_held (is_some (store_types (row_at op))) (between 0x36 0x37 op || between 0x3A 0x3E op) (holds_at (λ k. if_then (is_some (store_types (row_at k))) (between 0x36 0x37 k || between 0x3A 0x3E k)) 256 0 op refl (omega arith) (omega arith)) h))

-- where operations with one operand are
abbrev one_at : ℕ → Bool
one_at n = between 69 69 n || (between 80 80 n || (between 103 105 n || (between 121 123 n || (between 167 167 n || between 172 173 n))))

pub no_unary : (op : ℕ) → op < 256 → Outside 69 69 op → Outside 80 80 op → Outside 103 105 op → Outside 121 123 op → Outside 167 167 op → Outside 172 173 op → None ≡ unary_types (row_at op)
unfolding row_at
no_unary op to a b c d e f = not_some (unary_types (row_at op)) (λ h.
    either (between 69 69 op) _ (out_of 69 69 op a)
    (either (between 80 80 op) _ (out_of 80 80 op b)
    (either (between 103 105 op) _ (out_of 103 105 op c)
    (either (between 121 123 op) _ (out_of 121 123 op d)
    (either (between 167 167 op) (between 172 173 op) (out_of 167 167 op e) (out_of 172 173 op f)))))
    (then_held (is_some (unary_types (row_at op))) (one_at op) (holds_at (λ k. if_then (is_some (unary_types (row_at k))) (one_at k)) 256 0 op refl (omega arith) (omega arith)) h))

-- where operations with two operands are
abbrev two_at : ℕ → Bool
two_at n = between 70 79 n || (between 81 90 n || (between 106 120 n || between 124 138 n))

pub no_binary : (op : ℕ) → op < 256 → Outside 70 79 op → Outside 81 90 op → Outside 106 120 op → Outside 124 138 op → None ≡ binary_types (row_at op)
unfolding row_at
no_binary op to a b c d = not_some (binary_types (row_at op)) (λ h.
    either (between 70 79 op) _ (out_of 70 79 op a)
    (either (between 81 90 op) _ (out_of 81 90 op b)
    (either (between 106 120 op) (between 124 138 op) (out_of 106 120 op c) (out_of 124 138 op d)))
    (then_held (is_some (binary_types (row_at op))) (two_at op) (holds_at (λ k. if_then (is_some (binary_types (row_at k))) (two_at k)) 256 0 op refl (omega arith) (omega arith)) h))

-- ---- what is known of an operation by its types

some_same : {A : Type 0} (x y : A) → Some x ≡ Some y → x ≡ y
some_same x y e = cc

one_of_row : (row : Row) (t : Operation) → Some t ≡ unary_types row → (takes_one row ≡ true) × (operand_bits row ≡ bits_of t.takes) × (result_bits row ≡ bits_of t.gives)
one_of_row (Takes1 u r op) t e =
    let s = some_same t (record { takes = u; gives = r }) e in
    (refl, ap (λ (o : Operation). bits_of o.takes) (sym s), ap (λ (o : Operation). bits_of o.gives) (sym s))
one_of_row _ t e = cc

two_of_row : (row : Row) (t : Operation) → Some t ≡ binary_types row → (takes_two row ≡ true) × (operand_bits row ≡ bits_of t.takes) × (result_bits row ≡ bits_of t.gives)
two_of_row (Takes2 u r op) t e =
    let s = some_same t (record { takes = u; gives = r }) e in
    (refl, ap (λ (o : Operation). bits_of o.takes) (sym s), ap (λ (o : Operation). bits_of o.gives) (sym s))
two_of_row _ t e = cc

pub is_unary : (op : ℕ) (t : Operation) → Some t ≡ unary_types (row_at op) → IsUnaryOperation op
is_unary op t e = let h = (one_of_row (row_at op) t e).0 in search arith

pub is_binary : (op : ℕ) (t : Operation) → Some t ≡ binary_types (row_at op) → IsBinaryOperation op
is_binary op t e = let h = (two_of_row (row_at op) t e).0 in search arith

pub unary_operand : (op n : ℕ) (t : Operation) → Some t ≡ unary_types (row_at op) → n < 2 ^ bits_of t.takes → IsOperand op n
unary_operand op n t e h = subst (λ (k : ℕ). n < 2 ^ k) (sym (one_of_row (row_at op) t e).1) h

pub binary_operand : (op n : ℕ) (t : Operation) → Some t ≡ binary_types (row_at op) → n < 2 ^ bits_of t.takes → IsOperand op n
binary_operand op n t e h = subst (λ (k : ℕ). n < 2 ^ k) (sym (two_of_row (row_at op) t e).1) h

pub unary_result : (op n : ℕ) (t : Operation) → Some t ≡ unary_types (row_at op) → IsResult op n → n < 2 ^ bits_of t.gives
unary_result op n t e h = subst (λ (k : ℕ). n < 2 ^ k) (one_of_row (row_at op) t e).2 h

pub binary_result : (op n : ℕ) (t : Operation) → Some t ≡ binary_types (row_at op) → IsResult op n → n < 2 ^ bits_of t.gives
binary_result op n t e h = subst (λ (k : ℕ). n < 2 ^ k) (two_of_row (row_at op) t e).2 h
