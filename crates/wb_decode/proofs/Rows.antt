-- What the rows of the table are, by ranges of opcodes.
use Rattle.std.proofs.Common.{◌≡◌, ℕ, zero, suc, ◌+◌, ◌<◌, ◌≤◌, ◌⊎◌, inl, inr, arith, refl, ap, sym, subst}
use Rattle.std.specs.Prelude.{Bool, true, false, ◌||◌, List, length, Result}
use Rattle.std.proofs.lemmas.Bool.{cases_lt}
use Rattle.wb_syntax.specs.declared.syntax.Instr.TheVariants.{Unary, Binary}
use Rattle.wb_syntax.specs.Table.{Row, WithResult, WithIndex, Loads, Stores, Takes1, Takes2, Foreign, NoInstruction, Floating, row_at, between}
use Rattle.wb_syntax.specs.Grammar as grammar
use Rattle.wb_syntax.specs.Grammar.{Grammar, Malformed, Outside, Reads, Stops, exact, refused}
use Rattle.wb_decode.specs.declared.ends.Fault.{Fault}
use Rattle.wb_decode.specs.Reading.{Reading}
use Rattle.wb_syntax.specs.Binary.{row_grammar}
use Rattle.wb_decode.specs.Rows.{after, opened, indexed, with_result, with_index, loaded, stored, load_at, store_at, unary_at, binary_at}
use Rattle.wb_syntax.specs.Grammar.{mapped, index}
use Rattle.wb_syntax.specs.Binary.{block_type}

-- ---- a test that holds at each of a few numbers, one after another, is found by computing it there

abbrev holds_from : (ℕ → Bool) → (count low : ℕ) → Bool
holds_from p zero low = true
holds_from p (suc count) low = elim (p low) [ true ↦ holds_from p count (suc low) | false ↦ false ]

first_holds : (b rest : Bool) → elim b [ true ↦ rest | false ↦ false ] ≡ true → b ≡ true
first_holds true rest h = refl
first_holds false rest h = cc

rest_holds : (b rest : Bool) → elim b [ true ↦ rest | false ↦ false ] ≡ true → rest ≡ true
rest_holds true rest h = h
rest_holds false rest h = cc

first_or : (p : ℕ → Bool) (low n : ℕ) → p low ≡ true → low ≤ n → (low < n → p n ≡ true) → ((low < n) ⊎ (n ≤ low)) → p n ≡ true
first_or p low n here least later (inl more) = later more
first_or p low n here least later (inr most) = let e : low ≡ n = omega arith in subst (λ (m : ℕ). p m ≡ true) e here

holds_between : (p : ℕ → Bool) (count low n : ℕ) → holds_from p count low ≡ true → low ≤ n → n < low + count → p n ≡ true
holds_between p zero low n h least most = absurd (omega arith)
holds_between p (suc count) low n h least most =
    first_or p low n (first_holds (p low) _ h) least (λ more. holds_between p count (suc low) n (rest_holds (p low) _ h) (omega arith) (omega arith)) (cases_lt low n)

-- one test wherever another one holds
abbrev where_holds : Bool → Bool → Bool
where_holds given held = elim given [ true ↦ held | false ↦ true ]

then_holds : (given held : Bool) → where_holds given held ≡ true → given ≡ true → held ≡ true
then_holds true held h e = h
then_holds false held h e = cc

-- the last of three tests, where the others fail
other_holds : (a b held : Bool) → elim a [ true ↦ true | false ↦ elim b [ true ↦ true | false ↦ held ] ] ≡ true → a ≡ false → b ≡ false → held ≡ true
other_holds true b held h e k = cc
other_holds false true held h e k = cc
other_holds false false held h e k = h

-- ---- rows by their kind

abbrev is_with_result : Row → Bool
is_with_result (WithResult make) = true
is_with_result _ = false

abbrev is_with_index : Row → Bool
is_with_index (WithIndex make) = true
is_with_index _ = false

abbrev is_loads : Row → Bool
is_loads (Loads t n e) = true
is_loads _ = false

abbrev is_stores : Row → Bool
is_stores (Stores t n) = true
is_stores _ = false

abbrev is_takes_1 : Row → Bool
is_takes_1 (Takes1 t r op) = true
is_takes_1 _ = false

abbrev is_takes_2 : Row → Bool
is_takes_2 (Takes2 t r op) = true
is_takes_2 _ = false

abbrev is_floating : Row → Bool
is_floating (Foreign Floating) = true
is_floating _ = false

abbrev is_none : Row → Bool
is_none NoInstruction = true
is_none _ = false

-- the grammar of each kind
result_kind : (n : ℕ) (row : Row) → is_with_result row ≡ true → row_grammar n row ≡ mapped (with_result row) block_type
result_kind n (WithResult make) h = refl
result_kind n _ h = cc

index_kind : (n : ℕ) (row : Row) → is_with_index row ≡ true → row_grammar n row ≡ mapped (with_index row) index
index_kind n (WithIndex make) h = refl
index_kind n _ h = cc

loads_kind : (n : ℕ) (row : Row) → is_loads row ≡ true → row_grammar n row ≡ loaded n
loads_kind n (Loads t k e) h = refl
loads_kind n _ h = cc

stores_kind : (n : ℕ) (row : Row) → is_stores row ≡ true → row_grammar n row ≡ stored n
stores_kind n (Stores t k) h = refl
stores_kind n _ h = cc

takes_1_kind : (n : ℕ) (row : Row) → is_takes_1 row ≡ true → row_grammar n row ≡ exact (Unary n)
takes_1_kind n (Takes1 t r op) h = refl
takes_1_kind n _ h = cc

takes_2_kind : (n : ℕ) (row : Row) → is_takes_2 row ≡ true → row_grammar n row ≡ exact (Binary n)
takes_2_kind n (Takes2 t r op) h = refl
takes_2_kind n _ h = cc

floating_kind : (n : ℕ) (row : Row) → is_floating row ≡ true → row_grammar n row ≡ refused (Outside Floating)
floating_kind n (Foreign Floating) h = refl
floating_kind n _ h = cc

none_kind : (n : ℕ) (row : Row) → is_none row ≡ true → row_grammar n row ≡ refused Malformed
none_kind n NoInstruction h = refl
none_kind n _ h = cc

-- ---- what follows the opcodes of each range

pub opens : (n : ℕ) → 0x02 ≤ n → n ≤ 0x04 → after n ≡ opened n
unfolding row_at
opens n least most = result_kind n (row_at n) (holds_between (λ k. is_with_result (row_at k)) 3 0x02 n refl least (omega arith))

pub accesses : (n : ℕ) → 0x20 ≤ n → n ≤ 0x24 → after n ≡ indexed n
unfolding row_at
accesses n least most = index_kind n (row_at n) (holds_between (λ k. is_with_index (row_at k)) 5 0x20 n refl least (omega arith))

pub loads : (n : ℕ) → n < 256 → load_at n ≡ true → after n ≡ loaded n
unfolding row_at
loads n most h = loads_kind n (row_at n) (then_holds (load_at n) (is_loads (row_at n)) (holds_between (λ k. where_holds (load_at k) (is_loads (row_at k))) 256 0 n refl (omega arith) (omega arith)) h)

pub stores : (n : ℕ) → n < 256 → store_at n ≡ true → after n ≡ stored n
unfolding row_at
stores n most h = stores_kind n (row_at n) (then_holds (store_at n) (is_stores (row_at n)) (holds_between (λ k. where_holds (store_at k) (is_stores (row_at k))) 256 0 n refl (omega arith) (omega arith)) h)

pub unaries : (n : ℕ) → n < 256 → unary_at n ≡ true → after n ≡ exact (Unary n)
unfolding row_at
unaries n most h = takes_1_kind n (row_at n) (then_holds (unary_at n) (is_takes_1 (row_at n)) (holds_between (λ k. where_holds (unary_at k) (is_takes_1 (row_at k))) 256 0 n refl (omega arith) (omega arith)) h)

pub binaries : (n : ℕ) → n < 256 → binary_at n ≡ true → after n ≡ exact (Binary n)
unfolding row_at
binaries n most h = takes_2_kind n (row_at n) (then_holds (binary_at n) (is_takes_2 (row_at n)) (holds_between (λ k. where_holds (binary_at k) (is_takes_2 (row_at k))) 256 0 n refl (omega arith) (omega arith)) h)

-- what is neither a load nor a store there is of floating point
pub float_access : (n : ℕ) → 0x28 ≤ n → n ≤ 0x3E → load_at n ≡ false → store_at n ≡ false → after n ≡ refused (Outside Floating)
unfolding row_at
float_access n least most a b =
    let test : ℕ → Bool = λ k. elim (load_at k) [ true ↦ true | false ↦ elim (store_at k) [ true ↦ true | false ↦ is_floating (row_at k) ] ] in
    floating_kind n (row_at n) (other_holds (load_at n) (store_at n) (is_floating (row_at n)) (holds_between test 23 0x28 n refl least (omega arith)) a b)

-- what has neither one operand nor two is of floating point
pub float_operation : (n : ℕ) → 0x43 ≤ n → n ≤ 0xBF → unary_at n ≡ false → binary_at n ≡ false → after n ≡ refused (Outside Floating)
unfolding row_at
float_operation n least most a b =
    let test : ℕ → Bool = λ k. elim (unary_at k) [ true ↦ true | false ↦ elim (binary_at k) [ true ↦ true | false ↦ is_floating (row_at k) ] ] in
    floating_kind n (row_at n) (other_holds (unary_at n) (binary_at n) (is_floating (row_at n)) (holds_between test 125 0x43 n refl least (omega arith)) a b)

-- the ranges that are read by other rules
abbrev pub known_at : ℕ → Bool
known_at n = between 0x00 0x05 n || between 0x0B 0x11 n || between 0x1A 0x1B n || between 0x20 0x24 n || between 0x28 0xBF n

-- what is outside all ranges is no instruction
pub unknown : (n : ℕ) → n < 256 → known_at n ≡ false → after n ≡ refused Malformed
unfolding row_at
unknown n most h =
    let test : ℕ → Bool = λ k. elim (known_at k) [ true ↦ true | false ↦ elim false [ true ↦ true | false ↦ is_none (row_at k) ] ] in
    none_kind n (row_at n) (other_holds (known_at n) false (is_none (row_at n)) (holds_between test 256 0 n refl (omega arith) (omega arith)) h refl)

-- ---- what a reader answers, where its grammar has another name

pub reads_as : {X A : Type 0} (r : Result X Fault) (view : X → A × List ℕ) (g h : Grammar A) (bytes : List ℕ) → g ≡ h → Reading view h bytes r → Reading view g bytes r
reads_as r view g h bytes e k = subst (λ s. Reading view s bytes r) (sym e) k

pub exact_as : {A : Type 0} (x : A) (g : Grammar A) (bytes : List ℕ) → g ≡ exact x → (g.read bytes ≡ Reads x bytes) × (length bytes ≤ length bytes)
exact_as x g bytes e = (ap (λ s. s.read bytes) e, omega arith)

pub refused_as : {A : Type 0} (f : grammar.Fault) (g : Grammar A) (bytes : List ℕ) → g ≡ refused f → (left : List ℕ) × (g.read bytes ≡ Stops left f)
refused_as f g bytes e = (bytes, ap (λ s. s.read bytes) e)
