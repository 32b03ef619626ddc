-- What holds of each row of the table holds of the row of each opcode.
use Rattle.std.proofs.Common.{◌≡◌, ℕ, List, [], ◌∷◌, ◌++◌, Bool, true, false, refl, sym, subst, take, drop}
use Rattle.std.specs.Prelude.{◌==◌}
use Rattle.std.proofs.lemmas.Bool.{eqb-true}
use Rattle.wb_syntax.specs.declared.syntax.Instr.TheVariants.{MemorySize, MemoryGrow, I32Const, I64Const}
use Rattle.wb_syntax.specs.Table.{Row, WithZero, Constant, Loads, Stores, Takes1, Takes2, Foreign, Floating, NoInstruction, control_rows, memory_rows, numeric_rows, rows, is_float, row_among, row_at}

-- rows that keep their opcode, and those without an instruction
abbrev pub is_free : Row → Bool
is_free (Loads t n e) = true
is_free (Stores t n) = true
is_free (Takes1 t r op) = true
is_free (Takes2 t r op) = true
is_free (Foreign what) = true
is_free NoInstruction = true
is_free _ = false

-- it holds of all free rows
abbrev pub HoldsOfFree : (ℕ → Row → Type 0) → Type 0
HoldsOfFree P = (b : ℕ) (r : Row) → is_free r ≡ true → P b r

abbrev pub AllRows : (ℕ → Row → Type 0) → List (ℕ × Row) → Type 0
AllRows P [] = Unit {0}
AllRows P (r ∷ rs) = P r.0 r.1 × AllRows P rs

abbrev all_free : List (ℕ × Row) → Bool
all_free [] = true
all_free (r ∷ rs) = elim (is_free r.1) [ true ↦ all_free rs | false ↦ false ]

head_free : (t more : Bool) → elim t [ true ↦ more | false ↦ false ] ≡ true → t ≡ true
head_free true more h = refl
head_free false more h = cc

tail_free : (t more : Bool) → elim t [ true ↦ more | false ↦ false ] ≡ true → more ≡ true
tail_free true more h = h
tail_free false more h = cc

free_rows : (P : ℕ → Row → Type 0) → HoldsOfFree P → (rs : List (ℕ × Row)) → all_free rs ≡ true → AllRows P rs
free_rows P f [] h = tt
free_rows P f (r ∷ rs) h = (f r.0 r.1 (head_free (is_free r.1) (all_free rs) h), free_rows P f rs (tail_free (is_free r.1) (all_free rs) h))

join_rows : (P : ℕ → Row → Type 0) (rs ss : List (ℕ × Row)) → AllRows P rs → AllRows P ss → AllRows P (rs ++ ss)
join_rows P [] ss p q = q
join_rows P (r ∷ rs) ss p q = (p.0, join_rows P rs ss p.1 q)

this_row : (P : ℕ → Row → Type 0) (b c : ℕ) (r other : Row) (t : Bool) → (b == c) ≡ t → P c r → P b other → P b (elim t [ true ↦ r | false ↦ other ])
this_row P b c r other true e p q = subst (λ (k : ℕ). P k r) (sym (eqb-true b c e)) p
this_row P b c r other false e p q = q

among_rows : (P : ℕ → Row → Type 0) → HoldsOfFree P → (b : ℕ) (rs : List (ℕ × Row)) → AllRows P rs → P b (row_among b rs)
among_rows P f b [] p = elim (is_float b) as (λ t. P b (elim t [ true ↦ Foreign Floating | false ↦ NoInstruction ])) [ true ↦ f b (Foreign Floating) refl | false ↦ f b NoInstruction refl ]
among_rows P f b (r ∷ rs) p = this_row P b r.0 r.1 (row_among b rs) (b == r.0) refl p.0 (among_rows P f b rs p.1)

-- the rows that are not free are those of control, of the size of memory, and constants
pub row_has : (P : ℕ → Row → Type 0) → HoldsOfFree P → AllRows P control_rows → P 0x3F (WithZero MemorySize) → P 0x40 (WithZero MemoryGrow) → P 0x41 (Constant 32 I32Const) → P 0x42 (Constant 64 I64Const) → (b : ℕ) → P b (row_at b)
unfolding row_at
row_has P f control size grow small large b =
    let accesses : AllRows P (take 19 memory_rows) = free_rows P f (take 19 memory_rows) refl in
    let memory : AllRows P memory_rows = join_rows P (take 19 memory_rows) (drop 19 memory_rows) accesses (size, (grow, tt)) in
    let numeric : AllRows P numeric_rows = (small, (large, free_rows P f (drop 2 numeric_rows) refl)) in
    among_rows P f b rows (join_rows P control_rows (memory_rows ++ numeric_rows) control (join_rows P memory_rows numeric_rows memory numeric))
