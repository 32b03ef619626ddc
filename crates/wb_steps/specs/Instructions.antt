-- Steps of instructions that are no jumps (the standard, 4.4.1 to 4.4.4), each between two states of one frame.
use Rattle.std.specs.Prelude.{◌≡◌, ℕ, ◌+◌, ◌*◌, ◌/◌, ◌≤◌, ◌<◌, true, false, ◌==◌, List, ◌∷◌, length, Some, slice_get, slice_set}
use Rattle.wb_syntax.specs.declared.syntax.Module.{Module}
use Rattle.wb_syntax.specs.declared.syntax.NumType.{NumType}
use Rattle.wb_syntax.specs.declared.syntax.NumType.TheVariants.{I32}
use Rattle.wb_syntax.specs.declared.syntax.Instr.{Instr}
use Rattle.wb_syntax.specs.declared.syntax.Instr.TheVariants.{Unreachable, Nop, Drop, Select, LocalGet, LocalSet, LocalTee, GlobalGet, GlobalSet, Load, Store, MemorySize, Unary, Binary}
use Rattle.wb_syntax.specs.Syntax.{Nested, Plain, Code, Then}
use Rattle.wb_syntax.specs.Table.{Extension, UnaryOp, BinaryOp, Loads, Stores, Takes1, Takes2, row_at}
use Rattle.wb_syntax.specs.Numbers.{Yields, ByZero, TooLarge, unary_of, binary_of}
use Rattle.wb_syntax.specs.Execute.{Word, word, TheStore, Config, TrapKind, Unreached, DivideByZero, Overflow, OutOfBounds, extended, page}
use Rattle.wb_syntax.specs.Runs.{RunEnd, Trapped}
use Rattle.wb_steps.specs.Moves.{ComesTo, ComesToEnd}
use Rattle.wb_steps.specs.States.{Surroundings, state, WordsFit}
use Rattle.wb_steps.specs.Memory.{number_in, with_number}

-- of all modules, sizes of memory, numbers of words, surroundings, locals and stores
abbrev pub Everywhere : ((m : Module) (room most : ℕ) (a : Surroundings) (locals : List Word) (s : TheStore) → Type 0) → Type 0
Everywhere Law = (m : Module) (room most : ℕ) (a : Surroundings) (locals : List Word) (s : TheStore) → Law m room most a locals s

module _ (m : Module) (room most : ℕ) (a : Surroundings) (locals : List Word) (s : TheStore) where
  -- this instruction or construct, with these words before it and this code behind it, makes one step, to that state, where its words fit
  abbrev pub OneStep : (ws : List Word) → Nested → (rest : Code) → Config → Type 0
  OneStep ws i rest d = WordsFit most a locals ws → ComesTo m room most 1 (state a locals s ws (Then i rest)) d

  -- it makes the last step of a run, to that end
  abbrev pub LastStep : (ws : List Word) → Nested → (rest : Code) → RunEnd → Type 0
  LastStep ws i rest e = WordsFit most a locals ws → ComesToEnd m room most 1 (state a locals s ws (Then i rest)) e

  -- it replaces these words by those, and changes nothing else
  abbrev pub Replaces : (ws : List Word) → Instr → (vs : List Word) → Type 0
  Replaces ws i vs = (rest : Code) → OneStep ws (Plain i) rest (state a locals s vs rest)

  -- it traps, and leaves the store as it is
  abbrev pub TrapsAs : TrapKind → (ws : List Word) → Instr → Type 0
  TrapsAs kind ws i = (rest : Code) → LastStep ws (Plain i) rest (Trapped kind s)

  -- ---- numeric instructions (4.4.1)

  -- an operation of one operand
  abbrev pub UnaryLaw : Type 0
  UnaryLaw = (ws : List Word) (op x : ℕ) (t r : NumType) (o : UnaryOp) → row_at op ≡ Takes1 t r o →
      Replaces (word t x ∷ ws) (Unary op) (word r (unary_of t o x) ∷ ws)

  -- an operation of two operands, the second on top, which yields a number
  abbrev pub BinaryLaw : Type 0
  BinaryLaw = (ws : List Word) (op x y n : ℕ) (t r : NumType) (o : BinaryOp) → row_at op ≡ Takes2 t r o → binary_of t o x y ≡ Yields n →
      Replaces (word t y ∷ word t x ∷ ws) (Binary op) (word r n ∷ ws)

  -- a division by zero traps
  abbrev pub DivideByZeroLaw : Type 0
  DivideByZeroLaw = (ws : List Word) (op x y : ℕ) (t r : NumType) (o : BinaryOp) → row_at op ≡ Takes2 t r o → binary_of t o x y ≡ ByZero →
      TrapsAs DivideByZero (word t y ∷ word t x ∷ ws) (Binary op)

  -- so does one whose quotient has no word
  abbrev pub OverflowLaw : Type 0
  OverflowLaw = (ws : List Word) (op x y : ℕ) (t r : NumType) (o : BinaryOp) → row_at op ≡ Takes2 t r o → binary_of t o x y ≡ TooLarge →
      TrapsAs Overflow (word t y ∷ word t x ∷ ws) (Binary op)

  -- ---- parametric instructions (4.4.2), nop and unreachable (4.4.5)

  -- drop takes the topmost word
  abbrev pub DropLaw : Type 0
  DropLaw = (ws : List Word) (w : Word) → Replaces (w ∷ ws) Drop ws

  -- select leaves the second word where the test is 0, and else the first
  abbrev pub SelectLaw : Type 0
  SelectLaw = (ws : List Word) (n : ℕ) (x y : Word) → x.type ≡ y.type →
      Replaces (word I32 n ∷ y ∷ x ∷ ws) Select ((elim (n == 0) [ true ↦ y | false ↦ x ]) ∷ ws)

  -- nop does nothing, in a step
  abbrev pub NopLaw : Type 0
  NopLaw = (ws : List Word) → Replaces ws Nop ws

  -- unreachable traps
  abbrev pub UnreachableLaw : Type 0
  UnreachableLaw = (ws : List Word) → TrapsAs Unreached ws Unreachable

  -- ---- variable instructions (4.4.3)

  -- the word of the local comes on top
  abbrev pub LocalGetLaw : Type 0
  LocalGetLaw = (ws : List Word) (x : ℕ) (w : Word) → slice_get locals x ≡ Some w → Replaces ws (LocalGet x) (w ∷ ws)

  -- the local is set to the topmost word, which has its type and is taken
  abbrev pub LocalSetLaw : Type 0
  LocalSetLaw = (ws : List Word) (x : ℕ) (v w : Word) (rest : Code) → slice_get locals x ≡ Some v → v.type ≡ w.type →
      OneStep (w ∷ ws) (Plain (LocalSet x)) rest (state a (slice_set locals x w) s ws rest)

  -- the same, and the word stays
  abbrev pub LocalTeeLaw : Type 0
  LocalTeeLaw = (ws : List Word) (x : ℕ) (v w : Word) (rest : Code) → slice_get locals x ≡ Some v → v.type ≡ w.type →
      OneStep (w ∷ ws) (Plain (LocalTee x)) rest (state a (slice_set locals x w) s (w ∷ ws) rest)

  -- the word of the global comes on top
  abbrev pub GlobalGetLaw : Type 0
  GlobalGetLaw = (ws : List Word) (x : ℕ) (w : Word) → slice_get s.globals x ≡ Some w → Replaces ws (GlobalGet x) (w ∷ ws)

  -- the global is set to the topmost word, which has its type and is taken
  abbrev pub GlobalSetLaw : Type 0
  GlobalSetLaw = (ws : List Word) (x : ℕ) (v w : Word) (rest : Code) → slice_get s.globals x ≡ Some v → v.type ≡ w.type →
      OneStep (w ∷ ws) (Plain (GlobalSet x)) rest (state a locals (record s { globals = slice_set s.globals x w }) ws rest)

  -- ---- memory instructions (4.4.4): at the address that is the sum of a base and the offset

  -- a load within memory
  abbrev pub LoadLaw : Type 0
  LoadLaw = (ws : List Word) (memory : List ℕ) (op align offset base bytes : ℕ) (t : NumType) (e : Extension) →
      row_at op ≡ Loads t bytes e → s.memory ≡ Some memory → base + offset + bytes ≤ length memory →
      Replaces (word I32 base ∷ ws) (Load op align offset) (word t (extended t e (8 * bytes) (number_in memory (base + offset) bytes)) ∷ ws)

  -- a load that ends past memory
  abbrev pub LoadTraps : Type 0
  LoadTraps = (ws : List Word) (memory : List ℕ) (op align offset base bytes : ℕ) (t : NumType) (e : Extension) →
      row_at op ≡ Loads t bytes e → s.memory ≡ Some memory → length memory < base + offset + bytes →
      TrapsAs OutOfBounds (word I32 base ∷ ws) (Load op align offset)

  -- a store within memory: the value is on top, the base below it
  abbrev pub StoreLaw : Type 0
  StoreLaw = (ws : List Word) (memory : List ℕ) (op align offset base value bytes : ℕ) (t : NumType) (rest : Code) →
      row_at op ≡ Stores t bytes → s.memory ≡ Some memory → base + offset + bytes ≤ length memory →
      OneStep (word t value ∷ word I32 base ∷ ws) (Plain (Store op align offset)) rest
      (state a locals (record s { memory = Some (with_number memory (base + offset) bytes value) }) ws rest)

  -- a store that ends past memory
  abbrev pub StoreTraps : Type 0
  StoreTraps = (ws : List Word) (memory : List ℕ) (op align offset base value bytes : ℕ) (t : NumType) →
      row_at op ≡ Stores t bytes → s.memory ≡ Some memory → length memory < base + offset + bytes →
      TrapsAs OutOfBounds (word t value ∷ word I32 base ∷ ws) (Store op align offset)

  -- the number of pages
  abbrev pub MemorySizeLaw : Type 0
  MemorySizeLaw = (ws : List Word) (memory : List ℕ) → s.memory ≡ Some memory → Replaces ws MemorySize (word I32 (length memory / page) ∷ ws)
