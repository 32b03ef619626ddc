-- One step of each instruction that is no jump.
use Rattle.std.proofs.Common.{◌≡◌, ℕ, ◌+◌, ◌*◌, ◌/◌, ◌≤◌, ◌<◌, List, ◌∷◌, length, Option, Some, slice_get, slice_set, refl, ap, ◌∙◌, arith}
use Rattle.std.proofs.lemmas.Bool.Decides.{nat_tests}
use Rattle.std.specs.Prelude.{Bool, true, false, ◌==◌, nat_le}
use Rattle.wb_syntax.specs.declared.syntax.Module.{Module}
use Rattle.wb_syntax.specs.declared.syntax.NumType.{NumType}
use Rattle.wb_syntax.specs.declared.syntax.NumType.TheVariants.{I32, I64}
use Rattle.wb_syntax.specs.declared.syntax.Instr.TheVariants.{Unreachable, Nop, Drop, Select, LocalGet, LocalSet, LocalTee, GlobalGet, GlobalSet, Load, Store, MemorySize, Unary, Binary}
use Rattle.wb_syntax.specs.Syntax.{Plain, Code, Then}
use Rattle.wb_syntax.specs.Table.{BinaryOp, Row, Loads, Stores, Takes2, row_at}
use Rattle.wb_syntax.specs.Numbers.{Numeric, Yields, ByZero, TooLarge, unary_of, binary_of}
use Rattle.wb_syntax.specs.Execute.{Word, word, TheStore, Label, Config, TrapKind, Unreached, DivideByZero, Overflow, OutOfBounds, same_type, goes_at, where_some, when, gives, run_unary, run_binary, run_load, run_store, with_memory, extended, page, machine_step}
use Rattle.wb_syntax.specs.Execute as wasm
use Rattle.wb_syntax.specs.Runs.{Trapped}
use Rattle.wb_steps.specs.Moves.{as_move}
use Rattle.wb_steps.specs.States.{Surroundings, state}
use Rattle.wb_steps.specs.Memory.{number_in, with_number}
use Rattle.wb_steps.specs.Instructions.{UnaryLaw, BinaryLaw, DivideByZeroLaw, OverflowLaw, DropLaw, SelectLaw, NopLaw, UnreachableLaw, LocalGetLaw, LocalSetLaw, LocalTeeLaw, GlobalGetLaw, GlobalSetLaw, LoadLaw, LoadTraps, StoreLaw, StoreTraps, MemorySizeLaw}
use Rattle.wb_steps.proofs.Stated.{words_at}
use Rattle.wb_steps.proofs.Sequenced.{step_is_made, last_step_is_made}

pub same_itself : (t : NumType) → same_type t t ≡ true
same_itself I32 = refl
same_itself I64 = refl

module _ (m : Module) (room most : ℕ) (a : Surroundings) (locals : List Word) (s : TheStore) where
  pub unary_law : UnaryLaw m room most a locals s
  unary_law ws op x t r o e rest l =
      let c = state a locals s (word t x ∷ ws) (Then (Plain (Unary op)) rest) in
      step_is_made m room most c (state a locals s (word r (unary_of t o x) ∷ ws) rest)
      (ap (run_unary c (word t x ∷ ws) rest) e ∙ ap (λ b. when b (goes_at c (word r (unary_of t o x) ∷ ws) rest)) (same_itself t))
      (words_at most a locals (word t x ∷ ws) l)

  -- what an operation of two operands yields, or its trap
  taken : (ws : List Word) (op x y : ℕ) (t r : NumType) (o : BinaryOp) (rest : Code) (v : Numeric) → row_at op ≡ Takes2 t r o → binary_of t o x y ≡ v
      → machine_step m room (state a locals s (word t y ∷ word t x ∷ ws) (Then (Plain (Binary op)) rest))
      ≡ gives (state a locals s (word t y ∷ word t x ∷ ws) (Then (Plain (Binary op)) rest)) ws rest r v
  taken ws op x y t r o rest v e f =
      let c = state a locals s (word t y ∷ word t x ∷ ws) (Then (Plain (Binary op)) rest) in
      ap (run_binary c (word t y ∷ word t x ∷ ws) rest) e
      ∙ ap (λ b. when b (when (same_type t t) (gives c ws rest r (binary_of t o x y)))) (same_itself t)
      ∙ ap (λ b. when b (gives c ws rest r (binary_of t o x y))) (same_itself t)
      ∙ ap (gives c ws rest r) f

  pub binary_law : BinaryLaw m room most a locals s
  binary_law ws op x y n t r o e f rest l =
      step_is_made m room most (state a locals s (word t y ∷ word t x ∷ ws) (Then (Plain (Binary op)) rest)) (state a locals s (word r n ∷ ws) rest)
      (taken ws op x y t r o rest (Yields n) e f) (words_at most a locals (word t y ∷ word t x ∷ ws) l)

  pub divide_by_zero_law : DivideByZeroLaw m room most a locals s
  divide_by_zero_law ws op x y t r o e f rest l =
      last_step_is_made m room most (state a locals s (word t y ∷ word t x ∷ ws) (Then (Plain (Binary op)) rest)) (Trapped DivideByZero s)
      (ap as_move (taken ws op x y t r o rest ByZero e f)) (words_at most a locals (word t y ∷ word t x ∷ ws) l)

  pub overflow_law : OverflowLaw m room most a locals s
  overflow_law ws op x y t r o e f rest l =
      last_step_is_made m room most (state a locals s (word t y ∷ word t x ∷ ws) (Then (Plain (Binary op)) rest)) (Trapped Overflow s)
      (ap as_move (taken ws op x y t r o rest TooLarge e f)) (words_at most a locals (word t y ∷ word t x ∷ ws) l)

  pub drop_law : DropLaw m room most a locals s
  drop_law ws w rest l = step_is_made m room most (state a locals s (w ∷ ws) (Then (Plain Drop) rest)) (state a locals s ws rest) refl (words_at most a locals (w ∷ ws) l)

  chosen_word : (x y : Word) (ws : List Word) (rest : Code) (b : Bool) (c : Config)
      → elim b [ true ↦ goes_at c (y ∷ ws) rest | false ↦ goes_at c (x ∷ ws) rest ] ≡ goes_at c ((elim b [ true ↦ y | false ↦ x ]) ∷ ws) rest
  chosen_word x y ws rest true c = refl
  chosen_word x y ws rest false c = refl

  pub select_law : SelectLaw m room most a locals s
  select_law ws n x y t rest l =
      let c = state a locals s (word I32 n ∷ y ∷ x ∷ ws) (Then (Plain Select) rest) in
      step_is_made m room most c (state a locals s ((elim (n == 0) [ true ↦ y | false ↦ x ]) ∷ ws) rest)
      (ap (λ b. when b (elim (n == 0) [ true ↦ goes_at c (y ∷ ws) rest | false ↦ goes_at c (x ∷ ws) rest ])) (ap (λ t. same_type t y.type) t ∙ same_itself y.type)
      ∙ chosen_word x y ws rest (n == 0) c)
      (words_at most a locals (word I32 n ∷ y ∷ x ∷ ws) l)

  pub nop_law : NopLaw m room most a locals s
  nop_law ws rest l = step_is_made m room most (state a locals s ws (Then (Plain Nop) rest)) (state a locals s ws rest) refl (words_at most a locals ws l)

  pub unreachable_law : UnreachableLaw m room most a locals s
  unreachable_law ws rest l = last_step_is_made m room most (state a locals s ws (Then (Plain Unreachable) rest)) (Trapped Unreached s) refl (words_at most a locals ws l)

  -- ---- variables

  pub local_get_law : LocalGetLaw m room most a locals s
  local_get_law ws x w e rest l =
      let c = state a locals s ws (Then (Plain (LocalGet x)) rest) in
      step_is_made m room most c (state a locals s (w ∷ ws) rest) (ap (λ o. where_some o (λ w. goes_at c (w ∷ ws) rest)) e) (words_at most a locals ws l)

  pub global_get_law : GlobalGetLaw m room most a locals s
  global_get_law ws x w e rest l =
      let c = state a locals s ws (Then (Plain (GlobalGet x)) rest) in
      step_is_made m room most c (state a locals s (w ∷ ws) rest) (ap (λ o. where_some o (λ w. goes_at c (w ∷ ws) rest)) e) (words_at most a locals ws l)

  -- a variable that has a word of this type takes one of it
  assigned : (o : Option Word) (v w : Word) (next : wasm.Move) → o ≡ Some v → v.type ≡ w.type → where_some o (λ (v : Word). when (same_type v.type w.type) next) ≡ next
  assigned o v w next e t =
      ap (λ (o : Option Word). where_some o (λ (v : Word). when (same_type v.type w.type) next)) e
      ∙ ap (λ b. when b next) (ap (λ t. same_type t w.type) t ∙ same_itself w.type)

  pub local_set_law : LocalSetLaw m room most a locals s
  local_set_law ws x v w rest e t l =
      let c = state a locals s (w ∷ ws) (Then (Plain (LocalSet x)) rest) in
      let d = state a (slice_set locals x w) s ws rest in
      step_is_made m room most c d (assigned (slice_get locals x) v w (wasm.Goes d) e t) (words_at most a locals (w ∷ ws) l)

  pub local_tee_law : LocalTeeLaw m room most a locals s
  local_tee_law ws x v w rest e t l =
      let c = state a locals s (w ∷ ws) (Then (Plain (LocalTee x)) rest) in
      let d = state a (slice_set locals x w) s (w ∷ ws) rest in
      step_is_made m room most c d (assigned (slice_get locals x) v w (wasm.Goes d) e t) (words_at most a locals (w ∷ ws) l)

  pub global_set_law : GlobalSetLaw m room most a locals s
  global_set_law ws x v w rest e t l =
      let c = state a locals s (w ∷ ws) (Then (Plain (GlobalSet x)) rest) in
      let d = state a locals (record s { globals = slice_set s.globals x w }) ws rest in
      step_is_made m room most c d (assigned (slice_get s.globals x) v w (wasm.Goes d) e t) (words_at most a locals (w ∷ ws) l)

  -- ---- memory

  within : (n size : ℕ) → n ≤ size → nat_le n size ≡ true
  within n size h = grind (arith, nat_tests, h)

  past : (n size : ℕ) → size < n → nat_le n size ≡ false
  past n size h = grind (arith, nat_tests, h)

  -- a load is by its row, and by whether it ends within memory
  load_by : (ws : List Word) (memory : List ℕ) (op align offset base : ℕ) (row : Row) (rest : Code) → row_at op ≡ row → s.memory ≡ Some memory
      → machine_step m room (state a locals s (word I32 base ∷ ws) (Then (Plain (Load op align offset)) rest))
      ≡ run_load (state a locals s (word I32 base ∷ ws) (Then (Plain (Load op align offset)) rest)) offset base ws rest row memory
  load_by ws memory op align offset base row rest r is =
      let c = state a locals s (word I32 base ∷ ws) (Then (Plain (Load op align offset)) rest) in
      ap (λ o. where_some o (λ memory. run_load c offset base ws rest (row_at op) memory)) is ∙ ap (λ r. run_load c offset base ws rest r memory) r

  pub load_law : LoadLaw m room most a locals s
  load_law ws memory op align offset base bytes t e r is fits rest l =
      let c = state a locals s (word I32 base ∷ ws) (Then (Plain (Load op align offset)) rest) in
      let d = state a locals s (word t (extended t e (8 * bytes) (number_in memory (base + offset) bytes)) ∷ ws) rest in
      step_is_made m room most c d
      (load_by ws memory op align offset base (Loads t bytes e) rest r is
      ∙ ap (λ b. elim b [ true ↦ wasm.Goes d | false ↦ wasm.Traps OutOfBounds s ]) (within (base + offset + bytes) (length memory) fits))
      (words_at most a locals (word I32 base ∷ ws) l)

  pub load_traps : LoadTraps m room most a locals s
  load_traps ws memory op align offset base bytes t e r is fits rest l =
      let c = state a locals s (word I32 base ∷ ws) (Then (Plain (Load op align offset)) rest) in
      let d = state a locals s (word t (extended t e (8 * bytes) (number_in memory (base + offset) bytes)) ∷ ws) rest in
      last_step_is_made m room most c (Trapped OutOfBounds s)
      (ap as_move (load_by ws memory op align offset base (Loads t bytes e) rest r is
      ∙ ap (λ b. elim b [ true ↦ wasm.Goes d | false ↦ wasm.Traps OutOfBounds s ]) (past (base + offset + bytes) (length memory) fits)))
      (words_at most a locals (word I32 base ∷ ws) l)

  store_by : (ws : List Word) (memory : List ℕ) (op align offset base value bytes : ℕ) (t : NumType) (rest : Code) → row_at op ≡ Stores t bytes → s.memory ≡ Some memory
      → machine_step m room (state a locals s (word t value ∷ word I32 base ∷ ws) (Then (Plain (Store op align offset)) rest))
      ≡ elim (nat_le (base + offset + bytes) (length memory)) [
        | true ↦ wasm.Goes (state a locals (record s { memory = Some (with_number memory (base + offset) bytes value) }) ws rest)
        | false ↦ wasm.Traps OutOfBounds s
      ]
  store_by ws memory op align offset base value bytes t rest r is =
      let c = state a locals s (word t value ∷ word I32 base ∷ ws) (Then (Plain (Store op align offset)) rest) in
      let d = state a locals (record s { memory = Some (with_number memory (base + offset) bytes value) }) ws rest in
      ap (λ o. where_some o (run_store c offset (word t value ∷ word I32 base ∷ ws) rest (row_at op))) is
      ∙ ap (λ r. run_store c offset (word t value ∷ word I32 base ∷ ws) rest r memory) r
      ∙ ap (λ b. when b (elim (nat_le (base + offset + bytes) (length memory)) [ true ↦ wasm.Goes d | false ↦ wasm.Traps OutOfBounds s ])) (same_itself t)

  pub store_law : StoreLaw m room most a locals s
  store_law ws memory op align offset base value bytes t rest r is fits l =
      let d = state a locals (record s { memory = Some (with_number memory (base + offset) bytes value) }) ws rest in
      step_is_made m room most (state a locals s (word t value ∷ word I32 base ∷ ws) (Then (Plain (Store op align offset)) rest)) d
      (store_by ws memory op align offset base value bytes t rest r is
      ∙ ap (λ b. elim b [ true ↦ wasm.Goes d | false ↦ wasm.Traps OutOfBounds s ]) (within (base + offset + bytes) (length memory) fits))
      (words_at most a locals (word t value ∷ word I32 base ∷ ws) l)

  pub store_traps : StoreTraps m room most a locals s
  store_traps ws memory op align offset base value bytes t r is fits rest l =
      let d = state a locals (record s { memory = Some (with_number memory (base + offset) bytes value) }) ws rest in
      last_step_is_made m room most (state a locals s (word t value ∷ word I32 base ∷ ws) (Then (Plain (Store op align offset)) rest)) (Trapped OutOfBounds s)
      (ap as_move (store_by ws memory op align offset base value bytes t rest r is
      ∙ ap (λ b. elim b [ true ↦ wasm.Goes d | false ↦ wasm.Traps OutOfBounds s ]) (past (base + offset + bytes) (length memory) fits)))
      (words_at most a locals (word t value ∷ word I32 base ∷ ws) l)

  pub memory_size_law : MemorySizeLaw m room most a locals s
  memory_size_law ws memory is rest l =
      let c = state a locals s ws (Then (Plain MemorySize) rest) in
      step_is_made m room most c (state a locals s (word I32 (length memory / page) ∷ ws) rest)
      (ap (λ o. where_some o (λ (memory : List ℕ). goes_at c (word I32 (length memory / page) ∷ ws) rest)) is) (words_at most a locals ws l)
