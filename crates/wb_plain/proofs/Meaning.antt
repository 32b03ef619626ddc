-- What an instruction does to a state is the step of the definition of execution.
use Rattle.std.proofs.Common.{◌≡◌, ℕ, zero, suc, ◌+◌, ◌-◌, ◌*◌, ◌/◌, ◌≤◌, ◌^◌, List, [], ◌∷◌, ◌++◌, length, take, drop, replicate, arith, refl, sym, ap, ◌∙◌, subst, length-append, length-drop}
use Rattle.std.specs.Prelude.{Bool, true, false, ◌==◌, nat_le, Option, Some, None, slice_get, slice_set}
use Rattle.std.proofs.lemmas.Bool.{leb-true}
use Rattle.std.proofs.lemmas.List.{length-set, length-take-le, length-replicate}
use Rattle.wb_syntax.specs.Syntax.{Code, Nothing}
use Rattle.wb_syntax.specs.Table.{Row, Loads, Stores, Takes1, Takes2, row_at}
use Rattle.wb_syntax.specs.Numbers.{Numeric, Yields, ByZero, TooLarge, unary_of, binary_of}
use Rattle.wb_syntax.specs.Execute.{Word, word, Config, Move, Traps as Trapped, NoRule, OutOfBounds, same_type, pop, pop_any, when, where_some, number_of, bytes_of, overwrite, extended, page, goes_at, gives, run_unary, run_binary, set_local, set_global, run_load, run_store, with_memory, grow}
use Rattle.wb_state.specs.Words.{holds, replaced}
use Rattle.wb_state.specs.Stack.{Stack, Taken, taken, take_from, take_word, with_above, height_of, IsOver}
use Rattle.wb_plain.specs.Syntax.{NumType, I32, Instr, Unreachable, Nop, Br, BrIf, BrTable, Return, Call, Drop, Select, LocalGet, LocalSet, LocalTee, GlobalGet, GlobalSet, Load, Store, MemorySize, MemoryGrow, I32Const, I64Const, Unary, Binary, Module}
use Rattle.wb_plain.specs.Rows.{Operation, Loading, Storing, unary_types, binary_types, load_types, store_types}
use Rattle.wb_plain.specs.Effects.{State, Effect, Leaves, Trapping, Lost, with_operands, yields, unary_taken, unary_typed, binary_second, binary_first, binary_typed, drop_from, select_one, select_from, select_taken, get, set_locals, local_set, local_tee, set_globals, global_set, load_read, load_taken, load_in, load_typed, store_written, store_based, store_taken, store_in, store_typed, size_in, grow_if, grow_taken, grow_in, effect, SameStore, IsOverfull, Ends}
use Rattle.wb_plain.specs.Follows.{IsStraight, store_of, showing, GrowsWithin, step_of, move_to, GoesOver, Follows, Keeps, KeepsWhereItGoes}
use Rattle.wb_plain.specs.declared.outcome.Outcome.{Outcome}
use Rattle.wb_plain.specs.declared.outcome.Outcome.TheVariants.{Goes, Full, Traps, Stuck}

-- an effect as a step
abbrev pub as_move : Config → Code → State → Effect → Move
as_move c rest s (Leaves t) = move_to c rest t
as_move c rest s (Trapping k) = Trapped k (store_of s)
as_move c rest s Lost = NoRule

-- the move of a select, whose second word was taken
abbrev select_move : Config → Code → State → ℕ → Word → List Word → Move
select_move c rest s n b us =
    pop_any us (λ a ts. when (same_type a.type b.type) (elim (n == 0) [ true ↦ goes_at (showing c s) (b ∷ ts) rest | false ↦ goes_at (showing c s) (a ∷ ts) rest ]))

-- ---- sizes of memories

length_of_bytes : (n v : ℕ) → length (bytes_of n v) ≡ n
length_of_bytes zero v = refl
length_of_bytes (suc n) v = ap suc (length_of_bytes n (v / 256))

-- what is written over bytes that are there changes no length
overwrite_length : (bytes new : List ℕ) (at : ℕ) → at + length new ≤ length bytes → length (overwrite bytes at new) ≡ length bytes
overwrite_length bytes new at h =
    let a = length-append (take at bytes) (new ++ drop (at + length new) bytes) in
    let b = length-append new (drop (at + length new) bytes) in
    let d = length-drop (at + length new) bytes in
    let t = length-take-le at bytes (omega (arith, h)) in
    omega (arith, a, b, d, t, h)

written_length : (memory : List ℕ) (at n v : ℕ) → nat_le (at + n) (length memory) ≡ true → length (overwrite memory at (bytes_of n v)) ≡ length memory
written_length memory at n v h =
    let l = leb-true (at + n) (length memory) h in
    overwrite_length memory (bytes_of n v) at (omega (arith, l, length_of_bytes n v))

-- a memory that stays
pub same_size : (room : ℕ) (o : Option (List ℕ)) → GrowsWithin room o o
same_size room None = tt
same_size room (Some memory) = (0, omega arith, λ h. absurd (omega (arith, h)))

-- a memory that stays as long as it was
as_long : (room : ℕ) (memory new : List ℕ) → length new ≡ length memory → GrowsWithin room (Some memory) (Some new)
as_long room memory new e = (0, omega (arith, e), λ h. absurd (omega (arith, h)))

-- a memory with pages of zeros more
grows_to : (room : ℕ) (memory : List ℕ) (n : ℕ) → length memory / page + n ≤ room → GrowsWithin room (Some memory) (Some (memory ++ replicate (n * page) 0))
grows_to room memory n h =
    let a = length-append memory (replicate (n * page) 0) in
    let r : length (replicate (n * page) 0) ≡ n * page = length-replicate (n * page) 0 in
    (n, a ∙ ap (λ k. length memory + k) r, λ more. h)

-- ---- a module and a configuration, since what is kept does not depend on them

no_module : Module
no_module = record { types = []; funcs = []; memories = []; globals = []; exports = [] }

no_config : Config
no_config = record {
  frame = record { locals = []; results = 0; labels = []; stack = []; code = Nothing };
  callers = [];
  store = record { memory = None; globals = [] };
}

-- an effect that leaves more words than there may be, where there were not more before, keeps the store
abbrev pub OverSpares : State → Effect → Type 0
OverSpares s (Leaves t) = IsOver t.operands → height_of s.operands ≤ s.operands.most → SameStore s t
OverSpares s _ = Unit {0}

module _ (room : ℕ) where
  -- an effect keeps what no such instruction changes
  abbrev pub KeptBy : State → Effect → Type 0
  KeptBy s (Leaves t) = Keeps room s t
  KeptBy s _ = Unit {0}

  -- a step is this effect
  abbrev pub Means : Config → Code → State → Move → Effect → Type 0
  Means c rest s move e = (move ≡ as_move c rest s e) × KeptBy s e

  kept_above : (s : State) (ws : List Word) → Keeps room s (with_operands s (with_above s.operands ws))
  kept_above s ws = record { below = refl; most = refl; room = refl; outer = refl; local_room = refl; locals = refl; size = same_size room s.memory }

  -- with this memory
  kept_memory : (s : State) (ws : List Word) (memory new : List ℕ) → s.memory ≡ Some memory → GrowsWithin room (Some memory) (Some new)
      → Keeps room s (record s { operands = with_above s.operands ws; memory = Some new })
  kept_memory s ws memory new e h =
      let size = subst (λ o. GrowsWithin room o (Some new)) (sym e) h in
      record { below = refl; most = refl; room = refl; outer = refl; local_room = refl; locals = refl; size = size }

  -- ---- a word is taken

  pop_if : (b : Bool) (c : Config) (rest : Code) (s : State) (n : ℕ) (left : Stack) (next : Move) (k : Option Taken → Effect)
      → Means c rest s next (k (Some (record { bits = n; left = left }))) → Means c rest s NoRule (k None)
      → Means c rest s (elim b [ true ↦ next | false ↦ NoRule ]) (k (taken (elim b [ true ↦ Some n | false ↦ None ]) left))
  pop_if true c rest s n left next k some none = some
  pop_if false c rest s n left next k some none = none

  pop_means : (c : Config) (rest : Code) (s : State) (t : NumType) (o : Stack) (ws : List Word) (next : ℕ → List Word → Move) (k : Option Taken → Effect)
      → ((n : ℕ) (vs : List Word) → Means c rest s (next n vs) (k (Some (record { bits = n; left = with_above o vs })))) → Means c rest s NoRule (k None)
      → Means c rest s (pop t ws next) (k (take_from t o ws))
  pop_means c rest s t o [] next k some none = none
  pop_means c rest s t o (w ∷ ws) next k some none = pop_if (same_type t w.type) c rest s w.bits (with_above o ws) (next w.bits ws) k (some w.bits ws) none

  -- ---- numeric instructions

  yields_means : (c : Config) (rest : Code) (s : State) (ws : List Word) (t : NumType) (x : Numeric)
      → Means c rest s (gives (showing c s) ws rest t x) (yields (with_operands s (with_above s.operands ws)) t x)
  yields_means c rest s ws t (Yields n) = (refl, kept_above s (word t n ∷ ws))
  yields_means c rest s ws t ByZero = (refl, tt)
  yields_means c rest s ws t TooLarge = (refl, tt)

  unary_means : (c : Config) (rest : Code) (s : State) (row : Row) → Means c rest s (run_unary (showing c s) s.operands.above rest row) (unary_typed row s (unary_types row))
  unary_means c rest s (Takes1 t r op) =
      let o : Operation = record { takes = t; gives = r } in
      pop_means c rest s t s.operands s.operands.above (λ a vs. goes_at (showing c s) (word r (unary_of t op a) ∷ vs) rest) (unary_taken (Takes1 t r op) o s)
      (λ n vs. (refl, kept_above s (word r (unary_of t op n) ∷ vs))) (refl, tt)
  unary_means c rest s _ = (refl, tt)

  binary_means : (c : Config) (rest : Code) (s : State) (row : Row) → Means c rest s (run_binary (showing c s) s.operands.above rest row) (binary_typed row s (binary_types row))
  binary_means c rest s (Takes2 t r op) =
      let o : Operation = record { takes = t; gives = r } in
      pop_means c rest s t s.operands s.operands.above (λ b vs. pop t vs (λ a us. gives (showing c s) us rest r (binary_of t op a b))) (binary_first (Takes2 t r op) o s)
      (λ b vs. pop_means c rest s t (with_above s.operands vs) vs (λ a us. gives (showing c s) us rest r (binary_of t op a b)) (binary_second (Takes2 t r op) o b s)
      (λ a us. yields_means c rest s us r (binary_of t op a b)) (refl, tt))
      (refl, tt)
  binary_means c rest s _ = (refl, tt)

  -- ---- drop and select

  drop_means : (c : Config) (rest : Code) (s : State) (ws : List Word) → Means c rest s (pop_any ws (λ w vs. goes_at (showing c s) vs rest)) (drop_from s ws)
  drop_means c rest s [] = (refl, tt)
  drop_means c rest s (w ∷ ws) = (refl, kept_above s ws)

  select_if : (c : Config) (rest : Code) (s : State) (e z : Bool) (a b : Word) (ts : List Word)
      → Means c rest s (when e (elim z [ true ↦ goes_at (showing c s) (b ∷ ts) rest | false ↦ goes_at (showing c s) (a ∷ ts) rest ]))
      (select_one e (with_operands s (with_above s.operands ts)) (elim z [ true ↦ b | false ↦ a ]))
  select_if c rest s true true a b ts = (refl, kept_above s (b ∷ ts))
  select_if c rest s true false a b ts = (refl, kept_above s (a ∷ ts))
  select_if c rest s false z a b ts = (refl, tt)

  select_two : (c : Config) (rest : Code) (s : State) (n : ℕ) (us : List Word) (vs : List Word)
      → Means c rest s (pop_any vs (λ b us. select_move c rest s n b us)) (select_from n s (with_above s.operands us) vs)
  select_two c rest s n us [] = (refl, tt)
  select_two c rest s n us (b ∷ []) = (refl, tt)
  select_two c rest s n us (b ∷ a ∷ ts) = select_if c rest s (same_type a.type b.type) (n == 0) a b ts

  select_means : (c : Config) (rest : Code) (s : State)
      → Means c rest s (pop I32 s.operands.above (λ n vs. pop_any vs (λ b us. select_move c rest s n b us))) (select_taken s (take_word I32 s.operands))
  select_means c rest s =
      pop_means c rest s I32 s.operands s.operands.above (λ n vs. pop_any vs (λ b us. select_move c rest s n b us)) (select_taken s)
      (λ n vs. select_two c rest s n vs vs) (refl, tt)

  -- ---- locals and globals

  get_means : (c : Config) (rest : Code) (s : State) (o : Option Word) → Means c rest s (where_some o (λ w. goes_at (showing c s) (w ∷ s.operands.above) rest)) (get s o)
  get_means c rest s None = (refl, tt)
  get_means c rest s (Some w) = (refl, kept_above s (w ∷ s.operands.above))

  -- a local is set, and these words are left above the floor
  set_local_if : (c : Config) (rest : Code) (s : State) (b : Bool) (ls ws : List Word) → length ls ≡ length s.locals.current
      → Means c rest s (when b (goes_at (record (showing c s) { frame = record (showing c s).frame { locals = ls } }) ws rest))
      (set_locals (with_operands s (with_above s.operands ws)) (elim b [ true ↦ Some ls | false ↦ None ]))
  set_local_if c rest s true ls ws l = (refl, record { below = refl; most = refl; room = refl; outer = refl; local_room = refl; locals = l; size = same_size room s.memory })
  set_local_if c rest s false ls ws l = (refl, tt)

  set_local_at : (c : Config) (rest : Code) (s : State) (o : Option Word) (w : Word) (ls ws : List Word) → length ls ≡ length s.locals.current
      → Means c rest s (where_some o (λ v. when (same_type v.type w.type) (goes_at (record (showing c s) { frame = record (showing c s).frame { locals = ls } }) ws rest)))
      (set_locals (with_operands s (with_above s.operands ws)) (elim (holds w.type o) [ true ↦ Some ls | false ↦ None ]))
  set_local_at c rest s None w ls ws l = (refl, tt)
  set_local_at c rest s (Some v) w ls ws l = set_local_if c rest s (same_type v.type w.type) ls ws l

  set_local_means : (c : Config) (rest : Code) (s : State) (x : ℕ) (w : Word) (ws : List Word)
      → Means c rest s (set_local (showing c s) x w ws rest) (set_locals (with_operands s (with_above s.operands ws)) (replaced s.locals.current x w))
  set_local_means c rest s x w ws = set_local_at c rest s (slice_get s.locals.current x) w (slice_set s.locals.current x w) ws (length-set s.locals.current x w)

  local_set_means : (c : Config) (rest : Code) (s : State) (x : ℕ) (ws : List Word) → Means c rest s (pop_any ws (λ w vs. set_local (showing c s) x w vs rest)) (local_set x s ws)
  local_set_means c rest s x [] = (refl, tt)
  local_set_means c rest s x (w ∷ ws) = set_local_means c rest s x w ws

  local_tee_means : (c : Config) (rest : Code) (s : State) (x : ℕ) (ws : List Word) → Means c rest s (pop_any ws (λ w vs. set_local (showing c s) x w s.operands.above rest)) (local_tee x s ws)
  local_tee_means c rest s x [] = (refl, tt)
  local_tee_means c rest s x (w ∷ ws) = set_local_means c rest s x w s.operands.above

  set_global_if : (c : Config) (rest : Code) (s : State) (b : Bool) (gs ws : List Word)
      → Means c rest s (when b (goes_at (record (showing c s) { store = record (showing c s).store { globals = gs } }) ws rest))
      (set_globals (with_operands s (with_above s.operands ws)) (elim b [ true ↦ Some gs | false ↦ None ]))
  set_global_if c rest s true gs ws = (refl, record { below = refl; most = refl; room = refl; outer = refl; local_room = refl; locals = refl; size = same_size room s.memory })
  set_global_if c rest s false gs ws = (refl, tt)

  set_global_at : (c : Config) (rest : Code) (s : State) (o : Option Word) (w : Word) (gs ws : List Word)
      → Means c rest s (where_some o (λ v. when (same_type v.type w.type) (goes_at (record (showing c s) { store = record (showing c s).store { globals = gs } }) ws rest)))
      (set_globals (with_operands s (with_above s.operands ws)) (elim (holds w.type o) [ true ↦ Some gs | false ↦ None ]))
  set_global_at c rest s None w gs ws = (refl, tt)
  set_global_at c rest s (Some v) w gs ws = set_global_if c rest s (same_type v.type w.type) gs ws

  global_set_means : (c : Config) (rest : Code) (s : State) (x : ℕ) (ws : List Word) → Means c rest s (pop_any ws (λ w vs. set_global (showing c s) x w vs rest)) (global_set x s ws)
  global_set_means c rest s x [] = (refl, tt)
  global_set_means c rest s x (w ∷ ws) = set_global_at c rest s (slice_get s.globals x) w (slice_set s.globals x w) ws

  -- ---- memory

  -- an access in no row
  no_access : (c : Config) (rest : Code) (s : State) (t : NumType) (o : Option (List ℕ)) (ws : List Word) → Means c rest s (where_some o (λ memory. pop t ws (λ base vs. NoRule))) Lost
  no_access c rest s t None ws = (refl, tt)
  no_access c rest s t (Some memory) ws = pop_means c rest s t s.operands ws (λ base vs. NoRule) (λ x. Lost) (λ n vs. (refl, tt)) (refl, tt)

  load_if : (c : Config) (rest : Code) (s : State) (b : Bool) (l : Loading) (n : ℕ) (ws : List Word)
      → Means c rest s (elim b [ true ↦ goes_at (showing c s) (word l.gives (extended l.gives l.sign (8 * l.bytes) n) ∷ ws) rest | false ↦ Trapped OutOfBounds (showing c s).store ])
      (load_read l (with_operands s (with_above s.operands ws)) (elim b [ true ↦ Some n | false ↦ None ]))
  load_if c rest s true l n ws = (refl, kept_above s (word l.gives (extended l.gives l.sign (8 * l.bytes) n) ∷ ws))
  load_if c rest s false l n ws = (refl, tt)

  load_at : (c : Config) (rest : Code) (s : State) (l : Loading) (offset : ℕ) (o : Option (List ℕ))
      → Means c rest s (where_some o (λ memory. pop I32 s.operands.above (λ base vs. run_load (showing c s) offset base vs rest (Loads l.gives l.bytes l.sign) memory))) (load_in l offset s o)
  load_at c rest s l offset None = (refl, tt)
  load_at c rest s l offset (Some memory) =
      pop_means c rest s I32 s.operands s.operands.above (λ base vs. run_load (showing c s) offset base vs rest (Loads l.gives l.bytes l.sign) memory) (load_taken l offset memory s)
      (λ base vs. load_if c rest s (nat_le (base + offset + l.bytes) (length memory)) l (number_of (take l.bytes (drop (base + offset) memory))) vs) (refl, tt)

  load_means : (c : Config) (rest : Code) (s : State) (offset : ℕ) (row : Row)
      → Means c rest s (where_some s.memory (λ memory. pop I32 s.operands.above (λ base vs. run_load (showing c s) offset base vs rest row memory))) (load_typed offset s (load_types row))
  load_means c rest s offset (Loads t n e) = load_at c rest s (record { gives = t; bytes = n; sign = e }) offset s.memory
  load_means c rest s offset _ = no_access c rest s I32 s.memory s.operands.above

  store_if : (c : Config) (rest : Code) (s : State) (b : Bool) (memory new : List ℕ) (ws : List Word) → s.memory ≡ Some memory → (b ≡ true → length new ≡ length memory)
      → Means c rest s (elim b [ true ↦ goes_at (with_memory (showing c s) new) ws rest | false ↦ Trapped OutOfBounds (showing c s).store ])
      (store_written (with_operands s (with_above s.operands ws)) (elim b [ true ↦ Some new | false ↦ None ]))
  store_if c rest s true memory new ws e l = (refl, kept_memory s ws memory new e (as_long room memory new (l refl)))
  store_if c rest s false memory new ws e l = (refl, tt)

  store_at : (c : Config) (rest : Code) (s : State) (l : Storing) (offset : ℕ) (o : Option (List ℕ)) → s.memory ≡ o
      → Means c rest s (where_some o (run_store (showing c s) offset s.operands.above rest (Stores l.takes l.bytes))) (store_in l offset s o)
  store_at c rest s l offset None e = (refl, tt)
  store_at c rest s l offset (Some memory) e =
      pop_means c rest s l.takes s.operands s.operands.above (λ value vs. pop I32 vs (λ base us. elim (nat_le (base + offset + l.bytes) (length memory)) [
        | true ↦ goes_at (with_memory (showing c s) (overwrite memory (base + offset) (bytes_of l.bytes value))) us rest
        | false ↦ Trapped OutOfBounds (showing c s).store
      ])) (store_taken l offset memory s)
      (λ value vs. pop_means c rest s I32 (with_above s.operands vs) vs (λ base us. elim (nat_le (base + offset + l.bytes) (length memory)) [
        | true ↦ goes_at (with_memory (showing c s) (overwrite memory (base + offset) (bytes_of l.bytes value))) us rest
        | false ↦ Trapped OutOfBounds (showing c s).store
      ]) (store_based l offset value memory s)
      (λ base us. store_if c rest s (nat_le (base + offset + l.bytes) (length memory)) memory (overwrite memory (base + offset) (bytes_of l.bytes value)) us e
      (written_length memory (base + offset) l.bytes value)) (refl, tt))
      (refl, tt)

  no_store : (c : Config) (rest : Code) (s : State) (o : Option (List ℕ)) → Means c rest s (where_some o (λ memory. NoRule)) Lost
  no_store c rest s None = (refl, tt)
  no_store c rest s (Some memory) = (refl, tt)

  store_means : (c : Config) (rest : Code) (s : State) (offset : ℕ) (row : Row)
      → Means c rest s (where_some s.memory (run_store (showing c s) offset s.operands.above rest row)) (store_typed offset s (store_types row))
  store_means c rest s offset (Stores t n) = store_at c rest s (record { takes = t; bytes = n }) offset s.memory refl
  store_means c rest s offset _ = no_store c rest s s.memory

  size_means : (c : Config) (rest : Code) (s : State) (o : Option (List ℕ))
      → Means c rest s (where_some o (λ memory. goes_at (showing c s) (word I32 (length memory / page) ∷ s.operands.above) rest)) (size_in s o)
  size_means c rest s None = (refl, tt)
  size_means c rest s (Some memory) = (refl, kept_above s (word I32 (length memory / page) ∷ s.operands.above))

  grow_if_means : (c : Config) (rest : Code) (s : State) (b : Bool) (n : ℕ) (memory : List ℕ) (ws : List Word) → s.memory ≡ Some memory
      → (b ≡ true → length memory / page + n ≤ room)
      → Means c rest s (elim b [
        | true ↦ goes_at (with_memory (showing c s) (memory ++ replicate (n * page) 0)) (word I32 (length memory / page) ∷ ws) rest
        | false ↦ goes_at (showing c s) (word I32 (2 ^ 32 - 1) ∷ ws) rest
      ]) (grow_if b n memory (with_operands s (with_above s.operands ws)))
  grow_if_means c rest s true n memory ws e l =
      (refl, kept_memory s (word I32 (length memory / page) ∷ ws) memory (memory ++ replicate (n * page) 0) e (grows_to room memory n (l refl)))
  grow_if_means c rest s false n memory ws e l = (refl, kept_above s (word I32 (2 ^ 32 - 1) ∷ ws))

  grow_means : (c : Config) (rest : Code) (s : State) (o : Option (List ℕ)) → s.memory ≡ o
      → Means c rest s (where_some o (λ memory. pop I32 s.operands.above (λ n vs. grow room (showing c s) n vs rest memory))) (grow_in room s o)
  grow_means c rest s None e = (refl, tt)
  grow_means c rest s (Some memory) e =
      pop_means c rest s I32 s.operands s.operands.above (λ n vs. grow room (showing c s) n vs rest memory) (grow_taken room memory s)
      (λ n vs. grow_if_means c rest s (nat_le (length memory / page + n) room) n memory vs e (leb-true (length memory / page + n) room)) (refl, tt)

  -- ---- all of them

  pub means : (m : Module) (c : Config) (rest : Code) (s : State) (i : Instr) → IsStraight i → Means c rest s (step_of m room c rest i s) (effect room i s)
  means m c rest s (I32Const z) h = (refl, kept_above s _)
  means m c rest s (I64Const z) h = (refl, kept_above s _)
  means m c rest s (Unary op) h = unary_means c rest s (row_at op)
  means m c rest s (Binary op) h = binary_means c rest s (row_at op)
  means m c rest s Drop h = drop_means c rest s s.operands.above
  means m c rest s Select h = select_means c rest s
  means m c rest s (LocalGet x) h = get_means c rest s (slice_get s.locals.current x)
  means m c rest s (LocalSet x) h = local_set_means c rest s x s.operands.above
  means m c rest s (LocalTee x) h = local_tee_means c rest s x s.operands.above
  means m c rest s (GlobalGet x) h = get_means c rest s (slice_get s.globals x)
  means m c rest s (GlobalSet x) h = global_set_means c rest s x s.operands.above
  means m c rest s (Load op align offset) h = load_means c rest s offset (row_at op)
  means m c rest s (Store op align offset) h = store_means c rest s offset (row_at op)
  means m c rest s MemorySize h = size_means c rest s s.memory
  means m c rest s MemoryGrow h = grow_means c rest s s.memory refl
  means m c rest s Nop h = (refl, kept_above s s.operands.above)
  means m c rest s Unreachable h = (refl, tt)
  means m c rest s (Br l) h = absurd h
  means m c rest s (BrIf l) h = absurd h
  means m c rest s (BrTable ls l) h = absurd h
  means m c rest s Return h = absurd h
  means m c rest s (Call f) h = absurd h
  means m c rest s _ h = (refl, tt)

  pub kept : (s : State) (i : Instr) → IsStraight i → KeptBy s (effect room i s)
  kept s i h = (means no_module no_config Nothing s i h).1

  -- ---- what a call answers

  overfull : (c : Config) (rest : Code) (s : State) (e : Effect) → KeptBy s e → OverSpares s e → IsOverfull e → GoesOver room c rest (as_move c rest s e) s
  overfull c rest s (Leaves t) k o h = (t, refl, h, k, o h)
  overfull c rest s (Trapping x) k o h = absurd h
  overfull c rest s Lost k o h = absurd h

  pub follows_is : (r : Outcome) (c : Config) (rest : Code) (move : Move) (e : Effect) (old new : State) → Means c rest old move e → OverSpares old e → Ends r e old new
      → Follows r room c rest move old new
  follows_is Goes c rest move e old new m o h = m.0 ∙ ap (as_move c rest old) h
  follows_is Full c rest move e old new m o h = (subst (λ v. GoesOver room c rest v old) (sym m.0) (overfull c rest old e m.1 o h.0), h.1)
  follows_is (Traps k) c rest move e old new m o h = (m.0 ∙ ap (as_move c rest old) h.0, h.1)
  follows_is Stuck c rest move e old new m o h = (m.0 ∙ ap (as_move c rest old) h.0, h.1)

  pub keeps_is : (r : Outcome) (e : Effect) (old new : State) → KeptBy old e → Ends r e old new → KeepsWhereItGoes r room old new
  keeps_is Goes e old new k h = subst (KeptBy old) h k
  keeps_is Full e old new k h = tt
  keeps_is (Traps x) e old new k h = tt
  keeps_is Stuck e old new k h = tt
