-- Execution (the standard, section 4), one step at a time, on nested code. A frame keeps the labels around its place, and each label what follows it.
use Rattle.std.specs.Prelude.{ℕ, zero, suc, ◌+◌, ◌-◌, ◌*◌, ◌/◌, ◌%◌, ◌^◌, Bool, true, false, ◌==◌, ◌&&◌, nat_le, nat_lt, List, [], ◌∷◌, ◌++◌, length, take, drop, reverse, replicate, map, Option, Some, None, slice_get, slice_set}
use Rattle.wb_syntax.specs.Syntax.{NumType, I32, I64, Instr, Unreachable, Nop, Br, BrIf, BrTable, Return, Call, Drop, Select, LocalGet, LocalSet, LocalTee, GlobalGet, GlobalSet, Load, Store, MemorySize, MemoryGrow, I32Const, I64Const, Unary, Binary, Nested, Plain, InBlock, InLoop, InIf, InIfElse, Code, Nothing, Then, FuncType, Func, Module, list_of, expanded}
use Rattle.wb_syntax.specs.Table.{Extension, Signed, Unsigned, Row, Loads, Stores, Takes1, Takes2, row_at}
use Rattle.wb_syntax.specs.Numbers.{Numeric, Yields, ByZero, TooLarge, bits_of, unsigned, unary_of, binary_of}
use Rattle.wb_syntax.specs.Nesting.{nested}

-- ---- states

-- a value (4.2.1)
pub record Word : Type 0 where
  pub type : NumType
  pub bits : ℕ

-- memory, where there is one, and globals (4.2.3)
pub record TheStore : Type 0 where
  pub memory : Option (List ℕ)
  pub globals : List Word

-- a label (4.2.12): how many words a branch to it carries and where it leads; what follows its construct; the words below
pub record Label : Type 0 where
  pub carries : ℕ
  pub branch : Code
  pub after : Code
  pub below : List Word

-- a frame (4.2.12) with what is run in it
pub record Frame : Type 0 where
  pub locals : List Word
  pub results : ℕ
  -- the innermost first
  pub labels : List Label
  -- the constants before the place of the next step, the last one first
  pub stack : List Word
  -- from that place on, so that it begins with no constant
  pub code : Code

-- a state: the frame that is run, the frames that wait for it, the innermost first, and the store
pub record Config : Type 0 where
  pub frame : Frame
  pub callers : List Frame
  pub store : TheStore

-- why a run traps
pub data TrapKind : Type 0 where
  Unreached : TrapKind
  DivideByZero : TrapKind
  Overflow : TrapKind
  OutOfBounds : TrapKind

-- a step to a state, to the end of the first frame with its results, to a trap, or none
pub data Move : Type 0 where
  Goes : Config → Move
  Finishes : (results : List Word) → TheStore → Move
  Traps : TrapKind → TheStore → Move
  NoRule : Move

-- ---- words and types

-- a word of this type with these bits
abbrev pub word : NumType → ℕ → Word
word t n = record { type = t; bits = n }

-- two types are one
abbrev pub same_type : NumType → NumType → Bool
same_type I32 I32 = true
same_type I64 I64 = true
same_type _ _ = false

-- these words have these types, in order
abbrev pub have_types : List NumType → List Word → Bool
have_types [] [] = true
have_types (t ∷ ts) (w ∷ ws) = same_type t w.type && have_types ts ws
have_types _ _ = false

-- the first words of locals (4.4.7)
abbrev pub zeros : List NumType → List Word
zeros ts = map (λ t. word t 0) ts

-- the topmost word, which has to be of this type
abbrev pub pop : NumType → List Word → (ℕ → List Word → Move) → Move
pop t [] next = NoRule
pop t (w ∷ ws) next = elim (same_type t w.type) [ true ↦ next w.bits ws | false ↦ NoRule ]

-- the topmost word, of any type
abbrev pub pop_any : List Word → (Word → List Word → Move) → Move
pop_any [] next = NoRule
pop_any (w ∷ ws) next = next w ws

-- only where this holds
abbrev pub when : Bool → Move → Move
when t next = elim t [ true ↦ next | false ↦ NoRule ]

-- only where there is one
abbrev pub where_some : {A : Type 0} → Option A → (A → Move) → Move
where_some None next = NoRule
where_some (Some x) next = next x

-- ---- memory (4.2.8): bytes, a number's lowest first (4.3.1)

-- the number that these bytes store
abbrev pub number_of : List ℕ → ℕ
number_of [] = 0
number_of (b ∷ bs) = b + 256 * number_of bs

-- so many bytes that store the low end of a number
abbrev pub bytes_of : (count n : ℕ) → List ℕ
bytes_of zero n = []
bytes_of (suc k) n = n % 256 ∷ bytes_of k (n / 256)

-- bytes with others written over them from an index on
abbrev pub overwrite : List ℕ → ℕ → List ℕ → List ℕ
overwrite bytes at new = take at bytes ++ (new ++ drop (at + length new) bytes)

-- a number of so many bits as a word of the type
abbrev pub extended : NumType → Extension → (bits n : ℕ) → ℕ
extended t Unsigned bits n = n
extended t Signed bits n = elim (nat_lt n (2 ^ (bits - 1))) [ true ↦ n | false ↦ n + (2 ^ bits_of t - 2 ^ bits) ]

-- the bytes of a page (4.2.8)
abbrev pub page : ℕ
page = 65536

-- ---- constants are values (4.4.1), and take no step

-- the words and the code of a place, moved past the constants that begin the code
abbrev pub settle : List Word → Code → List Word × Code
settle ws Nothing = (ws, Nothing)
settle ws (Then (Plain (I32Const z)) c) = settle (word I32 (unsigned I32 z) ∷ ws) c
settle ws (Then (Plain (I64Const z)) c) = settle (word I64 (unsigned I64 z) ∷ ws) c
settle ws (Then (Plain i) c) = (ws, Then (Plain i) c)
settle ws (Then (InBlock t b) c) = (ws, Then (InBlock t b) c)
settle ws (Then (InLoop t b) c) = (ws, Then (InLoop t b) c)
settle ws (Then (InIf t b) c) = (ws, Then (InIf t b) c)
settle ws (Then (InIfElse t b d) c) = (ws, Then (InIfElse t b d) c)

-- the frame with these words before this code
abbrev pub placed_at : Frame → List Word → Code → Frame
placed_at f ws c = let s = settle ws c in record f { stack = s.0; code = s.1 }

-- a step to this place of the same frame
abbrev pub goes_at : Config → List Word → Code → Move
goes_at c ws code = Goes (record c { frame = placed_at c.frame ws code })

-- ---- numeric instructions (4.4.1), by the table

-- a step that yields a word of this type, or the trap of the operation
abbrev pub gives : Config → List Word → Code → NumType → Numeric → Move
gives c ws rest t (Yields n) = goes_at c (word t n ∷ ws) rest
gives c ws rest t ByZero = Traps DivideByZero c.store
gives c ws rest t TooLarge = Traps Overflow c.store

-- an operation with one operand
abbrev pub run_unary : Config → List Word → Code → Row → Move
run_unary c ws rest (Takes1 t r op) = pop t ws (λ a vs. goes_at c (word r (unary_of t op a) ∷ vs) rest)
run_unary c ws rest _ = NoRule

-- an operation with two operands, the second on top
abbrev pub run_binary : Config → List Word → Code → Row → Move
run_binary c ws rest (Takes2 t r op) = pop t ws (λ b vs. pop t vs (λ a us. gives c us rest r (binary_of t op a b)))
run_binary c ws rest _ = NoRule

-- ---- variable instructions (4.4.3)

-- local x is set, to a word of its type; what stays on the stack is given
abbrev pub set_local : Config → ℕ → Word → List Word → Code → Move
set_local c x w ws rest = where_some (slice_get c.frame.locals x) (λ v. when (same_type v.type w.type)
    (let d = record c { frame = record c.frame { locals = slice_set c.frame.locals x w } } in goes_at d ws rest))

-- global x is set, to a word of its type
abbrev pub set_global : Config → ℕ → Word → List Word → Code → Move
set_global c x w ws rest = where_some (slice_get c.store.globals x) (λ v. when (same_type v.type w.type)
    (let d = record c { store = record c.store { globals = slice_set c.store.globals x w } } in goes_at d ws rest))

-- ---- memory instructions (4.4.4): an access that ends past the memory traps

-- a load at base + offset, of the bytes and the sign that its row has
abbrev pub run_load : Config → (offset base : ℕ) → List Word → Code → Row → List ℕ → Move
run_load c offset base ws rest (Loads t n e) memory = elim (nat_le (base + offset + n) (length memory)) [
  | true ↦ goes_at c (word t (extended t e (8 * n) (number_of (take n (drop (base + offset) memory)))) ∷ ws) rest
  | false ↦ Traps OutOfBounds c.store
]
run_load c offset base ws rest _ memory = NoRule

-- the state with this memory
abbrev pub with_memory : Config → List ℕ → Config
with_memory c memory = record c { store = record c.store { memory = Some memory } }

-- a store at base + offset: the value is on top, the base below it
abbrev pub run_store : Config → (offset : ℕ) → List Word → Code → Row → List ℕ → Move
run_store c offset ws rest (Stores t n) memory = pop t ws (λ value vs. pop I32 vs (λ base us.
    elim (nat_le (base + offset + n) (length memory)) [
      | true ↦ goes_at (with_memory c (overwrite memory (base + offset) (bytes_of n value))) us rest
      | false ↦ Traps OutOfBounds c.store
    ]))
run_store c offset ws rest _ memory = NoRule

-- by so many pages, where the memory then has at most `room` pages: the old size, or else -1
abbrev pub grow : (room : ℕ) → Config → (pages : ℕ) → List Word → Code → List ℕ → Move
grow room c pages ws rest memory =
    let old = length memory / page in
    elim (nat_le (old + pages) room) [
      | true ↦ goes_at (with_memory c (memory ++ replicate (pages * page) 0)) (word I32 old ∷ ws) rest
      | false ↦ goes_at c (word I32 (2 ^ 32 - 1) ∷ ws) rest
    ]

-- ---- labels and frames (4.4.5 to 4.4.7, 4.2.12)

-- a construct is entered in one step (4.4.6)
abbrev pub enter : Config → (branch : Code) → (carries : ℕ) → (body after : Code) → (below : List Word) → Move
enter c branch carries body after below =
    let f = record c.frame { labels = record { carries = carries; branch = branch; after = after; below = below } ∷ c.frame.labels } in
    Goes (record c { frame = placed_at f [] body })

-- a frame is left in one step (4.4.7)
abbrev pub leave_frame : Config → (results : List Word) → List Frame → Move
leave_frame c results [] = Finishes results c.store
leave_frame c results (f ∷ fs) = Goes (record c { frame = placed_at f (results ++ f.stack) f.code; callers = fs })

-- return: the frame is left with its results, whatever else is on the stack
abbrev pub return : Config → List Word → Move
return c ws = when (nat_le c.frame.results (length ws)) (leave_frame c (take c.frame.results ws) c.callers)

-- the innermost label is left with these words, for this code; ls are the labels around it
abbrev pub leave_label : Config → Label → List Label → (words : List Word) → Code → Move
leave_label c l ls words code =
    let d = record c { frame = record c.frame { labels = ls } } in
    goes_at d (words ++ l.below) code

-- a branch leaves all labels up to its own in one step; one past all labels is a return
abbrev pub branch : Config → ℕ → List Label → List Word → Move
branch c zero [] ws = return c ws
branch c (suc n) [] ws = NoRule
branch c zero (l ∷ ls) ws = when (nat_le l.carries (length ws)) (leave_label c l ls (take l.carries ws) l.branch)
branch c (suc n) (l ∷ ls) ws = branch c n ls ws

-- the end of a construct, or of the function's body
abbrev pub at_end : Config → List Label → Move
at_end c [] = when (length c.frame.stack == c.frame.results) (leave_frame c c.frame.stack c.callers)
at_end c (l ∷ ls) = leave_label c l ls c.frame.stack l.after

-- the frame of a call (4.4.7), before the body's first step: its locals are the arguments, then zeros
abbrev pub frame_of : Func → FuncType → (arguments : List Word) → Code → Frame
frame_of f ft arguments body =
    let empty : Frame = record { locals = arguments ++ zeros (expanded f.locals); results = length (list_of ft.result); labels = []; stack = []; code = Nothing } in
    placed_at empty [] body

-- the type of a function, where there is one
abbrev pub type_of : Module → Func → Option FuncType
type_of m f = slice_get m.types f.ty

-- a call of a function by its index makes the frame and enters the body in one step; the last argument is on top
abbrev pub call : Module → Config → (func : ℕ) → List Word → Code → Move
call m c x ws rest = where_some (slice_get m.funcs x) (λ f. where_some (type_of m f) (λ ft. where_some (nested f.body) (λ body.
    let n = length ft.params in
    let arguments = reverse (take n ws) in
    when (have_types ft.params arguments)
    (Goes (record c { frame = frame_of f ft arguments body; callers = record c.frame { stack = drop n ws; code = rest } ∷ c.callers })))))

-- ---- one step

-- the label that a br_table takes
abbrev pub chosen : List ℕ → ℕ → ℕ → ℕ
chosen labels otherwise n = elim (slice_get labels n) [ None ↦ otherwise | Some l ↦ l ]

module _ (m : Module) (room : ℕ) where
  -- an instruction that is no construct, with these words before it and this code behind it
  abbrev pub plain : Config → List Word → Code → Instr → Move
  -- 4.4.1 numeric
  plain c ws rest (I32Const z) = goes_at c (word I32 (unsigned I32 z) ∷ ws) rest
  plain c ws rest (I64Const z) = goes_at c (word I64 (unsigned I64 z) ∷ ws) rest
  plain c ws rest (Unary op) = run_unary c ws rest (row_at op)
  plain c ws rest (Binary op) = run_binary c ws rest (row_at op)
  -- 4.4.2 parametric
  plain c ws rest Drop = pop_any ws (λ w vs. goes_at c vs rest)
  plain c ws rest Select = pop I32 ws (λ n vs. pop_any vs (λ b us. pop_any us (λ a ts. when (same_type a.type b.type)
      (elim (n == 0) [ true ↦ goes_at c (b ∷ ts) rest | false ↦ goes_at c (a ∷ ts) rest ]))))
  -- 4.4.3 variables
  plain c ws rest (LocalGet x) = where_some (slice_get c.frame.locals x) (λ w. goes_at c (w ∷ ws) rest)
  plain c ws rest (LocalSet x) = pop_any ws (λ w vs. set_local c x w vs rest)
  plain c ws rest (LocalTee x) = pop_any ws (λ w vs. set_local c x w ws rest)
  plain c ws rest (GlobalGet x) = where_some (slice_get c.store.globals x) (λ w. goes_at c (w ∷ ws) rest)
  plain c ws rest (GlobalSet x) = pop_any ws (λ w vs. set_global c x w vs rest)
  -- 4.4.4 memory
  plain c ws rest (Load op align offset) = where_some c.store.memory (λ memory. pop I32 ws (λ base vs. run_load c offset base vs rest (row_at op) memory))
  plain c ws rest (Store op align offset) = where_some c.store.memory (run_store c offset ws rest (row_at op))
  plain c ws rest MemorySize = where_some c.store.memory (λ memory. goes_at c (word I32 (length memory / page) ∷ ws) rest)
  plain c ws rest MemoryGrow = where_some c.store.memory (λ memory. pop I32 ws (λ n vs. grow room c n vs rest memory))
  -- 4.4.5 control
  plain c ws rest Nop = goes_at c ws rest
  plain c ws rest Unreachable = Traps Unreached c.store
  plain c ws rest (Br l) = branch c l c.frame.labels ws
  plain c ws rest (BrIf l) = pop I32 ws (λ n vs. elim (n == 0) [ true ↦ goes_at c vs rest | false ↦ branch c l c.frame.labels vs ])
  plain c ws rest (BrTable ls l) = pop I32 ws (λ n vs. branch c (chosen ls l n) c.frame.labels vs)
  plain c ws rest Return = return c ws
  plain c ws rest (Call x) = call m c x ws rest
  -- block, loop, if, else and end stand in nested code as its own forms
  plain c ws rest _ = NoRule

  -- constructs (4.4.5): a branch out of a block or if leads behind it, one to a loop leads before the loop
  abbrev pub construct : Config → List Word → Code → Nested → Move
  construct c ws rest (Plain i) = plain c ws rest i
  construct c ws rest (InBlock t body) = enter c rest (length (list_of t)) body rest ws
  construct c ws rest (InLoop t body) = enter c (Then (InLoop t body) rest) 0 body rest ws
  construct c ws rest (InIf t body) = pop I32 ws (λ n vs. elim (n == 0) [ true ↦ enter c rest (length (list_of t)) Nothing rest vs | false ↦ enter c rest (length (list_of t)) body rest vs ])
  construct c ws rest (InIfElse t body other) = pop I32 ws (λ n vs. elim (n == 0) [ true ↦ enter c rest (length (list_of t)) other rest vs | false ↦ enter c rest (length (list_of t)) body rest vs ])

  -- a step at this code: its first construct, or an end where no code is left
  abbrev pub step_at : Config → Code → Move
  step_at c Nothing = at_end c c.frame.labels
  step_at c (Then i rest) = construct c c.frame.stack rest i

  -- one step of a state
  abbrev pub machine_step : Config → Move
  machine_step c = step_at c c.frame.code
