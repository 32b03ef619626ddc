-- No instruction that writes to memory or to a global leaves more words than it found, so what leaves too many keeps the store.
use Rattle.std.proofs.Common.{◌≡◌, ℕ, ◌+◌, ◌/◌, ◌<◌, ◌≤◌, List, [], ◌∷◌, length, arith, refl, ap}
use Rattle.std.specs.Prelude.{Bool, true, false, nat_le, Option, Some, None}
use Rattle.wb_syntax.specs.Table.{row_at}
use Rattle.wb_syntax.specs.Execute.{Word, page}
use Rattle.wb_state.specs.Words.{bits_as, replaced}
use Rattle.wb_state.specs.Stack.{Stack, Taken, taken, take_from, take_word, with_above, height_of}
use Rattle.wb_state.specs.Bytes.{written_at}
use Rattle.wb_plain.specs.Syntax.{NumType, I32, Instr, GlobalSet, Store, MemoryGrow}
use Rattle.wb_plain.specs.Rows.{Storing, store_types}
use Rattle.wb_plain.specs.Effects.{State, Effect, Leaves, Trapping, Lost, with_operands, set_globals, global_set, store_written, store_based, store_taken, store_in, store_typed, grow_if, grow_taken, grow_in, effect}
use Rattle.wb_plain.proofs.Meaning.{OverSpares}
use Rattle.wb_plain.proofs.Writing.{Spares, spares}

-- ---- words that are taken

-- what is left has fewer words than before, and may have as many
abbrev Lowers : Stack → Option Taken → Type 0
Lowers o None = Unit {0}
Lowers o (Some n) = (height_of n.left < height_of o) × (n.left.most ≡ o.most)

taken_lowers : (o : Stack) (w : Word) (ws : List Word) (b : Option ℕ) → o.above ≡ w ∷ ws → Lowers o (taken b (with_above o ws))
taken_lowers o w ws None e = tt
taken_lowers o w ws (Some n) e = let l = ap length e in (omega (arith, l), refl)

from_lowers : (t : NumType) (o : Stack) (ws : List Word) → o.above ≡ ws → Lowers o (take_from t o ws)
from_lowers t o [] e = tt
from_lowers t o (w ∷ ws) e = taken_lowers o w ws (bits_as t w) e

word_lowers : (t : NumType) (o : Stack) → Lowers o (take_word t o)
word_lowers t o = from_lowers t o o.above refl

-- ---- what writes

set_over : (s : State) (ws : List Word) (globals : Option (List Word)) (w : Word) → s.operands.above ≡ w ∷ ws → OverSpares s (set_globals (with_operands s (with_above s.operands ws)) globals)
set_over s ws None w e = tt
set_over s ws (Some gs) w e = λ over most. let l = ap length e in absurd (omega (arith, over, most, l))

global_over : (x : ℕ) (s : State) (ws : List Word) → s.operands.above ≡ ws → OverSpares s (global_set x s ws)
global_over x s [] e = tt
global_over x s (w ∷ ws) e = set_over s ws (replaced s.globals x w) w e

written_over : (s : State) (o : Stack) (memory : Option (List ℕ)) → height_of o ≤ height_of s.operands → o.most ≡ s.operands.most → OverSpares s (store_written (with_operands s o) memory)
written_over s o None h e = tt
written_over s o (Some memory) h e = λ over most. absurd (omega (arith, over, most, h, e))

based_over : (l : Storing) (offset value : ℕ) (memory : List ℕ) (s : State) (o : Stack) (b : Option Taken) → height_of o ≤ height_of s.operands → o.most ≡ s.operands.most → Lowers o b → OverSpares s (store_based l offset value memory s b)
based_over l offset value memory s o None h e k = tt
based_over l offset value memory s o (Some b) h e k =
    let j = k.0 in
    let i = k.1 in
    written_over s b.left (written_at memory (b.bits + offset) l.bytes value) (omega (arith, h, j)) (omega (arith, e, i))

taken_over : (l : Storing) (offset : ℕ) (memory : List ℕ) (s : State) (v : Option Taken) → Lowers s.operands v → OverSpares s (store_taken l offset memory s v)
taken_over l offset memory s None k = tt
taken_over l offset memory s (Some v) k =
    let j = k.0 in
    based_over l offset v.bits memory s v.left (take_word I32 v.left) (omega (arith, j)) k.1 (word_lowers I32 v.left)

in_over : (l : Storing) (offset : ℕ) (s : State) (memory : Option (List ℕ)) → OverSpares s (store_in l offset s memory)
in_over l offset s None = tt
in_over l offset s (Some memory) = taken_over l offset memory s (take_word l.takes s.operands) (word_lowers l.takes s.operands)

typed_over : (offset : ℕ) (s : State) (l : Option Storing) → OverSpares s (store_typed offset s l)
typed_over offset s None = tt
typed_over offset s (Some l) = in_over l offset s s.memory

if_over : (s : State) (o : Stack) (b : Bool) (n : ℕ) (memory : List ℕ) → height_of o < height_of s.operands → o.most ≡ s.operands.most → OverSpares s (grow_if b n memory (with_operands s o))
if_over s o true n memory h e = λ over most. absurd (omega (arith, over, most, h, e))
if_over s o false n memory h e = λ over most. (refl, refl)

grow_over : (room : ℕ) (memory : List ℕ) (s : State) (n : Option Taken) → Lowers s.operands n → OverSpares s (grow_taken room memory s n)
grow_over room memory s None k = tt
grow_over room memory s (Some n) k = if_over s n.left (nat_le (length memory / page + n.bits) room) n.bits memory k.0 k.1

grow_in_over : (room : ℕ) (s : State) (memory : Option (List ℕ)) → OverSpares s (grow_in room s memory)
grow_in_over room s None = tt
grow_in_over room s (Some memory) = grow_over room memory s (take_word I32 s.operands) (word_lowers I32 s.operands)

-- ---- all of them

spared : (s : State) (e : Effect) → Spares s e → OverSpares s e
spared s (Leaves t) h = λ over most. h
spared s (Trapping k) h = tt
spared s Lost h = tt

pub over_spares : (room : ℕ) (s : State) (i : Instr) → OverSpares s (effect room i s)
over_spares room s (GlobalSet x) = global_over x s s.operands.above refl
over_spares room s (Store op align offset) = typed_over offset s (store_types (row_at op))
over_spares room s MemoryGrow = grow_in_over room s s.memory
over_spares room s i = spared s (effect room i s) (spares room s i refl)
