-- A control instruction leads to a run with the memory and the globals that were there.
use Rattle.std.specs.Prelude.{◌≡◌, refl, ℕ, ◌==◌, nat_lt, Bool, true, false, List, [], ◌∷◌, length, Option, Some, None, slice_get}
use Rattle.wb_syntax.specs.declared.syntax.NumType.{NumType}
use Rattle.wb_syntax.specs.declared.syntax.NumType.TheVariants.{I32}
use Rattle.wb_syntax.specs.declared.syntax.Instr.{Instr}
use Rattle.wb_syntax.specs.declared.syntax.Instr.TheVariants.{Block, Loop, If, Else, End, Br, BrIf, BrTable, Return, Call}
use Rattle.wb_syntax.specs.declared.syntax.FuncType.{FuncType}
use Rattle.wb_syntax.specs.declared.syntax.Func.{Func}
use Rattle.wb_syntax.specs.declared.syntax.Module.{Module}
use Rattle.wb_syntax.specs.Execute.{TheStore, chosen, type_of}
use Rattle.wb_state.specs.Stack.{Taken, take_word}
use Rattle.wb_plain.specs.Follows.{store_of}
use Rattle.wb_code.specs.declared.leading.Jump.{Jump}
use Rattle.wb_control.specs.Piles.{Label, Caller}
use Rattle.wb_control.specs.Changes.{Run, Change, Leads, Fails, Popped, popped, at_place, with_stack, own_labels, result_count, left_label, left_frame, left_with, returned, finished, ended, branched_with, branched_at, branched}
use Rattle.wb_control.specs.Calls.{passes, opened, called_as, called_of}
use Rattle.wb_control.specs.Steps.{jump_of, blocked, passed_over, chosen_by, tested, branched_if, branched_by, controlled}

-- a change that leads to a run leads to one with this store
abbrev pub LeadsWith : TheStore → Change → Type 0
LeadsWith s (Leads q) = store_of q.state ≡ s
LeadsWith s _ = Unit {0}

either : (s : TheStore) (b : Bool) (x y : Change) → LeadsWith s x → LeadsWith s y → LeadsWith s (elim b [ true ↦ x | false ↦ y ])
either s true x y h k = h
either s false x y h k = k

-- ---- constructs

block_with : (t : Option NumType) (next : ℕ) (r : Run) (o : Option Jump) → LeadsWith (store_of r.state) (blocked t next r o)
block_with t next r None = tt
block_with t next r (Some j) = refl

label_with : (next : ℕ) (r : Run) (ls : List Label) → LeadsWith (store_of r.state) (left_label next r ls)
label_with next r [] = tt
label_with next r (l ∷ ls) = refl

over_with : (r : Run) (o : Option Jump) → LeadsWith (store_of r.state) (passed_over r o)
over_with r None = tt
over_with r (Some j) = label_with j.past r r.labels.items

chosen_with : (t : Option NumType) (next : ℕ) (r : Run) (j : Jump) (o : Option Taken) → LeadsWith (store_of r.state) (chosen_by t next r j o)
chosen_with t next r j None = tt
chosen_with t next r j (Some n) = refl

test_with : (t : Option NumType) (next : ℕ) (r : Run) (o : Option Jump) → LeadsWith (store_of r.state) (tested t next r o)
test_with t next r None = tt
test_with t next r (Some j) = chosen_with t next r j (take_word I32 r.state.operands)

-- ---- the ends of functions

frame_with : (r : Run) (ks : List Caller) (p : Popped) → LeadsWith (store_of r.state) (left_frame r ks p)
frame_with r [] p = tt
frame_with r (k ∷ ks) p = refl

results_with : (r : Run) (o : Option Popped) → LeadsWith (store_of r.state) (left_with r o)
results_with r None = tt
results_with r (Some p) = frame_with r r.callers.items p

return_with : (r : Run) → LeadsWith (store_of r.state) (returned r)
return_with r = results_with r (popped r.place.results r.state.operands)

end_with : (next : ℕ) (r : Run) → LeadsWith (store_of r.state) (ended next r)
end_with next r =
    let s = store_of r.state in
    either s (own_labels r == 0) (finished r) (left_label next r r.labels.items)
    (either s (length r.state.operands.above == result_count r.place.results) (returned r) Fails (return_with r) tt) (label_with next r r.labels.items)

-- ---- branches

to_with : (r : Run) (index : ℕ) (l : Label) (o : Option Popped) → LeadsWith (store_of r.state) (branched_with r index l o)
to_with r index l None = tt
to_with r index l (Some p) = refl

at_with : (r : Run) (index : ℕ) (o : Option Label) → LeadsWith (store_of r.state) (branched_at r index o)
at_with r index None = tt
at_with r index (Some l) = to_with r index l (popped l.carries r.state.operands)

branch_with : (index : ℕ) (r : Run) → LeadsWith (store_of r.state) (branched index r)
branch_with index r =
    let s = store_of r.state in
    let past : Change = elim (index == own_labels r) [ true ↦ returned r | false ↦ Fails ] in
    either s (nat_lt index (own_labels r)) (branched_at r index (slice_get r.labels.items index)) past
    (at_with r index (slice_get r.labels.items index)) (either s (index == own_labels r) (returned r) Fails (return_with r) tt)

if_with : (index next : ℕ) (r : Run) (o : Option Taken) → LeadsWith (store_of r.state) (branched_if index next r o)
if_with index next r None = tt
if_with index next r (Some n) =
    either (store_of r.state) (n.bits == 0) (Leads (at_place (with_stack r n.left) next)) (branched index (with_stack r n.left)) refl (branch_with index (with_stack r n.left))

by_with : (ls : List ℕ) (last : ℕ) (r : Run) (o : Option Taken) → LeadsWith (store_of r.state) (branched_by ls last r o)
by_with ls last r None = tt
by_with ls last r (Some n) = branch_with (chosen ls last n.bits) (with_stack r n.left)

-- ---- calls

as_with : (x next : ℕ) (r : Run) (f : Func) (o : Option FuncType) → LeadsWith (store_of r.state) (called_as x next r f o)
as_with x next r f None = tt
as_with x next r f (Some ft) = either (store_of r.state) (passes ft.params r.state.operands) (Leads (opened x next f ft r)) Fails refl tt

of_with : (m : Module) (x next : ℕ) (r : Run) (o : Option Func) → LeadsWith (store_of r.state) (called_of m x next r o)
of_with m x next r None = tt
of_with m x next r (Some f) = as_with x next r f (type_of m f)

-- ---- all of them

pub leads_with : (m : Module) (js : List (List Jump)) (next : ℕ) (r : Run) (i : Instr) → LeadsWith (store_of r.state) (controlled m js next r i)
leads_with m js next r (Block t) = block_with t next r (jump_of js r.place.func r.place.at)
leads_with m js next r (Loop t) = refl
leads_with m js next r (If t) = test_with t next r (jump_of js r.place.func r.place.at)
leads_with m js next r Else = over_with r (jump_of js r.place.func r.place.at)
leads_with m js next r End = end_with next r
leads_with m js next r (Br l) = branch_with l r
leads_with m js next r (BrIf l) = if_with l next r (take_word I32 r.state.operands)
leads_with m js next r (BrTable ls l) = by_with ls l r (take_word I32 r.state.operands)
leads_with m js next r Return = return_with r
leads_with m js next r (Call x) = of_with m x next r (slice_get m.funcs x)
leads_with m js next r _ = tt
