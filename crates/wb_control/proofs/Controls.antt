-- Control instructions are steps of the definition of execution.
use Rattle.std.proofs.Common.{◌≡◌, ℕ, suc, List, [], ◌∷◌, ◌++◌, length, drop, refl, sym, ap, subst, ◌∙◌}
use Rattle.std.specs.Prelude.{Bool, true, false, ◌==◌, Option, Some, None, slice_get}
use Rattle.wb_syntax.specs.declared.syntax.NumType.{NumType}
use Rattle.wb_syntax.specs.declared.syntax.NumType.TheVariants.{I32}
use Rattle.wb_syntax.specs.declared.syntax.Instr.{Instr}
use Rattle.wb_syntax.specs.declared.syntax.Instr.TheVariants.{Block, Loop, If, Else, End, Br, BrIf, BrTable, Return, Call}
use Rattle.wb_syntax.specs.declared.syntax.Func.{Func}
use Rattle.wb_syntax.specs.declared.syntax.Module.{Module}
use Rattle.wb_syntax.specs.Syntax.{Code, Nothing, Then, Plain, InBlock, InLoop, InIf, InIfElse, list_of}
use Rattle.wb_syntax.specs.Nesting.{Level, levels}
use Rattle.wb_syntax.specs.Execute.{Word, Label as Opened, Frame, Config, Move, Finishes, NoRule, same_type, pop, placed_at, goes_at, enter, branch, chosen, machine_step}
use Rattle.wb_state.specs.Stack.{Stack, Taken, taken, take_from, take_word, with_above}
use Rattle.wb_plain.specs.Effects.{State}
use Rattle.wb_plain.specs.Follows.{store_of}
use Rattle.wb_code.specs.declared.leading.Jump.{Jump}
use Rattle.wb_code.specs.Jumps.{outside, second, in_second}
use Rattle.wb_control.specs.Piles.{Label, Place}
use Rattle.wb_control.specs.Changes.{Run, Change, Leads, Returns, Fails, result_count, at_place, with_stack, entered, left_label, returned, branched}
use Rattle.wb_control.specs.Calls.{is_there, called}
use Rattle.wb_control.specs.Steps.{jump_of, blocked, passed_over, chosen_by, tested, branched_if, branched_by, controlled}
use Rattle.wb_control.specs.Stands.{AllNested, AllLead, Open, IsInside, Wait, shown, Stands}
use Rattle.wb_control.proofs.Levels.{IsAt, at_func, in_func, IsRead, read, goes_on, is_else, is_block, is_loop, is_if, if_of}
use Rattle.wb_control.proofs.Jumps.{HasJump, has_jump}
use Rattle.wb_control.proofs.Leaving.{IsStep, here, return_step, left_stands, end_step}
use Rattle.wb_control.proofs.Branching.{shaped, branch_step}
use Rattle.wb_control.proofs.Entering.{enter_step}
use Rattle.wb_control.proofs.Calling.{count_there, call_step}

none_some : {A : Type 0} (x : A) → None ≡ Some x → ⊥
none_some x e = cc

-- ---- a number is taken first

pop_if : (m : Module) (r : Run) (b : Bool) (n : ℕ) (left : Stack) (next : Move) (k : Option Taken → Change) → IsStep m r next (k (Some (record { bits = n; left = left }))) → IsStep m r NoRule (k None) → IsStep m r (elim b [ true ↦ next | false ↦ NoRule ]) (k (taken (elim b [ true ↦ Some n | false ↦ None ]) left))
pop_if m r true n left next k some none = some
pop_if m r false n left next k some none = none

pop_step : (m : Module) (r : Run) (t : NumType) (o : Stack) (ws : List Word) (next : ℕ → List Word → Move) (k : Option Taken → Change) → ((n : ℕ) (vs : List Word) → IsStep m r (next n vs) (k (Some (record { bits = n; left = with_above o vs })))) → IsStep m r NoRule (k None) → IsStep m r (pop t ws next) (k (take_from t o ws))
pop_step m r t o [] next k some none = none
pop_step m r t o (w ∷ ws) next k some none = pop_if m r (same_type t w.type) w.bits (with_above o ws) (next w.bits ws) k (some w.bits ws) none

-- a step of a run with other operands
of_other : (m : Module) (r q : Run) (move : Move) (c : Change) → store_of q.state ≡ store_of r.state → IsStep m q move c → IsStep m r move c
of_other m r q move (Leads p) e h = h
of_other m r q move (Returns ws) e h = h ∙ ap (λ s. Finishes ws s) e
of_other m r q move Fails e h = h

-- ---- what is known at an instruction

-- a run at an instruction of a body
record At (m : Module) (r : Run) (c : Config) (f : Func) (i : Instr) : Type 0 where
  code : Code
  labels : List Opened
  own : List Label
  rest : List Label
  tail : List Word
  callers : List Frame
  named : slice_get m.funcs r.place.func ≡ Some f
  split : r.labels.items ≡ own ++ rest
  mark : r.place.labels ≡ length rest
  bottom : r.place.bottom ≡ length tail
  waits : Wait m r.callers.items rest tail r.state.locals.outer callers
  read : IsRead f.body r.place.at i own code labels r.state.operands.below tail
  is : c ≡ shown r code labels callers

at_instr : (m : Module) (r : Run) (c : Config) (f : Func) (i : Instr) → slice_get m.funcs r.place.func ≡ Some f → slice_get f.body r.place.at ≡ Some i → Stands m r c → At m r c f i
at_instr m r c f i named there s = record {
  code = s.code;
  labels = s.labels;
  own = s.own;
  rest = s.rest;
  tail = s.tail;
  callers = s.callers;
  named = named;
  split = s.split;
  mark = s.mark;
  bottom = s.inside.bottom;
  waits = s.waits;
  read = read f.body r.place.at i s.own s.code s.labels r.state.operands.below s.tail there (at_func m r.place f s.own s.code s.labels r.state.operands.below s.tail named s.inside);
  is = s.is;
}

-- the run goes on behind an instruction, in a state with the same words below the floor
pub moved_stands : (m : Module) (r : Run) (f : Func) (s : State) (own rest : List Label) (code : Code) (labels : List Opened) (tail : List Word) (fs : List Frame)
    → slice_get m.funcs r.place.func ≡ Some f → s.operands.below ≡ r.state.operands.below → s.locals.outer ≡ r.state.locals.outer
    → r.labels.items ≡ own ++ rest → r.place.labels ≡ length rest → r.place.bottom ≡ length tail → Wait m r.callers.items rest tail r.state.locals.outer fs
    → IsAt f.body (suc r.place.at) own code labels r.state.operands.below tail
    → (let q : Run = at_place (record r { state = s }) (suc r.place.at) in Stands m q (shown q code labels fs))
moved_stands m r f s own rest code labels tail fs named below outer split mark bottom w i =
    let p : Place = record r.place { at = suc r.place.at } in
    record {
      code = code;
      labels = labels;
      own = own;
      rest = rest;
      tail = tail;
      callers = fs;
      split = split;
      mark = mark;
      inside = subst (λ u. IsInside m p own code labels u tail) (sym below) (in_func m p f own code labels r.state.operands.below tail named bottom i);
      waits = subst (λ u. Wait m r.callers.items rest tail u fs) (sym outer) w;
      is = refl;
    }

-- ---- branches, returns and calls

br_step : (m : Module) (room : ℕ) (r : Run) (c : Config) (f : Func) (l : ℕ) → At m r c f (Br l) → IsStep m r (machine_step m room c) (branched l r)
br_step m room r c f l a =
    let g = goes_on f.body r.place.at (Br l) a.own a.code a.labels r.state.operands.below a.tail (λ ks. refl) a.read in
    let x : Code = Then (Plain (Br l)) g.rest in
    let shape : c ≡ shown r x a.labels a.callers = a.is ∙ ap (λ y. shown r y a.labels a.callers) g.is in
    subst (λ d. IsStep m r (machine_step m room d) (branched l r)) (sym shape)
    (branch_step m r f l a.read.there a.own a.rest a.code a.labels r.state.operands.below a.tail a.callers r.state.operands.above x a.named a.read.opens a.split a.mark a.bottom refl a.waits)

-- a number decides whether it is branched
br_if_by : (m : Module) (r : Run) (f : Func) (l n : ℕ) (vs : List Word) (b : Bool) (ls : List Level) (own rest : List Label) (at k : Code) (labels : List Opened) (tail : List Word) (fs : List Frame) (stack : List Word) (code : Code)
    → slice_get m.funcs r.place.func ≡ Some f → Open f.body ls own at labels r.state.operands.below tail → IsAt f.body (suc r.place.at) own k labels r.state.operands.below tail
    → r.labels.items ≡ own ++ rest → r.place.labels ≡ length rest → r.place.bottom ≡ length tail → Wait m r.callers.items rest tail r.state.locals.outer fs
    → (let c = shaped r labels fs stack code in let q = with_stack r (with_above r.state.operands vs) in
    IsStep m r (elim b [ true ↦ goes_at c vs k | false ↦ branch c l labels vs ]) (elim b [ true ↦ Leads (at_place q (suc r.place.at)) | false ↦ branched l q ]))
br_if_by m r f l n vs true ls own rest at k labels tail fs stack code named o i split mark bottom w =
    let s : State = record r.state { operands = with_above r.state.operands vs } in
    let q : Run = at_place (record r { state = s }) (suc r.place.at) in
    (shown q k labels fs, refl, moved_stands m r f s own rest k labels tail fs named refl refl split mark bottom w i)
br_if_by m r f l n vs false ls own rest at k labels tail fs stack code named o i split mark bottom w =
    let q = with_stack r (with_above r.state.operands vs) in
    of_other m r q (branch (shaped r labels fs stack code) l labels vs) (branched l q) refl
    (branch_step m q f l ls own rest at labels r.state.operands.below tail fs stack code named o split mark bottom refl w)

br_if_step : (m : Module) (room : ℕ) (r : Run) (c : Config) (f : Func) (l : ℕ) → At m r c f (BrIf l) → IsStep m r (machine_step m room c) (branched_if l (suc r.place.at) r (take_word I32 r.state.operands))
br_if_step m room r c f l a =
    let g = goes_on f.body r.place.at (BrIf l) a.own a.code a.labels r.state.operands.below a.tail (λ ks. refl) a.read in
    let x : Code = Then (Plain (BrIf l)) g.rest in
    let ws = r.state.operands.above in
    let d : Config = shown r x a.labels a.callers in
    let shape : c ≡ d = a.is ∙ ap (λ y. shown r y a.labels a.callers) g.is in
    subst (λ e. IsStep m r (machine_step m room e) (branched_if l (suc r.place.at) r (take_word I32 r.state.operands))) (sym shape)
    (pop_step m r I32 r.state.operands ws (λ n vs. elim (n == 0) [ true ↦ goes_at d vs g.rest | false ↦ branch d l a.labels vs ]) (branched_if l (suc r.place.at) r)
    (λ n vs. br_if_by m r f l n vs (n == 0) a.read.there a.own a.rest a.code g.rest a.labels a.tail a.callers ws x a.named a.read.opens g.next a.split a.mark a.bottom a.waits) refl)

br_table_step : (m : Module) (room : ℕ) (r : Run) (c : Config) (f : Func) (ls : List ℕ) (l : ℕ) → At m r c f (BrTable ls l) → IsStep m r (machine_step m room c) (branched_by ls l r (take_word I32 r.state.operands))
br_table_step m room r c f ls l a =
    let g = goes_on f.body r.place.at (BrTable ls l) a.own a.code a.labels r.state.operands.below a.tail (λ ks. refl) a.read in
    let x : Code = Then (Plain (BrTable ls l)) g.rest in
    let ws = r.state.operands.above in
    let d : Config = shown r x a.labels a.callers in
    let shape : c ≡ d = a.is ∙ ap (λ y. shown r y a.labels a.callers) g.is in
    subst (λ e. IsStep m r (machine_step m room e) (branched_by ls l r (take_word I32 r.state.operands))) (sym shape)
    (pop_step m r I32 r.state.operands ws (λ n vs. branch d (chosen ls l n) a.labels vs) (branched_by ls l r)
    (λ n vs.
    let q = with_stack r (with_above r.state.operands vs) in
    of_other m r q (branch d (chosen ls l n) a.labels vs) (branched (chosen ls l n) q) refl
    (branch_step m q f (chosen ls l n) a.read.there a.own a.rest a.code a.labels r.state.operands.below a.tail a.callers ws x a.named a.read.opens a.split a.mark a.bottom refl a.waits)) refl)

ret_step : (m : Module) (room : ℕ) (r : Run) (c : Config) (f : Func) → At m r c f Return → IsStep m r (machine_step m room c) (returned r)
ret_step m room r c f a =
    let g = goes_on f.body r.place.at Return a.own a.code a.labels r.state.operands.below a.tail (λ ks. refl) a.read in
    let x : Code = Then (Plain Return) g.rest in
    let d : Config = shown r x a.labels a.callers in
    let shape : c ≡ d = a.is ∙ ap (λ y. shown r y a.labels a.callers) g.is in
    let h = here m r a.own a.rest f.body a.read.there a.code a.labels r.state.operands.below a.tail a.callers a.split a.mark a.bottom refl a.read.opens a.waits in
    subst (λ e. IsStep m r (machine_step m room e) (returned r)) (sym shape)
    (return_step m r d a.own a.rest r.state.operands.below a.tail a.callers h refl refl refl)

call_instr : (m : Module) (room : ℕ) (r : Run) (c : Config) (f : Func) (x : ℕ) → AllNested m → At m r c f (Call x) → IsStep m r (machine_step m room c) (called m x (suc r.place.at) r)
call_instr m room r c f x nests a =
    let g = goes_on f.body r.place.at (Call x) a.own a.code a.labels r.state.operands.below a.tail (λ ks. refl) a.read in
    let y : Code = Then (Plain (Call x)) g.rest in
    let d : Config = shown r y a.labels a.callers in
    let shape : c ≡ d = a.is ∙ ap (λ z. shown r z a.labels a.callers) g.is in
    subst (λ e. IsStep m r (machine_step m room e) (called m x (suc r.place.at) r)) (sym shape)
    (call_step m r x (suc r.place.at) f g.rest a.own a.rest a.labels a.tail a.callers r.state.operands.above y nests a.named g.next a.split a.mark a.bottom a.waits)

-- ---- constructs

block_by : (m : Module) (room : ℕ) (r : Run) (c : Config) (f : Func) (t : Option NumType) (o : Option Jump) → HasJump f.body r.place.at (Block t) o → At m r c f (Block t) → IsStep m r (machine_step m room c) (blocked t (suc r.place.at) r o)
block_by m room r c f t o j a =
    let b = is_block f.body r.place.at t a.own a.code a.labels r.state.operands.below a.tail a.read in
    let x : Code = Then (InBlock t b.0) b.1.first.code in
    let d : Config = shown r x a.labels a.callers in
    let shape : c ≡ d = a.is ∙ ap (λ y. shown r y a.labels a.callers) b.1.is in
    let leads : levels (drop j.jump.past f.body) ≡ Some (b.1.first ∷ b.1.others) = j.leads ∙ ap outside b.1.after in
    let s = enter_step m r f (is_there t) (length (list_of t)) j.jump.past (suc r.place.at) b.1.first.code (record { code = b.0; other = None }) b.1.first b.1.others a.own a.rest a.labels a.tail a.callers r.state.operands.above x
    (count_there t) a.named b.1.after leads b.1.opens a.split a.mark a.bottom a.waits in
    subst (λ v. IsStep m r (machine_step m room c) (blocked t (suc r.place.at) r v)) (sym j.is)
    (subst (λ e. IsStep m r (machine_step m room e) (blocked t (suc r.place.at) r (Some j.jump))) (sym shape) s)

loop_by : (m : Module) (room : ℕ) (r : Run) (c : Config) (f : Func) (t : Option NumType) → At m r c f (Loop t) → IsStep m r (machine_step m room c) (Leads (entered false r.place.at (suc r.place.at) r))
loop_by m room r c f t a =
    let b = is_loop f.body r.place.at t a.own a.code a.labels r.state.operands.below a.tail a.read in
    let x : Code = Then (InLoop t b.0) b.1.first.code in
    let d : Config = shown r x a.labels a.callers in
    let shape : c ≡ d = a.is ∙ ap (λ y. shown r y a.labels a.callers) b.1.is in
    let s = enter_step m r f false 0 r.place.at (suc r.place.at) x (record { code = b.0; other = None }) b.1.first b.1.others a.own a.rest a.labels a.tail a.callers r.state.operands.above x
    refl a.named b.1.after b.1.here b.1.opens a.split a.mark a.bottom a.waits in
    subst (λ e. IsStep m r (machine_step m room e) (Leads (entered false r.place.at (suc r.place.at) r))) (sym shape) s

-- the first or the second branch of an if
if_by : (m : Module) (r : Run) (f : Func) (t : Option NumType) (j : Jump) (vs : List Word) (z : Bool) (inner first : Level) (others : List Level) (own rest : List Label) (labels : List Opened) (tail : List Word) (fs : List Frame) (stack : List Word) (code : Code)
    → slice_get m.funcs r.place.func ≡ Some f → levels (drop (suc r.place.at) f.body) ≡ Some (inner ∷ first ∷ others)
    → levels (drop j.past f.body) ≡ Some (first ∷ others) → levels (drop j.other f.body) ≡ Some (second inner ∷ first ∷ others)
    → Open f.body (first ∷ others) own first.code labels r.state.operands.below tail
    → r.labels.items ≡ own ++ rest → r.place.labels ≡ length rest → r.place.bottom ≡ length tail → Wait m r.callers.items rest tail r.state.locals.outer fs
    → (let c = shaped r labels fs stack code in
    IsStep m r (elim z [ true ↦ enter c first.code (length (list_of t)) (second inner).code first.code vs | false ↦ enter c first.code (length (list_of t)) inner.code first.code vs ])
    (Leads (entered (is_there t) j.past (elim z [ true ↦ j.other | false ↦ suc r.place.at ]) (with_stack r (with_above r.state.operands vs)))))
if_by m r f t j vs true inner first others own rest labels tail fs stack code named after past other opens split mark bottom w =
    enter_step m (with_stack r (with_above r.state.operands vs)) f (is_there t) (length (list_of t)) j.past j.other first.code (second inner) first others own rest labels tail fs stack code (count_there t) named other past opens split mark bottom w
if_by m r f t j vs false inner first others own rest labels tail fs stack code named after past other opens split mark bottom w =
    enter_step m (with_stack r (with_above r.state.operands vs)) f (is_there t) (length (list_of t)) j.past (suc r.place.at) first.code inner first others own rest labels tail fs stack code (count_there t) named after past opens split mark bottom w

-- an if with or without a second branch
if_with : (m : Module) (room : ℕ) (r : Run) (f : Func) (t : Option NumType) (j : Jump) (c : Code) (o : Option Code) (first : Level) (others : List Level) (own rest : List Label) (labels : List Opened) (tail : List Word) (fs : List Frame)
    → slice_get m.funcs r.place.func ≡ Some f → levels (drop (suc r.place.at) f.body) ≡ Some (record { code = c; other = o } ∷ first ∷ others)
    → levels (drop j.past f.body) ≡ Some (first ∷ others) → levels (drop j.other f.body) ≡ Some (second (record { code = c; other = o }) ∷ first ∷ others)
    → Open f.body (first ∷ others) own first.code labels r.state.operands.below tail
    → r.labels.items ≡ own ++ rest → r.place.labels ≡ length rest → r.place.bottom ≡ length tail → Wait m r.callers.items rest tail r.state.locals.outer fs
    → IsStep m r (machine_step m room (shown r (Then (if_of t c o) first.code) labels fs)) (chosen_by t (suc r.place.at) r j (take_word I32 r.state.operands))
if_with m room r f t j c None first others own rest labels tail fs named after past other opens split mark bottom w =
    let inner : Level = record { code = c; other = None } in
    let x : Code = Then (InIf t c) first.code in
    let ws = r.state.operands.above in
    let d : Config = shown r x labels fs in
    pop_step m r I32 r.state.operands ws (λ n vs. elim (n == 0) [ true ↦ enter d first.code (length (list_of t)) Nothing first.code vs | false ↦ enter d first.code (length (list_of t)) c first.code vs ]) (chosen_by t (suc r.place.at) r j)
    (λ n vs. if_by m r f t j vs (n == 0) inner first others own rest labels tail fs ws x named after past other opens split mark bottom w) refl
if_with m room r f t j c (Some e) first others own rest labels tail fs named after past other opens split mark bottom w =
    let inner : Level = record { code = c; other = Some e } in
    let x : Code = Then (InIfElse t c e) first.code in
    let ws = r.state.operands.above in
    let d : Config = shown r x labels fs in
    pop_step m r I32 r.state.operands ws (λ n vs. elim (n == 0) [ true ↦ enter d first.code (length (list_of t)) e first.code vs | false ↦ enter d first.code (length (list_of t)) c first.code vs ]) (chosen_by t (suc r.place.at) r j)
    (λ n vs. if_by m r f t j vs (n == 0) inner first others own rest labels tail fs ws x named after past other opens split mark bottom w) refl

if_step : (m : Module) (room : ℕ) (r : Run) (c : Config) (f : Func) (t : Option NumType) (o : Option Jump) → HasJump f.body r.place.at (If t) o → At m r c f (If t) → IsStep m r (machine_step m room c) (tested t (suc r.place.at) r o)
if_step m room r c f t o j a =
    let b = is_if f.body r.place.at t a.own a.code a.labels r.state.operands.below a.tail a.read in
    let shape : c ≡ shown r (Then (if_of t b.0.code b.0.other) b.1.first.code) a.labels a.callers = a.is ∙ ap (λ y. shown r y a.labels a.callers) b.1.is in
    let past : levels (drop j.jump.past f.body) ≡ Some (b.1.first ∷ b.1.others) = j.leads.0 ∙ ap outside b.1.after in
    let other : levels (drop j.jump.other f.body) ≡ Some (second b.0 ∷ b.1.first ∷ b.1.others) = j.leads.1 ∙ ap in_second b.1.after in
    subst (λ v. IsStep m r (machine_step m room c) (tested t (suc r.place.at) r v)) (sym j.is)
    (subst (λ e. IsStep m r (machine_step m room e) (tested t (suc r.place.at) r (Some j.jump))) (sym shape)
    (if_with m room r f t j.jump b.0.code b.0.other b.1.first b.1.others a.own a.rest a.labels a.tail a.callers a.named b.1.after past other b.1.opens a.split a.mark a.bottom a.waits))

-- the first branch of an if is left: it has a label
else_with : (m : Module) (room : ℕ) (r : Run) (f : Func) (past : ℕ) (d : Code) (outside : List Level) (own rest : List Label) (labels : List Opened) (tail : List Word) (fs : List Frame)
    → slice_get m.funcs r.place.func ≡ Some f → levels (drop past f.body) ≡ Some outside
    → Open f.body (record { code = Nothing; other = Some d } ∷ outside) own Nothing labels r.state.operands.below tail
    → r.labels.items ≡ own ++ rest → r.place.labels ≡ length rest → r.place.bottom ≡ length tail → Wait m r.callers.items rest tail r.state.locals.outer fs
    → IsStep m r (machine_step m room (shown r Nothing labels fs)) (left_label past r (own ++ rest))
else_with m room r f past d (k ∷ ls) (b ∷ rs) rest (o ∷ os) tail fs named there opens split mark bottom w =
    let e : Config = record {
      frame = placed_at (record { locals = r.state.locals.current; results = result_count r.place.results; labels = os; stack = []; code = Nothing }) (r.state.operands.above ++ o.below) o.after;
      callers = fs;
      store = store_of r.state;
    } in
    (e, refl, left_stands m r f past b rs rest k ls o os r.state.operands.below opens.1.0 tail fs named there split mark bottom refl opens.1.1 opens.1.2 w)
else_with m room r f past d [] [] rest [] tail fs named there opens split mark bottom w = absurd (none_some d (sym opens.1))
else_with m room r f past d [] [] rest (o ∷ os) tail fs named there opens split mark bottom w = absurd opens
else_with m room r f past d [] (b ∷ rs) rest os tail fs named there opens split mark bottom w = absurd opens
else_with m room r f past d (k ∷ ls) [] rest os tail fs named there opens split mark bottom w = absurd opens
else_with m room r f past d (k ∷ ls) (b ∷ rs) rest [] tail fs named there opens split mark bottom w = absurd opens

else_step : (m : Module) (room : ℕ) (r : Run) (c : Config) (f : Func) (o : Option Jump) → HasJump f.body r.place.at Else o → At m r c f Else → IsStep m r (machine_step m room c) (passed_over r o)
else_step m room r c f o j a =
    let e = is_else f.body r.place.at a.own a.code a.labels r.state.operands.below a.tail a.read in
    let shape : c ≡ shown r Nothing a.labels a.callers = a.is ∙ ap (λ y. shown r y a.labels a.callers) e.none in
    let past : levels (drop j.jump.past f.body) ≡ Some e.outside = j.leads ∙ ap outside e.after in
    let s = else_with m room r f j.jump.past e.second.code e.outside a.own a.rest a.labels a.tail a.callers a.named past e.opens a.split a.mark a.bottom a.waits in
    subst (λ v. IsStep m r (machine_step m room c) (passed_over r v)) (sym j.is)
    (subst (λ d. IsStep m r (machine_step m room d) (left_label j.jump.past r r.labels.items)) (sym shape)
    (subst (λ ls. IsStep m r (machine_step m room (shown r Nothing a.labels a.callers)) (left_label j.jump.past r ls)) (sym a.split) s))

-- ---- all of them

-- a control instruction
abbrev pub IsControl : Instr → Type 0
IsControl (Block t) = Unit {0}
IsControl (Loop t) = Unit {0}
IsControl (If t) = Unit {0}
IsControl Else = Unit {0}
IsControl End = Unit {0}
IsControl (Br l) = Unit {0}
IsControl (BrIf l) = Unit {0}
IsControl (BrTable ls l) = Unit {0}
IsControl Return = Unit {0}
IsControl (Call x) = Unit {0}
IsControl _ = ⊥

-- a control instruction is a step of the definition
pub control_step : (m : Module) (js : List (List Jump)) (room : ℕ) (r : Run) (c : Config) (f : Func) (i : Instr) → AllNested m → AllLead m js → slice_get m.funcs r.place.func ≡ Some f → slice_get f.body r.place.at ≡ Some i → IsControl i → Stands m r c → IsStep m r (machine_step m room c) (controlled m js (suc r.place.at) r i)
control_step m js room r c f (Block t) nests leads named there h s = block_by m room r c f t (jump_of js r.place.func r.place.at) (has_jump m js r.place.func f r.place.at (Block t) nests leads named there) (at_instr m r c f (Block t) named there s)
control_step m js room r c f (Loop t) nests leads named there h s = loop_by m room r c f t (at_instr m r c f (Loop t) named there s)
control_step m js room r c f (If t) nests leads named there h s = if_step m room r c f t (jump_of js r.place.func r.place.at) (has_jump m js r.place.func f r.place.at (If t) nests leads named there) (at_instr m r c f (If t) named there s)
control_step m js room r c f Else nests leads named there h s = else_step m room r c f (jump_of js r.place.func r.place.at) (has_jump m js r.place.func f r.place.at Else nests leads named there) (at_instr m r c f Else named there s)
control_step m js room r c f End nests leads named there h s = end_step m room r c f named there s
control_step m js room r c f (Br l) nests leads named there h s = br_step m room r c f l (at_instr m r c f (Br l) named there s)
control_step m js room r c f (BrIf l) nests leads named there h s = br_if_step m room r c f l (at_instr m r c f (BrIf l) named there s)
control_step m js room r c f (BrTable ls l) nests leads named there h s = br_table_step m room r c f ls l (at_instr m r c f (BrTable ls l) named there s)
control_step m js room r c f Return nests leads named there h s = ret_step m room r c f (at_instr m r c f Return named there s)
control_step m js room r c f (Call x) nests leads named there h s = call_instr m room r c f x nests (at_instr m r c f (Call x) named there s)
control_step m js room r c f _ nests leads named there h s = absurd h
