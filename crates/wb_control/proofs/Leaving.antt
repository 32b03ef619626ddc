-- The ends of functions and branches are steps of the definition of execution.
use Rattle.std.proofs.Common.{◌≡◌, ℕ, suc, ◌+◌, List, [], ◌∷◌, ◌++◌, length, take, drop, arith, refl, sym, ap, subst, ◌∙◌, append_assoc, length-append}
use Rattle.std.specs.Prelude.{Bool, true, false, ◌==◌, nat_le, min, Some, None, slice_get}
use Rattle.std.proofs.lemmas.Bool.Decides.{nat_tests}
use Rattle.wb_syntax.specs.declared.syntax.Instr.{Instr}
use Rattle.wb_syntax.specs.declared.syntax.Instr.TheVariants.{End}
use Rattle.wb_syntax.specs.declared.syntax.Module.{Module}
use Rattle.wb_syntax.specs.Syntax.{Code, Nothing}
use Rattle.wb_syntax.specs.declared.syntax.Func.{Func}
use Rattle.wb_syntax.specs.Nesting.{Level, levels}
use Rattle.wb_syntax.specs.Execute.{Word, Label as Opened, Frame, Config, Move, Goes, Finishes, NoRule, when, placed_at, leave_frame, return, at_end, machine_step}
use Rattle.wb_state.specs.Stack.{Stack, with_above, height_of, lowest}
use Rattle.wb_state.specs.Frames.{Frames, left}
use Rattle.wb_plain.specs.Follows.{store_of}
use Rattle.wb_control.specs.Piles.{Label, Place, Caller}
use Rattle.wb_control.specs.Changes.{Run, Change, Leads, Returns, Fails, Popped, popped, result_count, more, cut_to, with_results, own_labels, at_place, with_stack, with_labels, back_in, left_frame, left_with, returned, finished, left_label, ended}
use Rattle.wb_control.specs.Stands.{LabelStands, Open, IsInside, Wait, shown, Stands}
use Rattle.wb_control.proofs.Levels.{IsAt, at_func, in_func, read, is_end}
use Rattle.wb_control.proofs.Floors.{cut_at, lowest_last, locals_left}

-- a step of the definition is this change
abbrev pub IsStep : Module → Run → Move → Change → Type 0
IsStep m r move (Leads q) = (d : Config) × (move ≡ Goes d) × Stands m q d
IsStep m r move (Returns ws) = move ≡ Finishes ws (store_of r.state)
IsStep m r move Fails = move ≡ NoRule

-- the words of the frames around are the last below the floor
pub open_tail : (b : List Instr) (ls : List Level) (own : List Label) (code : Code) (labels : List Opened) (under tail : List Word) → Open b ls own code labels under tail → (zs : List Word) × (under ≡ zs ++ tail)
open_tail b (l ∷ []) [] code [] under tail h = ([], h.2)
open_tail b (l ∷ k ∷ ls) (a ∷ rs) code (o ∷ os) under tail h =
    let t = open_tail b (k ∷ ls) rs o.after os h.1.0 tail h.1.2 in
    (o.below ++ t.0, h.1.1.below ∙ ap (λ xs. o.below ++ xs) t.1 ∙ sym (append_assoc o.below t.0 tail))
open_tail b [] own code labels under tail h = absurd h
open_tail b (l ∷ []) [] code (o ∷ os) under tail h = absurd h
open_tail b (l ∷ []) (a ∷ rs) code labels under tail h = absurd h
open_tail b (l ∷ k ∷ ls) [] code labels under tail h = absurd h
open_tail b (l ∷ k ∷ ls) (a ∷ rs) code [] under tail h = absurd h

-- there are as many labels
pub open_count : (b : List Instr) (ls : List Level) (own : List Label) (code : Code) (labels : List Opened) (under tail : List Word) → Open b ls own code labels under tail → length labels ≡ length own
open_count b (l ∷ []) [] code [] under tail h = refl
open_count b (l ∷ k ∷ ls) (a ∷ rs) code (o ∷ os) under tail h = ap suc (open_count b (k ∷ ls) rs o.after os h.1.0 tail h.1.2)
open_count b [] own code labels under tail h = absurd h
open_count b (l ∷ []) [] code (o ∷ os) under tail h = absurd h
open_count b (l ∷ []) (a ∷ rs) code labels under tail h = absurd h
open_count b (l ∷ k ∷ ls) [] code labels under tail h = absurd h
open_count b (l ∷ k ∷ ls) (a ∷ rs) code [] under tail h = absurd h

-- how many labels the frame that is run has
pub count_own : (r : Run) (own rest : List Label) → r.labels.items ≡ own ++ rest → r.place.labels ≡ length rest → own_labels r ≡ length own
count_own r own rest e l = let a : length r.labels.items ≡ length own + length rest = ap length e ∙ length-append own rest in omega (arith, a, l)

-- ---- the ends of functions

-- back in a frame that waits, with results on its words
back_stands : (m : Module) (r : Run) (k : Caller) (ks : List Caller) (f : Frame) (fs : List Frame) (p : Popped) (own rest : List Label) (tail : List Word) (gone : List Word)
    → r.labels.items ≡ own ++ rest → r.place.labels ≡ length rest → r.place.bottom ≡ length tail → p.left.below ≡ gone ++ tail
    → Wait m (k ∷ ks) rest tail r.state.locals.outer (f ∷ fs)
    → Stands m (with_results p.words (back_in k ks p.left r)) (record { frame = placed_at f (p.words ++ f.stack) f.code; callers = fs; store = store_of r.state })
back_stands m r k ks f fs p own rest tail gone split mark bottom words w =
    let own' = w.0 in
    let rest' = w.1 in
    let beneath = w.2 in
    let tail' = w.3 in
    let before = w.4 in
    let h = w.5 in
    let whole : p.left.above ++ p.left.below ≡ (p.left.above ++ gone) ++ (f.stack ++ beneath) =
    ap (λ xs. p.left.above ++ xs) (words ∙ ap (λ xs. gone ++ xs) h.words) ∙ sym (append_assoc p.left.above gone (f.stack ++ beneath)) in
    let c : cut_to r.place.bottom k.floor p.left ≡ record p.left { above = f.stack; below = beneath } =
    cut_at p.left (p.left.above ++ gone) f.stack beneath r.place.bottom k.floor whole (bottom ∙ ap length h.words) h.floor in
    let l = locals_left r.state.locals before f.locals k.base h.locals h.base in
    let q : lowest r.place.labels r.labels.items ≡ own' ++ rest' = ap (lowest r.place.labels) split ∙ lowest_last own rest r.place.labels mark ∙ h.labels in
    let current : (left (min k.base (length r.state.locals.outer)) r.state.locals).current ≡ f.locals = ap (λ (g : Frames). g.current) l in
    let outer : (left (min k.base (length r.state.locals.outer)) r.state.locals).outer ≡ before = ap (λ (g : Frames). g.outer) l in
    let above : (cut_to r.place.bottom k.floor p.left).above ≡ f.stack = ap (λ (s : Stack). s.above) c in
    let below : (cut_to r.place.bottom k.floor p.left).below ≡ beneath = ap (λ (s : Stack). s.below) c in
    let F : List Word → ℕ → List Word → Config = λ ls n ws. record {
      frame = placed_at (record { locals = ls; results = n; labels = f.labels; stack = []; code = Nothing }) (p.words ++ ws) f.code;
      callers = fs;
      store = store_of r.state;
    } in
    record {
      code = f.code;
      labels = f.labels;
      own = own';
      rest = rest';
      tail = tail';
      callers = fs;
      split = q;
      mark = h.mark;
      inside = subst (λ u. IsInside m k.place own' f.code f.labels u tail') (sym below) h.inside;
      waits = subst (λ u. Wait m ks rest' tail' u fs) (sym outer) w.6;
      is = λ i. F (sym current i) (h.results i) (sym above i);
    }

-- the frame that is run is left with words that were taken
left_step : (m : Module) (r : Run) (c : Config) (p : Popped) (gone : List Word) (own rest : List Label) (tail : List Word) (fs : List Frame)
    → r.labels.items ≡ own ++ rest → r.place.labels ≡ length rest → r.place.bottom ≡ length tail → p.left.below ≡ gone ++ tail
    → c.store ≡ store_of r.state → (ks : List Caller) → ks ≡ r.callers.items → Wait m ks rest tail r.state.locals.outer fs
    → IsStep m r (leave_frame c p.words fs) (left_frame r ks p)
left_step m r c p gone own rest tail [] split mark bottom words store [] e w = ap (Finishes p.words) store
left_step m r c p gone own rest tail (f ∷ fs) split mark bottom words store (k ∷ ks) e w =
    let d : Config = record { frame = placed_at f (p.words ++ f.stack) f.code; callers = fs; store = store_of r.state } in
    (d, ap (λ s. Goes (record c { frame = placed_at f (p.words ++ f.stack) f.code; callers = fs; store = s })) store, back_stands m r k ks f fs p own rest tail gone split mark bottom words w)
left_step m r c p gone own rest tail (f ∷ fs) split mark bottom words store [] e w = absurd w
left_step m r c p gone own rest tail [] split mark bottom words store (k ∷ ks) e w = absurd w

-- what is known of the frame that is run
pub record IsHere (m : Module) (r : Run) (own rest : List Label) (under tail : List Word) (fs : List Frame) : Type 0 where
  pub split : r.labels.items ≡ own ++ rest
  pub mark : r.place.labels ≡ length rest
  pub bottom : r.place.bottom ≡ length tail
  pub below : r.state.operands.below ≡ under
  pub gone : List Word
  pub words : under ≡ gone ++ tail
  pub waits : Wait m r.callers.items rest tail r.state.locals.outer fs

-- the results are there, or they are not
returned_with : (m : Module) (r : Run) (c : Config) (own rest : List Label) (under tail : List Word) (fs : List Frame) → IsHere m r own rest under tail fs → c.store ≡ store_of r.state → c.callers ≡ fs → (results : Bool) (ws : List Word) → ws ≡ r.state.operands.above
    → IsStep m r (when (nat_le (result_count results) (length ws)) (leave_frame c (take (result_count results) ws) c.callers)) (left_with r (popped results (with_above r.state.operands ws)))
returned_with m r c own rest under tail fs h store callers false ws e =
    let p : Popped = record { words = []; left = with_above r.state.operands ws } in
    let t : nat_le 0 (length ws) ≡ true = grind (arith, nat_tests) in
    subst (λ b. IsStep m r (when b (leave_frame c [] c.callers)) (left_frame r r.callers.items p)) (sym t)
    (subst (λ gs. IsStep m r (leave_frame c [] gs) (left_frame r r.callers.items p)) (sym callers)
    (left_step m r c p h.gone own rest tail fs h.split h.mark h.bottom (h.below ∙ h.words) store r.callers.items refl h.waits))
returned_with m r c own rest under tail fs h store callers true [] e = refl
returned_with m r c own rest under tail fs h store callers true (w ∷ ws) e =
    let p : Popped = record { words = w ∷ []; left = with_above r.state.operands ws } in
    let t : nat_le 1 (length (w ∷ ws)) ≡ true = grind (arith, nat_tests) in
    subst (λ b. IsStep m r (when b (leave_frame c (w ∷ []) c.callers)) (left_frame r r.callers.items p)) (sym t)
    (subst (λ gs. IsStep m r (leave_frame c (w ∷ []) gs) (left_frame r r.callers.items p)) (sym callers)
    (left_step m r c p h.gone own rest tail fs h.split h.mark h.bottom (h.below ∙ h.words) store r.callers.items refl h.waits))

-- a return is a step of the definition
pub return_step : (m : Module) (r : Run) (c : Config) (own rest : List Label) (under tail : List Word) (fs : List Frame) → IsHere m r own rest under tail fs → c.store ≡ store_of r.state → c.callers ≡ fs → c.frame.results ≡ result_count r.place.results → IsStep m r (return c r.state.operands.above) (returned r)
return_step m r c own rest under tail fs h store callers results =
    subst (λ n. IsStep m r (when (nat_le n (length r.state.operands.above)) (leave_frame c (take n r.state.operands.above) c.callers)) (returned r)) (sym results)
    (returned_with m r c own rest under tail fs h store callers r.place.results r.state.operands.above refl)

-- exactly the results are there
finished_with : (m : Module) (r : Run) (c : Config) (own rest : List Label) (under tail : List Word) (fs : List Frame) → IsHere m r own rest under tail fs → c.store ≡ store_of r.state → c.callers ≡ fs → (results : Bool) (ws : List Word) → ws ≡ r.state.operands.above
    → IsStep m r (when (length ws == result_count results) (leave_frame c ws c.callers)) (elim (length ws == result_count results) [ true ↦ left_with r (popped results (with_above r.state.operands ws)) | false ↦ Fails ])
finished_with m r c own rest under tail fs h store callers false [] e = returned_with m r c own rest under tail fs h store callers false [] e
finished_with m r c own rest under tail fs h store callers false (w ∷ ws) e =
    let t : (length (w ∷ ws) == 0) ≡ false = grind (arith, nat_tests) in
    subst (λ b. IsStep m r (when b (leave_frame c (w ∷ ws) c.callers)) (elim b [ true ↦ left_with r (popped false (with_above r.state.operands (w ∷ ws))) | false ↦ Fails ])) (sym t) refl
finished_with m r c own rest under tail fs h store callers true [] e = refl
finished_with m r c own rest under tail fs h store callers true (w ∷ []) e = returned_with m r c own rest under tail fs h store callers true (w ∷ []) e
finished_with m r c own rest under tail fs h store callers true (w ∷ v ∷ ws) e =
    let t : (length (w ∷ v ∷ ws) == 1) ≡ false = grind (arith, nat_tests) in
    subst (λ b. IsStep m r (when b (leave_frame c (w ∷ v ∷ ws) c.callers)) (elim b [ true ↦ left_with r (popped true (with_above r.state.operands (w ∷ v ∷ ws))) | false ↦ Fails ])) (sym t) refl

finish_step : (m : Module) (r : Run) (c : Config) (own rest : List Label) (under tail : List Word) (fs : List Frame) → IsHere m r own rest under tail fs → c.store ≡ store_of r.state → c.callers ≡ fs → c.frame.results ≡ result_count r.place.results → IsStep m r (when (length r.state.operands.above == c.frame.results) (leave_frame c r.state.operands.above c.callers)) (finished r)
finish_step m r c own rest under tail fs h store callers results =
    subst (λ n. IsStep m r (when (length r.state.operands.above == n) (leave_frame c r.state.operands.above c.callers)) (finished r)) (sym results)
    (finished_with m r c own rest under tail fs h store callers r.place.results r.state.operands.above refl)

-- ---- the ends of constructs

-- what is known of a run that stands for a configuration
pub here : (m : Module) (r : Run) (own rest : List Label) (b : List Instr) (ls : List Level) (code : Code) (labels : List Opened) (under tail : List Word) (fs : List Frame)
    → r.labels.items ≡ own ++ rest → r.place.labels ≡ length rest → r.place.bottom ≡ length tail → r.state.operands.below ≡ under → Open b ls own code labels under tail → Wait m r.callers.items rest tail r.state.locals.outer fs
    → IsHere m r own rest under tail fs
here m r own rest b ls code labels under tail fs split mark bottom below o w =
    let t = open_tail b ls own code labels under tail o in
    record { split = split; mark = mark; bottom = bottom; below = below; gone = t.0; words = t.1; waits = w }

-- a construct is left at its end
pub left_stands : (m : Module) (r : Run) (f : Func) (next : ℕ) (a : Label) (rs rest : List Label) (k : Level) (ls : List Level) (o : Opened) (os : List Opened) (under beneath tail : List Word) (fs : List Frame)
    → slice_get m.funcs r.place.func ≡ Some f → levels (drop next f.body) ≡ Some (k ∷ ls)
    → r.labels.items ≡ a ∷ rs ++ rest → r.place.labels ≡ length rest → r.place.bottom ≡ length tail → r.state.operands.below ≡ under
    → LabelStands f.body a o k ls under beneath → Open f.body (k ∷ ls) rs o.after os beneath tail → Wait m r.callers.items rest tail r.state.locals.outer fs
    → Stands m (at_place (with_labels (with_stack r (more 1 (cut_to (height_of r.state.operands) a.floor r.state.operands))) (rs ++ rest)) next)
    (record { frame = placed_at (record { locals = r.state.locals.current; results = result_count r.place.results; labels = os; stack = []; code = Nothing }) (r.state.operands.above ++ o.below) o.after; callers = fs; store = store_of r.state })
left_stands m r f next a rs rest k ls o os under beneath tail fs named behind split mark bottom below l opens waits =
    let s = r.state.operands in
    let whole : s.above ++ s.below ≡ [] ++ ((s.above ++ o.below) ++ beneath) = ap (λ xs. s.above ++ xs) (below ∙ l.below) ∙ sym (append_assoc s.above o.below beneath) in
    let h : height_of s ≡ length ((s.above ++ o.below) ++ beneath) = sym (length-append s.above s.below) ∙ ap length whole in
    let c = cut_at s [] (s.above ++ o.below) beneath (height_of s) a.floor whole h l.floor in
    let above : (cut_to (height_of s) a.floor s).above ≡ s.above ++ o.below = ap (λ (x : Stack). x.above) c in
    let low : (cut_to (height_of s) a.floor s).below ≡ beneath = ap (λ (x : Stack). x.below) c in
    let F : List Word → Config = λ ws. record {
      frame = placed_at (record { locals = r.state.locals.current; results = result_count r.place.results; labels = os; stack = []; code = Nothing }) ws o.after;
      callers = fs;
      store = store_of r.state;
    } in
    let i : IsAt f.body next rs o.after os beneath tail = record { there = k ∷ ls; here = behind; opens = opens } in
    let p : Place = record r.place { at = next } in
    record {
      code = o.after;
      labels = os;
      own = rs;
      rest = rest;
      tail = tail;
      callers = fs;
      split = refl;
      mark = mark;
      inside = subst (λ u. IsInside m p rs o.after os u tail) (sym low) (in_func m p f rs o.after os beneath tail named bottom i);
      waits = waits;
      is = ap F (sym above);
    }

-- at an end, with labels open or with none
end_with : (m : Module) (r : Run) (f : Func) (next : ℕ) (own rest : List Label) (outside : List Level) (labels : List Opened) (under tail : List Word) (fs : List Frame)
    → slice_get m.funcs r.place.func ≡ Some f → levels (drop next f.body) ≡ Some outside
    → r.labels.items ≡ own ++ rest → r.place.labels ≡ length rest → r.place.bottom ≡ length tail → r.state.operands.below ≡ under
    → Open f.body (record { code = Nothing; other = None } ∷ outside) own Nothing labels under tail → Wait m r.callers.items rest tail r.state.locals.outer fs
    → IsStep m r (at_end (shown r Nothing labels fs) labels) (elim (length own == 0) [ true ↦ finished r | false ↦ left_label next r (own ++ rest) ])
end_with m r f next [] rest [] [] under tail fs named behind split mark bottom below o w =
    finish_step m r (shown r Nothing [] fs) [] rest under tail fs (here m r [] rest f.body (record { code = Nothing; other = None } ∷ []) Nothing [] under tail fs split mark bottom below o w) refl refl refl
end_with m r f next (a ∷ rs) rest (k ∷ ls) (x ∷ os) under tail fs named behind split mark bottom below o w =
    let z : (length (a ∷ rs) == 0) ≡ false = grind (arith, nat_tests) in
    let d : Config = record {
      frame = placed_at (record { locals = r.state.locals.current; results = result_count r.place.results; labels = os; stack = []; code = Nothing }) (r.state.operands.above ++ x.below) x.after;
      callers = fs;
      store = store_of r.state;
    } in
    let s : IsStep m r (at_end (shown r Nothing (x ∷ os) fs) (x ∷ os)) (left_label next r (a ∷ rs ++ rest)) =
    (d, refl, left_stands m r f next a rs rest k ls x os under o.1.0 tail fs named behind split mark bottom below o.1.1 o.1.2 w) in
    subst (λ b. IsStep m r (at_end (shown r Nothing (x ∷ os) fs) (x ∷ os)) (elim b [ true ↦ finished r | false ↦ left_label next r (a ∷ rs ++ rest) ])) (sym z) s
end_with m r f next [] rest [] (x ∷ os) under tail fs named behind split mark bottom below o w = absurd o
end_with m r f next (a ∷ rs) rest [] os under tail fs named behind split mark bottom below o w = absurd o
end_with m r f next [] rest (k ∷ ls) os under tail fs named behind split mark bottom below o w = absurd o
end_with m r f next (a ∷ rs) rest (k ∷ ls) [] under tail fs named behind split mark bottom below o w = absurd o

-- an end is a step of the definition
pub end_step : (m : Module) (room : ℕ) (r : Run) (c : Config) (f : Func) → slice_get m.funcs r.place.func ≡ Some f → slice_get f.body r.place.at ≡ Some End → Stands m r c → IsStep m r (machine_step m room c) (ended (suc r.place.at) r)
end_step m room r c f named there s =
    let u = r.state.operands.below in
    let i = at_func m r.place f s.own s.code s.labels u s.tail named s.inside in
    let e = is_end f.body r.place.at s.own s.code s.labels u s.tail (read f.body r.place.at End s.own s.code s.labels u s.tail there i) in
    let step = end_with m r f (suc r.place.at) s.own s.rest e.outside s.labels u s.tail s.callers named e.after s.split s.mark s.inside.bottom refl e.opens s.waits in
    let shape : c ≡ shown r Nothing s.labels s.callers = s.is ∙ ap (λ x. shown r x s.labels s.callers) e.none in
    let n : own_labels r ≡ length s.own = count_own r s.own s.rest s.split s.mark in
    let P : ℕ → List Label → Config → Type 0 = λ k ls d. IsStep m r (machine_step m room d) (elim (k == 0) [ true ↦ finished r | false ↦ left_label (suc r.place.at) r ls ]) in
    subst (λ d. P (own_labels r) r.labels.items d) (sym shape)
    (subst (λ ls. P (own_labels r) ls (shown r Nothing s.labels s.callers)) (sym s.split)
    (subst (λ k. P k (s.own ++ s.rest) (shown r Nothing s.labels s.callers)) (sym n) step))
