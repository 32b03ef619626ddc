-- Branches are steps of the definition of execution.
use Rattle.std.proofs.Common.{◌≡◌, ℕ, zero, suc, ◌+◌, ◌-◌, ◌<◌, ◌≤◌, ◌⊎◌, inl, inr, List, [], ◌∷◌, ◌++◌, length, take, arith, refl, sym, ap, subst, ◌∙◌, append_assoc, length-append}
use Rattle.std.specs.Prelude.{Bool, true, false, ◌==◌, nat_le, nat_lt, Some, slice_get}
use Rattle.std.proofs.lemmas.Bool.{cases_lt}
use Rattle.std.proofs.lemmas.Bool.Decides.{nat_tests}
use Rattle.wb_syntax.specs.declared.syntax.Instr.{Instr}
use Rattle.wb_syntax.specs.declared.syntax.Func.{Func}
use Rattle.wb_syntax.specs.declared.syntax.Module.{Module}
use Rattle.wb_syntax.specs.Syntax.{Code, Nothing}
use Rattle.wb_syntax.specs.Nesting.{Level}
use Rattle.wb_syntax.specs.Execute.{Word, Label as Opened, Frame, Config, NoRule, when, placed_at, return, leave_label, branch}
use Rattle.wb_state.specs.Stack.{Stack, with_above, lowest}
use Rattle.wb_plain.specs.Follows.{store_of}
use Rattle.wb_control.specs.Piles.{Label, Place}
use Rattle.wb_control.specs.Changes.{Run, Fails, popped, result_count, cut_to, with_results, own_labels, returned, at_label, branched_with, branched_at, branched}
use Rattle.wb_control.specs.Stands.{LabelStands, Open, IsInside, Wait, Stands}
use Rattle.wb_control.proofs.Levels.{IsAt, in_func, recoded}
use Rattle.wb_control.proofs.Floors.{cut_at, lowest_last}
use Rattle.wb_control.proofs.Leaving.{IsStep, open_count, count_own, here, return_step}

-- the configuration of a run at any code
abbrev pub shaped : Run → List Opened → List Frame → List Word → Code → Config
shaped r labels callers stack code = record {
  frame = record { locals = r.state.locals.current; results = result_count r.place.results; labels = labels; stack = stack; code = code };
  callers = callers;
  store = store_of r.state;
}

-- the label at a depth, and the branch to it
pub record Found (b : List Instr) (index : ℕ) (own : List Label) (labels : List Opened) (under tail : List Word) : Type 0 where
  pub firsts : List Label
  pub label : Label
  pub others : List Label
  pub opened : Opened
  pub around : List Opened
  pub level : Level
  pub outside : List Level
  pub gone : List Word
  pub inner : List Word
  pub beneath : List Word
  pub own_is : own ≡ firsts ++ label ∷ others
  pub depth : length firsts ≡ index
  pub words : under ≡ gone ++ inner
  pub stands : LabelStands b label opened level outside inner beneath
  pub opens : Open b (level ∷ outside) others opened.after around beneath tail
  pub move : (c : Config) (ws : List Word) → branch c index labels ws ≡ when (nat_le opened.carries (length ws)) (leave_label c opened around (take opened.carries ws) opened.branch)

find : (b : List Instr) (ls : List Level) (own : List Label) (code : Code) (labels : List Opened) (under tail : List Word) (index : ℕ) → Open b ls own code labels under tail → index < length own → Found b index own labels under tail
find b (l ∷ k ∷ ls) (a ∷ rs) code (o ∷ os) under tail zero h i = record {
  firsts = [];
  label = a;
  others = rs;
  opened = o;
  around = os;
  level = k;
  outside = ls;
  gone = [];
  inner = under;
  beneath = h.1.0;
  own_is = refl;
  depth = refl;
  words = refl;
  stands = h.1.1;
  opens = h.1.2;
  move = λ c ws. refl;
}
find b (l ∷ k ∷ ls) (a ∷ rs) code (o ∷ os) under tail (suc n) h i =
    let f = find b (k ∷ ls) rs o.after os h.1.0 tail n h.1.2 (omega (arith, i)) in
    record {
      firsts = a ∷ f.firsts;
      label = f.label;
      others = f.others;
      opened = f.opened;
      around = f.around;
      level = f.level;
      outside = f.outside;
      gone = o.below ++ f.gone;
      inner = f.inner;
      beneath = f.beneath;
      own_is = ap (λ xs. a ∷ xs) f.own_is;
      depth = ap suc f.depth;
      words = h.1.1.below ∙ ap (λ xs. o.below ++ xs) f.words ∙ sym (append_assoc o.below f.gone f.inner);
      stands = f.stands;
      opens = f.opens;
      move = f.move;
    }
find b [] own code labels under tail index h i = absurd h
find b (l ∷ []) [] code labels under tail index h i = absurd (omega (arith, i))
find b (l ∷ []) (a ∷ rs) code labels under tail index h i = absurd h
find b (l ∷ k ∷ ls) [] code labels under tail index h i = absurd h
find b (l ∷ k ∷ ls) (a ∷ rs) code [] under tail index h i = absurd h

-- past all labels
past_is : (c : Config) (ws : List Word) (labels : List Opened) (index : ℕ) → index ≡ length labels → branch c index labels ws ≡ return c ws
past_is c ws [] zero e = refl
past_is c ws [] (suc n) e = absurd (omega (arith, e))
past_is c ws (o ∷ os) zero e = absurd (omega (arith, e))
past_is c ws (o ∷ os) (suc n) e = past_is c ws os n (omega (arith, e))

beyond_is : (c : Config) (ws : List Word) (labels : List Opened) (index : ℕ) → length labels < index → branch c index labels ws ≡ NoRule
beyond_is c ws [] zero e = absurd (omega (arith, e))
beyond_is c ws [] (suc n) e = refl
beyond_is c ws (o ∷ os) zero e = absurd (omega (arith, e))
beyond_is c ws (o ∷ os) (suc n) e = beyond_is c ws os n (omega (arith, e))

-- the label of the run at a depth
at_depth : {A : Type 0} (xs : List A) (y : A) (ys zs : List A) (n : ℕ) → length xs ≡ n → slice_get ((xs ++ y ∷ ys) ++ zs) n ≡ Some y
at_depth [] y ys zs zero e = refl
at_depth [] y ys zs (suc n) e = absurd (omega (arith, e))
at_depth (x ∷ xs) y ys zs zero e = absurd (omega (arith, e))
at_depth (x ∷ xs) y ys zs (suc n) e = at_depth xs y ys zs n (omega (arith, e))

-- the labels outside of one
outside_of : {A : Type 0} (xs : List A) (y : A) (ys zs : List A) → (xs ++ y ∷ ys) ++ zs ≡ (xs ++ y ∷ []) ++ (ys ++ zs)
outside_of [] y ys zs = refl
outside_of (x ∷ xs) y ys zs = ap (λ ws. x ∷ ws) (outside_of xs y ys zs)

-- at the target of a label, with what it carries
target_stands : (m : Module) (r : Run) (f : Func) (index : ℕ) (words : List Word) (s : Stack) (own rest : List Label) (labels : List Opened) (under tail : List Word) (fs : List Frame)
    → slice_get m.funcs r.place.func ≡ Some f → (g : Found f.body index own labels under tail)
    → r.labels.items ≡ own ++ rest → r.place.labels ≡ length rest → r.place.bottom ≡ length tail → s.below ≡ under → Wait m r.callers.items rest tail r.state.locals.outer fs
    → Stands m (with_results words (at_label index g.label s r))
    (record { frame = placed_at (record { locals = r.state.locals.current; results = result_count r.place.results; labels = g.around; stack = []; code = Nothing }) (words ++ g.opened.below) g.opened.branch; callers = fs; store = store_of r.state })
target_stands m r f index words s own rest labels under tail fs named g split mark bottom below waits =
    let o = g.opened in
    let whole : s.above ++ s.below ≡ (s.above ++ g.gone) ++ (o.below ++ g.beneath) =
    ap (λ xs. s.above ++ xs) (below ∙ g.words ∙ ap (λ xs. g.gone ++ xs) g.stands.below) ∙ sym (append_assoc s.above g.gone (o.below ++ g.beneath)) in
    let c = cut_at s (s.above ++ g.gone) o.below g.beneath g.label.height g.label.floor whole (g.stands.height ∙ ap length g.stands.below) g.stands.floor in
    let above : (cut_to g.label.height g.label.floor s).above ≡ o.below = ap (λ (x : Stack). x.above) c in
    let low : (cut_to g.label.height g.label.floor s).below ≡ g.beneath = ap (λ (x : Stack). x.below) c in
    let items : r.labels.items ≡ (g.firsts ++ g.label ∷ []) ++ (g.others ++ rest) = split ∙ ap (λ xs. xs ++ rest) g.own_is ∙ outside_of g.firsts g.label g.others rest in
    let n : length r.labels.items - (index + 1) ≡ length (g.others ++ rest) =
    omega (arith, ap length items, length-append (g.firsts ++ g.label ∷ []) (g.others ++ rest), length-append g.firsts (g.label ∷ []), g.depth) in
    let kept : lowest (length r.labels.items - (index + 1)) r.labels.items ≡ g.others ++ rest =
    ap (lowest (length r.labels.items - (index + 1))) items ∙ lowest_last (g.firsts ++ g.label ∷ []) (g.others ++ rest) (length r.labels.items - (index + 1)) n in
    let F : List Word → Config = λ ws. record {
      frame = placed_at (record { locals = r.state.locals.current; results = result_count r.place.results; labels = g.around; stack = []; code = Nothing }) (words ++ ws) o.branch;
      callers = fs;
      store = store_of r.state;
    } in
    let i : IsAt f.body g.label.target g.others o.branch g.around g.beneath tail = record {
      there = record g.level { code = o.branch } ∷ g.outside;
      here = g.stands.target;
      opens = recoded f.body g.level g.outside g.others o.after o.branch g.around g.beneath tail g.opens;
    } in
    let p : Place = record r.place { at = g.label.target } in
    record {
      code = o.branch;
      labels = g.around;
      own = g.others;
      rest = rest;
      tail = tail;
      callers = fs;
      split = kept;
      mark = mark;
      inside = subst (λ u. IsInside m p g.others o.branch g.around u tail) (sym low) (in_func m p f g.others o.branch g.around g.beneath tail named bottom i);
      waits = waits;
      is = ap F (sym above);
    }

-- a branch to a label, with what it carries or without
carried_step : (m : Module) (r : Run) (f : Func) (index : ℕ) (own rest : List Label) (labels : List Opened) (under tail : List Word) (fs : List Frame) (stack : List Word) (code : Code)
    → slice_get m.funcs r.place.func ≡ Some f → (g : Found f.body index own labels under tail)
    → r.labels.items ≡ own ++ rest → r.place.labels ≡ length rest → r.place.bottom ≡ length tail → r.state.operands.below ≡ under → Wait m r.callers.items rest tail r.state.locals.outer fs
    → (carries : Bool) (ws : List Word)
    → IsStep m r (when (nat_le (result_count carries) (length ws)) (leave_label (shaped r labels fs stack code) g.opened g.around (take (result_count carries) ws) g.opened.branch)) (branched_with r index g.label (popped carries (with_above r.state.operands ws)))
carried_step m r f index own rest labels under tail fs stack code named g split mark bottom below w false ws =
    let t : nat_le 0 (length ws) ≡ true = grind (arith, nat_tests) in
    let s = target_stands m r f index [] (with_above r.state.operands ws) own rest labels under tail fs named g split mark bottom below w in
    let change = branched_with r index g.label (popped false (with_above r.state.operands ws)) in
    let d : Config = record { frame = placed_at (record { locals = r.state.locals.current; results = result_count r.place.results; labels = g.around; stack = []; code = Nothing }) g.opened.below g.opened.branch; callers = fs; store = store_of r.state } in
    subst (λ b. IsStep m r (when b (leave_label (shaped r labels fs stack code) g.opened g.around [] g.opened.branch)) change) (sym t) (d, refl, s)
carried_step m r f index own rest labels under tail fs stack code named g split mark bottom below w true [] = refl
carried_step m r f index own rest labels under tail fs stack code named g split mark bottom below w true (x ∷ ws) =
    let t : nat_le 1 (length (x ∷ ws)) ≡ true = grind (arith, nat_tests) in
    let s = target_stands m r f index (x ∷ []) (with_above r.state.operands ws) own rest labels under tail fs named g split mark bottom below w in
    let change = branched_with r index g.label (popped true (with_above r.state.operands (x ∷ ws))) in
    let d : Config = record { frame = placed_at (record { locals = r.state.locals.current; results = result_count r.place.results; labels = g.around; stack = []; code = Nothing }) (x ∷ g.opened.below) g.opened.branch; callers = fs; store = store_of r.state } in
    subst (λ b. IsStep m r (when b (leave_label (shaped r labels fs stack code) g.opened g.around (x ∷ []) g.opened.branch)) change) (sym t) (d, refl, s)

-- where a branch leads, by its depth
branch_by : (m : Module) (r : Run) (f : Func) (index : ℕ) (ls : List Level) (own rest : List Label) (at : Code) (labels : List Opened) (under tail : List Word) (fs : List Frame) (stack : List Word) (code : Code)
    → slice_get m.funcs r.place.func ≡ Some f → Open f.body ls own at labels under tail
    → r.labels.items ≡ own ++ rest → r.place.labels ≡ length rest → r.place.bottom ≡ length tail → r.state.operands.below ≡ under → Wait m r.callers.items rest tail r.state.locals.outer fs
    → ((index < length own) ⊎ (length own ≤ index)) → ((length own < index) ⊎ (index ≤ length own))
    → IsStep m r (branch (shaped r labels fs stack code) index labels r.state.operands.above)
    (elim (nat_lt index (length own)) [ true ↦ branched_at r index (slice_get (own ++ rest) index) | false ↦ elim (index == length own) [ true ↦ returned r | false ↦ Fails ] ])
branch_by m r f index ls own rest at labels under tail fs stack code named o split mark bottom below w (inl less) x =
    let g = find f.body ls own at labels under tail index o less in
    let c = shaped r labels fs stack code in
    let ws = r.state.operands.above in
    let t : nat_lt index (length own) ≡ true = grind (arith, nat_tests) in
    let got : slice_get (own ++ rest) index ≡ Some g.label = ap (λ xs. slice_get (xs ++ rest) index) g.own_is ∙ at_depth g.firsts g.label g.others rest index g.depth in
    let s = carried_step m r f index own rest labels under tail fs stack code named g split mark bottom below w g.label.carries ws in
    let moved : branch c index labels ws ≡ when (nat_le (result_count g.label.carries) (length ws)) (leave_label c g.opened g.around (take (result_count g.label.carries) ws) g.opened.branch) =
    g.move c ws ∙ ap (λ n. when (nat_le n (length ws)) (leave_label c g.opened g.around (take n ws) g.opened.branch)) g.stands.carries in
    subst (λ v. IsStep m r (branch c index labels ws) (elim v [ true ↦ branched_at r index (slice_get (own ++ rest) index) | false ↦ elim (index == length own) [ true ↦ returned r | false ↦ Fails ] ])) (sym t)
    (subst (λ v. IsStep m r (branch c index labels ws) (branched_at r index v)) (sym got)
    (subst (λ v. IsStep m r v (branched_at r index (Some g.label))) (sym moved) s))
branch_by m r f index ls own rest at labels under tail fs stack code named o split mark bottom below w (inr more) (inl over) =
    let c = shaped r labels fs stack code in
    let ws = r.state.operands.above in
    let t : nat_lt index (length own) ≡ false = grind (arith, nat_tests) in
    let z : (index == length own) ≡ false = grind (arith, nat_tests) in
    let n = open_count f.body ls own at labels under tail o in
    subst (λ v. IsStep m r (branch c index labels ws) (elim v [ true ↦ branched_at r index (slice_get (own ++ rest) index) | false ↦ elim (index == length own) [ true ↦ returned r | false ↦ Fails ] ])) (sym t)
    (subst (λ v. IsStep m r (branch c index labels ws) (elim v [ true ↦ returned r | false ↦ Fails ])) (sym z) (beyond_is c ws labels index (omega (arith, n, over))))
branch_by m r f index ls own rest at labels under tail fs stack code named o split mark bottom below w (inr more) (inr all) =
    let c = shaped r labels fs stack code in
    let ws = r.state.operands.above in
    let t : nat_lt index (length own) ≡ false = grind (arith, nat_tests) in
    let z : (index == length own) ≡ true = grind (arith, nat_tests) in
    let n = open_count f.body ls own at labels under tail o in
    let h = here m r own rest f.body ls at labels under tail fs split mark bottom below o w in
    let s = return_step m r c own rest under tail fs h refl refl refl in
    let p : branch c index labels ws ≡ return c ws = past_is c ws labels index (omega (arith, n, more, all)) in
    subst (λ v. IsStep m r (branch c index labels ws) (elim v [ true ↦ branched_at r index (slice_get (own ++ rest) index) | false ↦ elim (index == length own) [ true ↦ returned r | false ↦ Fails ] ])) (sym t)
    (subst (λ v. IsStep m r (branch c index labels ws) (elim v [ true ↦ returned r | false ↦ Fails ])) (sym z)
    (subst (λ v. IsStep m r v (returned r)) (sym p) s))

-- a branch is a step of the definition
pub branch_step : (m : Module) (r : Run) (f : Func) (index : ℕ) (ls : List Level) (own rest : List Label) (at : Code) (labels : List Opened) (under tail : List Word) (fs : List Frame) (stack : List Word) (code : Code)
    → slice_get m.funcs r.place.func ≡ Some f → Open f.body ls own at labels under tail
    → r.labels.items ≡ own ++ rest → r.place.labels ≡ length rest → r.place.bottom ≡ length tail → r.state.operands.below ≡ under → Wait m r.callers.items rest tail r.state.locals.outer fs
    → IsStep m r (branch (shaped r labels fs stack code) index labels r.state.operands.above) (branched index r)
branch_step m r f index ls own rest at labels under tail fs stack code named o split mark bottom below w =
    let c = shaped r labels fs stack code in
    let s = branch_by m r f index ls own rest at labels under tail fs stack code named o split mark bottom below w (cases_lt index (length own)) (cases_lt (length own) index) in
    let n : own_labels r ≡ length own = count_own r own rest split mark in
    let P : ℕ → List Label → Type 0 = λ k xs. IsStep m r (branch c index labels r.state.operands.above)
    (elim (nat_lt index k) [ true ↦ branched_at r index (slice_get xs index) | false ↦ elim (index == k) [ true ↦ returned r | false ↦ Fails ] ]) in
    subst (λ k. P k r.labels.items) (sym n) (subst (λ xs. P (length own) xs) (sym split) s)
