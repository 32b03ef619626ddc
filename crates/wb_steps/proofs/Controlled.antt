-- One step into and out of each construct, of each jump, call and return.
use Rattle.std.proofs.Common.{◌≡◌, ◌≢◌, ⊎_elim, ℕ, zero, suc, ◌≤◌, List, [], ◌∷◌, ◌++◌, length, take, drop, reverse, Option, Some, None, slice_get, refl, sym, ap, ◌∙◌, subst, arith, drop_at}
use Rattle.std.proofs.lemmas.Bool.Decides.{nat_tests}
use Rattle.std.proofs.lemmas.List.{length-reverse, take_at, reverse-reverse}
use Rattle.std.specs.Prelude.{Bool, true, false, ◌==◌, nat_le, ◌&&◌}
use Rattle.wb_syntax.specs.declared.syntax.Func.{Func}
use Rattle.wb_syntax.specs.declared.syntax.FuncType.{FuncType}
use Rattle.wb_syntax.specs.declared.syntax.Module.{Module}
use Rattle.wb_syntax.specs.declared.syntax.NumType.{NumType}
use Rattle.wb_syntax.specs.declared.syntax.NumType.TheVariants.{I32}
use Rattle.wb_syntax.specs.declared.syntax.Instr.{Instr}
use Rattle.wb_syntax.specs.declared.syntax.Instr.TheVariants.{Br, BrIf, BrTable, Return, Call}
use Rattle.wb_syntax.specs.Syntax.{Plain, InBlock, InLoop, InIf, InIfElse, Code, Nothing, Then, list_of}
use Rattle.wb_syntax.specs.Nesting.{nested}
use Rattle.wb_syntax.specs.Execute.{Word, word, TheStore, Label, Frame, Config, same_type, have_types, type_of, chosen, frame_of, goes_at, where_some, when, branch, leave_label, leave_frame, machine_step}
use Rattle.wb_syntax.specs.Execute as wasm
use Rattle.wb_syntax.specs.Runs.{returned, words_of}
use Rattle.wb_steps.specs.Moves.{as_move, ComesTo, ComesToEnd}
use Rattle.wb_steps.specs.States.{Surroundings, state, inside_label, waiting, in_call, locals_at_first}
use Rattle.wb_steps.specs.Instructions.{OneStep, LastStep}
use Rattle.wb_steps.specs.Control.{block_label, loop_label, in_construct, BlockLaw, LoopLaw, IfElseLaw, IfLaw, IfIsPassed, LabelIsLeft, at_label, BrLaw, BrIfLaw, BrIfIsPassed, BrTableLaw, CallLaw, back_in, ReturnLaw, LastReturnLaw, FrameIsLeft, LastFrameIsLeft}
use Rattle.wb_steps.proofs.Sequenced.{step_is_made, last_step_is_made, steps_follow}
use Rattle.wb_steps.proofs.Stated.{words_in_label, words_at}

enough : (n k : ℕ) → n ≤ k → nat_le n k ≡ true
enough n k h = grind (arith, nat_tests, h)

-- ---- branches: label n, counted from the innermost

branch_is : (c : Config) (n : ℕ) (ls : List Label) (l : Label) (ws : List Word) → slice_get ls n ≡ Some l → l.carries ≤ length ws
    → branch c n ls ws ≡ leave_label c l (drop (suc n) ls) (take l.carries ws) l.branch
branch_is c n [] l ws e f = (let x : ◌≡◌ {A = Option Label} None (Some l) = e in cc)
branch_is c zero (k ∷ ls) l ws e f =
    let same : k ≡ l = cc in
    subst (λ k. branch c 0 (k ∷ ls) ws ≡ leave_label c l (drop 1 (k ∷ ls)) (take l.carries ws) l.branch) (sym same)
    (ap (λ b. when b (leave_label c l ls (take l.carries ws) l.branch)) (enough l.carries (length ws) f)
    ∙ ap (λ ls. leave_label c l ls (take l.carries ws) l.branch) (drop_none ls))
  where
    drop_none : (ls : List Label) → ls ≡ drop 0 ls
    drop_none [] = refl
    drop_none (l ∷ ls) = refl
branch_is c (suc n) (k ∷ ls) l ws e f = branch_is c n ls l ws e f

past_all : (c : Config) (ls : List Label) (ws : List Word) → branch c (length ls) ls ws ≡ wasm.return c ws
past_all c [] ws = refl
past_all c (l ∷ ls) ws = past_all c ls ws

not_zero : (k : ℕ) → k ≢ 0 → (k == 0) ≡ false
not_zero k h = grind (arith, nat_tests, h)

-- ---- arguments

types_count : (ts : List NumType) (ws : List Word) → have_types ts ws ≡ true → length ws ≡ length ts
types_count [] [] e = refl
types_count [] (w ∷ ws) e = cc
types_count (t ∷ ts) [] e = cc
types_count (t ∷ ts) (w ∷ ws) e = ap suc (types_count ts ws (both (same_type t w.type) (have_types ts ws) e))
  where
    both : (a b : Bool) → (a && b) ≡ true → b ≡ true
    both true b e = e
    both false b e = cc

module _ (m : Module) (room most : ℕ) (a : Surroundings) (locals : List Word) (s : TheStore) where
  -- ---- constructs

  pub block_law : BlockLaw m room most a locals s
  block_law ws t body rest l =
      step_is_made m room most (state a locals s ws (Then (InBlock t body) rest)) (in_construct m room most a locals s (block_label t rest ws) body) refl (words_at most a locals ws l)

  pub loop_law : LoopLaw m room most a locals s
  loop_law ws t body rest l =
      step_is_made m room most (state a locals s ws (Then (InLoop t body) rest)) (in_construct m room most a locals s (loop_label t body rest ws) body) refl (words_at most a locals ws l)

  -- one of two pieces of code is entered
  one_entered : (c : Config) (k : ℕ) (ws : List Word) (left right rest : Code) (b : Bool)
      → elim b [ true ↦ wasm.enter c rest k left rest ws | false ↦ wasm.enter c rest k right rest ws ] ≡ wasm.enter c rest k (elim b [ true ↦ left | false ↦ right ]) rest ws
  one_entered c k ws left right rest true = refl
  one_entered c k ws left right rest false = refl

  pub if_else_law : IfElseLaw m room most a locals s
  if_else_law ws n t body other rest l =
      let c = state a locals s (word I32 n ∷ ws) (Then (InIfElse t body other) rest) in
      step_is_made m room most c (in_construct m room most a locals s (block_label t rest ws) (elim (n == 0) [ true ↦ other | false ↦ body ]))
      (one_entered c (length (list_of t)) ws other body rest (n == 0)) (words_at most a locals (word I32 n ∷ ws) l)

  pub if_law : IfLaw m room most a locals s
  if_law ws n t body rest l =
      let c = state a locals s (word I32 n ∷ ws) (Then (InIf t body) rest) in
      step_is_made m room most c (in_construct m room most a locals s (block_label t rest ws) (elim (n == 0) [ true ↦ Nothing | false ↦ body ]))
      (one_entered c (length (list_of t)) ws Nothing body rest (n == 0)) (words_at most a locals (word I32 n ∷ ws) l)

  pub label_is_left : LabelIsLeft m room most a locals s
  label_is_left l ws fits =
      step_is_made m room most (state (inside_label l a) locals s ws Nothing) (state a locals s (ws ++ l.below) l.after) refl (words_at most (inside_label l a) locals ws fits)

  pub if_is_passed : IfIsPassed m room most a locals s
  if_is_passed ws body rest l =
      let b = block_label None rest ws in
      let e = words_in_label a b (length locals) in
      steps_follow m room most 1 1 (state a locals s (word I32 0 ∷ ws) (Then (InIf None body) rest)) (in_construct m room most a locals s b Nothing) (state a locals s ws rest)
      (if_law ws 0 None body rest l)
      (label_is_left b [] (omega (arith, l, e)))

  -- ---- jumps

  pub br_law : BrLaw m room most a locals s
  br_law ws n l rest e f fits =
      let c = state a locals s ws (Then (Plain (Br n)) rest) in
      step_is_made m room most c (at_label m room most a locals s n l ws) (branch_is c n a.labels l ws e f) (words_at most a locals ws fits)

  pub br_if_law : BrIfLaw m room most a locals s
  br_if_law ws n k l rest t e f fits =
      let c = state a locals s (word I32 k ∷ ws) (Then (Plain (BrIf n)) rest) in
      step_is_made m room most c (at_label m room most a locals s n l ws)
      (ap (λ b. elim b [ true ↦ goes_at c ws rest | false ↦ branch c n a.labels ws ]) (not_zero k t) ∙ branch_is c n a.labels l ws e f)
      (words_at most a locals (word I32 k ∷ ws) fits)

  pub br_if_is_passed : BrIfIsPassed m room most a locals s
  br_if_is_passed ws n rest fits =
      step_is_made m room most (state a locals s (word I32 0 ∷ ws) (Then (Plain (BrIf n)) rest)) (state a locals s ws rest) refl (words_at most a locals (word I32 0 ∷ ws) fits)

  pub br_table_law : BrTableLaw m room most a locals s
  br_table_law ws ns last k l rest e f fits =
      let c = state a locals s (word I32 k ∷ ws) (Then (Plain (BrTable ns last)) rest) in
      step_is_made m room most c (at_label m room most a locals s (chosen ns last k) l ws)
      (branch_is c (chosen ns last k) a.labels l ws e f) (words_at most a locals (word I32 k ∷ ws) fits)

  -- ---- calls

  pub call_law : CallLaw m room most a locals s
  call_law ws arguments x f ft body rest e g h types fits =
      let all = reverse arguments ++ ws in
      let c = state a locals s all (Then (Plain (Call x)) rest) in
      let n : length (reverse arguments) ≡ length ft.params = length-reverse arguments ∙ types_count ft.params arguments types in
      let to : List Word → List Word → wasm.Move = λ arguments ws.
      wasm.Goes (record c { frame = frame_of f ft arguments body; callers = record c.frame { stack = ws; code = rest } ∷ c.callers }) in
      step_is_made m room most c (state (in_call ft (waiting a locals ws rest ∷ a.callers)) (locals_at_first f arguments) s [] body)
      (ap (λ o. where_some o (λ f. where_some (type_of m f) (λ ft. where_some (nested f.body) (λ body. called_as c ft f body)))) e
      ∙ ap (λ o. where_some o (λ ft. where_some (nested f.body) (λ body. called_as c ft f body))) g
      ∙ ap (λ o. where_some o (λ body. called_as c ft f body)) h
      ∙ ap (λ (xs : List Word). when (have_types ft.params xs) (to xs (drop (length ft.params) all)))
      (ap reverse (take_at (reverse arguments) ws (length ft.params) n) ∙ reverse-reverse arguments)
      ∙ ap (λ b. when b (to arguments (drop (length ft.params) all))) types
      ∙ ap (to arguments) (drop_at (reverse arguments) ws (length ft.params) n))
      (words_at most a locals all fits)
    where
      called_as : Config → FuncType → Func → Code → wasm.Move
      called_as c ft f body = (let all = reverse arguments ++ ws in let n = length ft.params in let xs = reverse (take n all) in when (have_types ft.params xs)
          (wasm.Goes (record c { frame = frame_of f ft xs body; callers = record c.frame { stack = drop n all; code = rest } ∷ c.callers })))

  -- ---- returns

  -- the step of a return, as that of leaving the frame
  return_is : (c : Config) (ws : List Word) (fs : List Frame) → c.frame.results ≤ length ws → c.callers ≡ fs → wasm.return c ws ≡ leave_frame c (take c.frame.results ws) fs
  return_is c ws fs l e = ap (λ b. when b (leave_frame c (take c.frame.results ws) c.callers)) (enough c.frame.results (length ws) l) ∙ ap (leave_frame c (take c.frame.results ws)) e

  -- to the frame that waits
  to_caller : (ws : List Word) (i : Instr) (f : Frame) (fs : List Frame) (rest : Code) → a.callers ≡ f ∷ fs → a.results ≤ length ws
      → machine_step m room (state a locals s ws (Then (Plain i) rest)) ≡ wasm.return (state a locals s ws (Then (Plain i) rest)) ws
      → words_of (state a locals s ws (Then (Plain i) rest)) ≤ most
      → ComesTo m room most 1 (state a locals s ws (Then (Plain i) rest)) (back_in m room most a locals s f fs (take a.results ws))
  to_caller ws i f fs rest e g h l =
      let c = state a locals s ws (Then (Plain i) rest) in
      step_is_made m room most c (back_in m room most a locals s f fs (take a.results ws)) (h ∙ return_is c ws (f ∷ fs) g e) l

  -- to the end of the run
  to_end : (ws : List Word) (i : Instr) (rest : Code) → a.callers ≡ [] → a.results ≤ length ws
      → machine_step m room (state a locals s ws (Then (Plain i) rest)) ≡ wasm.return (state a locals s ws (Then (Plain i) rest)) ws
      → words_of (state a locals s ws (Then (Plain i) rest)) ≤ most
      → ComesToEnd m room most 1 (state a locals s ws (Then (Plain i) rest)) (returned (take a.results ws) s)
  to_end ws i rest e g h l =
      let c = state a locals s ws (Then (Plain i) rest) in
      last_step_is_made m room most c (returned (take a.results ws) s) (ap as_move (h ∙ return_is c ws [] g e)) l

  pub return_law : ReturnLaw m room most a locals s
  return_law ws i f fs rest h e g =
      let Goes : Instr → Type 0 = λ i. OneStep m room most a locals s ws (Plain i) rest (back_in m room most a locals s f fs (take a.results ws)) in
      let br = Br (length a.labels) in
      ⊎_elim
      (λ is. subst Goes (sym is) (λ l. to_caller ws Return f fs rest e g refl (words_at most a locals ws l)))
      (λ is. subst Goes (sym is) (λ l. to_caller ws br f fs rest e g (past_all (state a locals s ws (Then (Plain br) rest)) a.labels ws) (words_at most a locals ws l)))
      h

  pub last_return_law : LastReturnLaw m room most a locals s
  last_return_law ws i rest h e g =
      let Over : Instr → Type 0 = λ i. LastStep m room most a locals s ws (Plain i) rest (returned (take a.results ws) s) in
      let br = Br (length a.labels) in
      ⊎_elim
      (λ is. subst Over (sym is) (λ l. to_end ws Return rest e g refl (words_at most a locals ws l)))
      (λ is. subst Over (sym is) (λ l. to_end ws br rest e g (past_all (state a locals s ws (Then (Plain br) rest)) a.labels ws) (words_at most a locals ws l)))
      h

  -- the step at the end of a body
  end_is : (ws : List Word) (fs : List Frame) → a.labels ≡ [] → a.callers ≡ fs → length ws ≡ a.results
      → machine_step m room (state a locals s ws Nothing) ≡ leave_frame (state a locals s ws Nothing) ws fs
  end_is ws fs e g n =
      let c = state a locals s ws Nothing in
      let same : (length ws == a.results) ≡ true = grind (arith, nat_tests, n) in
      ap (wasm.at_end c) e ∙ ap (λ b. when b (leave_frame c ws a.callers)) same ∙ ap (leave_frame c ws) g

  pub frame_is_left : FrameIsLeft m room most a locals s
  frame_is_left ws f fs e g n l =
      step_is_made m room most (state a locals s ws Nothing) (back_in m room most a locals s f fs ws) (end_is ws (f ∷ fs) e g n) (words_at most a locals ws l)

  pub last_frame_is_left : LastFrameIsLeft m room most a locals s
  last_frame_is_left ws e g n l =
      last_step_is_made m room most (state a locals s ws Nothing) (returned ws s) (ap as_move (end_is ws [] e g n)) (words_at most a locals ws l)
