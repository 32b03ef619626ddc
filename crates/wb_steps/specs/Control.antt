-- Steps into and out of constructs, jumps, calls and returns (the standard, 4.4.5 to 4.4.7).
use Rattle.std.specs.Prelude.{◌≡◌, ◌≢◌, ◌⊎◌, ℕ, ◌≤◌, true, false, ◌==◌, List, [], ◌∷◌, ◌++◌, length, take, reverse, Option, Some, None, slice_get}
use Rattle.wb_syntax.specs.declared.syntax.Func.{Func}
use Rattle.wb_syntax.specs.declared.syntax.FuncType.{FuncType}
use Rattle.wb_syntax.specs.declared.syntax.Module.{Module}
use Rattle.wb_syntax.specs.declared.syntax.NumType.{NumType}
use Rattle.wb_syntax.specs.declared.syntax.NumType.TheVariants.{I32}
use Rattle.wb_syntax.specs.declared.syntax.Instr.{Instr}
use Rattle.wb_syntax.specs.declared.syntax.Instr.TheVariants.{Br, BrIf, BrTable, Return, Call}
use Rattle.wb_syntax.specs.Syntax.{Plain, InBlock, InLoop, InIf, InIfElse, Code, Nothing, Then, list_of}
use Rattle.wb_syntax.specs.Nesting.{nested}
use Rattle.wb_syntax.specs.Execute.{Word, word, TheStore, Label, Frame, Config, have_types, type_of, chosen}
use Rattle.wb_syntax.specs.Runs.{returned}
use Rattle.wb_steps.specs.Moves.{ComesTo, ComesToEnd}
use Rattle.wb_steps.specs.States.{Surroundings, state, WordsFit, inside_label, outside_label, waiting, in_call, in_frame, locals_at_first}
use Rattle.wb_steps.specs.Instructions.{OneStep, LastStep, Replaces}

-- the label of a block or an if with this type of result, before this code and above these words: a branch to it leads behind the construct
abbrev pub block_label : Option NumType → (after : Code) → (below : List Word) → Label
block_label t after below = record { carries = length (list_of t); branch = after; after = after; below = below }

-- the label of a loop: a branch to it carries nothing and leads to the loop again
abbrev pub loop_label : Option NumType → (body after : Code) → (below : List Word) → Label
loop_label t body after below = record { carries = 0; branch = Then (InLoop t body) after; after = after; below = below }

module _ (m : Module) (room most : ℕ) (a : Surroundings) (locals : List Word) (s : TheStore) where
  -- ---- constructs are entered in one step

  -- in a construct with this label: at what it holds, with no words before it
  abbrev pub in_construct : Label → Code → Config
  in_construct l body = state (inside_label l a) locals s [] body

  -- a block
  abbrev pub BlockLaw : Type 0
  BlockLaw = (ws : List Word) (t : Option NumType) (body rest : Code) → OneStep m room most a locals s ws (InBlock t body) rest (in_construct (block_label t rest ws) body)

  -- a loop
  abbrev pub LoopLaw : Type 0
  LoopLaw = (ws : List Word) (t : Option NumType) (body rest : Code) → OneStep m room most a locals s ws (InLoop t body) rest (in_construct (loop_label t body rest ws) body)

  -- an if with an else: its second branch where the test is 0, and else its first
  abbrev pub IfElseLaw : Type 0
  IfElseLaw = (ws : List Word) (n : ℕ) (t : Option NumType) (body other rest : Code) →
      OneStep m room most a locals s (word I32 n ∷ ws) (InIfElse t body other) rest (in_construct (block_label t rest ws) (elim (n == 0) [ true ↦ other | false ↦ body ]))

  -- an if without one: no code where the test is 0
  abbrev pub IfLaw : Type 0
  IfLaw = (ws : List Word) (n : ℕ) (t : Option NumType) (body rest : Code) →
      OneStep m room most a locals s (word I32 n ∷ ws) (InIf t body) rest (in_construct (block_label t rest ws) (elim (n == 0) [ true ↦ Nothing | false ↦ body ]))

  -- so that it is passed in two steps
  abbrev pub IfIsPassed : Type 0
  IfIsPassed = (ws : List Word) (body rest : Code) → WordsFit most a locals (word I32 0 ∷ ws) →
      ComesTo m room most 2 (state a locals s (word I32 0 ∷ ws) (Then (InIf None body) rest)) (state a locals s ws rest)

  -- ---- and left in one, where no code is left in them

  -- with the words that are there on top of those below, for the code behind
  abbrev pub LabelIsLeft : Type 0
  LabelIsLeft = (l : Label) (ws : List Word) → WordsFit most (inside_label l a) locals ws →
      ComesTo m room most 1 (state (inside_label l a) locals s ws Nothing) (state a locals s (ws ++ l.below) l.after)

  -- ---- branches

  -- at label n: what it carries of these words, over the words below its construct, before the code to which it leads
  abbrev pub at_label : ℕ → Label → List Word → Config
  at_label n l ws = state (outside_label n a) locals s (take l.carries ws ++ l.below) l.branch

  -- a br
  abbrev pub BrLaw : Type 0
  BrLaw = (ws : List Word) (n : ℕ) (l : Label) (rest : Code) → slice_get a.labels n ≡ Some l → l.carries ≤ length ws →
      OneStep m room most a locals s ws (Plain (Br n)) rest (at_label n l ws)

  -- a br_if whose test is not 0
  abbrev pub BrIfLaw : Type 0
  BrIfLaw = (ws : List Word) (n k : ℕ) (l : Label) (rest : Code) → k ≢ 0 → slice_get a.labels n ≡ Some l → l.carries ≤ length ws →
      OneStep m room most a locals s (word I32 k ∷ ws) (Plain (BrIf n)) rest (at_label n l ws)

  -- and one whose test is 0
  abbrev pub BrIfIsPassed : Type 0
  BrIfIsPassed = (ws : List Word) (n : ℕ) → Replaces m room most a locals s (word I32 0 ∷ ws) (BrIf n) ws

  -- a br_table: to the label that the topmost word chooses, or else to the last
  abbrev pub BrTableLaw : Type 0
  BrTableLaw = (ws : List Word) (ns : List ℕ) (last k : ℕ) (l : Label) (rest : Code) → slice_get a.labels (chosen ns last k) ≡ Some l → l.carries ≤ length ws →
      OneStep m room most a locals s (word I32 k ∷ ws) (Plain (BrTable ns last)) rest (at_label (chosen ns last k) l ws)

  -- ---- calls

  -- the arguments, which have the types of the parameters, are on top, the last one topmost; the function's body begins in a frame of its own
  abbrev pub CallLaw : Type 0
  CallLaw = (ws arguments : List Word) (x : ℕ) (f : Func) (ft : FuncType) (body rest : Code) →
      slice_get m.funcs x ≡ Some f → type_of m f ≡ Some ft → nested f.body ≡ Some body → have_types ft.params arguments ≡ true →
      OneStep m room most a locals s (reverse arguments ++ ws) (Plain (Call x)) rest
      (state (in_call ft (waiting a locals ws rest ∷ a.callers)) (locals_at_first f arguments) s [] body)

  -- ---- returns: of the frame to the one that waits for it, or of the run

  -- return, or a branch past all labels
  abbrev pub IsReturn : Instr → Type 0
  IsReturn i = (i ≡ Return) ⊎ (i ≡ Br (length a.labels))

  -- the frame that waited goes on, with these words on top of its own
  abbrev pub back_in : Frame → List Frame → List Word → Config
  back_in f fs results = state (in_frame f fs) f.locals s (results ++ f.stack) f.code

  -- with as many words as there are results
  abbrev pub ReturnLaw : Type 0
  ReturnLaw = (ws : List Word) (i : Instr) (f : Frame) (fs : List Frame) (rest : Code) → IsReturn i → a.callers ≡ f ∷ fs → a.results ≤ length ws →
      OneStep m room most a locals s ws (Plain i) rest (back_in f fs (take a.results ws))

  -- where no frame waits, the run ends
  abbrev pub LastReturnLaw : Type 0
  LastReturnLaw = (ws : List Word) (i : Instr) (rest : Code) → IsReturn i → a.callers ≡ [] → a.results ≤ length ws →
      LastStep m room most a locals s ws (Plain i) rest (returned (take a.results ws) s)

  -- the end of a body, with the results alone
  abbrev pub FrameIsLeft : Type 0
  FrameIsLeft = (ws : List Word) (f : Frame) (fs : List Frame) → a.labels ≡ [] → a.callers ≡ f ∷ fs → length ws ≡ a.results → WordsFit most a locals ws →
      ComesTo m room most 1 (state a locals s ws Nothing) (back_in f fs ws)

  -- where no frame waits, the run ends
  abbrev pub LastFrameIsLeft : Type 0
  LastFrameIsLeft = (ws : List Word) → a.labels ≡ [] → a.callers ≡ [] → length ws ≡ a.results → WordsFit most a locals ws →
      ComesToEnd m room most 1 (state a locals s ws Nothing) (returned ws s)
