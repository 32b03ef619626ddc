-- The object machine: its states, its steps and its runs. A step does one row of work; values are substituted.
use Rattle.std.specs.Prelude.{ℕ, zero, suc, ◌+◌, ◌*◌, Bool, true, false, ◌==◌, nat_le, if◌then◌else◌, max, List, [], ◌∷◌, ◌++◌, length, ℤ, pos, negsuc, Option, Some, None, int_lt, int_div, int_rem}
use Rattle.std.specs.Ordering.{int_eq}
use Rattle.std.specs.Int.{w64, int_wrapping_add, int_wrapping_sub, int_wrapping_mul}
use Rattle.cf_base.specs.declared.outcome.Outcome.{Outcome}
use Rattle.cf_base.specs.declared.outcome.Outcome.TheVariants.{Returned, DivideByZero, Overflow, Failed, HeapFull}
use Rattle.cf_object.specs.Obj.{PrimOp, Add, Sub, Mul, Div, Rem, Eq, Lt}
use Rattle.cf_object.specs.Run.{Val, Num, Made, Vals, NoVals, AndVal, Run, Is, Bound, Stands, DoPrim, DoLet, DoDefs, Fn, Apply, Build, Match, Stop, Runs, NoRuns, AndRun, RunBranches, NoRunBranches, AndRunBranch, ByVal, count_vals, put, fill, enter, unfolded}

-- ---- states

-- what waits for the value of the focus
pub data Frame : Type 0 where
  -- the first operand, with the second behind it; the second, with the first's value
  LeftOf : PrimOp → Run → Frame
  RightOf : PrimOp → Val → Frame
  -- a field of a constructor: the fields before it, and those behind it
  FieldOf : (tag : ℕ) → (taken : List Val) → Runs → Frame
  -- the argument of `t @ u`, with t; then t, with the argument's value
  ArgOf : Run → Frame
  With : Val → Frame
  -- the scrutinee of a case
  Choose : RunBranches → Frame
  -- the definition of a `let`
  LetOf : Run → Frame

-- a frame with the number of calls that were open when it was pushed
pub record Kept : Type 0 where
  pub frame : Frame
  pub was_open : ℕ

-- a state of the machine
pub record State : Type 0 where
  -- what is looked at
  pub focus : Run
  -- what waits for it, the innermost first
  pub frames : List Kept
  -- bytes of the region in use
  pub bytes : ℕ
  -- calls made, and calls that are open
  pub calls : ℕ
  pub calls_open : ℕ

-- a step to a state, or to the outcome, or none
pub data Next : Type 0 where
  Goes : State → Next
  Ends : Outcome → Next
  Lost : Next

-- ---- primitives

-- what a primitive gives
pub data Primitive : Type 0 where
  Gives : Val → Primitive
  Stops : Outcome → Primitive

-- `no` and `yes`
abbrev pub flag : Bool → Val
flag b = Made (if b then 1 else 0) NoVals

-- -2^63
abbrev pub least_whole : ℤ
least_whole = negsuc 9223372036854775807

-- a divisor that has no quotient
abbrev pub is_zero : ℤ → Bool
is_zero z = int_eq z (pos 0)

-- the quotient of the least number by -1 has no 64 bits
abbrev pub quotient : ℤ → ℤ → Primitive
quotient x y = if int_eq x least_whole then (if int_eq y (negsuc 0) then Stops Overflow else Gives (Num (int_div x y))) else Gives (Num (int_div x y))

-- sums, differences and products wrap at 64 bits; division rounds toward zero
abbrev pub primitive_of : PrimOp → ℤ → ℤ → Primitive
primitive_of Add x y = Gives (Num (int_wrapping_add w64 x y))
primitive_of Sub x y = Gives (Num (int_wrapping_sub w64 x y))
primitive_of Mul x y = Gives (Num (int_wrapping_mul w64 x y))
primitive_of Div x y = if is_zero y then Stops DivideByZero else quotient x y
primitive_of Rem x y = if is_zero y then Stops DivideByZero else Gives (Num (int_rem x y))
primitive_of Eq x y = Gives (flag (int_eq x y))
primitive_of Lt x y = Gives (flag (int_lt x y))

-- on two whole numbers; on constructors there is none
abbrev pub primitive : PrimOp → Val → Val → Option Primitive
primitive op (Num x) (Num y) = Some (primitive_of op x y)
primitive op (Num x) (Made t vs) = None
primitive op (Made t us) v = None

-- ---- steps

-- the fields of a constructor, from a list
abbrev pub vals_of : List Val → Vals
vals_of [] = NoVals
vals_of (v ∷ vs) = AndVal v (vals_of vs)

-- the branch with this number, with the fields put in
abbrev pub nth_branch : RunBranches → ℕ → Vals → Option Run
nth_branch NoRunBranches i vs = None
nth_branch (AndRunBranch n u bs) zero vs = if n == count_vals vs then Some (fill vs u) else None
nth_branch (AndRunBranch n u bs) (suc i) vs = nth_branch bs i vs

-- in a region of this many bytes
module _ (region : ℕ) where
  -- the same state at another focus and other frames
  abbrev pub goes : State → Run → List Kept → Next
  goes s t fs = Goes (record s { focus = t; frames = fs })

  -- to a part, with what waits for it
  abbrev pub push : State → Frame → Run → Next
  push s f t = goes s t (record { frame = f; was_open = s.calls_open } ∷ s.frames)

  abbrev pub goes_or_lost : State → Option Run → List Kept → Next
  goes_or_lost s None fs = Lost
  goes_or_lost s (Some t) fs = goes s t fs

  abbrev pub result : State → List Kept → Option Primitive → Next
  result s fs None = Lost
  result s fs (Some (Gives v)) = goes s (Is v) fs
  result s fs (Some (Stops o)) = Ends o

  -- a constructor whose last field is evaluated takes a cell of 8 bytes for its number and 8 for each field
  abbrev pub made : State → ℕ → List Val → List Kept → Next
  made s tag vs fs =
      let bytes = s.bytes + 8 * suc (length vs) in
      if nat_le bytes region then Goes (record s { focus = Is (Made tag (vals_of vs)); frames = fs; bytes = bytes }) else Ends HeapFull

  -- a value is taken by a frame; s has its open calls set back to the frame's number already
  abbrev pub taken : State → Val → Frame → ℕ → List Kept → Next
  taken s v (LeftOf op u) o fs = goes s u (record { frame = RightOf op v; was_open = o } ∷ fs)
  taken s v (RightOf op w) o fs = result s fs (primitive op w v)
  taken s v (FieldOf tag vs NoRuns) o fs = made s tag (vs ++ v ∷ []) fs
  taken s v (FieldOf tag vs (AndRun t ts)) o fs = goes s t (record { frame = FieldOf tag (vs ++ v ∷ []) ts; was_open = o } ∷ fs)
  taken s v (ArgOf t) o fs = goes s t (record { frame = With v; was_open = o } ∷ fs)
  taken s v (With w) o fs = Lost
  taken s (Num n) (Choose bs) o fs = Lost
  taken s (Made tag vs) (Choose bs) o fs = goes_or_lost s (nth_branch bs tag vs) fs
  taken s v (LetOf u) o fs = goes s (put 0 (ByVal v) u) fs

  -- a value with no frame left is the outcome
  abbrev pub at_value : State → Val → List Kept → Next
  at_value s (Num n) [] = Ends (Returned n)
  at_value s (Made tag vs) [] = Lost
  at_value s v (k ∷ fs) = taken (record s { calls_open = k.was_open }) v k.frame k.was_open fs

  -- `fn` under a kept argument
  abbrev pub bound : State → Run → Frame → List Kept → Next
  bound s t (With v) fs = goes s (put 0 (ByVal v) t) fs
  bound s t _ fs = Lost

  abbrev pub at_fn : State → Run → List Kept → Next
  at_fn s t [] = Lost
  at_fn s t (k ∷ fs) = bound s t k.frame fs

  -- an unfolding that is no jump is a call
  abbrev pub count_call : Bool → State → State
  count_call true s = s
  count_call false s = record s { calls = suc s.calls; calls_open = suc s.calls_open }

  abbrev pub at_focus : State → Run → Next
  at_focus s (Is v) = at_value s v s.frames
  at_focus s (Bound jump x) = Lost
  at_focus s (Stands jump g i) = goes_or_lost (count_call jump s) (unfolded g i) s.frames
  at_focus s (DoPrim op t u) = push s (LeftOf op u) t
  at_focus s (DoLet t u) = push s (LetOf u) t
  at_focus s (DoDefs g u) = goes s (enter g u) s.frames
  at_focus s (Fn t) = at_fn s t s.frames
  at_focus s (Apply t u) = push s (ArgOf t) u
  at_focus s (Build tag NoRuns) = goes s (Is (Made tag NoVals)) s.frames
  at_focus s (Build tag (AndRun t ts)) = push s (FieldOf tag [] ts) t
  at_focus s (Match t bs) = push s (Choose bs) t
  at_focus s Stop = Ends Failed

  abbrev pub step : State → Next
  step s = at_focus s s.focus

  -- ---- runs

  -- the outcome within some steps, or the state after them; with the greatest number of calls that were open at once
  pub data After : Type 0 where
    Ended : Outcome → (calls peak : ℕ) → After
    Running : State → (peak : ℕ) → After
    Stuck : After

  -- n steps at most; the step to the outcome counts
  abbrev pub run : (n : ℕ) → State → (peak : ℕ) → After
  run zero s peak = Running s peak
  run (suc n) s peak = elim (step s) [ Goes s' ↦ run n s' (max peak s'.calls_open) | Ends o ↦ Ended o s.calls peak | Lost ↦ Stuck ]

  -- no further step changes it
  abbrev pub HasEnded : After → Type 0
  HasEnded (Ended o calls peak) = Unit {0}
  HasEnded (Running s peak) = ⊥
  HasEnded Stuck = Unit {0}
