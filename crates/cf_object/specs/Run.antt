-- Values, and terms of a run. Values are substituted; what stands for a variable is closed, so that no substitution goes into it.
use Rattle.std.specs.Prelude.{ℕ, zero, suc, pred, ◌+◌, Bool, true, false, ◌==◌, nat_lt, if◌then◌else◌, ℤ, Option, Some, None}
use Rattle.cf_object.specs.Obj.{PrimOp}

-- a whole number, or a made constructor with its number in the declaration and its fields
mutual
  pub data Val : Type 0 where
    Num : ℤ → Val
    Made : (tag : ℕ) → Vals → Val

  pub data Vals : Type 0 where
    NoVals : Vals
    AndVal : Val → Vals → Vals

-- Terms of a run. An occurrence of a computation variable carries whether it is a jump, and keeps it when a definition comes to stand for it.
mutual
  pub data Run : Type 0 where
    Is : Val → Run
    Bound : (jump : Bool) (x : ℕ) → Run
    Stands : (jump : Bool) → Group → (i : ℕ) → Run
    DoPrim : PrimOp → Run → Run → Run
    DoLet : Run → Run → Run
    DoDefs : Group → Run → Run
    Fn : Run → Run
    Apply : Run → Run → Run
    Build : (tag : ℕ) → Runs → Run
    Match : Run → RunBranches → Run
    Stop : Run

  pub data Runs : Type 0 where
    NoRuns : Runs
    AndRun : Run → Runs → Runs

  -- definitions, and whether they use one another
  pub data Group : Type 0 where
    Defined : (again : Bool) → Runs → Group

  -- one branch for each constructor, in the order of their numbers, with the number of names that it binds
  pub data RunBranches : Type 0 where
    NoRunBranches : RunBranches
    AndRunBranch : (binds : ℕ) → Run → RunBranches → RunBranches

-- how many fields
abbrev pub count_vals : Vals → ℕ
count_vals NoVals = 0
count_vals (AndVal v vs) = suc (count_vals vs)

-- how many terms
abbrev pub count_runs : Runs → ℕ
count_runs NoRuns = 0
count_runs (AndRun t ts) = suc (count_runs ts)

-- the term with this number, from 0
abbrev pub nth_run : Runs → ℕ → Option Run
nth_run NoRuns i = None
nth_run (AndRun t ts) zero = Some t
nth_run (AndRun t ts) (suc i) = nth_run ts i

-- the definitions of a group
abbrev pub definitions : Group → Runs
definitions (Defined again ts) = ts

-- what is put for a variable
pub data Closed : Type 0 where
  ByVal : Val → Closed
  ByDef : Group → (i : ℕ) → Closed

-- what stands for an occurrence
abbrev pub as_term : Bool → Closed → Run
as_term jump (ByVal v) = Is v
as_term jump (ByDef g i) = Stands jump g i

-- a variable when variable k is put in, and those above it fall by one
abbrev pub put_var : ℕ → Closed → Bool → ℕ → Run
put_var k c jump x = if x == k then as_term jump c else (if nat_lt k x then Bound jump (pred x) else Bound jump x)

abbrev mutual
  pub put : ℕ → Closed → Run → Run
  put k c (Is v) = Is v
  put k c (Bound jump x) = put_var k c jump x
  put k c (Stands jump g i) = Stands jump g i
  put k c (DoPrim op t u) = DoPrim op (put k c t) (put k c u)
  put k c (DoLet t u) = DoLet (put k c t) (put (suc k) c u)
  put k c (DoDefs g u) = DoDefs (put_group k c g) (put (k + count_group g) c u)
  put k c (Fn t) = Fn (put (suc k) c t)
  put k c (Apply t u) = Apply (put k c t) (put k c u)
  put k c (Build tag ts) = Build tag (put_runs k c ts)
  put k c (Match t bs) = Match (put k c t) (put_branches k c bs)
  put k c Stop = Stop

  pub put_runs : ℕ → Closed → Runs → Runs
  put_runs k c NoRuns = NoRuns
  put_runs k c (AndRun t ts) = AndRun (put k c t) (put_runs k c ts)

  pub put_group : ℕ → Closed → Group → Group
  put_group k c (Defined true ts) = Defined true (put_runs (k + count_runs ts) c ts)
  put_group k c (Defined false ts) = Defined false (put_runs k c ts)

  pub put_branches : ℕ → Closed → RunBranches → RunBranches
  put_branches k c NoRunBranches = NoRunBranches
  put_branches k c (AndRunBranch n u bs) = AndRunBranch n (put (k + n) c u) (put_branches k c bs)

  pub count_group : Group → ℕ
  count_group (Defined again ts) = count_runs ts

-- the fields of a branch put in, the last of which has index 0
abbrev pub fill : Vals → Run → Run
fill NoVals t = t
fill (AndVal v vs) t = fill vs (put (count_vals vs) (ByVal v) t)

-- the first n definitions of a group put in, from number i on
abbrev pub enter_from : Group → ℕ → ℕ → Run → Run
enter_from g i zero t = t
enter_from g i (suc n) t = enter_from g (suc i) n (put n (ByDef g i) t)

-- all definitions of a group put in
abbrev pub enter : Group → Run → Run
enter g t = enter_from g 0 (count_runs (definitions g)) t

-- the definition for which a variable stands
abbrev pub unfolded : Group → ℕ → Option Run
unfolded (Defined true ts) i = elim (nth_run ts i) [ Some t ↦ Some (enter (Defined true ts) t) | None ↦ None ]
unfolded (Defined false ts) i = nth_run ts i
