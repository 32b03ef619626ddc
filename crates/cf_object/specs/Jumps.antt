-- Which occurrences of a computation variable are jumps.
use Rattle.std.specs.Prelude.{ℕ, zero, suc, Bool, true, false, ◌&&◌, ◌||◌, if◌then◌else◌, List, [], ◌∷◌, drop}
use Rattle.cf_object.specs.Obj.{Value, Arrow, Obj, Var, Lit, Prim, LetV, LetRec, OLam, OApp, Con, Case, Fail, Objs, NoObjs, AndObj, Defs, NoDefs, AndDef, Branches, NoBranches, AndBranch, count_defs}
use Rattle.cf_object.specs.Run.{Num, Run, Is, Bound, DoPrim, DoLet, DoDefs, Fn, Apply, Build, Match, Stop, Runs, NoRuns, AndRun, Defined, RunBranches, NoRunBranches, AndRunBranch}

-- How a variable is used in a term: not at all, in tail positions of the term alone, or elsewhere too.
pub data Use : Type 0 where
  Absent : Use
  Tailed : Use
  Elsewhere : Use

-- a variable that is used twice over
abbrev pub both : Use → Use → Use
both Absent v = v
both Tailed Absent = Tailed
both Tailed v = v
both Elsewhere v = Elsewhere

-- by index; the variables behind the end are not used
abbrev pub merge : List Use → List Use → List Use
merge [] vs = vs
merge (u ∷ us) [] = u ∷ us
merge (u ∷ us) (v ∷ vs) = both u v ∷ merge us vs

-- a use in a part that is no tail position
abbrev pub no_tail : Use → Use
no_tail Absent = Absent
no_tail Tailed = Elsewhere
no_tail Elsewhere = Elsewhere

-- the uses in a part that is no tail position
abbrev pub demote : List Use → List Use
demote [] = []
demote (u ∷ us) = no_tail u ∷ demote us

-- this variable alone, in a tail position
abbrev pub only_at : ℕ → List Use
only_at zero = Tailed ∷ []
only_at (suc x) = Absent ∷ only_at x

-- no use but in tail positions
abbrev pub is_tailed : Use → Bool
is_tailed Elsewhere = false
is_tailed _ = true

-- none of the first n variables is used elsewhere
abbrev pub all_tailed : ℕ → List Use → Bool
all_tailed zero us = true
all_tailed (suc n) [] = true
all_tailed (suc n) (u ∷ us) = is_tailed u && all_tailed n us

-- a definition is a tail position where its variable is a join
abbrev pub in_definition : Bool → List Use → List Use
in_definition joins us = if joins then us else demote us

abbrev mutual
  pub uses : Obj → List Use
  uses (Var x) = only_at x
  uses (Lit z) = []
  uses (Prim op t u) = demote (merge (uses t) (uses u))
  uses (LetV (Value a) t u) = merge (demote (uses t)) (drop 1 (uses u))
  uses (LetV (Arrow a b) t u) = (let v = uses u in merge (in_definition (all_tailed 1 v) (uses t)) (drop 1 v))
  uses (LetRec ds u) =
      let n = count_defs ds in
      let d = uses_defs ds in
      let v = uses u in
      drop n (merge (in_definition (all_tailed n (merge d v)) d) v)
  uses (OLam a t) = drop 1 (uses t)
  uses (OApp t u) = merge (uses t) (demote (uses u))
  uses (Con d tag ps ts) = uses_objs ts
  uses (Case t b bs) = merge (demote (uses t)) (uses_branches bs)
  uses (Fail a) = []

  pub uses_objs : Objs → List Use
  uses_objs NoObjs = []
  uses_objs (AndObj t ts) = merge (demote (uses t)) (uses_objs ts)

  pub uses_defs : Defs → List Use
  uses_defs NoDefs = []
  uses_defs (AndDef a t ds) = merge (uses t) (uses_defs ds)

  pub uses_branches : Branches → List Use
  uses_branches NoBranches = []
  uses_branches (AndBranch d tag m u bs) = merge (drop m (uses u)) (uses_branches bs)

-- the variable of a computation-typed `let` is a join: it does not stand in its definition
abbrev pub is_join : Obj → Bool
is_join u = all_tailed 1 (uses u)

-- the variables of a letrec are joins, all together
abbrev pub are_joins : Defs → Obj → Bool
are_joins ds u = all_tailed (count_defs ds) (merge (uses_defs ds) (uses u))

-- what is known of a variable in scope: it is a join, and the place is a tail position of its own definition
pub record Known : Type 0 where
  pub joins : Bool
  pub own : Bool

-- whether an occurrence of this variable is a jump
abbrev pub known_at : List Known → ℕ → Bool
known_at [] x = false
known_at (k ∷ ks) zero = k.joins || k.own
known_at (k ∷ ks) (suc x) = known_at ks x

-- at a place that is no tail position of what is around
abbrev pub apart : List Known → List Known
apart [] = []
apart (k ∷ ks) = record { joins = k.joins; own = false } ∷ apart ks

-- in a definition: a tail position of what is around only where its variable is a join
abbrev pub within : Bool → List Known → List Known
within joins ks = if joins then ks else apart ks

-- n variables more that stand for values
abbrev pub plain : List Known → ℕ → List Known
plain ks zero = ks
plain ks (suc n) = record { joins = false; own = false } ∷ plain ks n

-- the variables of a group, of which number i (from the last, 0) is the one whose definition is entered; i past the group: none
abbrev pub group_known : Bool → ℕ → ℕ → List Known → List Known
group_known joins zero i ks = ks
group_known joins (suc n) zero ks = record { joins = joins; own = true } ∷ group_known joins n n ks
group_known joins (suc n) (suc i) ks = record { joins = joins; own = false } ∷ group_known joins n i ks

-- the term of a run: types are left out, data types too, and each occurrence carries whether it is a jump
abbrev mutual
  pub marked : List Known → Obj → Run
  marked ks (Var x) = Bound (known_at ks x) x
  marked ks (Lit z) = Is (Num z)
  marked ks (Prim op t u) = DoPrim op (marked (apart ks) t) (marked (apart ks) u)
  marked ks (LetV (Value a) t u) = DoLet (marked (apart ks) t) (marked (record { joins = false; own = false } ∷ ks) u)
  marked ks (LetV (Arrow a b) t u) =
      DoDefs (Defined false (AndRun (marked (within (is_join u) ks) t) NoRuns)) (marked (record { joins = is_join u; own = false } ∷ ks) u)
  marked ks (LetRec ds u) =
      DoDefs (Defined true (marked_defs (are_joins ds u) (count_defs ds) (within (are_joins ds u) ks) ds)) (marked (group_known (are_joins ds u) (count_defs ds) (count_defs ds) ks) u)
  marked ks (OLam a t) = Fn (marked (record { joins = false; own = false } ∷ ks) t)
  marked ks (OApp t u) = Apply (marked ks t) (marked (apart ks) u)
  marked ks (Con d tag ps ts) = Build tag (marked_objs ks ts)
  marked ks (Case t b bs) = Match (marked (apart ks) t) (marked_branches ks bs)
  marked ks (Fail a) = Stop

  pub marked_objs : List Known → Objs → Runs
  marked_objs ks NoObjs = NoRuns
  marked_objs ks (AndObj t ts) = AndRun (marked (apart ks) t) (marked_objs ks ts)

  -- n definitions in all; those left are numbered from the last
  pub marked_defs : Bool → (n : ℕ) → List Known → Defs → Runs
  marked_defs joins n ks NoDefs = NoRuns
  marked_defs joins n ks (AndDef a t ds) = AndRun (marked (group_known joins n (count_defs ds) ks) t) (marked_defs joins n ks ds)

  pub marked_branches : List Known → Branches → RunBranches
  marked_branches ks NoBranches = NoRunBranches
  marked_branches ks (AndBranch d tag m u bs) = AndRunBranch m (marked (plain ks m) u) (marked_branches ks bs)
