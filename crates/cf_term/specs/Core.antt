-- Core terms: one generic node under named forms. A form is a head with its parts; `parts` is the only place that says
-- how many variables a part is under and whether evaluation keeps it.
use Rattle.std.specs.Prelude.{ℕ, zero, suc, max, Bool, true, false, List, [], ◌∷◌, ℤ}
use Rattle.cf_term.specs.declared.operations.Op.{Op}

-- a branch of a case: its data type and constructor, and the number of names that it binds
pub record Branch : Type 0 where
  pub type : ℕ
  pub ctor : ℕ
  pub names : ℕ

-- what a form is, without its parts
pub data Head : Type 0 where
  MetaTyH ValTyH CompTyH TyH : Head
  PiH LamH AppH : (implicit : Bool) → Head
  LetH SigH PairH FstH SndH : Head
  UnitTyH UnitH UnitRecH BoolTyH TrueH FalseH BoolRecH NatTyH ZeroH SucH NatRecH ListTyH NilH ConsH ListRecH : Head
  LiftH QuoteH VH CH IntTyH : Head
  DataH : (type : ℕ) → Head
  ArrH : Head
  LitH : ℤ → Head
  PrimH : Op → Head
  LetVH : Head
  -- as many definitions
  LetRecH : (definitions : ℕ) → Head
  OLamH OAppH : Head
  -- a constructor of a data type, and how many of the parts are parameters
  ConH : (type ctor params : ℕ) → Head
  CaseH : List Branch → Head
  FailH SpliceH : Head
  HoleH : ℕ → Head
  -- its one part was inserted
  MarkH : Head

-- how many variables a part is under, and whether evaluation leaves it as it is until it is used
pub record Part : Type 0 where
  pub binds : ℕ
  pub kept : Bool

-- evaluated, under no variable
abbrev pub here : Part
here = record { binds = 0; kept = false }

-- kept, under no variable
abbrev pub later : Part
later = record { binds = 0; kept = true }

-- kept, under one variable
abbrev pub body : Part
body = record { binds = 1; kept = true }

-- evaluated, under n object variables
abbrev pub under : ℕ → Part
under n = record { binds = n; kept = false }

-- the m definitions of a group of n, each a type and then a body, and the last part
abbrev pub group : (n m : ℕ) → List Part
group n zero = under n ∷ []
group n (suc m) = here ∷ under n ∷ group n m

-- a part for each branch, under its names
abbrev pub branch_parts : List Branch → List Part
branch_parts [] = []
branch_parts (b ∷ bs) = under b.names ∷ branch_parts bs

-- parts past the end of the list are `here`
abbrev pub parts : Head → List Part
parts (PiH i) = here ∷ body ∷ []
parts (LamH i) = here ∷ body ∷ []
parts LetH = later ∷ here ∷ body ∷ []
parts SigH = here ∷ body ∷ []
parts UnitRecH = later ∷ later ∷ here ∷ []
parts BoolRecH = later ∷ later ∷ later ∷ here ∷ []
parts NatRecH = later ∷ later ∷ later ∷ here ∷ []
parts ListRecH = later ∷ later ∷ later ∷ here ∷ []
parts LetVH = here ∷ here ∷ under 1 ∷ []
parts (LetRecH n) = group n n
parts OLamH = here ∷ under 1 ∷ []
parts (CaseH bs) = here ∷ here ∷ branch_parts bs
parts _ = []

mutual
  pub data Tm : Type 0 where
    var : ℕ → Tm
    node : Head → Tms → Tm

  pub data Tms : Type 0 where
    nil : Tms
    cons : Tm → Tms → Tms

-- the part that comes next
abbrev pub first_part : List Part → Part
first_part [] = here
first_part (p ∷ ps) = p

-- the parts after it
abbrev pub rest_parts : List Part → List Part
rest_parts [] = []
rest_parts (p ∷ ps) = ps

-- how deep a tree is, marks counted: each part is less deep than its whole
abbrev mutual
  pub depth : Tm → ℕ
  depth (var i) = 1
  depth (node h ts) = suc (depth_all ts)

  pub depth_all : Tms → ℕ
  depth_all nil = 0
  depth_all (cons t ts) = max (depth t) (depth_all ts)
