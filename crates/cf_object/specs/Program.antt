-- Object programs, and their runs on arguments.
use Rattle.std.specs.Prelude.{◌≡◌, ℕ, List, [], ◌∷◌, ℤ}
use Rattle.cf_object.specs.Obj.{ObjType, Obj, Var, Lit, LetV, OApp}
use Rattle.cf_object.specs.Jumps.{marked}
use Rattle.cf_base.specs.declared.outcome.Outcome.{Outcome}
use Rattle.cf_object.specs.Machine.{State, After, Ended, run}

-- an object declaration; the body has those before it as variables, the last with index 0
pub record ObjDecl : Type 0 where
  pub type : ObjType
  pub body : Obj

-- a term applied to whole numbers
abbrev pub applied : Obj → List ℤ → Obj
applied t [] = t
applied t (z ∷ zs) = applied (OApp t (Lit z)) zs

-- the declarations as nested `let`s around the last of them, `main`, applied to the arguments
abbrev pub whole : List ObjDecl → List ℤ → Obj
whole [] args = applied (Var 0) args
whole (d ∷ ds) args = LetV d.type d.body (whole ds args)

-- the first state: nothing is used, made or open
abbrev pub first_state : List ObjDecl → List ℤ → State
first_state program args = record { focus = marked [] (whole program args); frames = []; bytes = 0; calls = 0; calls_open = 0 }

-- a run of the program on these arguments, with a region of so many bytes, of n steps at most
abbrev pub program_run : List ObjDecl → List ℤ → (region n : ℕ) → After region
program_run program args region n = run region n (first_state program args) 0

-- the run ends with this outcome within n steps
abbrev pub EndsWithin : List ObjDecl → List ℤ → (region n : ℕ) → Outcome → Type 0
EndsWithin program args region n o = (calls peak : ℕ) × (program_run program args region n ≡ Ended o calls peak)
