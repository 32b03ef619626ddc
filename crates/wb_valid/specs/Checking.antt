-- The constructs that are open at a place of a body, and where each instruction leads.
use Rattle.std.specs.Prelude.{◌≡◌, Bool, true, false, ◌&&◌, List, [], ◌∷◌, map, Option, Some, None}
use Rattle.wb_valid.specs.Syntax.{NumType, I32, Instr, Block, Loop, If, Else, End}
use Rattle.wb_syntax.specs.Typing.{Context}
use Rattle.wb_valid.specs.Operands.{Operands, empty, pop, put_result, is_finished}
use Rattle.wb_valid.specs.Effects.{effect, applied}
pub use Rattle.wb_valid.specs.declared.frames.Kind.{Kind}
pub use Rattle.wb_valid.specs.declared.frames.Kind.TheVariants.{Plain as Whole, Repeated, FirstBranch}
pub use Rattle.wb_valid.specs.declared.frames.Frame.{Frame}
pub use Rattle.wb_valid.specs.declared.frames.Step.{Step}
pub use Rattle.wb_valid.specs.declared.frames.Step.TheVariants.{Inside, Closed, Refused as Stops}

-- what a branch to a construct of this kind and result carries
abbrev pub label_of : Kind → Option NumType → Option NumType
label_of Repeated r = None
label_of _ r = r

-- what a branch to this construct carries
abbrev pub label : Frame → Option NumType
label f = label_of f.kind f.result

-- a construct that begins
abbrev pub opened : Kind → Option NumType → Frame
opened k r = record { kind = k; result = r; operands = empty }

-- a construct with these operands
abbrev pub with_operands : Frame → Operands → Frame
with_operands f o = record f { operands = o }

-- the result of a construct goes to the one around it
abbrev pub delivered : Option NumType → List Frame → List Frame
delivered r [] = []
delivered r (g ∷ gs) = with_operands g (put_result r g.operands) ∷ gs

-- an if without else may end here: there is no result
abbrev pub may_end : Kind → Option NumType → Bool
may_end FirstBranch None = true
may_end FirstBranch (Some t) = false
may_end _ r = true

-- the end of a construct
abbrev pub ended : Frame → List Frame → Option (List Frame)
ended f fs = elim (is_finished f.result f.operands && may_end f.kind f.result) [ true ↦ Some (delivered f.result fs) | false ↦ None ]

-- the else of an if
abbrev pub turned : Kind → Frame → List Frame → Option (List Frame)
turned FirstBranch f fs = elim (is_finished f.result f.operands) [ true ↦ Some (opened Whole f.result ∷ fs) | false ↦ None ]
turned _ f fs = None

-- a construct with the operands that are left
abbrev pub going_on : Frame → List Frame → Option Operands → Option (List Frame)
going_on f fs None = None
going_on f fs (Some o) = Some (with_operands f o ∷ fs)

-- an if takes its operand from the construct around it
abbrev pub branching : Option NumType → Frame → List Frame → Option Operands → Option (List Frame)
branching t f fs None = None
branching t f fs (Some o) = Some (opened FirstBranch t ∷ with_operands f o ∷ fs)

-- the context inside these constructs, the innermost first
abbrev pub inner : Context → List Frame → Context
inner base fs = record base { labels = map label fs }

-- the constructs after an instruction, or it has no typing there
abbrev pub step_in : Context → Frame → List Frame → Instr → Option (List Frame)
step_in base f fs (Block t) = Some (opened Whole t ∷ f ∷ fs)
step_in base f fs (Loop t) = Some (opened Repeated t ∷ f ∷ fs)
step_in base f fs (If t) = branching t f fs (pop I32 f.operands)
step_in base f fs Else = turned f.kind f fs
step_in base f fs End = ended f fs
step_in base f fs i = going_on f fs (applied base.types (effect (inner base (f ∷ fs)) i) f.operands)

-- nothing follows the end of the body
abbrev pub step : Context → List Frame → Instr → Option (List Frame)
step base [] i = None
step base (f ∷ fs) i = step_in base f fs i

-- the instructions close all these constructs
abbrev pub closes : Context → List Frame → List Instr → Bool
closes base [] [] = true
closes base (f ∷ fs) [] = false
closes base fs (i ∷ is) = elim (step base fs i) [ None ↦ false | Some gs ↦ closes base gs is ]

-- what a step answers, and the constructs that it leaves
abbrev pub Steps : Option (List Frame) → Step → List Frame → Type 0
Steps o Inside new = o ≡ Some new
Steps o Closed new = o ≡ Some []
Steps o Stops new = o ≡ None
