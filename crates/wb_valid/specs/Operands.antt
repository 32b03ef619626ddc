-- What is known of the stack at a place of a body, and what is left of it where operands are taken.
use Rattle.std.specs.Prelude.{◌≡◌, Bool, true, false, List, [], ◌∷◌, Option, Some, None}
use Rattle.wb_valid.specs.Syntax.{NumType, I32, I64}
pub use Rattle.wb_valid.specs.declared.operands.Operands.{Operands}

-- the two types are one
abbrev pub same_type : NumType → NumType → Bool
same_type I32 I32 = true
same_type I64 I64 = true
same_type _ _ = false

-- an operand of which this is known may have the type
abbrev pub may_be : Option NumType → NumType → Bool
may_be None t = true
may_be (Some u) t = same_type u t

-- these operands on top, and behind a jump anything below
abbrev pub operands : List (Option NumType) → Bool → Operands
operands ks e = record { known = ks; endless = e }

-- the place where a block begins
abbrev pub empty : Operands
empty = operands [] false

-- the place behind a jump
abbrev pub anything : Operands
anything = operands [] true

-- what is left where no operand is known
abbrev pub pop_below : Bool → Option Operands
pop_below true = Some anything
pop_below false = None

-- what is left where an operand of the type is taken
abbrev pub pop_from : NumType → List (Option NumType) → Bool → Option Operands
pop_from t [] e = pop_below e
pop_from t (k ∷ ks) e = elim (may_be k t) [ true ↦ Some (operands ks e) | false ↦ None ]

-- the same of the operands of a place
abbrev pub pop : NumType → Operands → Option Operands
pop t o = pop_from t o.known o.endless

-- what is left where operands of these types are taken, the top first
abbrev pub pops : List NumType → Operands → Option Operands
pops [] o = Some o
pops (t ∷ ts) o = elim (pop t o) [ None ↦ None | Some p ↦ pops ts p ]

-- an operand that was taken, and what is left
pub record Taken : Type 0 where
  pub operand : Option NumType
  pub left : Operands

-- an operand where none is known
abbrev pub take_below : Bool → Option Taken
take_below true = Some (record { operand = None; left = anything })
take_below false = None

-- an operand of any type
abbrev pub take_from : List (Option NumType) → Bool → Option Taken
take_from [] e = take_below e
take_from (k ∷ ks) e = Some (record { operand = k; left = operands ks e })

-- the same of the operands of a place
abbrev pub take_any : Operands → Option Taken
take_any o = take_from o.known o.endless

-- with one more on top
abbrev pub put : Option NumType → Operands → Operands
put k o = operands (k ∷ o.known) o.endless

-- with one more of a known type, or as they are
abbrev pub put_result : Option NumType → Operands → Operands
put_result None o = o
put_result (Some t) o = put (Some t) o

-- the same where there is a place
abbrev pub put_result_on : Option NumType → Option Operands → Option Operands
put_result_on r None = None
put_result_on r (Some o) = Some (put_result r o)

-- what is known of an operand that agrees with both
abbrev pub joined : Option NumType → Option NumType → Option (Option NumType)
joined None k = Some k
joined (Some t) None = Some (Some t)
joined (Some t) (Some u) = elim (same_type t u) [ true ↦ Some (Some t) | false ↦ None ]

-- no operand is known
abbrev pub none_known : Operands → Bool
none_known o = elim o.known [ [] ↦ true | k ∷ ks ↦ false ]

-- exactly the result stands there
abbrev pub is_finished : Option NumType → Operands → Bool
is_finished None o = none_known o
is_finished (Some t) o = elim (pop t o) [ None ↦ false | Some p ↦ none_known p ]

-- the operands that were to be taken were there, and so much is left
abbrev pub PopsTo : Option Operands → Bool → Operands → Type 0
PopsTo o true left = o ≡ Some left
PopsTo o false left = o ≡ None

-- an operand was there, so much is known of it, and so much is left
abbrev pub Takes : Option Taken → Option (Option NumType) → Operands → Type 0
Takes o (Some k) left = o ≡ Some (record { operand = k; left = left })
Takes o None left = o ≡ None
