-- Nested code and its flat list (the standard, 5.4.1): each construct has one end, and else stands directly in an if, once.
use Rattle.std.specs.Prelude.{◌≡◌, List, [], ◌∷◌, ◌++◌, Option, Some, None}
use Rattle.wb_syntax.specs.Syntax.{NumType, Instr, Block, Loop, If, Else, End, Nested, Plain, InBlock, InLoop, InIf, InIfElse, Code, Nothing, Then}

-- nested code written out, without the end of the body
abbrev mutual
  -- one instruction, or a construct from its opening to its end
  pub flat_one : Nested → List Instr
  flat_one (Plain i) = i ∷ []
  flat_one (InBlock t c) = Block t ∷ (flat c ++ End ∷ [])
  flat_one (InLoop t c) = Loop t ∷ (flat c ++ End ∷ [])
  flat_one (InIf t c) = If t ∷ (flat c ++ End ∷ [])
  flat_one (InIfElse t c d) = If t ∷ (flat c ++ Else ∷ (flat d ++ End ∷ []))

  -- one after another
  pub flat : Code → List Instr
  flat Nothing = []
  flat (Then i c) = flat_one i ++ flat c

-- block, loop, if, else and end are forms of nested code and no instructions in it
abbrev pub IsSimple : Instr → Type 0
IsSimple (Block t) = ⊥
IsSimple (Loop t) = ⊥
IsSimple (If t) = ⊥
IsSimple Else = ⊥
IsSimple End = ⊥
IsSimple _ = Unit {0}

-- only simple instructions stand as such in nested code
abbrev mutual
  pub IsProperOne : Nested → Type 0
  IsProperOne (Plain i) = IsSimple i
  IsProperOne (InBlock t c) = IsProper c
  IsProperOne (InLoop t c) = IsProper c
  IsProperOne (InIf t c) = IsProper c
  IsProperOne (InIfElse t c d) = IsProper c × IsProper d

  pub IsProper : Code → Type 0
  IsProper Nothing = Unit {0}
  IsProper (Then i c) = IsProperOne i × IsProper c

-- a construct that is open at a place: `else` may come in the first branch of an if alone
pub data Open : Type 0 where
  FirstBranch : Open
  Construct : Open

-- what follows an instruction in a body with these open constructs, the innermost first
pub data Place : Type 0 where
  Inside : List Open → Place
  -- after the end of the body
  Closed : Place
  -- an else where none may stand
  Misplaced : Place

-- after an else: the second branch of an if, where the first was open
abbrev pub after_else : List Open → Place
after_else (FirstBranch ∷ os) = Inside (Construct ∷ os)
after_else _ = Misplaced

-- after an end: the innermost construct is closed, or else the body
abbrev pub after_end : List Open → Place
after_end [] = Closed
after_end (o ∷ os) = Inside os

-- where an instruction leads from a place with these open constructs
abbrev pub place_after : List Open → Instr → Place
place_after os (Block t) = Inside (Construct ∷ os)
place_after os (Loop t) = Inside (Construct ∷ os)
place_after os (If t) = Inside (FirstBranch ∷ os)
place_after os Else = after_else os
place_after os End = after_end os
place_after os _ = Inside os

-- at this place the rest closes what is open
abbrev pub ClosesAt : Place → (List Open → Type 0) → List Instr → Type 0
ClosesAt (Inside os) Rest is = Rest os
ClosesAt Closed Rest is = is ≡ []
ClosesAt Misplaced Rest is = ⊥

-- these instructions close all that is open, and then the body, and nothing follows
abbrev pub Closes : List Open → List Instr → Type 0
Closes os [] = ⊥
Closes os (i ∷ is) = ClosesAt (place_after os i) (λ qs. Closes qs is) is

-- a body is well nested
abbrev pub IsWellNested : List Instr → Type 0
IsWellNested is = Closes [] is

-- ---- the nested code of a body, read from its last instruction back

-- the code after a place up to the end of its construct, and the else branch that follows it
pub record Level : Type 0 where
  pub code : Code
  pub other : Option Code

-- a construct, or an instruction, before the code of the innermost level
abbrev pub put : Nested → List Level → Option (List Level)
put i [] = None
put i (l ∷ ls) = Some (record { code = Then i l.code; other = l.other } ∷ ls)

-- block and loop: the innermost level is what they hold, and no else stands in them
abbrev pub put_around : (Code → Nested) → List Level → Option (List Level)
put_around make [] = None
put_around make (l ∷ ls) = elim l.other [ None ↦ put (make l.code) ls | Some d ↦ None ]

-- an if: the innermost level is its first branch, and has the second beside it
abbrev pub put_if : Option NumType → List Level → Option (List Level)
put_if t [] = None
put_if t (l ∷ ls) = elim l.other [ None ↦ put (InIf t l.code) ls | Some d ↦ put (InIfElse t l.code d) ls ]

-- an else: the innermost level is the second branch, and that of the first begins
abbrev pub put_else : List Level → Option (List Level)
put_else [] = None
put_else (l ∷ ls) = elim l.other [ None ↦ Some (record { code = Nothing; other = Some l.code } ∷ ls) | Some d ↦ None ]

-- an instruction before what was read behind it
abbrev pub put_instr : Instr → List Level → Option (List Level)
put_instr (Block t) ls = put_around (InBlock t) ls
put_instr (Loop t) ls = put_around (InLoop t) ls
put_instr (If t) ls = put_if t ls
put_instr Else ls = put_else ls
put_instr End ls = Some (record { code = Nothing; other = None } ∷ ls)
put_instr i ls = put (Plain i) ls

-- the same, where what stands behind could be read
abbrev pub put_before : Instr → Option (List Level) → Option (List Level)
put_before i None = None
put_before i (Some ls) = put_instr i ls

-- the levels of a list of instructions, the innermost first
abbrev pub levels : List Instr → Option (List Level)
levels [] = Some []
levels (i ∷ is) = put_before i (levels is)

-- the code of the only level that is left
abbrev pub whole : Option (List Level) → Option Code
whole None = None
whole (Some []) = None
whole (Some (l ∷ [])) = elim l.other [ None ↦ Some l.code | Some d ↦ None ]
whole (Some (l ∷ k ∷ ls)) = None

-- the nested code of a body, its last end left out
abbrev pub nested : List Instr → Option Code
nested is = whole (levels is)
