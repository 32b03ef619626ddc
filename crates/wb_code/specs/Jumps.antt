-- Where the constructs of a body lead, said by the code that stands there.
use Rattle.std.specs.Prelude.{◌≡◌, ℕ, List, [], ◌∷◌, drop, Option, Some, None}
use Rattle.wb_code.specs.Syntax.{Instr, Block, Loop, If, Else, Code, Nothing}
use Rattle.wb_syntax.specs.Nesting.{Level, levels, nested}
pub use Rattle.wb_code.specs.declared.leading.Jump.{Jump}

-- the levels at a place: the code up to the end of the innermost construct, then that behind it, and so on
abbrev pub place : List Instr → ℕ → Option (List Level)
place body at = levels (drop at body)

-- the levels behind the innermost construct
abbrev pub outside : Option (List Level) → Option (List Level)
outside None = None
outside (Some []) = None
outside (Some (l ∷ ls)) = Some ls

-- the second branch of an if, seen from its first: nothing where there is no else
abbrev pub second : Level → Level
second l = record { code = elim l.other [ None ↦ Nothing | Some d ↦ d ]; other = None }

-- the levels of the second branch
abbrev pub in_second : Option (List Level) → Option (List Level)
in_second None = None
in_second (Some []) = None
in_second (Some (l ∷ ls)) = Some (second l ∷ ls)

-- where an instruction leads that stands before the rest of a body
abbrev pub Leads : (body rest : List Instr) → Instr → Jump → Type 0
Leads body rest (Block t) j = place body j.past ≡ outside (levels rest)
Leads body rest (Loop t) j = place body j.past ≡ outside (levels rest)
Leads body rest (If t) j = (place body j.past ≡ outside (levels rest)) × (place body j.other ≡ in_second (levels rest))
Leads body rest Else j = place body j.past ≡ outside (levels rest)
Leads body rest i j = Unit {0}

-- the same of each instruction from some place of the body on
abbrev pub LeadAlong : (body rest : List Instr) → List Jump → Type 0
LeadAlong body [] [] = Unit {0}
LeadAlong body (i ∷ is) (j ∷ js) = Leads body is i j × LeadAlong body is js
LeadAlong body _ _ = ⊥

-- the jumps of a body that has nested code
abbrev pub AreJumps : List Instr → List Jump → Type 0
AreJumps body js = (c : Code) → nested body ≡ Some c → LeadAlong body body js
