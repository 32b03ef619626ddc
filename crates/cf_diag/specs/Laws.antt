-- A law of the lines of refusals.
use Rattle.std.specs.Prelude.{◌≡◌, ◌<◌, ◌^◌}
use Rattle.wb_valid.specs.declared.part.Part.{Part}
use Rattle.wb_valid.specs.declared.part.Part.TheVariants as part
use Rattle.cf_diag.specs.declared.refusal.Refusal.{Refusal}
use Rattle.cf_diag.specs.declared.refusal.Refusal.TheVariants.{Arity, BadChar, Invalid, Literal, Malformed, NotText, Outside, StackFull, StepLimit, Syntax, TooMany, TooMuchMemory, TooNested, Twice, Unknown, Usage}
use Rattle.cf_diag.specs.Refusals.{refusal_text}

-- the number of a part has 32 bits
abbrev pub PartFits : Part → Type 0
PartFits (part.FuncType f) = f < 2 ^ 32
PartFits (part.GlobalInit g) = g < 2 ^ 32
PartFits (part.ExportOf e) = e < 2 ^ 32
PartFits (part.Body f) = f < 2 ^ 32
PartFits _ = Unit {0}

-- each number of a refusal, as of its place, has 32 bits, and a number of steps 64
abbrev pub Fits : Refusal → Type 0
Fits (Usage i) = i < 2 ^ 32
Fits (NotText n) = n < 2 ^ 32
Fits (BadChar n) = n < 2 ^ 32
Fits (Syntax at) = at.offset < 2 ^ 32
Fits (TooNested at) = at.offset < 2 ^ 32
Fits (TooMany at what) = at.offset < 2 ^ 32
Fits (Literal at) = at.offset < 2 ^ 32
Fits (Unknown at) = at.offset < 2 ^ 32
Fits (Twice at) = at.offset < 2 ^ 32
Fits (Malformed n) = n < 2 ^ 32
Fits (Outside n what) = n < 2 ^ 32
Fits (Invalid p) = PartFits p
Fits (TooMuchMemory n) = n < 2 ^ 32
Fits (Arity given wanted) = (given < 2 ^ 32) × (wanted < 2 ^ 32)
Fits (StepLimit n) = n < 2 ^ 64
Fits (StackFull n) = n < 2 ^ 32
Fits _ = Unit {0}

-- two refusals with one line are one
abbrev pub LinesDiffer : Type 0
LinesDiffer = (r s : Refusal) → Fits r → Fits s → refusal_text r ≡ refusal_text s → r ≡ s
