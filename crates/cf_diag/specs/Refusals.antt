-- What is written of each refusal. All of it is ASCII, so that a character is a byte.
use Rattle.std.specs.Prelude.{◌++◌, Bool, List, [], ℕ, codes, decimal, false, true}
use Rattle.cf_base.specs.declared.at.At.{At}
use Rattle.cf_base.specs.declared.limit.Limit.{Limit}
use Rattle.cf_base.specs.declared.limit.Limit.TheVariants as limit
use Rattle.wb_decode.specs.declared.ends.What.{What}
use Rattle.wb_decode.specs.declared.ends.What.TheVariants as what
use Rattle.wb_valid.specs.declared.part.Part.{Part}
use Rattle.wb_valid.specs.declared.part.Part.TheVariants as part
use Rattle.cf_diag.specs.declared.refusal.Refusal.{Refusal}
use Rattle.cf_diag.specs.declared.refusal.Refusal.TheVariants.{Arity, BadChar, Invalid, Later, Literal, Malformed, NoMain, NoMemory, NotText, Outside, ReadFault, StackFull, StepLimit, Stuck, Syntax, TooLong, TooMany, TooMuchMemory, TooNested, Twice, Unknown, Usage, WriteFault}

-- the text that a place lies in, where it is the prelude
abbrev pub origin_text : Bool → List ℕ
origin_text true = codes "prelude "
origin_text false = []

-- a place is its offset
abbrev pub at_text : At → List ℕ
at_text at = origin_text at.prelude ++ decimal at.offset

-- what there are too many of
abbrev pub limit_text : Limit → List ℕ
limit_text limit.Declarations = codes "declarations"
limit_text limit.Parameters = codes "parameters"
limit_text limit.Constructors = codes "constructors"
limit_text limit.Fields = codes "fields"
limit_text limit.Arguments = codes "arguments"

-- what stands outside the profile
abbrev pub what_text : What → List ℕ
what_text what.Import = codes "import"
what_text what.Table = codes "table"
what_text what.Start = codes "start"
what_text what.Element = codes "element"
what_text what.DataPart = codes "data"
what_text what.Float = codes "float"

-- a part of a module
abbrev pub part_text : Part → List ℕ
part_text (part.FuncType f) = codes "function type " ++ decimal f
part_text part.Memories = codes "memories"
part_text part.MemoryLimits = codes "limits"
part_text (part.GlobalInit g) = codes "global " ++ decimal g
part_text (part.ExportOf e) = codes "export " ++ decimal e
part_text (part.Body f) = codes "body " ++ decimal f

-- the words of a refusal
abbrev pub words : Refusal → List ℕ
words (Usage i) = codes "usage at word " ++ decimal i
words ReadFault = codes "read fault"
words TooLong = codes "input too long"
words (NotText n) = codes "not text at " ++ decimal n
words (BadChar n) = codes "bad character at " ++ decimal n
words (Syntax at) = codes "syntax at " ++ at_text at
words (TooNested at) = codes "nested too deep at " ++ at_text at
words (TooMany at what) = codes "too many " ++ limit_text what ++ codes " at " ++ at_text at
words (Literal at) = codes "literal out of range at " ++ at_text at
words (Unknown at) = codes "unknown name at " ++ at_text at
words (Twice at) = codes "declared twice at " ++ at_text at
words Later = codes "form not built yet"
words (Malformed n) = codes "malformed at " ++ decimal n
words (Outside n w) = codes "outside the profile at " ++ decimal n ++ codes ": " ++ what_text w
words (Invalid p) = codes "invalid " ++ part_text p
words (TooMuchMemory n) = codes "memory of " ++ decimal n ++ codes " pages"
words NoMain = codes "no exported main"
words (Arity given wanted) = codes "arity " ++ decimal given ++ codes ", wanted " ++ decimal wanted
words (StepLimit n) = codes "step limit " ++ decimal n
words (StackFull n) = codes "stack full at " ++ decimal n ++ codes " words"
words Stuck = codes "stuck"
words WriteFault = codes "write fault"
words NoMemory = codes "no memory"

-- the line of a refusal
abbrev pub refusal_text : Refusal → List ℕ
refusal_text r = codes "refused: " ++ words r ++ codes "\n"
