-- Sections as a reader keeps them, and the answer of decoding.
use Rattle.std.specs.Prelude.{◌≡◌, ℕ, ◌-◌, List, [], ◌∷◌, ◌++◌, map, length, Some, None, Result, Ok, Err}
use Rattle.wb_syntax.specs.declared.syntax.Module.{Module}
use Rattle.wb_syntax.specs.Grammar.{Read, Reads, Stops}
use Rattle.wb_syntax.specs.Binary.{Section, Custom, Types, FuncTypes, Memories, Globals, Exports, Codes, Gathered, gather, gathered, module_of, Decoded, IsModule, MalformedAt, OutsideAt, fault_at, decoded}
use Rattle.wb_decode.specs.Reading.{what_of}
use Rattle.wb_decode.specs.declared.ends.Fault.{Fault}
use Rattle.wb_decode.specs.declared.ends.Fault.TheVariants as faults
use Rattle.wb_decode.specs.declared.ends.DecodeEnd.{DecodeEnd}
use Rattle.wb_decode.specs.declared.ends.DecodeEnd.TheVariants as ends
use Rattle.wb_decode.specs.declared.contents.Contents as kept_contents
use Rattle.wb_decode.specs.declared.sections.Section as kept
use Rattle.wb_decode.specs.declared.sections.Section.TheVariants as kinds

-- a section that was read, as the definition of modules has it
abbrev pub section_of : kept.Section → Section
section_of kinds.Custom = Custom
section_of (kinds.Types xs) = Types xs
section_of (kinds.FuncTypes xs) = FuncTypes xs
section_of (kinds.Memories xs) = Memories xs
section_of (kinds.Globals xs) = Globals xs
section_of (kinds.Exports xs) = Exports xs
section_of (kinds.Codes xs) = Codes xs

-- sections before contents that were gathered
abbrev pub gather_all : List Section → Gathered → Gathered
gather_all [] g = g
gather_all (s ∷ ss) g = gather s (gather_all ss g)

-- the module of these sections and of what was gathered behind them; where functions and bodies differ, the fault is at the end
abbrev pub made : (whole : ℕ) → List Section → Gathered → Decoded
made whole ss g = elim (module_of (gather_all ss g)) [ None ↦ MalformedAt whole | Some m ↦ IsModule m ]

-- the answer of decoding, with these sections read and the others to be read
abbrev pub answer_from : (whole : ℕ) → List Section → Read (List Section) → Decoded
answer_from whole ss (Reads more left) = made whole ss (gathered more)
answer_from whole ss (Stops left fault) = fault_at (whole - length left) fault

-- a fault within the section at this offset is this answer; want of memory says nothing
abbrev pub FaultAt : (at : ℕ) → Fault → Decoded → Type 0
FaultAt at faults.Malformed d = d ≡ MalformedAt at
FaultAt at (faults.Outside what) d = d ≡ OutsideAt at (what_of what)
FaultAt at faults.NoMemory d = Unit {0}

-- this end is this answer of decoding; want of memory says nothing
abbrev pub EndsAs : DecodeEnd → Decoded → Type 0
EndsAs (ends.Malformed at) d = d ≡ MalformedAt at
EndsAs (ends.Outside at what) d = d ≡ OutsideAt at (what_of what)
EndsAs ends.NoMemory d = Unit {0}

-- what is answered, a module seen by view, is what decoding gives
abbrev pub Gives : {X : Type 0} → (X → Decoded) → Result X DecodeEnd → Decoded → Type 0
Gives view (Ok x) d = d ≡ view x
Gives view (Err end) d = EndsAs end d

-- the answer of `decode` is what these bytes are read as
abbrev pub Decodes : List ℕ → Result Module DecodeEnd → Type 0
Decodes bytes result = Gives IsModule result (decoded bytes)

-- contents that were gathered, as the definition of modules has them
abbrev pub gathered_of : kept_contents.Contents → Gathered
gathered_of g = record { types = g.types; func_types = g.func_types; memories = g.memories; globals = g.globals; exports = g.exports; codes = g.codes }

-- a section was kept behind others: the answer is that of all of them
abbrev pub Keeps : List kept.Section → kept.Section → List kept.Section → Type 0
Keeps before s now = (whole : ℕ) (r : Read (List Section)) → answer_from whole (map section_of now) r ≡ answer_from whole (map section_of before ++ section_of s ∷ []) r
