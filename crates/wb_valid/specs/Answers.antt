-- What `validate` answers.
use Rattle.std.specs.Prelude.{◌≡◌, Result, Ok, Err}
use Rattle.wb_valid.specs.Syntax.{Module}
use Rattle.wb_syntax.specs.Typing.{Part, FuncTypeOf, Memories, MemoryLimits, GlobalInit, ExportOf, Body, Valid, IsFirstInvalid}
use Rattle.wb_valid.specs.declared.part.Part.{Part as ThePart}
use Rattle.wb_valid.specs.declared.part.Part.TheVariants.{FuncType as AFuncType, Memories as TheMemories, MemoryLimits as TheLimits, GlobalInit as AGlobalInit, ExportOf as AnExport, Body as ABody}
use Rattle.wb_valid.specs.declared.part.InvalidEnd.{InvalidEnd}
use Rattle.wb_valid.specs.declared.part.InvalidEnd.TheVariants.{Invalid, NoMemory}

-- the part that is named
abbrev pub part_of : ThePart → Part
part_of (AFuncType f) = FuncTypeOf f
part_of TheMemories = Memories
part_of TheLimits = MemoryLimits
part_of (AGlobalInit g) = GlobalInit g
part_of (AnExport e) = ExportOf e
part_of (ABody f) = Body f

-- the module is valid and handed back, or the part is the first that is not valid; want of memory tells nothing
abbrev pub Judges : Module → Result Module InvalidEnd → Type 0
Judges m (Ok v) = (v ≡ m) × Valid m
Judges m (Err (Invalid p)) = IsFirstInvalid m (part_of p)
Judges m (Err NoMemory) = Unit {0}
