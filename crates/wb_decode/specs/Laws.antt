-- Laws of decoding.
use Rattle.std.specs.Prelude.{◌≡◌, ℕ, List, ◌↔◌, Ok, Err}
use Rattle.wb_syntax.specs.declared.syntax.Module.{Module}
use Rattle.wb_syntax.specs.Binary.{Encodes}
use Rattle.wb_decode.specs.declared.ends.DecodeEnd.{DecodeEnd}
use Rattle.wb_decode.specs.declared.ends.DecodeEnd.TheVariants.{NoMemory}
use Rattle.wb_decode.specs.Sections.{Decodes}

-- bytes spell a module exactly where it is an answer for them
abbrev pub AnswersSpelled : Type 0
AnswersSpelled = (m : Module) (bytes : List ℕ) → Encodes m bytes ↔ Decodes bytes (Ok m)

-- bytes that spell a module are refused for want of memory alone
abbrev pub RefusesNoSpelled : Type 0
RefusesNoSpelled = (m : Module) (bytes : List ℕ) (end : DecodeEnd) → Encodes m bytes → Decodes bytes (Err end) → end ≡ NoMemory
