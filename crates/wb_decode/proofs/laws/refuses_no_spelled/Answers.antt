use Rattle.std.proofs.Common.{◌≡◌, ℕ, refl, sym, ◌∙◌}
use Rattle.wb_syntax.specs.declared.syntax.Module.{Module}
use Rattle.wb_syntax.specs.Grammar.{What}
use Rattle.wb_syntax.specs.Binary.{Decoded, IsModule, MalformedAt, OutsideAt}
use Rattle.wb_decode.specs.Reading.{what_of}
use Rattle.wb_decode.specs.declared.ends.DecodeEnd.{DecodeEnd}
use Rattle.wb_decode.specs.declared.ends.DecodeEnd.TheVariants.{Malformed, Outside, NoMemory}
use Rattle.wb_decode.specs.Sections.{EndsAs}
use Rattle.wb_decode.proofs.laws.refuses_no_spelled.Goals as goal

not_malformed : (m : Module) (n : ℕ) → MalformedAt n ≡ IsModule m → ⊥
not_malformed m n e = cc

not_outside : (m : Module) (n : ℕ) (w : What) → OutsideAt n w ≡ IsModule m → ⊥
not_outside m n w e = cc

ends_for_memory : (m : Module) (d : Decoded) (end : DecodeEnd) → d ≡ IsModule m → EndsAs end d → end ≡ NoMemory
ends_for_memory m d (Malformed n) e h = absurd (not_malformed m n (sym h ∙ e))
ends_for_memory m d (Outside n w) e h = absurd (not_outside m n (what_of w) (sym h ∙ e))
ends_for_memory m d NoMemory e h = refl

pub returns : goal.returns
returns c = λ m bytes end e h. ends_for_memory m _ end ((c.decoded_exactly.ensures m bytes).0 e) h
