-- Laws of command lines.
use Rattle.std.specs.Prelude.{◌≡◌, ℕ, List, ◌⊎◌}
use Rattle.cf_words.specs.declared.command.Command.{Command}
use Rattle.cf_words.specs.Lines.{IsLine, IsUsage}

-- words are the line of one command at most
abbrev pub OneCommand : Type 0
OneCommand = (words : List (List ℕ)) (c d : Command) → IsLine words c → IsLine words d → c ≡ d

-- words are refused at one place at most
abbrev pub OneUsage : Type 0
OneUsage = (words : List (List ℕ)) (i j : ℕ) → IsUsage words i → IsUsage words j → i ≡ j

-- any words are a line or are refused, and never both
abbrev pub LineOrUsage : Type 0
LineOrUsage = (words : List (List ℕ)) → (((c : Command) × IsLine words c) ⊎ ((i : ℕ) × IsUsage words i)) × ((c : Command) (i : ℕ) → IsLine words c → IsUsage words i → ⊥)
