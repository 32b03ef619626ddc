-- Laws of the printed form.
use Rattle.std.specs.Prelude.{ℕ, ◌≡◌, List, [], ◌∷◌, Option, Some, None}
use Rattle.cf_lex.specs.Spelling.{short_mark, long_mark}
use Rattle.cf_lex.specs.declared.marks.Mark.{Mark}
use Rattle.cf_core_text.specs.Text.{mark_text}

-- the mark that these characters spell, if they spell one
abbrev pub mark_of : List ℕ → Option Mark
mark_of (c ∷ []) = short_mark c
mark_of (c ∷ d ∷ []) = long_mark c d
mark_of _ = None

-- a mark is read from its text
abbrev pub MarksAreRead : Type 0
MarksAreRead = (m : Mark) → mark_of (mark_text m) ≡ Some m
