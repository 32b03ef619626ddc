-- Tables of names as the code has them, for the contracts inside this crate.
use Rattle.std.specs.Prelude.{ℕ, List, [], map, Option, Some, None}
use Rattle.cf_core_text.specs.declared.naming.Names as table
use Rattle.cf_core_text.specs.declared.pieces.Piece.{Piece}
use Rattle.cf_core_text.specs.Names.{Names}
use Rattle.cf_core_text.specs.Text.{gap, joined, behind}

-- the names that a table has
abbrev pub names_in : table.Names → Names
names_in n = record { types = map (λ t. t.now) n.types.items; globals = map (λ x. x.now) n.globals.items }

-- the text between a token and the one before it, if there is one
abbrev pub gap_behind : Option Piece → Piece → List ℕ
gap_behind None q = []
gap_behind (Some p) q = gap p q

-- the text of tokens behind another one, or at the beginning
abbrev pub text_behind : Names → Option Piece → List Piece → List ℕ
text_behind N None ps = joined N ps
text_behind N (Some p) ps = behind N p ps
