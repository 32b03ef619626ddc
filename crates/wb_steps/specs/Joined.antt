-- One piece of code behind another.
use Rattle.std.specs.Prelude.{◌≡◌, List, ◌++◌}
use Rattle.wb_syntax.specs.declared.syntax.NumType.{NumType}
use Rattle.wb_syntax.specs.Syntax.{Code, Nothing, Then}
use Rattle.wb_syntax.specs.Nesting.{flat, IsProper}
use Rattle.wb_syntax.specs.Typing.{Context, Types}
use Rattle.wb_syntax.specs.Execute.{Word, settle}

-- this code, and then that
abbrev pub followed_by : Code → Code → Code
followed_by Nothing d = d
followed_by (Then i c) d = Then i (followed_by c d)

-- ---- laws

-- its flat list is that of the one and then that of the other
abbrev pub FlatJoined : Type 0
FlatJoined = (c d : Code) → flat (followed_by c d) ≡ flat c ++ flat d

-- it is proper where both are
abbrev pub ProperJoined : Type 0
ProperJoined = (c d : Code) → IsProper c → IsProper d → IsProper (followed_by c d)

-- it takes the types that the one takes to those that the other gives
abbrev pub TypesJoined : Type 0
TypesJoined = (x : Context) (c d : Code) (before between after : List NumType) → Types x c before between → Types x d between after → Types x (followed_by c d) before after

-- a place moved past the constants that begin code, where other code follows: it stops at the first instruction of the one, or moves on in the other
abbrev pub settled_before : List Word → Code → Code → List Word × Code
settled_before ws Nothing d = settle ws d
settled_before ws (Then i k) d = (ws, Then i (followed_by k d))

-- so it is
abbrev pub SettledJoined : Type 0
SettledJoined = (ws : List Word) (c d : Code) → settle ws (followed_by c d) ≡ settled_before (settle ws c).0 (settle ws c).1 d
