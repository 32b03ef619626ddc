use Rattle.std.proofs.Common.{◌≡◌, Some, refl}
use Rattle.cf_lex.specs.declared.marks.Mark.{Mark}
use Rattle.cf_lex.specs.declared.marks.Mark.TheVariants as sign
use Rattle.cf_core_text.specs.Laws.{mark_of}
use Rattle.cf_core_text.specs.Text.{mark_text}
use Rattle.cf_core_text.proofs.laws.marks_are_read.Goals as goal

read : (m : Mark) → mark_of (mark_text m) ≡ Some m
read sign.OpenParen = refl
read sign.CloseParen = refl
read sign.OpenBracket = refl
read sign.CloseBracket = refl
read sign.OpenBrace = refl
read sign.CloseBrace = refl
read sign.Less = refl
read sign.Greater = refl
read sign.Tilde = refl
read sign.Caret = refl
read sign.Colon = refl
read sign.Becomes = refl
read sign.Semicolon = refl
read sign.Dot = refl
read sign.Comma = refl
read sign.Bar = refl
read sign.Arrow = refl
read sign.DoubleArrow = refl
read sign.Backslash = refl
read sign.At = refl

pub returns : goal.returns
returns c = read
