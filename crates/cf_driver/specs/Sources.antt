-- What the bytes of a source are, and why a source is no program.
use Rattle.std.specs.Prelude.{◌≡◌, ℕ, false, List}
use Rattle.cf_lex.specs.declared.ends.LexEnd.TheVariants as lex
use Rattle.cf_lex.specs.Lexed.{TokenList, IsLexed}
use Rattle.cf_lex.specs.Lexed as lexing
use Rattle.cf_tree.specs.Tree.{Program}
use Rattle.cf_syntax.specs.declared.ends.ParseEnd.{ParseEnd}
use Rattle.cf_syntax.specs.declared.ends.ParseEnd.TheVariants as end
use Rattle.cf_parse.specs.Reads.{Reads}
use Rattle.cf_syntax.specs.Refusals.{IsRefused}
use Rattle.cf_diag.specs.declared.refusal.Refusal.{Refusal}
use Rattle.cf_diag.specs.declared.refusal.Refusal.TheVariants.{NotText, BadChar, Syntax, TooNested, TooMany, Literal, NoMemory}

-- the source has these tokens
pub record HasTokens (source : List ℕ) (l : TokenList) : Type 0 where
  pub text : l.text ≡ source
  pub lexed : IsLexed l

-- the source reads as this program
pub record ReadsAs (source : List ℕ) (p : Program) : Type 0 where
  pub tokens : TokenList
  pub lexed : HasTokens source tokens
  pub reads : Reads false tokens p

-- the source has tokens, and they are no program for this reason
abbrev pub HasNoProgram : List ℕ → ParseEnd → Type 0
HasNoProgram source e = (l : TokenList) × HasTokens source l × IsRefused false l e

-- why a source is not read: it is no text, or its tokens are no program within the limits; want of memory has no cause
abbrev pub IsUnread : List ℕ → Refusal → Type 0
IsUnread source (NotText at) = lexing.IsRefusal source (lex.NotText at)
IsUnread source (BadChar at) = lexing.IsRefusal source (lex.BadChar at)
IsUnread source (Syntax at) = HasNoProgram source (end.Syntax at)
IsUnread source (TooNested at) = HasNoProgram source (end.TooNested at)
IsUnread source (TooMany at what) = HasNoProgram source (end.TooMany at what)
IsUnread source (Literal at) = HasNoProgram source (end.Literal at)
IsUnread source NoMemory = Unit {0}
IsUnread source _ = ⊥
