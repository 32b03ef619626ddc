-- Laws of reading what is printed.
use Rattle.std.specs.Prelude.{◌≡◌, ℕ, ◌≤◌, Bool, true, false, IsTrue, List, length, Ok}
use Rattle.cf_lex.specs.Lexed.{IsLexed, Lexed, TokenList}
use Rattle.cf_tree.specs.Tree.{Program, is_explicit}
use Rattle.cf_rules.specs.Programs.{Declaration}
use Rattle.cf_parse.specs.Reads.{Reads, ReadsUnlimited, within}
use Rattle.cf_syntax.specs.Tokens.{tokens_of}
use Rattle.cf_elab.specs.Core.{IsCoreOf}
use Rattle.cf_elab.specs.Scope.{start}
use Rattle.cf_core_text.specs.Lines.{core_text}
use Rattle.cf_printed.specs.Scoped.{AllScoped}
use Rattle.cf_printed.specs.Printed.{printed_tokens}
use Rattle.cf_printed.specs.Plain.{plain_program}

-- the tokens of a printed program are the printed tokens
abbrev pub TokensArePieces : Type 0
TokensArePieces = (ds : List Declaration) → AllScoped start ds → IsLexed (printed_tokens ds)

-- however these tokens are derived, no phrase passes a limit, and no number its range
abbrev pub IsWithin : TokenList → Type 0
IsWithin l = (p : Program) (u : ReadsUnlimited false (tokens_of l) p) → IsTrue (within u.cst)

-- the text has these tokens, and they read as this program: with the limits left aside, and where they are kept
pub record ReadsAs (bytes : List ℕ) (l : TokenList) (p : Program) : Type 0 where
  pub tokens : Lexed bytes (Ok l)
  pub unlimited : ReadsUnlimited false (tokens_of l) p
  pub limited : IsWithin l → Reads false l p

-- a printed core reads as an explicit program with the same core, marks and `implicit` flags aside
abbrev pub ReadsBack : Type 0
ReadsBack = (ds : List Declaration) → AllScoped start ds → (l : TokenList) × (p : Program) × ReadsAs (core_text ds) l p × (is_explicit p ≡ true) × IsCoreOf p (plain_program ds)

-- whatever the text of a core reads as, limits left aside, is an explicit program with the same core, marks and `implicit` flags aside
abbrev pub ReadsOnly : Type 0
ReadsOnly = (ds : List Declaration) → AllScoped start ds → (l : TokenList) → Lexed (core_text ds) (Ok l) → (p : Program) → ReadsUnlimited false (tokens_of l) p → (is_explicit p ≡ true) × IsCoreOf p (plain_program ds)

-- the core of an explicit source, which has at most 2 ^ 20 bytes, is such a program as can be printed
abbrev pub CoresAreScoped : Type 0
CoresAreScoped = (bytes : List ℕ) (l : TokenList) (prelude : Bool) (p : Program) (ds : List Declaration) → length bytes ≤ 1048576 → Lexed bytes (Ok l) → Reads prelude l p → is_explicit p ≡ true → IsCoreOf p ds → AllScoped start ds
