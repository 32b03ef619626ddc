-- What the core of a source is as text, and why a source has none.
use Rattle.std.specs.Prelude.{◌≡◌, ◌≤◌, ℕ, true, false, List, length}
use Rattle.cf_core_text.specs.Lines.{core_text}
use Rattle.cf_lex.specs.Lexed.{TokenList}
use Rattle.cf_printed.specs.Laws.{ReadsAs as PrintedReadsAs}
use Rattle.cf_printed.specs.Plain.{plain_program}
use Rattle.cf_diag.specs.declared.refusal.Refusal.{Refusal}
use Rattle.cf_diag.specs.declared.refusal.Refusal.TheVariants.{Unknown, Twice, Later}
use Rattle.cf_elab.specs.Core.{IsCoreOf}
use Rattle.cf_elab.specs.Refusals.{IsRefused}
use Rattle.cf_elab.specs.declared.ends.NameEnd.{NameEnd}
use Rattle.cf_elab.specs.declared.ends.NameEnd.TheVariants as end
use Rattle.cf_rules.specs.Programs.{Declaration}
use Rattle.cf_tree.specs.Tree.{Program, is_explicit}
use Rattle.cf_driver.specs.Sources.{ReadsAs, IsUnread}

-- the text of a core reads as an explicit program, within the limits where no phrase of the text passes one, and that
-- program has the same core, marks and `implicit` flags aside
pub record IsReadBack (core : List Declaration) : Type 0 where
  pub tokens : TokenList
  pub program : Program
  pub reads : PrintedReadsAs (core_text core) tokens program
  pub explicit : is_explicit program ≡ true
  pub same : IsCoreOf program (plain_program core)

-- the core of a source is read back
abbrev pub CoreReadsBack : (source : List ℕ) → Program → List Declaration → Type 0
CoreReadsBack source p core = ReadsAs source p → is_explicit p ≡ true → IsCoreOf p core → IsReadBack core

-- the source reads as an explicit program, and the bytes are the text of its core, which reads back
pub record CoreFrom (source bytes : List ℕ) : Type 0 where
  pub program : Program
  pub read : ReadsAs source program
  pub explicit : is_explicit program ≡ true
  pub core : List Declaration
  pub is_core : IsCoreOf program core
  pub text : bytes ≡ core_text core
  pub back : IsReadBack core

-- the source reads as a program that is not explicit
pub record IsNotExplicit (source : List ℕ) : Type 0 where
  pub program : Program
  pub read : ReadsAs source program
  pub other : is_explicit program ≡ false

-- the source reads as an explicit program, and a name in it is wrong
pub record HasWrongName (source : List ℕ) (e : NameEnd) : Type 0 where
  pub program : Program
  pub read : ReadsAs source program
  pub explicit : is_explicit program ≡ true
  pub wrong : IsRefused program e

-- why a source has no core: it is no program of the language, it is one that is not explicit, or a name in it is wrong
abbrev pub HasNoCore : List ℕ → Refusal → Type 0
HasNoCore source (Unknown at) = HasWrongName source (end.Unknown at)
HasNoCore source (Twice at) = HasWrongName source (end.Twice at)
HasNoCore source Later = IsNotExplicit source
HasNoCore source r = IsUnread source r
