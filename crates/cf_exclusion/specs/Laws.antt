-- Laws of answers and refusals: an answer and the cause of a refusal exclude each other, and so do two causes.
-- Want of memory has no cause, so it is set aside in each.
use Rattle.std.specs.Prelude.{◌≡◌, ◌≢◌, ℕ, ℤ, Bool, List, Result, Err}
use Rattle.cf_lex.specs.Lexed.{Lexed, TokenList}
use Rattle.cf_lex.specs.declared.ends.LexEnd.{LexEnd}
use Rattle.cf_lex.specs.declared.ends.LexEnd.TheVariants as lex
use Rattle.cf_tree.specs.Tree.{Program}
use Rattle.cf_syntax.specs.Refusals.{IsRefused}
use Rattle.cf_syntax.specs.declared.ends.ParseEnd.{ParseEnd}
use Rattle.cf_syntax.specs.declared.ends.ParseEnd.TheVariants as end
use Rattle.cf_parse.specs.Reads.{Reads}
use Rattle.cf_diag.specs.declared.refusal.Refusal.{Refusal}
use Rattle.cf_diag.specs.declared.refusal.Refusal.TheVariants.{NoMemory}
use Rattle.cf_driver.specs.Built.{BuiltFrom, IsNotBuilt}
use Rattle.cf_driver.specs.Cores.{CoreFrom, HasNoCore}
use Rattle.cf_driver.specs.Executed.{RunsTo, IsNotRun}
use Rattle.cf_driver.specs.Sources.{ReadsAs, IsUnread}
use Rattle.cf_driver.specs.declared.ends.Line.{Line}

-- ---- texts and their tokens

-- a text has one answer: its tokens, or why it has none
abbrev pub OneLexed : Type 0
OneLexed = (bytes : List ℕ) (r s : Result TokenList LexEnd) → Lexed bytes r → Lexed bytes s → r ≢ Err lex.NoMemory → s ≢ Err lex.NoMemory → r ≡ s

-- tokens that read as a program are refused for want of memory alone
abbrev pub RefusesNoProgram : Type 0
RefusesNoProgram = (prelude : Bool) (l : TokenList) (p : Program) (e : ParseEnd) → Reads prelude l p → IsRefused prelude l e → e ≡ end.NoMemory

-- there is one reason at most why tokens are no program
abbrev pub OneRefusalOfTokens : Type 0
OneRefusalOfTokens = (prelude : Bool) (l : TokenList) (e f : ParseEnd) → IsRefused prelude l e → IsRefused prelude l f → e ≢ end.NoMemory → f ≢ end.NoMemory → e ≡ f

-- ---- sources

-- a source reads as one program at most
abbrev pub ReadsAsOne : Type 0
ReadsAsOne = (source : List ℕ) (p q : Program) → ReadsAs source p → ReadsAs source q → p ≡ q

-- a source that reads as a program is unread for want of memory alone
abbrev pub RefusesNoRead : Type 0
RefusesNoRead = (source : List ℕ) (p : Program) (r : Refusal) → ReadsAs source p → IsUnread source r → r ≡ NoMemory

-- there is one reason at most why a source is unread
abbrev pub OneRefusalOfSource : Type 0
OneRefusalOfSource = (source : List ℕ) (r s : Refusal) → IsUnread source r → IsUnread source s → r ≢ NoMemory → s ≢ NoMemory → r ≡ s

-- ---- cores

-- a source has one text of its core at most
abbrev pub OneCore : Type 0
OneCore = (source bytes others : List ℕ) → CoreFrom source bytes → CoreFrom source others → bytes ≡ others

-- a source with a core is refused for want of memory alone
abbrev pub RefusesNoCore : Type 0
RefusesNoCore = (source bytes : List ℕ) (r : Refusal) → CoreFrom source bytes → HasNoCore source r → r ≡ NoMemory

-- there is one reason at most why a source has no core
abbrev pub OneRefusalOfCore : Type 0
OneRefusalOfCore = (source : List ℕ) (r s : Refusal) → HasNoCore source r → HasNoCore source s → r ≢ NoMemory → s ≢ NoMemory → r ≡ s

-- ---- modules that are built

-- a source from which a module is built is refused for want of memory alone
abbrev pub RefusesNoBuilt : Type 0
RefusesNoBuilt = (source bytes : List ℕ) (r : Refusal) → BuiltFrom source bytes → IsNotBuilt source r → r ≡ NoMemory

-- there is one reason at most why nothing is built from a source
abbrev pub OneRefusalOfBuild : Type 0
OneRefusalOfBuild = (source : List ℕ) (r s : Refusal) → IsNotBuilt source r → IsNotBuilt source s → r ≢ NoMemory → s ≢ NoMemory → r ≡ s

-- ---- runs

-- bytes that are run to an end are refused for want of memory alone
abbrev pub RefusesNoRun : Type 0
RefusesNoRun = (bytes : List ℕ) (args : List ℤ) (words limit : ℕ) (line : Line) (r : Refusal) → RunsTo bytes args words limit line → IsNotRun bytes args words limit r → r ≡ NoMemory

-- bytes are run to one end at most
abbrev pub RunsToOne : Type 0
RunsToOne = (bytes : List ℕ) (args : List ℤ) (words limit : ℕ) (line other : Line) → RunsTo bytes args words limit line → RunsTo bytes args words limit other → line ≡ other

-- there is one reason at most why bytes are not run to an end
abbrev pub OneRefusalOfRun : Type 0
OneRefusalOfRun = (bytes : List ℕ) (args : List ℤ) (words limit : ℕ) (r s : Refusal) → IsNotRun bytes args words limit r → IsNotRun bytes args words limit s → r ≢ NoMemory → s ≢ NoMemory → r ≡ s
