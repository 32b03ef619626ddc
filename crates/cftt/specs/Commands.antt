-- What each command writes for its input, and why it refuses it. A command that comes later adds a case, and rewords none.
use Rattle.std.specs.Prelude.{◌≡◌, ℕ, ℤ, List}
use Rattle.cf_diag.specs.declared.refusal.Refusal.{Refusal}
use Rattle.cf_driver.specs.Built.{BuiltFrom, IsNotBuilt}
use Rattle.cf_driver.specs.Cores.{CoreFrom, HasNoCore}
use Rattle.cf_driver.specs.Ends.{code_of, line_text}
use Rattle.cf_driver.specs.Executed.{IsNotRun, RunsTo}
use Rattle.cf_driver.specs.declared.ends.Line.{Line}
use Rattle.cf_words.specs.declared.command.Command.{Command}
use Rattle.cf_words.specs.declared.command.Command.TheVariants.{Core, Build, Run}
use Rattle.cftt.specs.declared.top.Report.{Report}

-- the most bytes that the input of a command may have
abbrev pub most_bytes : Command → ℕ
most_bytes (Core steps) = 1048576
most_bytes (Build steps pages) = 1048576
most_bytes (Run words limit args) = 33554432

-- the report of a command that only writes
abbrev pub written : Report
written = record { code = 0; calls = 0 }

-- the report of a command that runs a module and writes this line of it
abbrev pub ran : (line : List ℕ) → Report
ran line = record { code = code_of line; calls = 0 }

-- the input is a valid module, and the bytes are the line of the end of its run
pub record IsLineOf (input : List ℕ) (args : List ℤ) (words limit : ℕ) (bytes : List ℕ) : Type 0 where
  pub end : Line
  pub runs : RunsTo input args words limit end
  pub text : bytes ≡ line_text end

-- what a command writes for its input, and what it reports: one case for each command. The numbers of the options of `core` and `build` have no effect yet
abbrev pub Writes : Command → (input : List ℕ) → Report → (output : List ℕ) → Type 0
Writes (Core steps) source report bytes = (report ≡ written) × CoreFrom source bytes
Writes (Build steps pages) source report bytes = (report ≡ written) × BuiltFrom source bytes
Writes (Run words limit args) input report bytes = (report ≡ ran bytes) × IsLineOf input args words limit bytes

-- why a command refuses its input: one case for each command
abbrev pub Refuses : Command → (input : List ℕ) → Refusal → Type 0
Refuses (Core steps) source r = HasNoCore source r
Refuses (Build steps pages) source r = IsNotBuilt source r
Refuses (Run words limit args) input r = IsNotRun input args words limit r
