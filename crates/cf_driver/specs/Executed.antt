-- What running a module answers.
use Rattle.std.specs.Prelude.{◌≡◌, ◌≢◌, ◌⊎◌, ℕ, ◌<◌, ◌≤◌, ℤ, List, length, Option, Some, None}
use Rattle.wb_syntax.specs.declared.syntax.Module.{Module}
use Rattle.wb_syntax.specs.Binary.{Encodes, MalformedAt, OutsideAt, decoded}
use Rattle.wb_syntax.specs.Execute.{Config}
use Rattle.wb_syntax.specs.Runs.{RunEnd, Running, IsStackFull, IsStuck, fixed_room, mach, main_arity}
use Rattle.wb_syntax.specs.Runs as end
use Rattle.wb_syntax.specs.Typing.{Valid, IsFirstInvalid}
use Rattle.wb_decode.specs.Reading.{what_of}
use Rattle.wb_valid.specs.Answers.{part_of}
use Rattle.cf_diag.specs.declared.refusal.Refusal.{Refusal}
use Rattle.cf_diag.specs.declared.refusal.Refusal.TheVariants.{Malformed, Outside, Invalid, TooMuchMemory, NoMain, Arity, StepLimit, StackFull, Stuck, NoMemory}
use Rattle.cf_driver.specs.declared.ends.Line.{Line}
use Rattle.cf_driver.specs.declared.ends.Line.TheVariants.{Returned, Trapped}
use Rattle.cf_driver.specs.Ends.{word_of}

-- ---- modules

-- the bytes are this module, and it is valid
pub record IsValidModule (bytes : List ℕ) (m : Module) : Type 0 where
  pub encoded : Encodes m bytes
  pub valid : Valid m

-- why bytes are no valid module; want of memory has no cause
abbrev pub IsNoModule : List ℕ → Refusal → Type 0
IsNoModule bytes (Malformed at) = decoded bytes ≡ MalformedAt at
IsNoModule bytes (Outside at what) = decoded bytes ≡ OutsideAt at (what_of what)
IsNoModule bytes (Invalid part) = (m : Module) × Encodes m bytes × IsFirstInvalid m (part_of part)
IsNoModule bytes NoMemory = Unit {0}
IsNoModule bytes _ = ⊥

-- ---- runs

-- the most pages that a memory may begin with
abbrev pub most_pages : ℕ
most_pages = 1024

-- the memory is no larger, and main takes so many arguments
pub record IsCallable (m : Module) (count : ℕ) : Type 0 where
  pub memory : fixed_room m ≤ most_pages
  pub main : main_arity m ≡ Some count

-- the line of the end of a run, where it has one
abbrev pub line_of : RunEnd → Option Line
line_of (end.Returned z s) = Some (Returned z)
line_of (end.Trapped kind s) = Some (Trapped (word_of kind s))
line_of _ = None

-- the first run of the module on these arguments, with so many words and steps, ends with this line
pub record EndsWith (m : Module) (args : List ℤ) (words limit : ℕ) (line : Line) : Type 0 where
  pub callable : IsCallable m (length args)
  pub ends : line_of (mach m args words limit) ≡ Some line

-- why it cannot be called with so many arguments; want of memory has no cause
abbrev pub IsNotCallable : Module → (count : ℕ) → Refusal → Type 0
IsNotCallable m count (TooMuchMemory pages) = (pages ≡ fixed_room m) × (most_pages < pages)
IsNotCallable m count NoMain = (fixed_room m ≤ most_pages) × (main_arity m ≡ None)
IsNotCallable m count (Arity given wanted) = IsCallable m wanted × (given ≡ count) × (given ≢ wanted)
IsNotCallable m count NoMemory = Unit {0}
IsNotCallable m count _ = ⊥

-- why the first run of the module, on as many arguments as it takes, has no such end
abbrev pub HasNoEnd : Module → (args : List ℤ) → (words limit : ℕ) → Refusal → Type 0
HasNoEnd m args words limit (StepLimit steps) = IsCallable m (length args) × (steps ≡ limit) × ((c : Config) × (mach m args words limit ≡ Running c))
HasNoEnd m args words limit (StackFull room) = IsCallable m (length args) × (room ≡ words) × IsStackFull (mach m args words limit)
HasNoEnd m args words limit Stuck = IsCallable m (length args) × IsStuck (mach m args words limit)
HasNoEnd m args words limit _ = ⊥

-- ---- answers

-- the bytes are a valid module, and its run ends with this line
pub record RunsTo (bytes : List ℕ) (args : List ℤ) (words limit : ℕ) (line : Line) : Type 0 where
  pub the_module : Module
  pub is_module : IsValidModule bytes the_module
  pub ends : EndsWith the_module args words limit line

-- the bytes are a valid module, and it cannot be called so, or its run has no such end
pub record HasNoRun (bytes : List ℕ) (args : List ℤ) (words limit : ℕ) (r : Refusal) : Type 0 where
  pub the_module : Module
  pub is_module : IsValidModule bytes the_module
  pub no_end : IsNotCallable the_module (length args) r ⊎ HasNoEnd the_module args words limit r

-- why bytes are not run to an end: they are no valid module, or the run of the module has no such end
abbrev pub IsNotRun : (bytes : List ℕ) (args : List ℤ) (words limit : ℕ) → Refusal → Type 0
IsNotRun bytes args words limit r = IsNoModule bytes r ⊎ HasNoRun bytes args words limit r
