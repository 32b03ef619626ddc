-- Which words are a command line.
use Rattle.std.specs.Prelude.{◌≡◌, ◌≢◌, ℕ, suc, ◌<◌, ◌≤◌, ℤ, Bool, true, false, List, [], ◌∷◌, ◌++◌, length, take, codes, slice_index, Option, Some, None, unwrap_or, FitsSigned}
use Rattle.std.specs.Int.{w64}
use Rattle.std.specs.Str.Parse.{IsNumeral, digits_value, signed_digits_value, without_leading_sign}
use Rattle.cf_words.specs.declared.command.Command.{Command}
use Rattle.cf_words.specs.declared.command.Command.TheVariants as commands
use Rattle.cf_words.specs.declared.command.WordsEnd.{WordsEnd}
use Rattle.cf_words.specs.declared.command.WordsEnd.TheVariants.{Usage, NoMemory}
use Rattle.cf_words.specs.declared.given.Given.{Given}
use Rattle.cf_words.specs.declared.grammar.CommandName.{CommandName}
use Rattle.cf_words.specs.declared.grammar.CommandName.TheVariants as names
use Rattle.cf_words.specs.declared.grammar.OptionName.{OptionName}
use Rattle.cf_words.specs.declared.grammar.OptionName.TheVariants as options

-- ---- the table

-- the word for a command
abbrev pub command_text : CommandName → List ℕ
command_text names.Core = codes "core"
command_text names.Build = codes "build"
command_text names.Run = codes "run"

-- the word for an option
abbrev pub option_text : OptionName → List ℕ
option_text options.Steps = codes "--steps"
option_text options.Pages = codes "--pages"
option_text options.Words = codes "--words"
option_text options.Limit = codes "--limit"

-- whether the option belongs to the command
abbrev pub takes : CommandName → OptionName → Bool
takes names.Core options.Steps = true
takes names.Build options.Steps = true
takes names.Build options.Pages = true
takes names.Run options.Words = true
takes names.Run options.Limit = true
takes c o = false

-- whether numbers may stand behind the options of the command
abbrev pub takes_numbers : CommandName → Bool
takes_numbers names.Core = false
takes_numbers names.Build = false
takes_numbers names.Run = true

-- the greatest number of an option; the least is 1
abbrev pub greatest : OptionName → ℕ
greatest options.Steps = 1000000000
greatest options.Pages = 1024
greatest options.Words = 16777216
greatest options.Limit = 1000000000000

-- the number of an option that is not given
abbrev pub default : OptionName → ℕ
default options.Steps = 1000000
default options.Pages = 16
default options.Words = 2097152
default options.Limit = 100000000

-- ---- what is given

-- no number for any option
abbrev pub nothing : Given
nothing = record { steps = None; pages = None; words = None; limit = None }

-- the number that is given for an option, if one is
abbrev pub given : OptionName → Given → Option ℕ
given options.Steps g = g.steps
given options.Pages g = g.pages
given options.Words g = g.words
given options.Limit g = g.limit

-- with this number for an option
abbrev pub give : OptionName → ℕ → Given → Given
give options.Steps n g = record g { steps = Some n }
give options.Pages n g = record g { pages = Some n }
give options.Words n g = record g { words = Some n }
give options.Limit n g = record g { limit = Some n }

-- the number for an option, given or not
abbrev pub number_for : OptionName → Given → ℕ
number_for o g = unwrap_or (given o g) (default o)

-- the command of this name, with these numbers behind its options
abbrev pub command : CommandName → Given → List ℤ → Command
command names.Core g zs = commands.Core (number_for options.Steps g)
command names.Build g zs = commands.Build (number_for options.Steps g) (number_for options.Pages g)
command names.Run g zs = commands.Run (number_for options.Words g) (number_for options.Limit g) zs

-- ---- lines

-- the word is one ASCII digit or more, and they write this number; zeros may lead
pub record Writes (word : List ℕ) (n : ℕ) : Type 0 where
  pub digits : IsNumeral 10 word
  pub value : digits_value 10 word ≡ n

-- behind what is given so far, the option may be given with this word, which is its number
pub record MayGive (c : CommandName) (g : Given) (o : OptionName) (word : List ℕ) (n : ℕ) : Type 0 where
  pub belongs : takes c o ≡ true
  pub once : given o g ≡ None
  pub writes : Writes word n
  pub least : 1 ≤ n
  pub most : n ≤ greatest o

-- the word is ASCII digits, or `-` and ASCII digits, and they write this number of 64 signed bits; zeros may lead
pub record IsNumber (word : List ℕ) (z : ℤ) : Type 0 where
  pub no_plus : slice_index word 0 ≢ 43
  pub digits : IsNumeral 10 (without_leading_sign word)
  pub value : signed_digits_value 10 word ≡ z
  pub fits : FitsSigned w64 z

-- the words are numbers behind the options of the command
pub data AreNumbers (c : CommandName) : List (List ℕ) → List ℤ → Type 0 where
  none : AreNumbers c [] []
  number : {word : List ℕ} {z : ℤ} {words : List (List ℕ)} {zs : List ℤ} → takes_numbers c ≡ true → IsNumber word z → AreNumbers c words zs → AreNumbers c (word ∷ words) (z ∷ zs)

-- the words are options of the command, behind what is given before them, and then numbers
pub data AreOptions (c : CommandName) : (before : Given) → List (List ℕ) → (after : Given) → List ℤ → Type 0 where
  rest : {g : Given} {words : List (List ℕ)} {zs : List ℤ} → AreNumbers c words zs → AreOptions c g words g zs
  option : {g after : Given} {o : OptionName} {word : List ℕ} {n : ℕ} {words : List (List ℕ)} {zs : List ℤ} → MayGive c g o word n → AreOptions c (give o n g) words after zs → AreOptions c g (option_text o ∷ word ∷ words) after zs

-- the words are the line of this command
pub data IsLine : List (List ℕ) → Command → Type 0 where
  line : {c : CommandName} {words : List (List ℕ)} {g : Given} {zs : List ℤ} → AreOptions c nothing words g zs → IsLine (command_text c ∷ words) (command c g zs)

-- the words begin a line
abbrev pub BeginsLine : List (List ℕ) → Type 0
BeginsLine words = (more : List (List ℕ)) × (c : Command) × IsLine (words ++ more) c

-- the words are no line, and i is the first word such that the words up to it begin none, or the number of words where each does
pub record IsUsage (words : List (List ℕ)) (i : ℕ) : Type 0 where
  pub no_line : (c : Command) → IsLine words c → ⊥
  pub within : i ≤ length words
  pub before : BeginsLine (take i words)
  pub here : i < length words → BeginsLine (take (suc i) words) → ⊥

-- from 1 to the greatest number of the option
abbrev pub IsWithin : OptionName → ℕ → Type 0
IsWithin o n = (1 ≤ n) × (n ≤ greatest o)

-- the number of each option of the command is within its limits, given or not
abbrev pub IsInRange : Command → Type 0
IsInRange (commands.Core steps) = IsWithin options.Steps steps
IsInRange (commands.Build steps pages) = IsWithin options.Steps steps × IsWithin options.Pages pages
IsInRange (commands.Run words limit args) = IsWithin options.Words words × IsWithin options.Limit limit

-- why there is no command: the words are no command line; want of memory has no cause
abbrev pub IsRefused : List (List ℕ) → WordsEnd → Type 0
IsRefused words (Usage i) = IsUsage words i
IsRefused words NoMemory = Unit {0}
