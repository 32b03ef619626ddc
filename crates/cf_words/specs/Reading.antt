-- How a command line is read word by word.
use Rattle.std.specs.Prelude.{◌≡◌, ℕ, ◌≤◌, ◌⊎◌, ℤ, true, List, [], ◌∷◌, Option, Some, None}
use Rattle.cf_words.specs.declared.command.Command.{Command}
use Rattle.cf_words.specs.declared.command.WordsEnd.{WordsEnd}
use Rattle.cf_words.specs.declared.command.WordsEnd.TheVariants.{Usage, NoMemory}
use Rattle.cf_words.specs.declared.given.Given.{Given}
use Rattle.cf_words.specs.declared.grammar.CommandName.{CommandName}
use Rattle.cf_words.specs.declared.grammar.OptionName.{OptionName}
use Rattle.cf_words.specs.declared.reading.Reading.{Reading}
use Rattle.cf_words.specs.declared.reading.Reading.TheVariants.{Start, Options, Wants, Numbers}
use Rattle.cf_words.specs.declared.reading.Step.{Step}
use Rattle.cf_words.specs.Lines.{IsNumber, Writes, command, command_text, give, given, greatest, nothing, option_text, takes, takes_numbers}

-- the word writes this number, which is from 1 to the greatest
pub record IsUpTo (greatest : ℕ) (word : List ℕ) (n : ℕ) : Type 0 where
  pub writes : Writes word n
  pub least : 1 ≤ n
  pub most : n ≤ greatest

-- to this, by a word that is no number behind the options
abbrev pub to : Reading → Step
to after = record { after = after; number = None }

-- the numbers that a step adds
abbrev pub numbers_of : Option ℤ → List ℤ
numbers_of None = []
numbers_of (Some z) = z ∷ []

-- the word is an option of the command that is not given yet
abbrev pub NamesOption : CommandName → Given → List ℕ → Step → Type 0
NamesOption c g word step = (o : OptionName) × (word ≡ option_text o) × (takes c o ≡ true) × (given o g ≡ None) × (step ≡ to (Wants c g o))

-- the word is a number behind the options
abbrev pub TakesNumber : CommandName → Given → List ℕ → Step → Type 0
TakesNumber c g word step = (z : ℤ) × (takes_numbers c ≡ true) × IsNumber word z × (step ≡ record { after = Numbers c g; number = Some z })

-- one more word leads to this
abbrev pub Goes : Reading → List ℕ → Step → Type 0
Goes Start word step = (c : CommandName) × (word ≡ command_text c) × (step ≡ to (Options c nothing))
Goes (Options c g) word step = NamesOption c g word step ⊎ TakesNumber c g word step
Goes (Wants c g o) word step = (n : ℕ) × IsUpTo (greatest o) word n × (step ≡ to (Options c (give o n g)))
Goes (Numbers c g) word step = TakesNumber c g word step

-- the command, where a line may end
abbrev pub final : Reading → List ℤ → Option Command
final Start zs = None
final (Options c g) zs = Some (command c g zs)
final (Wants c g o) zs = None
final (Numbers c g) zs = Some (command c g zs)

-- no command line at the word of this number; want of memory tells nothing
abbrev pub IsUsageAt : ℕ → WordsEnd → Type 0
IsUsageAt at (Usage i) = i ≡ at
IsUsageAt at NoMemory = Unit {0}
