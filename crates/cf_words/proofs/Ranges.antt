-- The numbers of a line are within their limits.
use Rattle.std.proofs.Common.{ℕ, ℤ, List, arith}
use Rattle.std.specs.Prelude.{Option, Some, None, unwrap_or}
use Rattle.cf_words.specs.declared.command.Command.{Command}
use Rattle.cf_words.specs.declared.given.Given.{Given}
use Rattle.cf_words.specs.declared.grammar.CommandName.{CommandName}
use Rattle.cf_words.specs.declared.grammar.CommandName.TheVariants as names
use Rattle.cf_words.specs.declared.grammar.OptionName.{OptionName}
use Rattle.cf_words.specs.declared.grammar.OptionName.TheVariants as options
use Rattle.cf_words.specs.Lines.{AreOptions, IsInRange, IsLine, IsWithin, command, default, give, nothing}

-- the number, where there is one, is within the limits of the option
abbrev IsGivenWithin : OptionName → Option ℕ → Type 0
IsGivenWithin o None = Unit {0}
IsGivenWithin o (Some n) = IsWithin o n

-- each number that is given is within its limits
record AreWithin (g : Given) : Type 0 where
  pub steps : IsGivenWithin options.Steps g.steps
  pub pages : IsGivenWithin options.Pages g.pages
  pub words : IsGivenWithin options.Words g.words
  pub limit : IsGivenWithin options.Limit g.limit

one_more : (o : OptionName) (n : ℕ) (g : Given) → IsWithin o n → AreWithin g → AreWithin (give o n g)
one_more options.Steps n g w a = record { steps = w; pages = a.pages; words = a.words; limit = a.limit }
one_more options.Pages n g w a = record { steps = a.steps; pages = w; words = a.words; limit = a.limit }
one_more options.Words n g w a = record { steps = a.steps; pages = a.pages; words = w; limit = a.limit }
one_more options.Limit n g w a = record { steps = a.steps; pages = a.pages; words = a.words; limit = w }

all_within : (c : CommandName) (g after : Given) (words : List (List ℕ)) (zs : List ℤ) → AreOptions c g words after zs → AreWithin g → AreWithin after
all_within c g after words zs (AreOptions.rest n) a = a
all_within c g after words zs (AreOptions.option {o = o} {n = n} {words = more} m b) a = all_within c (give o n g) after more zs b (one_more o n g (m.least, m.most) a)

default_within : (o : OptionName) → IsWithin o (default o)
default_within options.Steps = (omega arith, omega arith)
default_within options.Pages = (omega arith, omega arith)
default_within options.Words = (omega arith, omega arith)
default_within options.Limit = (omega arith, omega arith)

-- given or not
either : (o : OptionName) (n : Option ℕ) → IsGivenWithin o n → IsWithin o (unwrap_or n (default o))
either o None w = default_within o
either o (Some n) w = w

command_within : (c : CommandName) (g : Given) (zs : List ℤ) → AreWithin g → IsInRange (command c g zs)
command_within names.Core g zs a = either options.Steps g.steps a.steps
command_within names.Build g zs a = (either options.Steps g.steps a.steps, either options.Pages g.pages a.pages)
command_within names.Run g zs a = (either options.Words g.words a.words, either options.Limit g.limit a.limit)

pub line_within : (words : List (List ℕ)) (k : Command) → IsLine words k → IsInRange k
line_within words k (IsLine.line {c = c} {words = more} {g = g} {zs = zs} a) = command_within c g zs (all_within c nothing g more zs a (record { steps = tt; pages = tt; words = tt; limit = tt }))
