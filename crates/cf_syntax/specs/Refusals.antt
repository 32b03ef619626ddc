-- Why a text is refused: the first token with which something is wrong, and the first thing that is wrong with it.
use Rattle.std.specs.Prelude.{ℕ, ◌≤◌, Bool, false, List, [], ◌∷◌, ◌++◌, Some, ◌≡◌}
use Rattle.cf_base.specs.declared.at.At.{At}
use Rattle.cf_base.specs.declared.limit.Limit.{Limit}
use Rattle.cf_lex.specs.Lexed.{TokenList}
use Rattle.cf_grammar.specs.declared.classes.Class.{Class}
use Rattle.cf_grammar.specs.declared.endings.Fault.TheVariants.{Many, Nested}
use Rattle.cf_grammar.specs.declared.phrases.Phrase.{Phrase}
use Rattle.cf_grammar.specs.declared.phrases.Symbol.{Symbol}
use Rattle.cf_grammar.specs.declared.phrases.Symbol.TheVariants.{Phrase as a}
use Rattle.cf_grammar.specs.Grammar.{start, Derives, Leads}
use Rattle.cf_grammar.specs.Refusing.{IsDead, over}
use Rattle.cf_syntax.specs.declared.ends.ParseEnd.{ParseEnd}
use Rattle.cf_syntax.specs.declared.ends.ParseEnd.TheVariants as end
use Rattle.cf_syntax.specs.Places.{place}
use Rattle.cf_syntax.specs.Numbers.{in_range}
use Rattle.cf_syntax.specs.Tokens.{Token, classes, tokens_of}

-- behind the tokens before, this one begins the phrase in some program
pub record Begins (before : List Class) (k : Class) (n : Phrase) : Type 0 where
  pub others : List Symbol
  pub more : List Class
  pub reached : Leads start before (a n ∷ others)
  pub goes_on : Derives (a n ∷ others) (k ∷ more)

-- what may be wrong with a token
pub data Wrong : Type 0 where
  Syntax : Wrong
  TooMany : Limit → Wrong
  TooNested : Wrong
  Literal : Wrong

-- what is wrong with a token behind these
pub data IsWrong (before : List Class) (k : Token) : Wrong → Type 0 where
  -- no program begins with the tokens up to this one
  dead : IsDead (before ++ k.class ∷ []) → IsWrong before k Syntax
  -- it begins an item past a limit
  many : {n : Phrase} {l : Limit} → Begins before k.class n → over n ≡ Some (Many l) → IsWrong before k (TooMany l)
  -- it begins a phrase that is nested too deep
  nested : {n : Phrase} → Begins before k.class n → over n ≡ Some Nested → IsWrong before k TooNested
  -- it is a number out of its range
  range : in_range k.class k.text ≡ false → IsWrong before k Literal

-- of what is wrong with one token, which comes first
abbrev pub rank : Wrong → ℕ
rank Syntax = 0
rank (TooMany l) = 1
rank TooNested = 2
rank Literal = 3

-- the first token with which something is wrong begins at this byte, and this is the first thing wrong with it
pub record Refuses (ks : List Token) (at : ℕ) (why : Wrong) : Type 0 where
  pub before : List Token
  pub this : Token
  pub after : List Token
  pub split : ks ≡ before ++ this ∷ after
  pub place : at ≡ this.at
  pub wrong : IsWrong (classes before) this why
  pub least : (w : Wrong) → IsWrong (classes before) this w → rank why ≤ rank w
  pub first : (ls : List Token) (k : Token) (rest : List Token) (w : Wrong) → before ≡ ls ++ k ∷ rest → IsWrong (classes ls) k w → ⊥

-- these tokens are refused for this reason at this place
pub record RefusedAt (prelude : Bool) (ks : List Token) (p : At) (why : Wrong) : Type 0 where
  pub offset : ℕ
  pub at : p ≡ place prelude offset
  pub refuses : Refuses ks offset why

-- what `parse` answers for a text that it refuses
abbrev pub IsRefused : (prelude : Bool) → TokenList → ParseEnd → Type 0
IsRefused prelude l (end.Syntax p) = RefusedAt prelude (tokens_of l) p Syntax
IsRefused prelude l (end.TooMany p what) = RefusedAt prelude (tokens_of l) p (TooMany what)
IsRefused prelude l (end.TooNested p) = RefusedAt prelude (tokens_of l) p TooNested
IsRefused prelude l (end.Literal p) = RefusedAt prelude (tokens_of l) p Literal
IsRefused prelude l end.NoMemory = Unit {0}
