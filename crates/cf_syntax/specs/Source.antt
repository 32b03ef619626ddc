-- The tokens from a place on.
use Rattle.std.specs.Prelude.{ℕ, List, drop}
use Rattle.cf_syntax.specs.Tokens.{Token, tokens_of}
use Rattle.cf_syntax.specs.declared.source.Source.{Source}

-- the tokens from the one with this number on
abbrev pub from : Source → ℕ → List Token
from s at = drop at (tokens_of s.tokens.now)
