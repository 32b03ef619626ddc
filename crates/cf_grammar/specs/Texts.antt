-- Tokens before the end.
use Rattle.std.specs.Prelude.{List, [], ◌∷◌}
use Rattle.cf_grammar.specs.declared.classes.Class.{Class}
use Rattle.cf_grammar.specs.declared.classes.Class.TheVariants as class

-- not the end
abbrev pub IsToken : Class → Type 0
IsToken class.End = ⊥
IsToken k = Unit {0}

-- the end is not among these
abbrev pub AreTokens : List Class → Type 0
AreTokens [] = Unit {0}
AreTokens (k ∷ ks) = IsToken k × AreTokens ks
