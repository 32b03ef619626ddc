-- What is at the first of some tokens: its place, its class, its name or its number.
use Rattle.std.specs.Prelude.{ℕ, Bool, true, false, List, [], ◌∷◌, ◌≡◌}
use Rattle.cf_base.specs.declared.at.At.{At}
use Rattle.cf_grammar.specs.declared.classes.Class.{Class}
use Rattle.cf_grammar.specs.declared.classes.Class.TheVariants as class
use Rattle.cf_syntax.specs.Numbers.{in_range}
use Rattle.cf_syntax.specs.Tokens.{Token}

abbrev pub place : (prelude : Bool) → ℕ → At
place b n = record { prelude = b; offset = n }

-- the class of the next token
abbrev pub front : List Token → Class
front [] = class.End
front (k ∷ ks) = k.class

-- the place of the first of these tokens
abbrev pub IsPlace : Bool → List Token → At → Type 0
IsPlace b ks p = (k : Token) (ls : List Token) → ks ≡ k ∷ ls → p ≡ place b k.at

-- the bytes of the first of these tokens, where it is a name
abbrev pub IsName : List Token → List ℕ → Type 0
IsName ks x = (k : Token) (ls : List Token) (p : Bool) → ks ≡ k ∷ ls → k.class ≡ class.Name p → x ≡ k.text

-- the number of the first of these tokens, where it is of this class
abbrev pub IsNumber : {N : Type 0} → Class → (List ℕ → N) → List Token → N → Type 0
IsNumber c of_text ks z = (k : Token) (ls : List Token) → ks ≡ k ∷ ls → k.class ≡ c → in_range k.class k.text ≡ true → of_text k.text ≡ z

abbrev pub is_end : Class → Bool
is_end (class.Name p) = false
is_end (class.Word y) = false
is_end class.Whole = false
is_end class.NatLit = false
is_end class.Hole = false
is_end (class.Mark z) = false
is_end class.End = true
