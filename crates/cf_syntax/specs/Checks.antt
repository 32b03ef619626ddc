-- What is told of all tokens of a text.
use Rattle.std.specs.Prelude.{ℕ, ◌+◌, ◌<◌, Bool, true, false, List, [], ◌∷◌, take, drop, length, ◌≡◌}
use Rattle.std.specs.List.{list_all}
use Rattle.cf_syntax.specs.Numbers.{in_range}
use Rattle.cf_syntax.specs.Tokens.{Token}

abbrev pub token_in_range : Token → Bool
token_in_range k = in_range k.class k.text

-- the tokens before number r are in range, and that token is not, unless it is the last
pub record FirstBad (ks : List Token) (r : ℕ) : Type 0 where
  pub before : list_all token_in_range (take r ks) ≡ true
  pub inside : r < length ks
  pub bad : (k : Token) (ls : List Token) → drop r ks ≡ k ∷ ls → r + 1 < length ks → token_in_range k ≡ false

-- every number is in its range
pub data AllInRange : List Token → Type 0 where
  none : AllInRange []
  one : {k : Token} {ks : List Token} → in_range k.class k.text ≡ true → AllInRange ks → AllInRange (k ∷ ks)
