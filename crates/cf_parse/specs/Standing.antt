-- What stands at some tokens, where each right side is the one that the table gives for the next token: so it is told apart token by token.
use Rattle.std.specs.Prelude.{ℕ, Bool, true, false, List, [], ◌∷◌, Some, None, slice_get, ◌≡◌}
use Rattle.cf_grammar.specs.Choosing.{which}
use Rattle.cf_grammar.specs.Grammar.{rules, Takes}
use Rattle.cf_grammar.specs.declared.phrases.Phrase.{Phrase}
use Rattle.cf_grammar.specs.declared.phrases.Symbol.{Symbol}
use Rattle.cf_grammar.specs.declared.phrases.Symbol.TheVariants.{Phrase as a}
use Rattle.cf_syntax.specs.Places.{place}
use Rattle.cf_parse.specs.Meaning.{Sem, nothing, meaning}
use Rattle.cf_parse.specs.Meaning as meant
use Rattle.cf_syntax.specs.Numbers.{in_range}
use Rattle.cf_syntax.specs.Tokens.{Token}

-- the tokens behind the next one
abbrev pub behind : List Token → List Token
behind [] = []
behind (k ∷ ks) = ks

-- whether a right side without symbols is among these
abbrev pub nullable : List (List Symbol) → Bool
nullable [] = false
nullable ([] ∷ rs) = true
nullable ((y ∷ ys) ∷ rs) = nullable rs

mutual
  -- the symbol stands at these tokens and means this; the tokens behind it are left
  pub data Stands (b : Bool) : Symbol → List Token → Sem → List Token → Type 0 where
    token : {y : Symbol} {k : Token} {ks : List Token} → Takes y k.class → in_range k.class k.text ≡ true → Stands b y (k ∷ ks) (meant.token (place b k.at) k.class k.text) ks
    empty : {n : Phrase} {k : Token} {ks : List Token} → which n k.class ≡ None → nullable (rules n) ≡ true → Stands b (a n) (k ∷ ks) nothing (k ∷ ks)
    phrase : {n : Phrase} {k : Token} {ks : List Token} {w : ℕ} {r : List Symbol} {vs : List Sem} {rest : List Token} → which n k.class ≡ Some w → slice_get (rules n) w ≡ Some r → StandAll b r (k ∷ ks) vs rest → Stands b (a n) (k ∷ ks) (meaning n w (place b k.at) vs) rest

  -- these symbols stand there, one behind the other
  pub data StandAll (b : Bool) : List Symbol → List Token → List Sem → List Token → Type 0 where
    none : {ks : List Token} → StandAll b [] ks [] ks
    both : {y : Symbol} {ys : List Symbol} {v : Sem} {vs : List Sem} {ks ls rest : List Token} → Stands b y ks v ls → StandAll b ys ls vs rest → StandAll b (y ∷ ys) ks (v ∷ vs) rest
