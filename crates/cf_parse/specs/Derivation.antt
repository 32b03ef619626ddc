-- Trees of productions: what the grammar derives, as a tree with the tokens at its leaves.
use Rattle.std.specs.Prelude.{ℕ, List, [], ◌∷◌, Some, slice_get, ◌≡◌}
use Rattle.cf_grammar.specs.Grammar.{rules, Takes}
use Rattle.cf_grammar.specs.declared.phrases.Phrase.{Phrase}
use Rattle.cf_grammar.specs.declared.phrases.Symbol.{Symbol}
use Rattle.cf_grammar.specs.declared.phrases.Symbol.TheVariants.{Phrase as a}
use Rattle.cf_syntax.specs.Tokens.{Token}

mutual
  -- a token, or a phrase with the number of its right side, the byte where it begins, and a tree for each symbol of the right side
  pub data Cst : Type 0 where
    leaf : Token → Cst
    branch : Phrase → (which at : ℕ) → Csts → Cst

  pub data Csts : Type 0 where
    nil : Csts
    cons : Cst → Csts → Csts

mutual
  -- a tree for a symbol, over the tokens at hand; the tokens behind it are left
  pub data Parses : Symbol → Cst → List Token → List Token → Type 0 where
    token : {y : Symbol} {k : Token} {rest : List Token} → Takes y k.class → Parses y (leaf k) (k ∷ rest) rest
    phrase : {n : Phrase} {which : ℕ} {r : List Symbol} {cs : Csts} {k : Token} {ks rest : List Token} → slice_get (rules n) which ≡ Some r → ParsesAll r cs (k ∷ ks) rest → Parses (a n) (branch n which k.at cs) (k ∷ ks) rest

  pub data ParsesAll : List Symbol → Csts → List Token → List Token → Type 0 where
    none : {ks : List Token} → ParsesAll [] nil ks ks
    both : {y : Symbol} {ys : List Symbol} {c : Cst} {cs : Csts} {ks ls rest : List Token} → Parses y c ks ls → ParsesAll ys cs ls rest → ParsesAll (y ∷ ys) (cons c cs) ks rest
