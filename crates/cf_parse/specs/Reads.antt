-- Which program the tokens of a text read as.
use Rattle.std.specs.Prelude.{Bool, true, false, ◌&&◌, List, [], ◌∷◌, Option, Some, None, IsTrue, ◌≡◌}
use Rattle.cf_lex.specs.Lexed.{TokenList}
use Rattle.cf_grammar.specs.declared.classes.Class.TheVariants as class
use Rattle.cf_grammar.specs.declared.endings.Fault.{Fault}
use Rattle.cf_grammar.specs.declared.phrases.Phrase.TheVariants.{Program}
use Rattle.cf_grammar.specs.declared.phrases.Symbol.TheVariants.{Phrase as a}
use Rattle.cf_grammar.specs.Refusing.{over}
use Rattle.cf_tree.specs.Tree as trees
use Rattle.cf_syntax.specs.Tokens.{Token, tokens_of}
use Rattle.cf_parse.specs.Derivation.{Cst, leaf, branch, Csts, nil, cons, Parses}
use Rattle.cf_syntax.specs.Numbers.{in_range}
use Rattle.cf_parse.specs.Meaning.{program_of}

abbrev pub within_limit : Option Fault → Bool
within_limit None = true
within_limit (Some f) = false

-- no phrase passes a limit, and no number its range
abbrev mutual
  pub within : Cst → Bool
  within (leaf k) = in_range k.class k.text
  within (branch n which at cs) = within_limit (over n) && within_all cs

  pub within_all : Csts → Bool
  within_all nil = true
  within_all (cons c cs) = within c && within_all cs

-- the tokens, the end as the last, are this program's; limits left aside
pub record ReadsUnlimited (prelude : Bool) (ks : List Token) (p : trees.Program) : Type 0 where
  pub cst : Cst
  pub end_token : Token
  pub parses : Parses (a Program) cst ks (end_token ∷ [])
  pub ends : end_token.class ≡ class.End
  pub means : program_of prelude cst ≡ Some p

-- the tokens, the end as the last, are this program's
pub record ReadsTokens (prelude : Bool) (ks : List Token) (p : trees.Program) : Type 0 where
  pub unlimited : ReadsUnlimited prelude ks p
  pub limits : IsTrue (within unlimited.cst)

-- a text with its tokens reads as this program
abbrev pub Reads : (prelude : Bool) → TokenList → trees.Program → Type 0
Reads prelude l p = ReadsTokens prelude (tokens_of l) p
