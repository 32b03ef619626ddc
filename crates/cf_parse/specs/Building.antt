-- How far the steps of a derivation are evaluated, from the last to the first.
use Rattle.std.specs.Prelude.{ℕ, suc, Bool, List, [], ◌∷◌, ◌++◌, drop, ◌≡◌}
use Rattle.cf_grammar.specs.declared.productions.Production.{Production}
use Rattle.cf_grammar.specs.declared.productions.Step.{Step}
use Rattle.cf_grammar.specs.declared.productions.Step.TheVariants as step
use Rattle.cf_parse.specs.Evaluation.{evaluated}
use Rattle.cf_parse.specs.Kinds.{AllFit, params}
use Rattle.cf_parse.specs.Meaning.{Sem}
use Rattle.cf_syntax.specs.Tokens.{Token}

-- each step that opens a phrase has meanings of the kinds that its right side asks for
pub data Sound (b : Bool) : List Step → List Token → Type 0 where
  finished : Sound b [] []
  taken : {k : Token} {ps : List Step} {ks : List Token} → Sound b ps ks → Sound b (step.Take ∷ ps) (k ∷ ks)
  built : {p : Production} {ps : List Step} {k : Token} {ks : List Token} → AllFit (params p) (evaluated b ps (k ∷ ks)) → Sound b ps (k ∷ ks) → Sound b (step.Open p ∷ ps) (k ∷ ks)

-- how many tokens are taken
abbrev pub takes : List Step → ℕ
takes [] = 0
takes (step.Take ∷ ps) = suc (takes ps)
takes (step.Open p ∷ ps) = takes ps

-- the steps behind some of all are evaluated, from the token with this number on
pub record Stage (b : Bool) (all : List Step) (ks : List Token) (before : List Step) (at : ℕ) (ss : List Sem) : Type 0 where
  pub after : List Step
  pub parted : before ++ after ≡ all
  pub count : takes before ≡ at
  pub means : ss ≡ evaluated b after (drop at ks)
