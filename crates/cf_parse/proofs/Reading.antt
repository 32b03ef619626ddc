-- Tokens that the grammar finds to be a program read as the program that their steps build.
use Rattle.std.proofs.Common.{◌≡◌, refl, ap, sym, subst, Bool, List, [], ◌∷◌, Some}
use Rattle.cf_tree.specs.Tree as trees
use Rattle.cf_grammar.specs.Grammar.{Takes, exact, start}
use Rattle.cf_grammar.specs.Productions.{Follows}
use Rattle.cf_grammar.specs.Refusing.{Says}
use Rattle.cf_grammar.specs.declared.classes.Class.TheVariants as class
use Rattle.cf_grammar.specs.declared.endings.Ending.TheVariants as ending
use Rattle.cf_grammar.specs.declared.phrases.Symbol.TheVariants.{Is as is}
use Rattle.cf_grammar.specs.declared.productions.Step.{Step}
use Rattle.cf_syntax.specs.Checks.{AllInRange}
use Rattle.cf_parse.proofs.Deriving.{limits, parses, stands}
use Rattle.cf_parse.proofs.Evaluating.{outcome}
use Rattle.cf_parse.proofs.Whole.{whole}
use Rattle.cf_parse.specs.Building.{Sound}
use Rattle.cf_parse.specs.Evaluation.{evaluated}
use Rattle.cf_parse.specs.Kinds as kind
use Rattle.cf_parse.specs.Kinds.{AllFit, Fits, next}
use Rattle.cf_syntax.specs.Places.{place}
use Rattle.cf_parse.specs.Meaning.{Sem, program_in, value}
use Rattle.cf_parse.specs.Meaning as meant
use Rattle.cf_syntax.specs.Numbers.{in_range}
use Rattle.cf_parse.specs.Reads.{ReadsTokens}
use Rattle.cf_parse.specs.Standing.{Stands, both, none, token}
use Rattle.cf_syntax.specs.Tokens.{Token, classes}

-- what the steps build is what the tokens read as
pub record Parsed (b : Bool) (ks : List Token) (ps : List Step) : Type 0 where
  pub sound : Sound b ps ks
  pub reads : (p : trees.Program) → ((v : Sem) (vs : List Sem) → evaluated b ps ks ≡ v ∷ vs → Fits (kind.Maybe kind.Program) v → program_in v ≡ Some p) → ReadsTokens b ks p

first_fits : {j : kind.Kind} {js : List kind.Kind} {v : Sem} {vs : List Sem} → AllFit (j ∷ js) (v ∷ vs) → Fits j v
first_fits (next f h) = f

pub parsed : (b : Bool) (ks : List Token) (ps : List Step) → Says (classes ks) ending.Fine → AllInRange ks → Follows start ps (classes ks) → Parsed b ks ps
parsed b ks ps says h f =
    let w = whole b ks says.0 says.1 h in
    let last : Stands b (is class.End) (w.last ∷ []) (meant.token (place b w.last.at) w.last.class w.last.text) [] = token (subst (λ c. Takes (is class.End) c) (sym w.ends) exact) (ap (λ c. in_range c w.last.text) w.ends) in
    let o = outcome ks f refl (both (stands b w.grows) (both last none)) in
    record {
      sound = o.sound;
      reads = λ p q. record {
        unlimited = record { cst = w.cst; end_token = w.last; parses = parses w.grows; ends = w.ends; means = q (value b w.cst) _ o.are (first_fits o.fit) };
        limits = limits w.grows;
      };
    }
