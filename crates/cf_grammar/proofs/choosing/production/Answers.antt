use Rattle.std.proofs.Common.{◌≡◌, ◌∙◌, ap, sym}
use Rattle.cf_grammar.specs.declared.classes.Class.{Class}
use Rattle.cf_grammar.specs.declared.phrases.Phrase.{Phrase}
use Rattle.cf_grammar.specs.declared.productions.Production.{Production}
use Rattle.cf_grammar.specs.Productions.{production}
use Rattle.cf_grammar.proofs.choosing.production.Goals as goal

-- the phrase's arm
at_phrase : {n m : Phrase} (k : Class) {p : Production} → n ≡ m → p ≡ production m k → p ≡ production n k
at_phrase k e q = q ∙ ap (λ n. production n k) (sym e)

pub returns-in-Fields : goal.returns-in-Fields
returns-in-Fields c = at_phrase c.args.class c.in-Fields.is c.of_terms.ensures

pub returns-in-Field : goal.returns-in-Field
returns-in-Field c = at_phrase c.args.class c.in-Field.is c.of_field.ensures

pub returns-in-Terms : goal.returns-in-Terms
returns-in-Terms c = at_phrase c.args.class c.in-Terms.is c.of_terms-in-Terms.ensures

pub returns-in-Term : goal.returns-in-Term
returns-in-Term c = at_phrase c.args.class c.in-Term.is c.of_term.ensures

pub returns-in-Lambda : goal.returns-in-Lambda
returns-in-Lambda c = at_phrase c.args.class c.in-Lambda.is c.of_lambda.ensures

pub returns-in-Fn : goal.returns-in-Fn
returns-in-Fn c = at_phrase c.args.class c.in-Fn.is c.of_fn.ensures
