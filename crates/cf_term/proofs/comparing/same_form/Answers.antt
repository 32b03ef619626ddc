use Rattle.std.proofs.Common.{rules, sym, ◌∙◌}
use denote.Enum.Bare.{same_true, true_same}
use Rattle.cf_term.specs.contracts.comparing.Form.{the_type}
use Rattle.cf_term.proofs.comparing.same_form.Goals as goal

pub returns : goal.returns
returns c = (λ is. same_true the_type (search rules) _ _ (sym c.eq.ensures ∙ is), λ e. c.eq.ensures ∙ true_same the_type _ _ e)
