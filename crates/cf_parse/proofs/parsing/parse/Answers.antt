use Rattle.cf_parse.proofs.Reading.{parsed}
use Rattle.cf_syntax.specs.Tokens.{tokens_of}
use Rattle.cf_parse.proofs.parsing.parse.Goals as goal

pub built-requires : goal.built-requires
built-requires c = (parsed c.args.prelude (tokens_of c.args.t.now) c.in_ok-steps.steps.items c.in_ok-steps.ensures.fine c.in_ok-steps.ensures.ranges c.in_ok-steps.ensures.steps).sound

pub returns-in-Ok-clause-fine : goal.returns-in-Ok-clause-fine
returns-in-Ok-clause-fine c = (parsed c.args.prelude (tokens_of c.args.t.now) c.in_ok-steps.steps.items c.in_ok-steps.ensures.fine c.in_ok-steps.ensures.ranges c.in_ok-steps.ensures.steps).reads c.in-Ok.program c.in-Ok.ensures
