use Rattle.cf_grammar.proofs.Taking.{takes_same, takes_name, refuses, same_of, other_of}
use Rattle.cf_grammar.proofs.turning.take_turn.Goals as goal

pub returns-then-is_same-clause-turned : goal.returns-then-is_same-clause-turned
returns-then-is_same-clause-turned c = takes_same c.in-Is.is (same_of c.is_same.ensures c.if-is_same.true)

pub returns-else-is_same-clause-turned : goal.returns-else-is_same-clause-turned
returns-else-is_same-clause-turned c = refuses c.in-Is.is (other_of c.is_same.ensures c.if-is_same.false)

pub returns-in-Name-clause-turned : goal.returns-in-Name-clause-turned
returns-in-Name-clause-turned c = takes_name c.in-AnyName.is c.in-Name.is
