use Rattle.std.proofs.Common.{◌∙◌, ap}
use Rattle.cf_lex.specs.Naming.{bytes_of}
use Rattle.cf_lex.proofs.Seen.{names_seen, number_seen}
use Rattle.cf_lex.proofs.naming.number.Goals as goal

pub returns-clause-number : goal.returns-clause-number
returns-clause-number c = c.in_ok-at.ensures.index ∙ number_seen c.args.name c.args.names.now.keys

pub returns-clause-names : goal.returns-clause-names
returns-clause-names c = ap bytes_of c.in_ok-at.ensures.keys ∙ names_seen c.args.names.now.keys c.args.name
