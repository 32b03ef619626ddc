use Rattle.wb_control.proofs.Arguments.{other_length}
use Rattle.wb_control.proofs.calls.have_types.Goals as goal

pub returns-then-words-count : goal.returns-then-words-count
returns-then-words-count c = other_length c.args.types.now c.args.words.now c.if-words-count.true
