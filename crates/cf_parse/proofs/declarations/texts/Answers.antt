use Rattle.cf_parse.proofs.Names.{names_more}
use Rattle.cf_parse.proofs.declarations.texts.Goals as goal

pub loop-at-preserved : goal.loop-at-preserved
loop-at-preserved c = λ h. names_more c.args.source.now _ c.loop-at.names.items c.push.new.self.items _ c.loop-at.numbers.items c.pop.new.self.items c.in-Some.at c.in_ok-push.ensures.items c.in-Some.ensures.items c.in_ok-text.ensures (c.loop-at.invariant h)
