use Rattle.cf_parse.proofs.Declaring.{prelude_put}
use Rattle.cf_parse.proofs.declarations.prelude_program.Goals as goal

pub returns : goal.returns
returns c =
    let s = c.args.source.now in
    prelude_put c.args.place c.in_ok-decls.decls.items c.reverse.new.self.items c.requires ((c.discard.ensures s).1 _) ((c.discard-2.ensures s).1 _) ((c.discard-3.ensures s).1 _) (c.pop.ensures s _) (c.in_ok-decls.ensures s) c.reverse.ensures.items (c.in_ok-push.ensures s)
