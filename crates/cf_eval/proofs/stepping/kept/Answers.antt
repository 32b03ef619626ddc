use Rattle.cf_eval.proofs.Numbered.{kept_some, kept_none}
use Rattle.cf_eval.proofs.stepping.kept.Goals as goal

pub returns-in-Some : goal.returns-in-Some
returns-in-Some c =
    let at = rw c.deref.ensures.value at c.in-Some.ensures.lookup in
    kept_some c.args.parts.now.items c.args.i c.in-Some.part.now _ at.3.0 at.1 c.frozen.ensures

pub returns-in-None : goal.returns-in-None
returns-in-None c =
    let at = rw c.deref.ensures.value at c.in-None.ensures.lookup in
    kept_none c.args.parts.now.items c.args.i at.3
