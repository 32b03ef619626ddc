use Rattle.std.proofs.Common.{rules, length, ◌≡◌, ◌∙◌, ap}
use Rattle.wb_state.specs.Frames.{entered}
use Rattle.wb_state.proofs.Cuts.{enter_is}
use Rattle.wb_state.proofs.locals.Locals.enter.Goals as goal

pub returns : goal.returns
returns c =
    let o = c.self.inside in
    let e : c.len-self-inside.result ≡ length o.words.items = search rules in
    enter_is o.words.items o.base c.len-self-inside.result o.room e ∙ ap entered c.self.view_is
