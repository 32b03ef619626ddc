use Rattle.std.proofs.Common.{◌∙◌, ap}
use Rattle.wb_state.specs.Frames.{left, frames_of}
use Rattle.wb_state.proofs.Cuts.{leave_is}
use Rattle.wb_state.proofs.locals.Locals.leave.Goals as goal

pub returns : goal.returns
returns c =
    let o = c.self.inside in
    ap (λ xs. frames_of xs c.args.base o.room) c.truncate.ensures.items ∙ leave_is o.words.items o.base c.args.base o.room ∙ ap (left c.args.base) c.self.view_is
