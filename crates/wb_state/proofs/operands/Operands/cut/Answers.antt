use Rattle.std.proofs.Common.{arith, length, ◌≡◌, ◌≤◌, ◌∙◌, sym, ap}
use Rattle.wb_state.specs.Stack.{cut, height_of, stack_of}
use Rattle.wb_state.proofs.Cuts.{cut_is, height_is}
use Rattle.wb_state.proofs.operands.Operands.cut.Goals as goal

pub returns : goal.returns
returns c =
    let o = c.self.inside in
    let ws = o.words.items in
    let e : height_of c.args.self.now ≡ length ws = ap height_of (sym c.self.view_is) ∙ height_is ws o.floor o.most o.room in
    let n : c.args.height ≤ length ws = omega (arith, e, c.requires.height) in
    ap (λ xs. stack_of xs c.args.floor o.most o.room) c.truncate.ensures.items ∙ cut_is ws o.floor c.args.height c.args.floor o.most o.room c.requires.floor n ∙ ap (cut c.args.height c.args.floor) c.self.view_is
