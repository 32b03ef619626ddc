use Rattle.std.proofs.Common.{rules, length, ◌≡◌, ◌∙◌, ap}
use Rattle.wb_state.specs.Stack.{raised}
use Rattle.wb_state.proofs.Cuts.{raise_is}
use Rattle.wb_state.proofs.operands.Operands.raise.Goals as goal

pub returns : goal.returns
returns c =
    let o = c.self.inside in
    let e : c.len-self-inside.result ≡ length o.words.items = search rules in
    raise_is o.words.items o.floor c.len-self-inside.result o.most o.room e ∙ ap raised c.self.view_is
