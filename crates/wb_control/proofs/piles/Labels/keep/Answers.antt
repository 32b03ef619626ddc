use Rattle.std.proofs.Common.{◌∙◌, ap}
use Rattle.wb_state.specs.Stack.{lowest}
use Rattle.wb_control.specs.Piles.{LabelPile}
use Rattle.wb_control.proofs.Lowest.{kept_lowest}
use Rattle.wb_control.proofs.piles.Labels.keep.Goals as goal

pub returns : goal.returns
returns c =
    let o = c.self.inside in
    let P : LabelPile → LabelPile = λ p. record p { items = lowest c.args.count p.items } in
    kept_lowest c.truncate.new.self.items o.items.items c.args.count o.room c.truncate.ensures.items ∙ ap P c.self.view_is
