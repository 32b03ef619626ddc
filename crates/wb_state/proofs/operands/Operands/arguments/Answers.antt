use Rattle.std.proofs.Common.{rules, length, map, reverse, take, drop, List, ◌≡◌, ◌≤◌, ◌-◌, ◌∙◌, ap, subst}
use Rattle.std.proofs.lemmas.List.{take_rest}
use Rattle.wb_state.specs.declared.words.Word.{Word as Held}
use Rattle.wb_state.specs.Words.{seen}
use Rattle.wb_state.specs.Stack.{Stack}
use Rattle.wb_state.proofs.Cuts.{arguments_are, arguments_there}
use Rattle.wb_state.proofs.operands.Operands.arguments.Goals as goal

pub returns : goal.returns
returns c =
    let o = c.self.inside in
    let ws = o.words.items in
    let h = c.len-height.result in
    let n = c.args.count in
    let e : h ≡ length ws = search rules in
    let l : o.floor ≤ h = search rules in (
      subst (λ (s : Stack). n ≤ length s.above) c.self.view_is (arguments_there ws o.floor h n e l c.if-height-self.false),
      ap (map seen) (take_rest c.deref.result.now (h - n)) ∙ ap (λ (xs : List Held). map seen (drop (h - n) xs)) c.deref.ensures.value
          ∙ arguments_are ws o.floor h n e l c.if-height-self.false ∙ ap (λ (s : Stack). reverse (take n s.above)) c.self.view_is,
    )
