use Rattle.std.proofs.Common.{◌≡◌, ◌∙◌, ◌+◌, ap, sym, ◌++◌, ◌∷◌, [], length, subst}
use Rattle.std.proofs.lemmas.List.{length_push}
use Rattle.cf_term.specs.View.{listed}
use Rattle.cf_term.specs.Forms.{Hole}
use Rattle.cf_elab.specs.Steps.{MakesHoles}
use Rattle.cf_elab.proofs.Fronts.{more_holes}
use Rattle.cf_elab.proofs.scope.new_holes.Goals as goal

pub loop-i-preserved : goal.loop-i-preserved
loop-i-preserved c =
    let hs = c.loop-i.parts.items in
    let h = c.in_ok-written.field-0 in
    let e = c.in_ok-written.ensures.value ∙ ap Hole c.in_ok-hole.ensures.value in
    let made = more_holes c.loop-i._i c.args.holes.now c.loop-i.holes hs h c.loop-i.invariant.0 e in
    let next : c.loop-i.holes + 1 ≡ c.hole.new.holes = sym c.in_ok-hole.ensures.next in
    let items : hs ++ h ∷ [] ≡ c.push.new.self.items = sym c.in_ok-push.ensures.items in (
      λ m. subst (λ ps. MakesHoles (c.loop-i._i + 1) c.args.holes.now (listed ps) c.hole.new.holes) items (subst (λ k. MakesHoles (c.loop-i._i + 1) c.args.holes.now (listed (hs ++ h ∷ [])) k) next made) m,
      ap length (sym items) ∙ length_push hs h ∙ ap (λ n. n + 1) c.loop-i.invariant.1,
    )
