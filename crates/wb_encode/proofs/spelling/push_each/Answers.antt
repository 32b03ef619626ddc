use Rattle.std.proofs.Common.{◌≤◌, length, arith, sym, subst}
use Rattle.wb_encode.specs.Shortest.{IsShortest}
use Rattle.wb_encode.proofs.Appending.{nothing, after, turned}
use Rattle.wb_encode.proofs.Each.{Continues, every_at, continues_on, continues_to_end}
use Rattle.wb_encode.proofs.spelling.push_each.Goals as goal

pub loop-part-init : goal.loop-part-init
loop-part-init g c = nothing c.args.out.now.items (Continues g.T.Spell.spells c.args.parts.now c.args.parts.now) (λ more h. h)

pub push_to-requires : goal.push_to-requires
push_to-requires g c =
    let h = every_at g.T.Spell.is_encodable c.args.parts.now c.loop-part.part-index c.part-item.result c.requires c.loop-part-test.true in
    subst (λ x. g.T.Spell.is_encodable x) (sym c.part-item.is) h

pub loop-part-preserved : goal.loop-part-preserved
loop-part-preserved g c =
    after c.loop-part.invariant c.in_ok-push_to.ensures
    (λ done bytes inv s. continues_on g.T.Spell.spells c.args.parts.now c.loop-part.part-index c.part-item.result done bytes c.loop-part-test.true inv (subst (λ x. IsShortest (g.T.Spell.spells x) bytes) c.part-item.is s))

pub returns : goal.returns
returns g c =
    let end : length c.args.parts.now ≤ c.loop-part.part-index = omega arith in
    turned c.loop-part.invariant (λ done inv. continues_to_end g.T.Spell.spells c.args.parts.now c.loop-part.part-index done end inv)
