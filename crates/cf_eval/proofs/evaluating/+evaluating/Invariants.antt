use Rattle.std.proofs.Common.{◌+◌, ◌*◌, max}
use Rattle.cf_term.specs.Core.{depth, depth_all}
use Rattle.cf_term.specs.Numbered.{places, terms}
use Rattle.cf_term.specs.View.{tm_of}
use Rattle.cf_value.specs.Seen.{seen_parts}
use Rattle.cf_eval.specs.Bulk.{rank, bulk, bulks, part_bulk, kept_bulk, goal_bulk}
use Rattle.cf_eval.specs.Goals.{goal_of}
use Rattle.cf_eval.specs.Redexes.{kept_of, number_case, list_case}
use Rattle.cf_eval.proofs.Walked.{Walks}
use Rattle.cf_eval.proofs.evaluating.+evaluating.Given as goal

abbrev pub decreases-value_of : goal.decreases-value_of
decreases-value_of l = rank l.nest (max (bulks l.env.now) (depth l.t.now)) + (8 * depth l.t.now + 4)

abbrev pub decreases-form_of : goal.decreases-form_of
decreases-form_of l = rank l.nest (max (bulks l.env.now) (depth (tm_of l.node.now))) + (8 * depth (tm_of l.node.now) + 3)

abbrev pub decreases-parts_in_order : goal.decreases-parts_in_order
decreases-parts_in_order l = rank l.nest (max (bulks l.env.now) (depth_all (terms (tm_of l.node.now)))) + (8 * depth_all (terms (tm_of l.node.now)) + 7)

abbrev pub decreases-part_of : goal.decreases-part_of
decreases-part_of l = rank l.nest (max (bulks l.env.now) (depth l.part.now.term.now.value)) + (8 * depth l.part.now.term.now.value + 6)

abbrev pub decreases-under : goal.decreases-under
decreases-under l = rank l.nest (max (bulks l.env.now) (depth l.t.now)) + (8 * depth l.t.now + 5)

abbrev pub decreases-finished : goal.decreases-finished
decreases-finished l = rank l.nest (part_bulk (seen_parts l.parts.items)) + 1

abbrev pub decreases-taken : goal.decreases-taken
decreases-taken l = rank l.nest (goal_bulk (goal_of l.next))

abbrev pub decreases-followed : goal.decreases-followed
decreases-followed l = rank l.nest (goal_bulk (goal_of l.next)) + (8 * goal_bulk (goal_of l.next) + 15)

abbrev pub decreases-opened : goal.decreases-opened
decreases-opened l = rank l.nest (max (kept_bulk (kept_of l.body.now)) (bulk l.v.now.value)) + (8 * max (kept_bulk (kept_of l.body.now)) (bulk l.v.now.value) + 13)

abbrev pub decreases-thawed : goal.decreases-thawed
decreases-thawed l = rank l.nest (kept_bulk (kept_of l.t.now)) + (8 * kept_bulk (kept_of l.t.now) + 13)

abbrev pub decreases-after_number : goal.decreases-after_number
decreases-after_number l =
    let b = goal_bulk (number_case (kept_of l.motive.now) (kept_of l.zero.now) (kept_of l.suc.now) l.number.now.value) in
    rank l.nest b + (8 * b + 14)

abbrev pub decreases-after_list : goal.decreases-after_list
decreases-after_list l =
    let b = goal_bulk (list_case (kept_of l.motive.now) (kept_of l.nil.now) (kept_of l.cons.now) l.item.now.value l.others.now.value) in
    rank l.nest b + (8 * b + 14)

abbrev pub decreases-applied : goal.decreases-applied
decreases-applied l = rank l.nest (max (bulk l.function.value) (bulk l.argument.value)) + 2

abbrev pub decreases-recursor : goal.decreases-recursor
decreases-recursor l = rank l.nest (max (max (kept_bulk (kept_of l.motive.now)) (kept_bulk (kept_of l.base.now))) (max (kept_bulk (kept_of l.step.now)) (bulk l.v.now.value))) + 2

-- the parts made, and the parts still to come
abbrev pub invariant-parts_in_order-loop-i : goal.invariant-parts_in_order-loop-i
invariant-parts_in_order-loop-i l = Walks (places (tm_of l.node)) (terms (tm_of l.node)) l.env l.depth l.steps l.nest l.made.items l.i l.left
