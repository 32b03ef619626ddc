use Rattle.std.proofs.Common.{◌≡◌, ◌+◌, ◌*◌, ◌++◌, max, length, drop, []}
use Rattle.cf_term.specs.View.{listed, heads, definitions as core_definitions}
use Rattle.cf_tree.specs.Tree.{Trees, depth, depth_all, none}
use Rattle.cf_tree.specs.View.{branches, definitions, one_each, variables}
use Rattle.cf_elab.specs.Steps.{Leads, bodies_before}
use Rattle.cf_elab.proofs.resolving.+terms.Given as goal

abbrev pub decreases-resolve : goal.decreases-resolve
decreases-resolve l = 20 * depth l.t.now + 8

abbrev pub decreases-form : goal.decreases-form
decreases-form l = 20 * depth l.t.now + 7

abbrev pub decreases-child : goal.decreases-child
decreases-child l = 20 * depth l.t.now + 9

abbrev pub decreases-one : goal.decreases-one
decreases-one l = 20 * depth l.t.now + 10

abbrev pub decreases-under : goal.decreases-under
decreases-under l = 20 * depth l.t.now + 10

abbrev pub decreases-two : goal.decreases-two
decreases-two l = 20 * max (depth l.t.now) (depth l.u.now) + 11

abbrev pub decreases-bound : goal.decreases-bound
decreases-bound l = 20 * max (depth l.t.now) (depth l.u.now) + 11

abbrev pub decreases-three : goal.decreases-three
decreases-three l = 20 * max (depth l.t.now) (max (depth l.u.now) (depth l.v.now)) + 12

abbrev pub decreases-unary : goal.decreases-unary
decreases-unary l = 20 * depth l.t.now + 14

abbrev pub decreases-binary : goal.decreases-binary
decreases-binary l = 20 * max (depth l.t.now) (depth l.u.now) + 14

abbrev pub decreases-ternary : goal.decreases-ternary
decreases-ternary l = 20 * max (depth l.t.now) (max (depth l.u.now) (depth l.v.now)) + 14

abbrev pub decreases-quaternary : goal.decreases-quaternary
decreases-quaternary l = 20 * max (depth l.t.now) (max (depth l.u.now) (max (depth l.v.now) (depth l.w.now))) + 14

abbrev pub decreases-binding : goal.decreases-binding
decreases-binding l = 20 * max (depth l.t.now) (depth l.u.now) + 14

abbrev pub decreases-defining : goal.decreases-defining
decreases-defining l = 20 * max (depth l.t.now) (max (depth l.u.now) (depth l.v.now)) + 14

abbrev pub decreases-four : goal.decreases-four
decreases-four l = 20 * max (depth l.t.now) (max (depth l.u.now) (max (depth l.v.now) (depth l.w.now))) + 13

abbrev pub decreases-all : goal.decreases-all
decreases-all l = 20 * depth_all (one_each l.ts.now.items none) + 10

abbrev pub decreases-data : goal.decreases-data
decreases-data l = 20 * depth_all (one_each l.params.now.items none) + 14

abbrev pub decreases-con : goal.decreases-con
decreases-con l = 20 * max (depth_all (one_each l.params.now.items none)) (depth_all (one_each l.fields.now.items none)) + 14

abbrev pub decreases-con_at_holes : goal.decreases-con_at_holes
decreases-con_at_holes l = 20 * depth_all (one_each l.fields.now.items none) + 14

abbrev pub decreases-below : goal.decreases-below
decreases-below l = 20 * depth l.t.now + 10

abbrev pub decreases-define : goal.decreases-define
decreases-define l = 20 * max (depth l.definition.now.ty.value) (depth l.definition.now.value.value) + 11

abbrev pub decreases-define_all : goal.decreases-define_all
decreases-define_all l = 20 * depth_all (definitions [] l.definitions.now.items none) + 12

abbrev pub decreases-letrec : goal.decreases-letrec
decreases-letrec l = 20 * max (depth_all (definitions [] l.definitions.now.items none)) (depth l.t.now) + 14

abbrev pub decreases-alternative : goal.decreases-alternative
decreases-alternative l = 20 * depth l.b.now.body.value + 10

abbrev pub decreases-alternatives : goal.decreases-alternatives
decreases-alternatives l = 20 * depth_all (branches l.bs.now.items) + 11

abbrev pub decreases-case : goal.decreases-case
decreases-case l = 20 * max (depth l.t.now) (max (depth l.u.now) (depth_all (branches l.bs.now.items))) + 14

-- what is read so far stands before what is read of the rest
abbrev pub invariant-all-loop-t : goal.invariant-all-loop-t
invariant-all-loop-t l =
    ((us : Trees) → Leads l.g l.initial.scope.locals (one_each l.ts.items us) l.initial.scope.holes (λ r. (r.0, listed l.read.items r.1)) (one_each (drop l.t-index l.ts.items) us) l.scope.holes)
    × (length l.read.items ≡ l.t-index) × (l.scope.locals ≡ l.initial.scope.locals)

abbrev pub invariant-define_all-loop-definition : goal.invariant-define_all-loop-definition
invariant-define_all-loop-definition l =
    let bs = variables l.definitions.items in
    ((us : Trees)
    → Leads l.g l.initial.scope.locals (definitions bs l.definitions.items us) l.initial.scope.holes (λ r. (r.0, core_definitions l.read.items r.1)) (definitions bs (drop l.definition-index l.definitions.items) us) l.scope.holes)
    × (l.scope.locals ≡ l.initial.scope.locals)

abbrev pub invariant-alternatives-loop-b : goal.invariant-alternatives-loop-b
invariant-alternatives-loop-b l =
    Leads l.g l.initial.scope.locals (branches l.bs.items) l.initial.scope.holes (λ r. (heads l.read.items ++ r.0, bodies_before l.read.items r.1)) (branches (drop l.b-index l.bs.items)) l.scope.holes
    × (l.scope.locals ≡ l.initial.scope.locals)
