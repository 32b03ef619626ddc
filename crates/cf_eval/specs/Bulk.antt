-- How deep the frozen terms in a value are. Evaluation makes none deeper, which is why it ends.
use Rattle.std.specs.Prelude.{ℕ, max, ◌+◌, ◌*◌}
use Rattle.cf_term.specs.Core.{depth}
use Rattle.cf_value.specs.Val.{Val, VParts, Vals, level, form, none, ready, frozen, empty, push}
use Rattle.cf_eval.specs.Redexes.{Kept, Goal, opened, value, case_of, number_case, list_case}

-- the greatest depth of a frozen term
abbrev mutual
  pub bulk : Val → ℕ
  bulk (level n) = 0
  bulk (form h l ps) = part_bulk ps

  pub part_bulk : VParts → ℕ
  part_bulk none = 0
  part_bulk (ready v ps) = max (bulk v) (part_bulk ps)
  part_bulk (frozen e t ps) = max (max (bulks e) (depth t)) (part_bulk ps)

  pub bulks : Vals → ℕ
  bulks empty = 0
  bulks (push v e) = max (bulk v) (bulks e)

abbrev pub kept_bulk : Kept → ℕ
kept_bulk f = max (bulks f.env) (depth f.body)

abbrev pub goal_bulk : Goal → ℕ
goal_bulk (opened f u) = max (kept_bulk f) (bulk u)
goal_bulk (value v) = bulk v
goal_bulk (case_of t) = kept_bulk t
goal_bulk (number_case p z s m) = max (max (kept_bulk p) (kept_bulk z)) (max (kept_bulk s) (bulk m))
goal_bulk (list_case p n c x y) = max (max (max (kept_bulk p) (kept_bulk n)) (kept_bulk c)) (max (bulk x) (bulk y))

-- room for what is evaluated within a nest, where no frozen term is deeper than b
abbrev pub rank : (nest b : ℕ) → ℕ
rank nest b = nest * (8 * b + 16)
