use Rattle.std.proofs.Common.{rules, of_calls, sym, ap, ◌∙◌, length}
use Rattle.std.specs.Prelude.{◌-◌, nat_le}
use Rattle.std.proofs.lemmas.List.Sorted.{IsPartitionedBy-leb, IsPartitionPoint-from_clause}
use Rattle.wb_valid.proofs.LocalTypes.{run_type, local_at, sums_rise}
use Rattle.wb_valid.proofs.locals.local_type.Goals as goal

pub returns-in-None : goal.returns-in-None
returns-in-None c =
    let past = c.args.index - length c.args.params.now in
    let point = IsPartitionPoint-from_clause (λ y. nat_le y past) c.args.sums.now c.partition_point-run.result c.partition_point-run.ensures.partitioned (IsPartitionedBy-leb (λ y. y) c.args.sums.now past (sums_rise c.args.runs.now c.args.sums.now c.requires)) (λ a r f k. search (rules, of_calls)) in
    sym (local_at c.args.params.now c.args.runs.now c.args.sums.now c.args.index c.partition_point-run.result c.requires c.if-place-count.false c.partition_point-run.ensures.bound point ∙ ap run_type (sym c.in-None.ensures))

pub returns-in-Some : goal.returns-in-Some
returns-in-Some c =
    let past = c.args.index - length c.args.params.now in
    let point = IsPartitionPoint-from_clause (λ y. nat_le y past) c.args.sums.now c.partition_point-run.result c.partition_point-run.ensures.partitioned (IsPartitionedBy-leb (λ y. y) c.args.sums.now past (sums_rise c.args.runs.now c.args.sums.now c.requires)) (λ a r f k. search (rules, of_calls)) in
    sym (local_at c.args.params.now c.args.runs.now c.args.sums.now c.args.index c.partition_point-run.result c.requires c.if-place-count.false c.partition_point-run.ensures.bound point ∙ ap run_type (sym c.in-Some.ensures))
