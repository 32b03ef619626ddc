use Rattle.std.proofs.Common.{◌≡◌, ℕ, ◌<◌, sym, ap, subst, ◌∙◌, List, length, get_or, nat_cmp, cond, Some}
use Rattle.std.specs.Prelude.{Option}
use Rattle.std.specs.BTreeMap.{get_by}
use Rattle.std.specs.Str.{bytes_eq}
use Rattle.std.specs.Cmp.Lexicographic.{slice_cmp}
use Rattle.std.proofs.lemmas.Map.Text.{btree_map_updates_str}
use Rattle.wb_valid.proofs.Kept.{kept_more, new_more, taken_stops, valid_more, all_exports}
use Rattle.wb_valid.proofs.exports.export.Goals as goal

pub returns-then-is_some : goal.returns-then-is_some
returns-then-is_some c = (
  taken_stops c.args.m.now c.as_slice-export-items.result.now c.loop-at.at c.export-item.result c.as_str.result.now c.in_ok-insert.field-0 (λ q. get_by (λ k. slice_cmp nat_cmp q k.now) c.loop-at.names) c.as_slice-export-items.ensures c.loop-at-test.true c.export-item.is c.as_str.ensures.bytes c.in_ok-insert.ensures.old (sym c.is_some.ensures ∙ c.if-is_some.true) c.loop-at.invariant.kept,
  c.loop-at.invariant.valid,
)

pub loop-at-preserved : goal.loop-at-preserved
loop-at-preserved c =
    let old : List ℕ → Option ℕ = λ q. get_by (λ k. slice_cmp nat_cmp q k.now) c.loop-at.names in
    let new : List ℕ → Option ℕ = λ q. get_by (λ k. slice_cmp nat_cmp q k.now) c.insert.new.self in
    let same = c.as_slice-export-items.ensures in
    let within : c.loop-at.at < length c.args.m.now.exports = subst (λ xs. c.loop-at.at < length xs) same c.loop-at-test.true in
    let item : c.export-item.result ≡ get_or c.args.m.now.exports c.loop-at.at c.export-item.result = subst (λ xs. c.export-item.result ≡ get_or xs c.loop-at.at c.export-item.result) same c.export-item.is in
    let updates : (q : List ℕ) → new q ≡ cond (bytes_eq c.export-item.result.name q) (Some c.loop-at.at) (old q) =
    λ q. btree_map_updates_str c.as_str.result.now c.loop-at.names c.insert.new.self _ c.in_ok-insert.ensures.updates q
    ∙ ap (λ n. cond (bytes_eq n q) (Some c.loop-at.at) (old q)) c.as_str.ensures.bytes in
    record {
      valid = valid_more c.args.m.now c.as_slice-export-items.result.now c.loop-at.at c.export-item.result c.as_str.result.now c.in_ok-insert.field-0 old same c.loop-at-test.true c.export-item.is c.as_str.ensures.bytes c.in_ok-insert.ensures.old (sym c.is_some.ensures ∙ c.if-is_some.false) (c.is_there.ensures.0 c.if-not-is_there.false) c.loop-at.invariant.new c.loop-at.invariant.valid;
      kept = kept_more c.args.m.now.exports c.loop-at.at c.export-item.result old new within item updates c.loop-at.invariant.kept;
      new = new_more c.args.m.now.exports c.loop-at.at c.export-item.result old new within item updates c.loop-at.invariant.new;
    }

pub returns : goal.returns
returns c = all_exports c.args.m.now c.as_slice-export-items.result.now c.loop-at.at c.as_slice-export-items.ensures c.loop-at-test.false c.loop-at.invariant.valid
