use Rattle.std.proofs.Common.{◌≡◌, ◌≢◌, ℕ, ◌<◌, slice_get, IfSome, nat_cmp, List, Some, None}
use Rattle.std.specs.BTreeMap.{get_by}
use Rattle.std.specs.Cmp.Lexicographic.{slice_cmp}
use Rattle.wb_syntax.specs.Typing.{ExportOf, IsValid}
use Rattle.wb_valid.specs.Syntax.{Export}
use Rattle.wb_valid.proofs.Kept.{IsKept}
use Rattle.wb_valid.proofs.exports.export.Given as goal

abbrev pub invariant-loop-at : goal.invariant-loop-at
invariant-loop-at l = record {
  valid : (k : ℕ) → k < l.at → IsValid l.m (ExportOf k);
  kept : (name : List ℕ) (e : ℕ) → get_by (λ k. slice_cmp nat_cmp name k.now) l.names ≡ Some e → IsKept l.m.exports l.at name e;
  new : (name : List ℕ) → get_by (λ k. slice_cmp nat_cmp name k.now) l.names ≡ None → (d : ℕ) → d < l.at → IfSome (slice_get l.m.exports d) (λ (x : Export). x.name ≢ name);
}
