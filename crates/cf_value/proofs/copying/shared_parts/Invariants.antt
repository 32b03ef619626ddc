use Rattle.std.proofs.Common.{◌≡◌, drop}
use Rattle.cf_value.specs.Seen.{seen_parts}
use Rattle.cf_value.proofs.Shared.{seen_before}
use Rattle.cf_value.proofs.copying.shared_parts.Given as goal

abbrev pub invariant-loop-p : goal.invariant-loop-p
invariant-loop-p l = seen_before l.made.items (seen_parts (drop l.p-index l.fn.parts.items)) ≡ seen_parts l.fn.parts.items
