use Rattle.std.proofs.Common.{arith, length-append, ◌∷◌, []}
use Rattle.cf_value.proofs.Built.{definitions_grown}
use Rattle.cf_value.proofs.forming.group.Goals as goal

pub loop-preserved : goal.loop-preserved
loop-preserved c =
    rw c.in_ok-push.ensures (
      omega (arith, length-append c.loop.definitions.items (record { ty = c.next-ty.result; value = c.next-value.result } ∷ [])),
      omega arith,
      rw definitions_grown (rw (c.next-ty.ensures.items, c.next-value.ensures.items) at c.loop.invariant.2),
    )
