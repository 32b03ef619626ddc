use Rattle.std.proofs.Common.{arith}
use Rattle.wb_encode.proofs.Appending.{after_byte, both, pushed}
use Rattle.wb_encode.proofs.Items.{least_is, both_are}
use Rattle.wb_encode.proofs.ItemsParted.{least_parts, both_parts}
use Rattle.wb_encode.proofs.parts.LimitsSpell.push_to.Goals as goal

pub returns-in_ok-push_unsigned-in-None : goal.returns-in_ok-push_unsigned-in-None
returns-in_ok-push_unsigned-in-None c =
    after_byte (pushed c.in_ok-push-in-None.ensures.items) (c.in_ok-push_unsigned-in-None.ensures 32 (omega arith)) (λ rest h. least_is c.args.self.now rest c.in-None.is h) (λ bytes. least_parts c.args.self.now bytes c.in-None.is)

pub returns-in_ok-push_unsigned-in-Some-2 : goal.returns-in_ok-push_unsigned-in-Some-2
returns-in_ok-push_unsigned-in-Some-2 c =
    after_byte (pushed c.in_ok-push-in-Some.ensures.items)
    (both (c.in_ok-push_unsigned-in-Some.ensures 32 (omega arith)) (c.in_ok-push_unsigned-in-Some-2.ensures 32 (omega arith)))
    (λ rest h. both_are c.args.self.now c.in-Some.max rest c.in-Some.is h) (λ bytes. both_parts c.args.self.now c.in-Some.max bytes c.in-Some.is)
