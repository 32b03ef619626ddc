use Rattle.std.proofs.Common.{◌-◌, sym, subst, ap, ◌∙◌, arith, rules, pos, ◌+ℤ◌, ◌*ℤ◌, w64, SFits}
use Rattle.std.proofs.lemmas.Int.{to_z-of_z}
use Rattle.wb_decode.specs.Reading.{IsSignedRange}
use Rattle.wb_decode.proofs.Widths.{signed_within, signed_more, signed_long, signed_unused, signed_unused_below}
use Rattle.wb_decode.proofs.numbers.+signed.Goals as goal

pub below-requires-clause-range : goal.below-requires-clause-range
below-requires-clause-range t c =
    let fits : SFits w64 c.in_ok-high.high = search rules in
    subst (IsSignedRange 57) (sym (to_z-of_z w64 c.in_ok-high.high fits)) (signed_within (c.args.bits - 7) 57 c.in_ok-high.high (omega arith) c.in_ok-high.ensures.range)

pub returns-in_ok-high-clause-range : goal.returns-in_ok-high-clause-range
returns-in_ok-high-clause-range t c =
    let fits : SFits w64 c.in_ok-high.high = search rules in
    let h = signed_more c.args.bits c.in_ok-byte.byte c.in_ok-high.high (omega arith) (omega arith) c.in_ok-byte.ensures.1 c.in_ok-high.ensures.range in
    let e = c.below.ensures ∙ ap (λ z. pos (c.in_ok-byte.byte - 128) +ℤ (pos 128 *ℤ z)) (to_z-of_z w64 c.in_ok-high.high fits) in
    let same : SFits w64 c.below.result = search rules in
    subst (IsSignedRange c.args.bits) (sym (to_z-of_z w64 c.below.result same ∙ e)) h

pub returns-else-from-half-clause-reading : goal.returns-else-from-half-clause-reading
returns-else-from-half-clause-reading t c = signed_unused c.args.bits c.in_ok-byte.byte c.args.bytes.now c.in_ok-byte.rest.now c.in_ok-byte.ensures.0 (omega arith) (omega arith)

pub returns-else-from-half-2-clause-reading : goal.returns-else-from-half-2-clause-reading
returns-else-from-half-2-clause-reading t c = signed_unused_below c.args.bits c.in_ok-byte.byte c.args.bytes.now c.in_ok-byte.rest.now c.in_ok-byte.ensures.0 (omega arith) (omega arith) (omega arith)

pub returns-then-bits-le7-clause-reading : goal.returns-then-bits-le7-clause-reading
returns-then-bits-le7-clause-reading t c = signed_long c.args.bits c.in_ok-byte.byte c.args.bytes.now c.in_ok-byte.rest.now c.in_ok-byte.ensures.0 (omega arith) c.in_ok-byte.ensures.1 (omega arith)
