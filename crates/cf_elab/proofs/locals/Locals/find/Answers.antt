use Rattle.std.proofs.Common.{◌≡◌, ◌∙◌, ap, sym, length, get_or, map, None, false, arith, rules}
use Rattle.std.proofs.lemmas.List.{length-map, length-reverse}
use Rattle.cf_elab.specs.Names.{lent}
use Rattle.cf_elab.specs.Scope.{is_named}
use Rattle.cf_elab.proofs.FromEnd.{seen_from_end, found, absent}
use Rattle.cf_elab.proofs.locals.Locals.find.Goals as goal

pub returns-then-is_same : goal.returns-then-is_same
returns-then-is_same c =
    let xs = c.args.self.now in
    let count : c.len-count.result ≡ length c.self.inside.names.items = search rules in
    let at = ap (λ ls. get_or ls c.loop-i.i None) (sym c.self.view_is) ∙ seen_from_end lent None c.self.inside.names.items c.len-count.result c.loop-i.i c.index.result.now count c.loop-i-test.true c.index.ensures in
    let n : length xs ≡ c.len-count.result = ap length (sym c.self.view_is) ∙ length-reverse (map lent c.self.inside.names.items) ∙ length-map c.self.inside.names.items lent ∙ sym count in
    found (is_named c.args.name.now) None xs c.loop-i.i (omega (arith, n, c.loop-i-test.true)) c.loop-i.invariant (ap (is_named c.args.name.now) at ∙ sym c.if-is_same.ensures)

pub loop-i-preserved : goal.loop-i-preserved
loop-i-preserved c =
    let count : c.len-count.result ≡ length c.self.inside.names.items = search rules in
    let at = ap (λ ls. get_or ls c.loop-i.i None) (sym c.self.view_is) ∙ seen_from_end lent None c.self.inside.names.items c.len-count.result c.loop-i.i c.index.result.now count c.loop-i-test.true c.index.ensures in
    let here : is_named c.args.name.now (get_or c.args.self.now c.loop-i.i None) ≡ false = ap (is_named c.args.name.now) at ∙ sym c.if-is_same.ensures in
    λ k h. grind (arith, here, c.loop-i.invariant k, h)

pub returns : goal.returns
returns c =
    let count : c.len-count.result ≡ length c.self.inside.names.items = search rules in
    let n : length c.args.self.now ≡ c.len-count.result = ap length (sym c.self.view_is) ∙ length-reverse (map lent c.self.inside.names.items) ∙ length-map c.self.inside.names.items lent ∙ sym count in
    absent (is_named c.args.name.now) None c.args.self.now c.loop-i.i (omega (arith, n, c.loop-i-test.false, c.loop-i.auto.i-end)) c.loop-i.invariant
