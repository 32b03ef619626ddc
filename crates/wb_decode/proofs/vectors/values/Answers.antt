use Rattle.std.proofs.Common.{◌-◌, arith, sym, ◌∙◌, ap}
use Rattle.std.proofs.lemmas.Result.{err_from_is_err_and}
use Rattle.wb_syntax.specs.Grammar.{times}
use Rattle.wb_decode.proofs.Values.{prepend, value_read, value_faulty}
use Rattle.wb_decode.proofs.vectors.values.Goals as goal

pub returns-in_err-item : goal.returns-in_err-item
returns-in_err-item g c =
    let p = err_from_is_err_and c.from_residual.result c.from_residual.ensures.1 in
    rw (p.1, p.2) (value_faulty c.in_err-item.field-0.0 c.loop-more.more g.T.Spelled.grammar c.loop-more.items c.loop-more.rest.now _ c.loop-more-test.true c.loop-more.invariant.whole c.in_err-item.ensures)

pub loop-more-preserved : goal.loop-more-preserved
loop-more-preserved g c = record {
  whole =
      let e = value_read c.loop-more.more g.T.Spelled.grammar c.loop-more.items c.in_ok-item.item c.loop-more.rest.now c.in_ok-item.after.now c.loop-more-test.true c.in_ok-item.ensures.0 in
      ap (λ xs. prepend xs ((times (c.loop-more.more - 1) g.T.Spelled.grammar).read c.in_ok-item.after.now)) c.in_ok-push.ensures.ok ∙ sym e ∙ c.loop-more.invariant.whole;
  shorter = omega (arith, c.in_ok-item.ensures.1, c.loop-more.invariant.shorter);
}
