use Rattle.std.proofs.Common.{◌+◌, ◌-◌, arith, sym, ◌∙◌, ap}
use Rattle.std.proofs.lemmas.Result.{err_from_is_err_and}
use Rattle.wb_syntax.specs.Binary.{local_runs}
use Rattle.wb_decode.proofs.Values.{prepend}
use Rattle.wb_decode.proofs.Locals.{run_read, run_faulty}
use Rattle.wb_decode.proofs.codes.local_runs.Goals as goal

pub returns-in_err-next : goal.returns-in_err-next
returns-in_err-next c =
    let p = err_from_is_err_and c.from_residual.result c.from_residual.ensures.1 in
    rw (p.1, p.2) (run_faulty c.in_err-next.field-0.0 c.loop-more.more c.loop-more.before c.loop-more.runs c.loop-more.rest.now _ c.loop-more-test.true c.loop-more.invariant.whole c.in_err-next.ensures.reading)

pub loop-more-preserved : goal.loop-more-preserved
loop-more-preserved c = record {
  whole =
      let e = run_read c.loop-more.more c.loop-more.before c.loop-more.runs c.in_ok-next.next c.loop-more.rest.now c.in_ok-next.after.now c.loop-more-test.true c.in_ok-next.ensures.reading.0 in
      ap (λ xs. prepend xs ((local_runs (c.loop-more.more - 1) (c.loop-more.before + c.in_ok-next.next.count)).read c.in_ok-next.after.now)) c.in_ok-push.ensures.ok ∙ sym e ∙ c.loop-more.invariant.whole;
  shorter = omega (arith, c.in_ok-next.ensures.reading.1, c.loop-more.invariant.shorter);
}
