use Rattle.std.proofs.Common.{arith, sym, ap, ◌∙◌}
use Rattle.std.proofs.lemmas.Result.{err_from_is_err_and}
use Rattle.wb_syntax.specs.Grammar.{Reads}
use Rattle.wb_syntax.specs.Binary.{expression}
use Rattle.wb_decode.specs.Nest.{opens}
use Rattle.wb_decode.proofs.Bodies.{begins, inside, closed, instr_faulty, leads_inside, leads_closed}
use Rattle.wb_decode.proofs.expressions.expression.Goals as goal

pub loop-nest-init : goal.loop-nest-init
loop-nest-init c = record {
  body = rw (c.new-instrs.ensures, c.new-nest.ensures.items) (begins c.args.bytes.now);
  shorter = omega arith;
}

pub returns-in_err-instr : goal.returns-in_err-instr
returns-in_err-instr c =
    let p = err_from_is_err_and c.from_residual.result c.from_residual.ensures.1 in
    rw (p.1, p.2) (instr_faulty c.in_err-instr.field-0.0 (expression.read c.args.bytes.now) c.loop-nest.instrs (opens c.loop-nest.nest.items) c.loop-nest.rest.now c.loop-nest.invariant.body c.in_err-instr.ensures.reading)

pub loop-nest-preserved : goal.loop-nest-preserved
loop-nest-preserved c = record {
  body =
      let k = leads_inside c.loop-nest.nest.items c.lead.new.nest.items c.in_ok-instr.instr c.in_ok-place.place c.in_ok-place.ensures c.in-Inside.is in
      rw c.in_ok-push.ensures.ok (inside (expression.read c.args.bytes.now) c.loop-nest.instrs (opens c.loop-nest.nest.items) (opens c.lead.new.nest.items) c.in_ok-instr.instr c.loop-nest.rest.now c.in_ok-instr.after.now c.loop-nest.invariant.body c.in_ok-instr.ensures.reading.0 c.in_ok-instr.ensures.shorter k);
  shorter = omega (arith, c.in_ok-instr.ensures.shorter, c.loop-nest.invariant.shorter);
}

pub returns-in-Closed : goal.returns-in-Closed
returns-in-Closed c =
    let k = leads_closed c.loop-nest.nest.items c.lead.new.nest.items c.in_ok-instr.instr c.in_ok-place.place c.in_ok-place.ensures c.in-Closed.is in
    let e = closed (expression.read c.args.bytes.now) c.loop-nest.instrs (opens c.loop-nest.nest.items) c.in_ok-instr.instr c.loop-nest.rest.now c.in_ok-instr.after.now c.loop-nest.invariant.body c.in_ok-instr.ensures.reading.0 c.in_ok-instr.ensures.shorter k in
    (e ∙ ap (λ xs. Reads xs c.in_ok-instr.after.now) (sym c.in_ok-push.ensures.ok), omega (arith, c.in_ok-instr.ensures.shorter, c.loop-nest.invariant.shorter))
