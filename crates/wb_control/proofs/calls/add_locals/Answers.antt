use Rattle.std.proofs.Common.{◌≡◌, ◌+◌, ◌++◌, arith, length, drop, get_or, replicate, ap, ◌∙◌, length-append}
use Rattle.std.proofs.lemmas.List.{length-replicate}
use Rattle.wb_syntax.specs.declared.syntax.NumType.TheVariants.{I32}
use Rattle.wb_syntax.specs.declared.syntax.LocalRun.{LocalRun}
use Rattle.wb_syntax.specs.Syntax.{expanded}
use Rattle.wb_syntax.specs.Execute.{word, zeros}
use Rattle.wb_state.specs.Frames.{Frames}
use Rattle.wb_control.proofs.Arguments.{add_more, count_more}
use Rattle.wb_control.proofs.calls.add_locals.Goals as goal

pub loop-run-preserved : goal.loop-run-preserved
loop-run-preserved c =
    let runs = c.args.runs.now in
    let i = c.loop-run.run-index in
    let d : LocalRun = record { count = 0; ty = I32 } in
    let r : LocalRun = get_or runs i d in
    let old = c.loop-run.locals in
    let new = c.add_zeros.new.self in
    let v = c.loop-run.invariant in
    let current : new.current ≡ old.current ++ replicate r.count (word r.ty 0) = ap (λ (g : Frames). g.current) c.add_zeros.ensures in
    let outer : new.outer ≡ old.outer = ap (λ (g : Frames). g.outer) c.add_zeros.ensures in
    let room : new.room ≡ old.room = ap (λ (g : Frames). g.room) c.add_zeros.ensures in
    let longer : length new.current ≡ length old.current + r.count = ap length current ∙ length-append old.current (replicate r.count (word r.ty 0)) ∙ ap (λ n. length old.current + n) (length-replicate r.count (word r.ty 0)) in
    let around : length new.outer ≡ length old.outer = ap length outer in
    let more = count_more runs i d c.loop-run-test.true in
    record {
      current = ap (λ ws. ws ++ zeros (expanded (drop (i + 1) runs))) current ∙ add_more runs i d old.current _ c.loop-run-test.true v.current;
      outer = outer ∙ v.outer;
      room = room ∙ v.room;
      fits = omega (arith, longer, around, room, more, v.fits);
    }
