use Rattle.std.proofs.Common.{◌≡◌, ◌+◌, ◌≤◌, List, arith, length, refl, ap}
use Rattle.wb_syntax.specs.declared.syntax.LocalRun.{LocalRun}
use Rattle.wb_syntax.specs.Syntax.{expanded}
use Rattle.wb_state.specs.Stack.{Stack}
use Rattle.wb_control.proofs.Arguments.{too_full, have_enough}
use Rattle.wb_control.proofs.calls.open_frame.Goals as goal

pub returns-then-not-reserve : goal.returns-then-not-reserve
returns-then-not-reserve c =
    let f = c.args.func.now in
    let h = c.if-not-reserve.ensures in
    let e : length (expanded c.as_slice-runs.result.now) ≡ length (expanded f.locals) = ap (λ (rs : List LocalRun). length (expanded rs)) c.as_slice-runs.ensures in
    let l : c.saturating_add.result ≤ length (expanded f.locals) + 4 = omega (arith, e, c.count_locals.ensures, c.saturating_add.ensures) in (
      too_full c.args.index c.args.next c.saturating_add.result f c.args.ty.now c.args.run.now c.requires.fits c.requires.arguments l h.0,
      (refl, refl),
      ((ap (λ (s : Stack). s.room) h.1, refl), refl, refl),
    )

pub returns-in_default : goal.returns-in_default
returns-in_default c =
    let o = c.args.run.now.state.operands in
    let h = c.in_default.ensures in
    let k = c.if-not-reserve.ensures in
    let a : length c.reserve.new.self.above ≡ length o.above = ap (λ (s : Stack). length s.above) k.1 in
    let enough = have_enough c.args.ty.now.params o.above c.requires.arguments in
    absurd (omega (arith, h, a, c.len-count.ensures, enough))
