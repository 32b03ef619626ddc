use Rattle.std.proofs.Common.{rules, length, ◌≡◌, ◌≤◌, ◌∙◌, ap}
use Rattle.std.specs.Vec.{vec_len}
use Rattle.std.specs.declared.alloc.AllocError.{AllocError}
use Rattle.std.specs.Prelude.{Result, if◌then◌else◌, is_ok, ◌++◌, replicate, take, ◌+◌, ◌-◌}
use Rattle.wb_syntax.specs.Execute.{word}
use Rattle.wb_state.specs.Frames.{with_current, frames_of, Frames}
use Rattle.wb_state.proofs.Cuts.{zeros_are, filled}
use Rattle.wb_state.proofs.locals.Locals.add_zeros.Goals as goal

pub returns : goal.returns
returns c =
    let o = c.self.inside in
    let ws = o.words.items in
    let z = c.zero.result in
    let w = word c.args.ty 0 in
    let e : c.len.result ≡ length ws = search rules in
    let l : o.base ≤ length ws = search rules in
    let i : c.resize.new.self.items ≡ take (c.len.result + c.args.count) ws ++ replicate (c.len.result + c.args.count - vec_len o.words) z =
    c.resize.ensures.items ∙ ap (λ (r : Result (Unit {0}) AllocError). if is_ok r then take (c.len.result + c.args.count) ws ++ replicate (c.len.result + c.args.count - vec_len o.words) z else ws) c.unwrap.ensures in
    ap (λ xs. frames_of xs o.base o.room) (i ∙ filled ws c.len.result (vec_len o.words) c.args.count z c.len.ensures e) ∙ zeros_are ws o.base o.room c.args.count z w l c.zero.ensures
    ∙ ap (λ (f : Frames). with_current f (f.current ++ replicate c.args.count w)) c.self.view_is
