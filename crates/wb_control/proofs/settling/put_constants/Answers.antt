use Rattle.std.proofs.Common.{◌+◌, ◌≤◌, suc, length, arith, refl, sym, subst, ◌∙◌, add-one}
use Rattle.std.proofs.lemmas.Option.{slice_get_read}
use Rattle.wb_state.specs.Words.{seen}
use Rattle.wb_state.specs.Stack.{height_of}
use Rattle.wb_control.specs.Changes.{Fits, at_place, with_stack}
use Rattle.wb_control.specs.Stands.{Stands}
use Rattle.wb_control.proofs.Constants.{put_in, over, not_constant, settled_at, settles, settled_past, never_past, same_body}
use Rattle.wb_control.proofs.settling.put_constants.Goals as goal

pub returns-in_default-clause-settles : goal.returns-in_default-clause-settles
returns-in_default-clause-settles c =
    let old = c.args.run.now in
    let r = c.loop-run.run in
    let b = c.args.body.now in
    let i = c.index-body-run.result in
    let v = c.loop-run.invariant in
    let there = slice_get_read b (length b) r.place.at i refl c.loop-run-test.true c.index-body-run.is in
    let within : height_of r.state.operands ≤ r.state.operands.most = omega (arith, c.height-words.ensures.height, c.height-words.ensures.within) in
    λ m d h s. settles m old r d b i v.fits v.room.0.0 within (same_body m old r b v.func h) there (sym c.in_default.ensures) (v.stands m d h s)

pub returns-in_default-clause-ready : goal.returns-in_default-clause-ready
returns-in_default-clause-ready c =
    let old = c.args.run.now in
    let r = c.loop-run.run in
    let b = c.args.body.now in
    let i = c.index-body-run.result in
    let v = c.loop-run.invariant in
    let there = slice_get_read b (length b) r.place.at i refl c.loop-run-test.true c.index-body-run.is in
    λ m h. (v.fits, settled_at m r b i (same_body m old r b v.func h) there (not_constant i (sym c.in_default.ensures)))

pub returns-then-not-put-clause-settles : goal.returns-then-not-put-clause-settles
returns-then-not-put-clause-settles c =
    let old = c.args.run.now in
    let r = c.loop-run.run in
    let b = c.args.body.now in
    let i = c.index-body-run.result in
    let v = c.loop-run.invariant in
    let there = slice_get_read b (length b) r.place.at i refl c.loop-run-test.true c.index-body-run.is in
    λ m d h s.
    let o = over m r d b i (seen c.in-Some.word) v.fits (same_body m old r b v.func h) there (sym c.in-Some.ensures) c.if-not-put.ensures.puts (v.stands m d h s) in
    omega (arith, o, v.room.0.0)

pub loop-run-preserved : goal.loop-run-preserved
loop-run-preserved c =
    let old = c.args.run.now in
    let r = c.loop-run.run in
    let b = c.args.body.now in
    let i = c.index-body-run.result in
    let v = c.loop-run.invariant in
    let n = r.place.at + 1 in
    let there = slice_get_read b (length b) r.place.at i refl c.loop-run-test.true c.index-body-run.is in
    let p = c.if-not-put.ensures.puts in
    record {
      body = refl;
      func = v.func;
      stands = λ m d h s.
          let q = put_in m r d b i (seen c.in-Some.word) (same_body m old r b v.func h) there (sym c.in-Some.ensures) (v.stands m d h s) in
          let k = subst (λ o. Stands m (at_place (with_stack r o) (suc r.place.at)) d) (sym p) q in
          subst (λ j. Stands m (at_place (with_stack r c.put.new.self) j) d) (sym (add-one r.place.at)) k;
      fits = subst (λ o. Fits (at_place (with_stack r o) n)) (sym p) (record { words = v.fits.words; labels = v.fits.labels; locals = v.fits.locals; callers = v.fits.callers; small = v.fits.small });
      store = v.store;
      room = ((c.if-not-put.ensures.room ∙ v.room.0.0, v.room.0.1), v.room.1, v.room.2);
    }

pub returns-clause-settles : goal.returns-clause-settles
returns-clause-settles c =
    let v = c.loop-run.invariant in
    λ m d h s. absurd (never_past m c.loop-run.run d c.args.body.now (same_body m c.args.run.now c.loop-run.run c.args.body.now v.func h) c.loop-run-test.false (v.stands m d h s))

pub returns-clause-ready : goal.returns-clause-ready
returns-clause-ready c =
    let v = c.loop-run.invariant in
    λ m h. (v.fits, settled_past m c.loop-run.run c.args.body.now (same_body m c.args.run.now c.loop-run.run c.args.body.now v.func h) c.loop-run-test.false)
