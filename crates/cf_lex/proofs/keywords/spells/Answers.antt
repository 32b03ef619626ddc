use Rattle.std.proofs.Common.{◌≡◌, ◌∙◌, ap, drop, arith, refl, true}
use Rattle.std.proofs.lemmas.List.{drop_all}
use Rattle.std.specs.Str.{bytes_eq}
use Rattle.cf_lex.proofs.keywords.spells.Goals as goal

pub returns : goal.returns
returns c =
    let word = c.args.word.now in
    let bytes = c.as_bytes-bytes.result.now in
    let i = c.loop-i.i in
    let a = drop_all i word c.loop-i-test.false in
    let b = drop_all i bytes (omega (arith, c.loop-i-test.false, c.loop-i.invariant.0)) in
    let e : true ≡ bytes_eq (drop i word) (drop i bytes) = rw (a, b) refl in
    e ∙ c.loop-i.invariant.1 ∙ ap (λ t. bytes_eq word t) c.as_bytes-bytes.ensures.value
