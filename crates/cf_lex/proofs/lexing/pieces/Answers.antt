use Rattle.std.proofs.Common.{◌∙◌, ◌+◌, arith, drop, subst, sym, take, eqb-true}
use Rattle.std.proofs.lemmas.Bool.{eqb-false}
use Rattle.std.proofs.lemmas.List.{take_rest}
use Rattle.std.proofs.lemmas.Str.{length-le-encodes}
use Rattle.std.specs.Str.{encode_utf8_all}
use Rattle.cf_lex.specs.Naming.{bytes_of, piece_names}
use Rattle.cf_lex.specs.Tokens.{width}
use Rattle.cf_lex.proofs.Progress.{Progress, ends, refused, step}
use Rattle.cf_lex.proofs.Widths.{width-split}
use Rattle.cf_lex.proofs.lexing.pieces.Goals as goal

pub returns-in_default : goal.returns-in_default
returns-in_default c =
    let some = eqb-false _ _ (sym c.is_empty.ensures ∙ c.loop-rest-test.true) in
    refused c.args.chars.now c.loop-rest.rest.now c.loop-rest.at c.loop-rest.tokens.items (bytes_of c.loop-rest.names.keys) (omega (arith, some)) c.in_default.ensures c.loop-rest.invariant

pub keep-requires : goal.keep-requires
keep-requires c = omega (arith, width-split c.in-Some.n c.loop-rest.rest.now, c.loop-rest.invariant.place, c.requires)

pub bytes_len-at-requires : goal.bytes_len-at-requires
bytes_len-at-requires c = omega (arith, width-split c.in-Some.n c.loop-rest.rest.now, c.loop-rest.invariant.place, c.requires)

pub overflow_add-at : goal.overflow_add-at
overflow_add-at c = omega (arith, width-split c.in-Some.n c.loop-rest.rest.now, c.loop-rest.invariant.place, c.requires, c.bytes_len-at.ensures)

pub offset_bounds-rest-n : goal.offset_bounds-rest-n
offset_bounds-rest-n c = omega (arith, c.in-Some.ensures.1, length-le-encodes c.loop-rest.rest.now, c.loop-rest.invariant.place, c.requires)

pub loop-rest-preserved : goal.loop-rest-preserved
loop-rest-preserved c =
    let text = c.args.chars.now in
    let rest = c.loop-rest.rest.now in
    let at = c.loop-rest.at in
    let n = c.in-Some.n in
    let bytes = encode_utf8_all (take n rest) in
    let names = bytes_of c.loop-rest.names.keys in
    let s = step text rest at c.loop-rest.tokens.items names c.in-Some.piece n c.in-Some.ensures c.loop-rest.invariant in
    let t = subst (λ ts. Progress text (drop n rest) (at + width (take n rest)) ts (piece_names names c.in-Some.piece bytes)) (sym c.in_ok-keep.ensures.tokens) s in
    let u = subst (λ ns. Progress text (drop n rest) (at + width (take n rest)) c.keep.new.tokens.items ns) (sym c.in_ok-keep.ensures.names) t in
    let v = subst (λ k. Progress text (drop n rest) (at + k) c.keep.new.tokens.items (bytes_of c.keep.new.names.keys)) (sym c.bytes_len-at.ensures) u in
    rw take_rest v

pub returns : goal.returns
returns c =
    let none = eqb-true _ _ (sym c.is_empty.ensures ∙ c.loop-rest-test.false) in
    ends c.args.chars.now c.loop-rest.rest.now c.loop-rest.at c.loop-rest.tokens.items (bytes_of c.loop-rest.names.keys) (omega (arith, none)) c.loop-rest.invariant
