use Rattle.std.proofs.Common.{◌∙◌, ◌+◌, ◌<◌, ap, arith, eqb-true, length, subst, sym}
use Rattle.std.proofs.lemmas.Bool.{eqb-false}
use Rattle.std.proofs.lemmas.List.{get_or_default, take_rest}
use Rattle.std.specs.List.{take_while}
use Rattle.unicode_ident.specs.Ident.{is_xid_continue}
use Rattle.cf_lex.specs.Fronts.{IsOther, Stands}
use Rattle.cf_lex.specs.Tokens.{is_digit}
use Rattle.cf_lex.specs.declared.piece.Piece.TheVariants as piece
use Rattle.cf_lex.proofs.Standing.{blank_stands, digits_stand, nothing, word_stands}
use Rattle.cf_lex.proofs.fronts.front.Goals as goal

pub returns-then-is_empty : goal.returns-then-is_empty
returns-then-is_empty c =
    let e = eqb-true _ _ (sym c.is_empty.ensures ∙ c.if-is_empty.true) in
    nothing c.args.chars.now (omega (arith, e))

pub returns-then-begins_name : goal.returns-then-begins_name
returns-then-begins_name c =
    let text = c.args.chars.now in
    let some = eqb-false _ _ (sym c.is_empty.ensures ∙ c.if-is_empty.false) in
    let n = c.name_len-n.ensures ∙ ap (λ ds. length (take_while is_xid_continue ds)) (take_rest text 1) in
    let s = word_stands text c.index-chars-0.result (1 + c.name_len-n.result) (omega (arith, some)) c.index-chars-0.is (sym c.begins_name.ensures ∙ c.if-begins_name.true) (ap (λ k. 1 + k) n) in
    subst (λ l. Stands text (piece.Token l) (1 + c.name_len-n.result)) (sym c.word.ensures) s

pub returns-then-is_digit : goal.returns-then-is_digit
returns-then-is_digit c =
    let text = c.args.chars.now in
    let some = eqb-false _ _ (sym c.is_empty.ensures ∙ c.if-is_empty.false) in
    let n = c.digits_len.ensures ∙ ap (λ ds. length (take_while is_digit ds)) (take_rest text 1) in
    digits_stand text c.index-chars-0.result _ (omega (arith, some)) c.index-chars-0.is
    (sym c.begins_name.ensures ∙ c.if-begins_name.false) (sym c.is_digit.ensures ∙ c.if-is_digit.true) (ap (λ k. 1 + k) n)

pub returns-then-is_blank : goal.returns-then-is_blank
returns-then-is_blank c =
    let some = eqb-false _ _ (sym c.is_empty.ensures ∙ c.if-is_empty.false) in
    blank_stands c.args.chars.now c.index-chars-0.result (omega (arith, some)) c.index-chars-0.is
    (sym c.begins_name.ensures ∙ c.if-begins_name.false) (sym c.is_digit.ensures ∙ c.if-is_digit.false) (sym c.is_blank.ensures ∙ c.if-is_blank.true)

pub other-requires : goal.other-requires
other-requires c =
    let text = c.args.chars.now in
    let x = c.index-chars-0.result in
    let some = eqb-false _ _ (sym c.is_empty.ensures ∙ c.if-is_empty.false) in
    let l : 0 < length text = omega (arith, some) in
    let o : IsOther x = record {
      no_name = sym c.begins_name.ensures ∙ c.if-begins_name.false;
      no_digit = sym c.is_digit.ensures ∙ c.if-is_digit.false;
      no_blank = sym c.is_blank.ensures ∙ c.if-is_blank.false;
    } in
    record { some = omega (arith, some); begins = subst IsOther (c.index-chars-0.is ∙ get_or_default text 0 x 0 l) o }
