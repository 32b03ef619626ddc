use Rattle.std.proofs.Common.{◌∙◌, ◌+◌, ap, length, sym}
use Rattle.std.proofs.lemmas.List.{take_rest}
use Rattle.std.specs.List.{take_while}
use Rattle.cf_lex.specs.Tokens.{is_digit, stays_on_line}
use Rattle.cf_lex.specs.declared.piece.Lexeme.TheVariants as lexeme
use Rattle.cf_lex.specs.declared.piece.Piece.TheVariants as piece
use Rattle.cf_lex.proofs.Standing.{long_stands, no_pair, pair_stands, tells_comment, tells_natlit, tells_negative}
use Rattle.cf_lex.proofs.fronts.pair.Goals as goal

pub returns-then-begins_comment : goal.returns-then-begins_comment
returns-then-begins_comment c =
    let text = c.args.chars.now in
    let n = c.line_len.ensures ∙ ap (λ ds. length (take_while stays_on_line ds)) (take_rest text 2) in
    pair_stands stays_on_line piece.Comment text c.index-chars-0.result c.index-chars-1.result _
    (record { some = c.requires.some; first = c.index-chars-0.is; second = c.index-chars-1.is }) c.requires.begins
    (tells_comment c.index-chars-0.result c.index-chars-1.result (sym c.begins_comment.ensures ∙ c.if-begins_comment.true)) (ap (λ k. 2 + k) n)

pub returns-then-begins_negative : goal.returns-then-begins_negative
returns-then-begins_negative c =
    let text = c.args.chars.now in
    let n = c.digits_len.ensures ∙ ap (λ ds. length (take_while is_digit ds)) (take_rest text 2) in
    pair_stands is_digit (piece.Token lexeme.Whole) text c.index-chars-0.result c.index-chars-1.result _
    (record { some = c.requires.some; first = c.index-chars-0.is; second = c.index-chars-1.is }) c.requires.begins
    (tells_negative c.index-chars-0.result c.index-chars-1.result (sym c.begins_comment.ensures ∙ c.if-begins_comment.false) (sym c.begins_negative.ensures ∙ c.if-begins_negative.true)) (ap (λ k. 2 + k) n)

pub returns-then-begins_natlit : goal.returns-then-begins_natlit
returns-then-begins_natlit c =
    let text = c.args.chars.now in
    let n = c.digits_len-then-begins_natlit.ensures ∙ ap (λ ds. length (take_while is_digit ds)) (take_rest text 2) in
    pair_stands is_digit (piece.Token lexeme.NatLit) text c.index-chars-0.result c.index-chars-1.result _
    (record { some = c.requires.some; first = c.index-chars-0.is; second = c.index-chars-1.is }) c.requires.begins
    (tells_natlit c.index-chars-0.result c.index-chars-1.result (sym c.begins_comment.ensures ∙ c.if-begins_comment.false) (sym c.begins_negative.ensures ∙ c.if-begins_negative.false) (sym c.begins_natlit.ensures ∙ c.if-begins_natlit.true)) (ap (λ k. 2 + k) n)

pub returns-in-Some : goal.returns-in-Some
returns-in-Some c =
    long_stands c.args.chars.now c.index-chars-0.result c.index-chars-1.result c.in-Some.mark
    (record { some = c.requires.some; first = c.index-chars-0.is; second = c.index-chars-1.is }) c.requires.begins
    (record {
      no_comment = sym c.begins_comment.ensures ∙ c.if-begins_comment.false;
      no_negative = sym c.begins_negative.ensures ∙ c.if-begins_negative.false;
      no_natlit = sym c.begins_natlit.ensures ∙ c.if-begins_natlit.false;
    }) (sym c.find_long.ensures ∙ c.in-Some.is)

pub returns-in-None : goal.returns-in-None
returns-in-None c =
    no_pair c.args.chars.now c.index-chars-0.result c.index-chars-1.result
    (record { some = c.requires.some; first = c.index-chars-0.is; second = c.index-chars-1.is }) c.requires.begins
    (record {
      no_comment = sym c.begins_comment.ensures ∙ c.if-begins_comment.false;
      no_negative = sym c.begins_negative.ensures ∙ c.if-begins_negative.false;
      no_natlit = sym c.begins_natlit.ensures ∙ c.if-begins_natlit.false;
    }) (sym c.find_long.ensures ∙ c.in-None.is)
