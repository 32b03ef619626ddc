use Rattle.std.proofs.Common.{◌∙◌, sym}
use Rattle.cf_lex.specs.Fronts.{NoLonger}
use Rattle.cf_lex.proofs.Standing.{no_short, one_only, short_stands}
use Rattle.cf_lex.proofs.fronts.other.Goals as goal
use Rattle.cf_lex.proofs.fronts.other.Goals.{then-chars-gt1+in_default, else-chars-gt1}

pub returns-in-Some-find_short : goal.returns-in-Some-find_short
returns-in-Some-find_short c =
    let text = c.args.chars.now in
    let n : NoLonger text 1 = elim c.if-chars-gt1.branch [ then-chars-gt1+in_default w ↦ w.in_default.ensures | else-chars-gt1 w ↦ one_only text w.if-chars-gt1.false ] in
    short_stands text c.index-chars-0.result c.in-Some-find_short.mark c.requires.some c.index-chars-0.is c.requires.begins n (sym c.find_short.ensures ∙ c.in-Some-find_short.is)

pub returns-in-None : goal.returns-in-None
returns-in-None c =
    let text = c.args.chars.now in
    let n : NoLonger text 1 = elim c.if-chars-gt1.branch [ then-chars-gt1+in_default w ↦ w.in_default.ensures | else-chars-gt1 w ↦ one_only text w.if-chars-gt1.false ] in
    no_short text c.index-chars-0.result c.requires.some c.index-chars-0.is c.requires.begins n (sym c.find_short.ensures ∙ c.in-None.is)
