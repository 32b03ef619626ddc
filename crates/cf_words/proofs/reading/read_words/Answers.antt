use Rattle.std.proofs.Common.{◌≡◌, ◌+◌, ◌++◌, ◌∙◌, map, take, rules, subst, sym}
use Rattle.std.specs.String.{string_bytes}
use Rattle.cf_words.specs.Reading.{Goes, numbers_of}
use Rattle.cf_words.proofs.Ranges.{line_within}
use Rattle.cf_words.proofs.Stops.{HasRead, ends_in, line_in, reads_next, stops_in}
use Rattle.cf_words.proofs.reading.read_words.Goals as goal

pub returns-in_default-clause-usage : goal.returns-in_default-clause-usage
returns-in_default-clause-usage c =
    stops_in (λ w. string_bytes w) c.args.words.now c.loop-i.i c.index-words-i.result c.loop-i.reading c.loop-i.args c.usage.result c.loop-i-test.true c.index-words-i.is c.loop-i.invariant
    (λ t g. c.in_default.ensures t (subst (λ w. Goes c.loop-i.reading w t) (sym c.as_str.ensures.value) g))
    c.usage.ensures

pub loop-i-preserved : goal.loop-i-preserved
loop-i-preserved c =
    let more : c.keep.new.args ≡ c.loop-i.args ++ numbers_of c.in-Some.step.number = search rules in
    subst
    (HasRead (map (λ w. string_bytes w) (take (c.loop-i.i + 1) c.args.words.now)) c.in-Some.step.after)
    (sym more)
    (reads_next (λ w. string_bytes w) c.args.words.now c.loop-i.i c.index-words-i.result c.loop-i.reading c.loop-i.args c.in-Some.step c.loop-i-test.true c.index-words-i.is c.loop-i.invariant
    (subst (λ w. Goes c.loop-i.reading w c.in-Some.step) c.as_str.ensures.value c.in-Some.ensures))

pub returns-in-Some-command-clause-line : goal.returns-in-Some-command-clause-line
returns-in-Some-command-clause-line c = line_in (λ w. string_bytes w) c.args.words.now c.loop-i.i c.loop-i.reading c.loop-i.args c.in-Some-command.command c.loop-i-test.false c.loop-i.invariant (sym c.command.ensures ∙ c.in-Some-command.is)

pub returns-in-Some-command-clause-range : goal.returns-in-Some-command-clause-range
returns-in-Some-command-clause-range c = line_within _ _ (line_in (λ w. string_bytes w) c.args.words.now c.loop-i.i c.loop-i.reading c.loop-i.args c.in-Some-command.command c.loop-i-test.false c.loop-i.invariant (sym c.command.ensures ∙ c.in-Some-command.is))

pub returns-in-None-clause-usage : goal.returns-in-None-clause-usage
returns-in-None-clause-usage c = ends_in (λ w. string_bytes w) c.args.words.now c.loop-i.i c.loop-i.reading c.loop-i.args c.usage-in-None.result c.loop-i-test.false c.loop-i.invariant (sym c.command.ensures ∙ c.in-None.is) c.usage-in-None.ensures
