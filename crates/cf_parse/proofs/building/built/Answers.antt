use Rattle.std.proofs.Common.{[], ◌∷◌, ◌++◌, ◌∙◌, ap, map, reverse, subst, sym}
use Rattle.cf_syntax.proofs.Places.{head_is}
use Rattle.cf_parse.proofs.Stages.{begun, ended, none_left, opening, took}
use Rattle.cf_parse.specs.Building.{Stage}
use Rattle.cf_parse.specs.Kinds as kind
use Rattle.cf_parse.specs.Kinds.{AllFit, end, next}
use Rattle.cf_parse.specs.Meaning.{program_in}
use Rattle.cf_syntax.specs.Tokens.{tokens_of}
use Rattle.cf_parse.specs.Values.{sem, sems}
use Rattle.cf_parse.proofs.building.built.Goals as goal

pub loop-step-init : goal.loop-step-init
loop-step-init c =
    let s = c.args.source.now in
    let ks = tokens_of s.tokens.now in
    subst (Stage s.prelude c.args.steps.items ks c.args.steps.items c.count-at.result) (sym (ap (λ l. map (sem s) (reverse l)) c.new-values.ensures.items)) (begun c.count-at.result c.requires (sym c.count-at.ensures))

pub overflow_sub-at : goal.overflow_sub-at
overflow_sub-at c = (took c.loop-step.left.items c.pop.new.self.items c.requires (c.in-Some.ensures.items ∙ ap (λ s. c.pop.new.self.items ++ s ∷ []) c.in-Take.is) c.loop-step.invariant).some

pub loop-step-preserved-in-Continue-1 : goal.loop-step-preserved-in-Continue-1
loop-step-preserved-in-Continue-1 c =
    let s = c.args.source.now in
    let o = took c.loop-step.left.items c.pop.new.self.items c.requires (c.in-Some.ensures.items ∙ ap (λ s. c.pop.new.self.items ++ s ∷ []) c.in-Take.is) c.loop-step.invariant in
    subst (Stage s.prelude c.args.steps.items (tokens_of s.tokens.now) c.pop.new.self.items _) (sym (c.in_ok-push-in-Take.ensures s)) o.stage

pub reduce-requires : goal.reduce-requires
reduce-requires c = (opening c.loop-step.left.items c.pop.new.self.items c.requires (c.in-Some.ensures.items ∙ ap (λ s. c.pop.new.self.items ++ s ∷ []) c.in-Open.is) c.loop-step.invariant).fits

pub loop-step-preserved : goal.loop-step-preserved
loop-step-preserved c =
    let o = opening c.loop-step.left.items c.pop.new.self.items c.requires (c.in-Some.ensures.items ∙ ap (λ s. c.pop.new.self.items ++ s ∷ []) c.in-Open.is) c.loop-step.invariant in
    o.stage (sems c.args.source.now c.reduce.new.values) (c.in_ok-reduce-in-Open.ensures o.k o.rest o.there)

pub returns : goal.returns
returns c = λ v vs e h.
    let s = c.args.source.now in
    let none = none_left c.loop-step.left.items c.pop.new.self.items _ c.in_default.ensures.cases.0 c.in_default.ensures.rest c.in_default.ensures.items in
    let whole = ended (subst (λ l. Stage s.prelude c.args.steps.items (tokens_of s.tokens.now) l c.loop-step.at (sems s c.loop-step.values)) none c.loop-step.invariant) ∙ e in
    let fits = subst (AllFit (kind.Maybe kind.Program ∷ [])) (sym whole) (next h end) in
    let top = c.pop-2.ensures s (kind.Maybe kind.Program) [] fits in
    ap program_in (head_is (sym whole ∙ top.0)) ∙ c.program.ensures s top.1.0
