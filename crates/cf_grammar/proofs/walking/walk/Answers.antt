use Rattle.std.proofs.Common.{◌<◌, ◌∙◌, ◌∷◌, ap, arith, false, length, reverse}
use Rattle.cf_grammar.specs.declared.phrases.Phrase.TheVariants.{Program}
use Rattle.cf_grammar.specs.declared.phrases.Symbol.TheVariants.{Is as is, Phrase as a}
use Rattle.cf_grammar.specs.declared.classes.Class.TheVariants as class
use Rattle.cf_grammar.specs.declared.turning.Turn.TheVariants as turn
use Rattle.cf_grammar.proofs.Following.{goes, followed, going_at}
use Rattle.cf_grammar.proofs.Standing.{begins_at}
use Rattle.cf_grammar.proofs.Turns.{after, finished, fits, left}
use Rattle.cf_grammar.proofs.walking.walk.Goals as goal

pub loop-symbol-init : goal.loop-symbol-init
loop-symbol-init c =
    let s = c.in_ok-put.ensures.put ∙ ap (λ items. a Program ∷ is class.End ∷ reverse items) c.new-stack.ensures.items in
    record {
      stands = begins_at c.args.classes.now _ c.requires.text s;
      going = going_at c.args.classes.now _ _ s c.new-steps.ensures.items;
    }

pub bounds-classes-at : goal.bounds-classes-at
bounds-classes-at c = left c.args.classes.now c.loop-symbol.stack.items c.pop.new.self.items c.in-Some.symbol c.loop-symbol.at c.in-Some.ensures.items c.loop-symbol.invariant.stands

pub offset_bounds-classes-at : goal.offset_bounds-classes-at
offset_bounds-classes-at c =
    let p : c.loop-symbol.at < length c.args.classes.now = left c.args.classes.now c.loop-symbol.stack.items c.pop.new.self.items c.in-Some.symbol c.loop-symbol.at c.in-Some.ensures.items c.loop-symbol.invariant.stands in
    omega (arith, p)

pub take_turn-requires : goal.take_turn-requires
take_turn-requires c = fits c.loop-symbol.stack.items c.pop.new.self.items c.in-Some.symbol _ c.loop-symbol.at c.in-Some.ensures.items c.loop-symbol.invariant.stands

pub overflow_add-at : goal.overflow_add-at
overflow_add-at c =
    let p : c.loop-symbol.at < length c.args.classes.now = left c.args.classes.now c.loop-symbol.stack.items c.pop.new.self.items c.in-Some.symbol c.loop-symbol.at c.in-Some.ensures.items c.loop-symbol.invariant.stands in
    omega (arith, p)

pub loop-symbol-smaller-in-Take : goal.loop-symbol-smaller-in-Take
loop-symbol-smaller-in-Take c = (after c.args.classes.now c.loop-symbol.stack.items c.pop.new.self.items c.take_turn.new.stack.items c.in-Some.symbol c.loop-symbol.at (class.Name false) turn.Take c.in_ok-take_turn.field-0 c.in-Take.is c.in-Some.ensures.items c.in_ok-take_turn.ensures.turned c.in_ok-take_turn.ensures.put c.loop-symbol.invariant.stands).1

pub loop-symbol-preserved-in-Take : goal.loop-symbol-preserved-in-Take
loop-symbol-preserved-in-Take c = record {
  stands = (after c.args.classes.now c.loop-symbol.stack.items c.pop.new.self.items c.take_turn.new.stack.items c.in-Some.symbol c.loop-symbol.at (class.Name false) turn.Take c.in_ok-take_turn.field-0 c.in-Take.is c.in-Some.ensures.items c.in_ok-take_turn.ensures.turned c.in_ok-take_turn.ensures.put c.loop-symbol.invariant.stands).0;
  going = goes c.args.classes.now c.loop-symbol.stack.items c.pop.new.self.items c.take_turn.new.stack.items c.in-Some.symbol c.loop-symbol.at (class.Name false) turn.Take c.in_ok-take_turn.field-0 c.loop-symbol.steps.items _ c.in-Take.is c.in-Some.ensures.items (left c.args.classes.now c.loop-symbol.stack.items c.pop.new.self.items c.in-Some.symbol c.loop-symbol.at c.in-Some.ensures.items c.loop-symbol.invariant.stands) c.in_ok-take_turn.ensures.turned c.in_ok-take_turn.ensures.put c.in_ok-note-in-Take.ensures c.loop-symbol.invariant.going;
}

pub loop-symbol-smaller : goal.loop-symbol-smaller
loop-symbol-smaller c = (after c.args.classes.now c.loop-symbol.stack.items c.pop.new.self.items c.take_turn.new.stack.items c.in-Some.symbol c.loop-symbol.at (class.Name false) turn.Open c.in_ok-take_turn.field-0 c.in-Open.is c.in-Some.ensures.items c.in_ok-take_turn.ensures.turned c.in_ok-take_turn.ensures.put c.loop-symbol.invariant.stands).1

pub loop-symbol-preserved : goal.loop-symbol-preserved
loop-symbol-preserved c = record {
  stands = (after c.args.classes.now c.loop-symbol.stack.items c.pop.new.self.items c.take_turn.new.stack.items c.in-Some.symbol c.loop-symbol.at (class.Name false) turn.Open c.in_ok-take_turn.field-0 c.in-Open.is c.in-Some.ensures.items c.in_ok-take_turn.ensures.turned c.in_ok-take_turn.ensures.put c.loop-symbol.invariant.stands).0;
  going = goes c.args.classes.now c.loop-symbol.stack.items c.pop.new.self.items c.take_turn.new.stack.items c.in-Some.symbol c.loop-symbol.at (class.Name false) turn.Open c.in_ok-take_turn.field-0 c.loop-symbol.steps.items _ c.in-Open.is c.in-Some.ensures.items (left c.args.classes.now c.loop-symbol.stack.items c.pop.new.self.items c.in-Some.symbol c.loop-symbol.at c.in-Some.ensures.items c.loop-symbol.invariant.stands) c.in_ok-take_turn.ensures.turned c.in_ok-take_turn.ensures.put c.in_ok-note-in-Open.ensures c.loop-symbol.invariant.going;
}

pub returns-in-Refuse : goal.returns-in-Refuse
returns-in-Refuse c = record {
  says = after c.args.classes.now c.loop-symbol.stack.items c.pop.new.self.items c.take_turn.new.stack.items c.in-Some.symbol c.loop-symbol.at (class.Name false) turn.Refuse c.in_ok-take_turn.field-0 c.in-Refuse.is c.in-Some.ensures.items c.in_ok-take_turn.ensures.turned c.in_ok-take_turn.ensures.put c.loop-symbol.invariant.stands;
  steps = λ e. cc;
}

pub returns-in-Pass : goal.returns-in-Pass
returns-in-Pass c = record {
  says = after c.args.classes.now c.loop-symbol.stack.items c.pop.new.self.items c.take_turn.new.stack.items c.in-Some.symbol c.loop-symbol.at (class.Name false) (turn.Pass c.in-Pass.fault) c.in_ok-take_turn.field-0 c.in-Pass.is c.in-Some.ensures.items c.in_ok-take_turn.ensures.turned c.in_ok-take_turn.ensures.put c.loop-symbol.invariant.stands;
  steps = λ e. cc;
}

pub returns : goal.returns
returns c = record {
  says = finished c.args.classes.now c.loop-symbol.stack.items c.pop.new.self.items c.loop-symbol.at _ c.in_default.ensures.cases.0 c.in_default.ensures.rest c.in_default.ensures.items c.loop-symbol.invariant.stands;
  steps = λ e. followed c.args.classes.now c.loop-symbol.stack.items c.pop.new.self.items c.loop-symbol.at _ _ c.in_default.ensures.cases.0 c.in_default.ensures.rest c.in_default.ensures.items c.loop-symbol.invariant.stands c.loop-symbol.invariant.going;
}
