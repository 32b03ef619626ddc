use Rattle.std.proofs.Common.{◌<◌, subst}
use Rattle.cf_grammar.specs.Refusing.{IsFirstPast, Says}
use Rattle.cf_syntax.proofs.Judged.{dead_answer, literal_dead, literal_fine, literal_past, past_answer}
use Rattle.cf_syntax.specs.Tokens.{classes, tokens_of}
use Rattle.cf_syntax.proofs.source.Source.judged.Goals as goal

pub returns-then-literal-len-clause-refused : goal.returns-then-literal-len-clause-refused
returns-then-literal-len-clause-refused c =
    literal_fine c.args.self.now.tokens.now c.args.literal (subst (Says (classes (tokens_of c.args.self.now.tokens.now))) c.in-Fine.is c.requires.says) (subst (λ n. c.args.literal < n) c.len.ensures c.if-literal-len.true) c.requires.literal c.place.ensures

pub returns-then-literal-at-clause-refused : goal.returns-then-literal-at-clause-refused
returns-then-literal-at-clause-refused c =
    literal_dead (tokens_of c.args.self.now.tokens.now) c.args.literal c.in-Syntax.at (subst (Says (classes (tokens_of c.args.self.now.tokens.now))) c.in-Syntax.is c.requires.says) c.if-literal-at.true c.requires.literal c.place-then-literal-at.ensures

pub returns-then-literal-at-2-clause-refused : goal.returns-then-literal-at-2-clause-refused
returns-then-literal-at-2-clause-refused c =
    literal_past (tokens_of c.args.self.now.tokens.now) c.args.literal c.in-Past.at (subst (Says (classes (tokens_of c.args.self.now.tokens.now))) c.in-Past.is c.requires.says) c.if-literal-at-2.true c.requires.literal c.place-then-literal-at-2.ensures

pub returns-else-literal-at-clause-refused : goal.returns-else-literal-at-clause-refused
returns-else-literal-at-clause-refused c =
    dead_answer (tokens_of c.args.self.now.tokens.now) c.args.literal c.in-Syntax.at (subst (Says (classes (tokens_of c.args.self.now.tokens.now))) c.in-Syntax.is c.requires.says) c.if-literal-at.false c.requires.literal c.place-in-Syntax.ensures

pub returns-in-Many-clause-refused : goal.returns-in-Many-clause-refused
returns-in-Many-clause-refused c =
    let s = subst (Says (classes (tokens_of c.args.self.now.tokens.now))) c.in-Past.is c.requires.says in
    let t = subst (λ f. IsFirstPast (classes (tokens_of c.args.self.now.tokens.now)) c.in-Past.at f) c.in-Many.is s in
    past_answer (tokens_of c.args.self.now.tokens.now) c.args.literal c.in-Past.at t c.if-literal-at-2.false c.requires.literal c.place-in-Many.ensures

pub returns-in-Nested-clause-refused : goal.returns-in-Nested-clause-refused
returns-in-Nested-clause-refused c =
    let s = subst (Says (classes (tokens_of c.args.self.now.tokens.now))) c.in-Past.is c.requires.says in
    let t = subst (λ f. IsFirstPast (classes (tokens_of c.args.self.now.tokens.now)) c.in-Past.at f) c.in-Nested.is s in
    past_answer (tokens_of c.args.self.now.tokens.now) c.args.literal c.in-Past.at t c.if-literal-at-2.false c.requires.literal c.place-in-Nested.ensures
