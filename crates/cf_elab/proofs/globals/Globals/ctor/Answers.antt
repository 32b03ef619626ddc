use Rattle.std.proofs.Common.{◌≡◌, ◌∙◌, ap, Option, Some, None, refl, arith}
use Rattle.cf_elab.specs.Scope.{ctor_of}
use Rattle.cf_elab.specs.declared.numbers.CtorNumber.{CtorNumber}
use Rattle.cf_elab.proofs.Tables.{within, lookup_within}
use Rattle.cf_elab.proofs.globals.Globals.ctor.Goals as goal

pub returns-then-i-self : goal.returns-then-i-self
returns-then-i-self c =
    let x = c.args.name.now in
    let es = c.self.inside.ctors.entries in
    let n = c.self.inside.usable in
    let o : Option CtorNumber = Some c.in-Some.number.now in
    let e : o ≡ within (Some c.in-Some.i) n o = grind (arith, c.if-i-self.true) in
    e ∙ (λ i. within (c.in-Some.ensures.index i) n (c.in-Some.ensures.value i)) ∙ lookup_within x es n ∙ ap (λ g. ctor_of g x) c.self.view_is

pub returns-else-i-self : goal.returns-else-i-self
returns-else-i-self c =
    let x = c.args.name.now in
    let es = c.self.inside.ctors.entries in
    let n = c.self.inside.usable in
    let o : Option CtorNumber = Some c.in-Some.number.now in
    let none : Option CtorNumber = None in
    let e : none ≡ within (Some c.in-Some.i) n o = grind (arith, c.if-i-self.false) in
    e ∙ (λ i. within (c.in-Some.ensures.index i) n (c.in-Some.ensures.value i)) ∙ lookup_within x es n ∙ ap (λ g. ctor_of g x) c.self.view_is

pub returns-in-None : goal.returns-in-None
returns-in-None c =
    let x = c.args.name.now in
    let es = c.self.inside.ctors.entries in
    let n = c.self.inside.usable in
    let none : Option CtorNumber = None in
    let e : none ≡ within None n none = refl in
    e ∙ (λ i. within (c.in-None.ensures.index i) n (c.in-None.ensures.value i)) ∙ lookup_within x es n ∙ ap (λ g. ctor_of g x) c.self.view_is
