use Rattle.std.proofs.Common.{◌∙◌, ap, sym, subst, refl, rules}
use Rattle.cf_tree.specs.View.{decls_of}
use Rattle.cf_elab.specs.Core.{declare_all}
use Rattle.cf_elab.specs.Refusals.{Refuses}
use Rattle.cf_elab.specs.Scope.{start}
use Rattle.cf_elab.proofs.Declared.{decls_init, decls_more, decls_stuck, decls_done}
use Rattle.cf_elab.proofs.declaring.direct.Goals as goal

pub loop-decl-init : goal.loop-decl-init
loop-decl-init c = decls_init start c.in_ok-g.g c.deref-decl-items.result.now 0 c.new-decls.result.items c.in_ok-g.ensures.start c.new-decls.ensures.items

pub returns-in_err-decl-clause-refused : goal.returns-in_err-decl-clause-refused
returns-in_err-decl-clause-refused c =
    let xs = c.deref-decl-items.result.now in
    let e = c.in_err-decl.field-0.0 in
    let w = decls_stuck start xs xs c.loop-decl.decl-index c.decl-item.result 0 c.loop-decl.holes c.loop-decl.g c.loop-decl.decls.items e refl c.loop-decl-test.true c.decl-item.is c.loop-decl.invariant c.in_err-decl.ensures.refused in
    let w' = subst (λ ds. Refuses (declare_all start ds 0) e) (ap decls_of c.deref-decl-items.ensures.value ∙ ap (λ p. p.decls) c.p.view_is) w in
    search (rules, w')

pub loop-decl-preserved : goal.loop-decl-preserved
loop-decl-preserved c =
    let xs = c.deref-decl-items.result.now in
    decls_more start xs xs c.loop-decl.decl-index c.decl-item.result 0 c.loop-decl.holes c.declaration.new.holes c.loop-decl.g c.declaration.new.g c.loop-decl.decls.items c.push.new.self.items c.in_ok-decl.decl refl c.loop-decl-test.true c.decl-item.is c.in_ok-push.ensures.items c.loop-decl.invariant c.in_ok-decl.ensures.read

pub returns-clause-core : goal.returns-clause-core
returns-clause-core c =
    let xs = c.deref-decl-items.result.now in (
      c.loop-decl.holes,
      ap (λ ds. declare_all start ds 0) (sym (ap decls_of c.deref-decl-items.ensures.value ∙ ap (λ p. p.decls) c.p.view_is))
          ∙ decls_done start xs xs c.loop-decl.decl-index 0 c.loop-decl.holes c.loop-decl.g c.loop-decl.decls.items refl c.loop-decl-test.false c.loop-decl.invariant,
    )
