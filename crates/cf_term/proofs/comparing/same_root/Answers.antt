use Rattle.std.proofs.Common.{◌≡◌, ◌∙◌, sym}
use Rattle.cf_term.specs.View.{tm_of}
use Rattle.cf_term.specs.Roots.{form_of, own_of}
use Rattle.cf_term.proofs.Compared.{never, false_true, root_then}
use Rattle.cf_term.proofs.Rooted.{root_form, root_own}
use Rattle.cf_term.proofs.comparing.same_root.Goals as goal

pub returns-then-not-same_form : goal.returns-then-not-same_form
returns-then-not-same_form c =
    never
    (λ r. false_true (sym c.if-not-same_form.true ∙ c.same_form.ensures.1 (c.form.ensures ∙ root_form (tm_of c.args.a.now) (tm_of c.args.b.now) r ∙ sym c.form-2.ensures)))

pub returns-then-not-same_own : goal.returns-then-not-same_own
returns-then-not-same_own c =
    never (λ r. false_true (sym c.if-not-same_own.true ∙ c.same_own.ensures.1 (c.own.ensures ∙ root_own (tm_of c.args.a.now) (tm_of c.args.b.now) r ∙ sym c.own-2.ensures)))

pub returns : goal.returns
returns c =
    let f : form_of (tm_of c.args.a.now) ≡ form_of (tm_of c.args.b.now) = sym c.form.ensures ∙ c.same_form.ensures.0 c.if-not-same_form.false ∙ c.form-2.ensures in
    let o : own_of (tm_of c.args.a.now) ≡ own_of (tm_of c.args.b.now) = sym c.own.ensures ∙ c.same_own.ensures.0 c.if-not-same_own.false ∙ c.own-2.ensures in
    root_then c.args.a.now c.args.b.now f o (rw (c.branches.ensures, c.branches-2.ensures) at c.same_branches.ensures)
