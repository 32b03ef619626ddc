use Rattle.std.proofs.Common.{[], ◌∷◌, ap, refl, subst}
use Rattle.cf_parse.proofs.Listing.{item_name, item_term, item_binder, item_argument, item_arm, item_ctor, item_decl, no_item}
use Rattle.cf_parse.proofs.Reducing.{of_two}
use Rattle.cf_parse.proofs.Stages.{mapped}
use Rattle.cf_parse.specs.Kinds as kind
use Rattle.cf_parse.specs.Kinds.{AllFit, Fits}
use Rattle.cf_parse.specs.Meaning as meant
use Rattle.cf_parse.specs.Values.{sem, sems}
use Rattle.cf_parse.proofs.lists.more.Goals as goal

pub returns-in_ok-others-in-Token : goal.returns-in_ok-others-in-Token
returns-in_ok-others-in-Token c =
    let s = c.args.source.now in
    let r = c.requires in
    let e = item_name r.1.0 (subst (Fits r.0) (ap (sem s) c.in-Token.is) (c.pop.ensures s r.0 _ r.1.1).1.0) in
    let h = subst (λ j. AllFit (j ∷ kind.Many j ∷ []) (sems s c.args.values.now)) e r.1.1 in
    mapped c.push.result (λ _ n. of_two meant.more c.args.place h (c.pop.ensures s _) (c.pop-in-Token.ensures s _) (λ _. ap (sem s) c.in-Token.is) (c.in_ok-others-in-Token.ensures s) (n s) refl) c.push.ensures

pub returns-in_ok-others-in-Term : goal.returns-in_ok-others-in-Term
returns-in_ok-others-in-Term c =
    let s = c.args.source.now in
    let r = c.requires in
    let e = item_term r.1.0 (subst (Fits r.0) (ap (sem s) c.in-Term.is) (c.pop.ensures s r.0 _ r.1.1).1.0) in
    let h = subst (λ j. AllFit (j ∷ kind.Many j ∷ []) (sems s c.args.values.now)) e r.1.1 in
    mapped c.push-in-Term.result (λ _ n. of_two meant.more c.args.place h (c.pop.ensures s _) (c.pop-in-Term.ensures s _) (λ _. ap (sem s) c.in-Term.is) (c.in_ok-others-in-Term.ensures s) (n s) refl) c.push-in-Term.ensures

pub returns-in_ok-others-in-Binder : goal.returns-in_ok-others-in-Binder
returns-in_ok-others-in-Binder c =
    let s = c.args.source.now in
    let r = c.requires in
    let e = item_binder r.1.0 (subst (Fits r.0) (ap (sem s) c.in-Binder.is) (c.pop.ensures s r.0 _ r.1.1).1.0) in
    let h = subst (λ j. AllFit (j ∷ kind.Many j ∷ []) (sems s c.args.values.now)) e r.1.1 in
    mapped c.push-in-Binder.result (λ _ n. of_two meant.more c.args.place h (c.pop.ensures s _) (c.pop-in-Binder.ensures s _) (λ _. ap (sem s) c.in-Binder.is) (c.in_ok-others-in-Binder.ensures s) (n s) refl) c.push-in-Binder.ensures

pub returns-in_ok-others-in-Argument : goal.returns-in_ok-others-in-Argument
returns-in_ok-others-in-Argument c =
    let s = c.args.source.now in
    let r = c.requires in
    let e = item_argument r.1.0 (subst (Fits r.0) (ap (sem s) c.in-Argument.is) (c.pop.ensures s r.0 _ r.1.1).1.0) in
    let h = subst (λ j. AllFit (j ∷ kind.Many j ∷ []) (sems s c.args.values.now)) e r.1.1 in
    mapped c.push-in-Argument.result (λ _ n. of_two meant.more c.args.place h (c.pop.ensures s _) (c.pop-in-Argument.ensures s _) (λ _. ap (sem s) c.in-Argument.is) (c.in_ok-others-in-Argument.ensures s) (n s) refl) c.push-in-Argument.ensures

pub returns-in_ok-others-in-Arm : goal.returns-in_ok-others-in-Arm
returns-in_ok-others-in-Arm c =
    let s = c.args.source.now in
    let r = c.requires in
    let e = item_arm r.1.0 (subst (Fits r.0) (ap (sem s) c.in-Arm.is) (c.pop.ensures s r.0 _ r.1.1).1.0) in
    let h = subst (λ j. AllFit (j ∷ kind.Many j ∷ []) (sems s c.args.values.now)) e r.1.1 in
    mapped c.push-in-Arm.result (λ _ n. of_two meant.more c.args.place h (c.pop.ensures s _) (c.pop-in-Arm.ensures s _) (λ _. ap (sem s) c.in-Arm.is) (c.in_ok-others-in-Arm.ensures s) (n s) refl) c.push-in-Arm.ensures

pub returns-in_ok-others-in-Ctor : goal.returns-in_ok-others-in-Ctor
returns-in_ok-others-in-Ctor c =
    let s = c.args.source.now in
    let r = c.requires in
    let e = item_ctor r.1.0 (subst (Fits r.0) (ap (sem s) c.in-Ctor.is) (c.pop.ensures s r.0 _ r.1.1).1.0) in
    let h = subst (λ j. AllFit (j ∷ kind.Many j ∷ []) (sems s c.args.values.now)) e r.1.1 in
    mapped c.push-in-Ctor.result (λ _ n. of_two meant.more c.args.place h (c.pop.ensures s _) (c.pop-in-Ctor.ensures s _) (λ _. ap (sem s) c.in-Ctor.is) (c.in_ok-others-in-Ctor.ensures s) (n s) refl) c.push-in-Ctor.ensures

pub returns-in_ok-others-in-Decl : goal.returns-in_ok-others-in-Decl
returns-in_ok-others-in-Decl c =
    let s = c.args.source.now in
    let r = c.requires in
    let e = item_decl r.1.0 (subst (Fits r.0) (ap (sem s) c.in-Decl.is) (c.pop.ensures s r.0 _ r.1.1).1.0) in
    let h = subst (λ j. AllFit (j ∷ kind.Many j ∷ []) (sems s c.args.values.now)) e r.1.1 in
    mapped c.push-in-Decl.result (λ _ n. of_two meant.more c.args.place h (c.pop.ensures s _) (c.pop-in-Decl.ensures s _) (λ _. ap (sem s) c.in-Decl.is) (c.in_ok-others-in-Decl.ensures s) (n s) refl) c.push-in-Decl.ensures

pub returns-in_default : goal.returns-in_default
returns-in_default c =
    let s = c.args.source.now in
    let r = c.requires in
    let d = c.in_default in
    absurd (no_item s c.pop.result r.0 r.1.0 (c.pop.ensures s r.0 _ r.1.1).1.0 (record { token = d.not-Token; term = d.not-Term; binder = d.not-Binder; argument = d.not-Argument; arm = d.not-Arm; ctor = d.not-Ctor; decl = d.not-Decl }))
