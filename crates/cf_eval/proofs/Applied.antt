-- Applications and recursors, step by step, and how a refusal goes out of them.
use Rattle.std.proofs.Common.{◌≡◌, ℕ, zero, suc, ◌-◌, false, Result, Ok, Err, refl, ap, sym, ◌∙◌, arith}
use mathlib.Core.Path.{subst, ap₂, fun_ext}
use Rattle.std.specs.Result.{IsErr, IsErrAnd}
use Rattle.cf_term.specs.Core.{Tm, node, nil, cons, Head, parts, AppH, NatRecH, ListRecH}
use Rattle.cf_term.specs.Evaluation.{Out, Done, Spent, Deep, Outs, AllDone, evaluate, evaluate_all_by, finish, step, before, and_then, IsValue}
use Rattle.cf_term.specs.Forms.{App, NatRec, ListRec}
use Rattle.cf_term.specs.Numbered.{places, terms}
use Rattle.cf_term.specs.Same.{bare, bare_all}
use Rattle.cf_term.specs.Substitution.{substitute, substitute_all}
use Rattle.cf_value.specs.Heads.{head_of}
use Rattle.cf_value.specs.declared.shapes.Shape.{Shape}
use Rattle.cf_eval.specs.Answers.{Answers, AnswersAll}
use Rattle.cf_reduction.specs.Laws.{EvaluationGoesOn}
use Rattle.cf_eval.specs.declared.answers.EvalEnd.{EvalEnd}
use Rattle.cf_eval.specs.declared.answers.EvalEnd.TheVariants as end
use Rattle.cf_eval.proofs.Marked.{bare_form}

-- the same refusal of another evaluation
pub refused : {X Y : Type 0} (x : EvalEnd) (f : X → Out) (g : Y → Out) (o p : Out) → (o ≡ Spent → p ≡ Spent) → (o ≡ Deep → p ≡ Deep) → Answers {X = X} (Err x) f o → Answers {X = Y} (Err x) g p
refused end.Spent f g o p s d a = s a
refused end.Deep f g o p s d a = d a
refused end.NoMemory f g o p s d a = tt

-- a refusal in the parts is one of the form
pub parts_refused : {X Y : Type 0} (x : EvalEnd) (f : X → Outs) (g : Y → Out) (d : ℕ) (h : Head) (o : Outs) → AnswersAll {X = X} (Err x) f o → Answers {X = Y} (Err x) g (finish evaluate d h o)
parts_refused end.Spent f g d h o a = ap (finish evaluate d h) a
parts_refused end.Deep f g d h o a = ap (finish evaluate d h) a
parts_refused end.NoMemory f g d h o a = tt

pub carry : {X : Type 0} (r : Result X EvalEnd) (f : X → Out) {o p : Out} → o ≡ p → Answers r f p → Answers r f o
carry r f e a = subst (Answers r f) (sym e) a

module _ (goes : EvaluationGoesOn) where
  -- a form is evaluated as its parts, and then its step
  pub form_goes : (s : Shape) (t : Tm) (r : ℕ → Tm) (k d : ℕ) → t ≡ node (head_of s) (terms t)
      → evaluate k d (substitute r (bare t)) ≡ finish evaluate d (head_of s) (evaluate_all_by evaluate k d (places t) (substitute_all r (places t) (bare_all (terms t))))
  form_goes s t r k d e =
      ap (λ x. evaluate k d (substitute r (bare x))) e
      ∙ ap (λ x. evaluate k d (substitute r x)) (bare_form s (terms t))
      ∙ goes k d (node (head_of s) (substitute_all r (parts (head_of s)) (bare_all (terms t))))
      ∙ ap (λ x. finish evaluate d (head_of s) (evaluate_all_by evaluate k d (places x) (substitute_all r (places x) (bare_all (terms t))))) (sym e)

  -- an application: the function, the argument, and then the step
  app_goes : (k d : ℕ) (t u : Tm) → evaluate k d (App false t u) ≡ finish evaluate d (AppH false) (and_then (evaluate k d t) (λ l. and_then (evaluate l d u) (λ j. AllDone nil j)))
  app_goes k d t u =
      goes k d (App false t u)
      ∙ ap₂ (λ o rest. finish evaluate d (AppH false) (and_then o rest)) (sym (goes k d t)) (fun_ext (λ l. ap (λ o. and_then o (λ j. AllDone nil j)) (sym (goes l d u))))

  pub app_done : (k d : ℕ) (t u v w : Tm) (j l : ℕ) → evaluate k d t ≡ Done v j → evaluate j d u ≡ Done w l → evaluate k d (App false t u) ≡ finish evaluate d (AppH false) (AllDone (cons v (cons w nil)) l)
  app_done k d t u v w j l e f =
      app_goes k d t u
      ∙ ap (λ o. finish evaluate d (AppH false) (and_then o (λ l. and_then (evaluate l d u) (λ j. AllDone nil j)))) e
      ∙ ap (λ o. finish evaluate d (AppH false) (before v (and_then o (λ j. AllDone nil j)))) f

  pub first_refused : {X Y : Type 0} (x : EvalEnd) (f : X → Out) (g : Y → Out) (k d : ℕ) (t u : Tm) → Answers {X = X} (Err x) f (evaluate k d t) → Answers {X = Y} (Err x) g (evaluate k d (App false t u))
  first_refused x f g k d t u a =
      refused x f g (evaluate k d t) (evaluate k d (App false t u))
      (λ e. app_goes k d t u ∙ ap (λ o. finish evaluate d (AppH false) (and_then o (λ l. and_then (evaluate l d u) (λ j. AllDone nil j)))) e)
      (λ e. app_goes k d t u ∙ ap (λ o. finish evaluate d (AppH false) (and_then o (λ l. and_then (evaluate l d u) (λ j. AllDone nil j)))) e) a

  pub second_refused : {X Y : Type 0} (x : EvalEnd) (f : X → Out) (g : Y → Out) (k d : ℕ) (t u v : Tm) (j : ℕ) → evaluate k d t ≡ Done v j → Answers {X = X} (Err x) f (evaluate j d u) → Answers {X = Y} (Err x) g (evaluate k d (App false t u))
  second_refused x f g k d t u v j h a =
      let both = app_goes k d t u ∙ ap (λ o. finish evaluate d (AppH false) (and_then o (λ l. and_then (evaluate l d u) (λ j. AllDone nil j)))) h in
      refused x f g (evaluate j d u) (evaluate k d (App false t u))
      (λ e. both ∙ ap (λ o. finish evaluate d (AppH false) (before v (and_then o (λ j. AllDone nil j)))) e)
      (λ e. both ∙ ap (λ o. finish evaluate d (AppH false) (before v (and_then o (λ j. AllDone nil j)))) e) a

  -- a recursor on a value
  pub number_goes : (k d : ℕ) (p z s m : Tm) → IsValue m → evaluate k d (NatRec p z s m) ≡ finish evaluate d NatRecH (AllDone (cons p (cons z (cons s (cons m nil)))) k)
  number_goes k d p z s m h = goes k d (NatRec p z s m) ∙ ap (λ o. finish evaluate d NatRecH (before p (before z (before s (and_then o (λ j. AllDone nil j)))))) (sym (goes k d m) ∙ h k d)

  pub list_goes : (k d : ℕ) (p n c l : Tm) → IsValue l → evaluate k d (ListRec p n c l) ≡ finish evaluate d ListRecH (AllDone (cons p (cons n (cons c (cons l nil)))) k)
  list_goes k d p n c l h = goes k d (ListRec p n c l) ∙ ap (λ o. finish evaluate d ListRecH (before p (before n (before c (and_then o (λ j. AllDone nil j)))))) (sym (goes k d l) ∙ h k d)

pub step_is : (k d : ℕ) (r : Tm) → (k ≡ 0 → ⊥) → (d ≡ 0 → ⊥) → step evaluate k d r ≡ evaluate (k - 1) (d - 1) r
step_is zero d r hk hd = absurd (hk refl)
step_is (suc k) zero r hk hd = absurd (hd refl)
step_is (suc k) (suc d) r hk hd =
    let e : suc k - 1 ≡ k = omega arith in
    let f : suc d - 1 ≡ d = omega arith in
    rw (e, f) refl

-- an answer that passes a refusal on
pub err_one : {X : Type 0} (r : Result X EvalEnd) (f : X → Out) (o : Out) (e : EvalEnd) → IsErr r → IsErrAnd r (λ x. x ≡ e) → Answers {X = X} (Err e) f o → Answers r f o
err_one (Ok a) f o e i h p = cc
err_one (Err x) f o e i h p = subst (λ y. Answers (Err y) f o) (sym h) p

pub err_all : {X : Type 0} (r : Result X EvalEnd) (f : X → Outs) (o : Outs) (e : EvalEnd) → IsErr r → IsErrAnd r (λ x. x ≡ e) → AnswersAll {X = X} (Err e) f o → AnswersAll r f o
err_all (Ok a) f o e i h p = cc
err_all (Err x) f o e i h p = subst (λ y. AnswersAll (Err y) f o) (sym h) p
