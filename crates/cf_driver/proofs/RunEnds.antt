-- What the end of a run is told as.
use Rattle.std.proofs.Common.{◌≡◌, ◌⊎◌, inl, inr, ℕ, zero, suc, ℤ, Bool, true, false, List, [], ◌∷◌, refl, sym, ap, ◌∙◌, subst, length}
use Rattle.std.specs.Prelude.{Option, Some, None, Result, Ok, Err, IfOk, IfErr, nat_lt}
use Rattle.wb_syntax.specs.declared.syntax.Module.{Module}
use Rattle.wb_syntax.specs.Syntax.{Code}
use Rattle.wb_syntax.specs.Nesting.{nested}
use Rattle.wb_syntax.specs.Execute.{Word, TheStore, Config, TrapKind, Move, Goes, Finishes, Traps, NoRule, Unreached, DivideByZero, Overflow, OutOfBounds, machine_step}
use Rattle.wb_syntax.specs.Runs.{RunEnd, Returned, Trapped, StackFull, Stuck, Running, NoMain, IsStackFull, IsStuck, Main, after_step, before_step, first_config, fixed_room, mach, main_arity, main_of, returned, run_main, runs, status, store_at_first, then_some, words_of}
use Rattle.wb_machine.specs.Ends.{EndsAs, trap_of}
use Rattle.wb_machine.specs.Model.{Machine-model}
use Rattle.wb_machine.specs.declared.ends.MachineEnd.{MachineEnd}
use Rattle.cf_diag.specs.declared.refusal.Refusal.{Refusal}
use Rattle.cf_driver.specs.declared.ends.Line.{Line}
use Rattle.cf_driver.specs.declared.ends.Line.TheVariants as line
use Rattle.cf_driver.specs.Ends.{word_of}
use Rattle.cf_driver.specs.Executed.{HasNoEnd, IsCallable, IsNotRun, IsValidModule, RunsTo, line_of}
use Rattle.cf_driver.specs.Machines.{IsOpenedFor, answer_of, word_at}

same_word : (k : TrapKind) (s : TheStore) → word_of k s ≡ word_at (trap_of k) (status s)
same_word Unreached s = refl
same_word DivideByZero s = refl
same_word Overflow s = refl
same_word OutOfBounds s = refl

-- the line that is answered is that of the end
line_told : (e : RunEnd) (r : MachineEnd) (first s : TheStore) (words limit : ℕ) → EndsAs first e r s → IfOk (answer_of r (status s) words limit) (λ l. line_of e ≡ Some l)
line_told (Returned z t) r first s words limit h = subst (λ r. IfOk (answer_of r (status s) words limit) (λ l. line_of (Returned z t) ≡ Some l)) (sym h.0) refl
line_told (Trapped k t) r first s words limit h =
    subst
    (λ r. IfOk (answer_of r (status s) words limit) (λ l. line_of (Trapped k t) ≡ Some l))
    (sym h.0)
    (ap (λ s. Some (line.Trapped (word_of k s))) (sym h.1) ∙ ap (λ w. Some (line.Trapped w)) (same_word k s))
line_told (StackFull t) r first s words limit h = subst (λ r. IfOk (answer_of r (status s) words limit) (λ l. line_of (StackFull t) ≡ Some l)) (sym h.0) tt
line_told (Stuck t) r first s words limit h = subst (λ r. IfOk (answer_of r (status s) words limit) (λ l. line_of (Stuck t) ≡ Some l)) (sym h.0) tt
line_told (Running c) r first s words limit h = subst (λ r. IfOk (answer_of r (status s) words limit) (λ l. line_of (Running c) ≡ Some l)) (sym h.0) tt
line_told NoMain r first s words limit h = subst (λ r. IfOk (answer_of r (status s) words limit) (λ l. line_of NoMain ≡ Some l)) (sym h.0) tt

-- ---- where there is a main, no run ends for want of one

abbrev HasMain : RunEnd → Type 0
HasMain NoMain = ⊥
HasMain _ = Unit {0}

choice : (b : Bool) (x y : RunEnd) → HasMain x → HasMain y → HasMain (elim b [ true ↦ x | false ↦ y ])
choice true x y p q = p
choice false x y p q = q

returned_has : (ws : List Word) (s : TheStore) → HasMain (returned ws s)
returned_has [] s = tt
returned_has (w ∷ []) s = tt
returned_has (w ∷ v ∷ ws) s = tt

before_has : (move : Move) (c : Config) → HasMain (before_step move c)
before_has (Goes d) c = tt
before_has (Finishes ws s) c = tt
before_has (Traps k s) c = tt
before_has NoRule c = tt

after_has : (move : Move) (c : Config) (next : Config → RunEnd) → ((d : Config) → HasMain (next d)) → HasMain (after_step move c next)
after_has (Goes d) c next h = h d
after_has (Finishes ws s) c next h = returned_has ws s
after_has (Traps k s) c next h = tt
after_has NoRule c next h = tt

runs_has : (m : Module) (room words n : ℕ) (c : Config) → HasMain (runs m room words n c)
runs_has m room words zero c = choice (nat_lt words (words_of c)) (StackFull c.store) (before_step (machine_step m room c) c) tt (before_has (machine_step m room c) c)
runs_has m room words (suc n) c =
    choice (nat_lt words (words_of c)) (StackFull c.store) (after_step (machine_step m room c) c (runs m room words n)) tt (after_has (machine_step m room c) c (runs m room words n) (runs_has m room words n))

main_has : (m : Module) (room : ℕ) (s : TheStore) (args : List ℤ) (words n count : ℕ) → main_arity m ≡ Some count → HasMain (run_main m room s args words n)
main_has m room s args words n count e = from (main_of m) e
  where
    of_body : (main : Main) (body : Option Code) → HasMain (elim body [ None ↦ Stuck s | Some code ↦ runs m room words n (first_config m room main args s code) ])
    of_body main None = tt
    of_body main (Some code) = runs_has m room words n (first_config m room main args s code)

    from : (o : Option Main) → then_some o (λ main. Some (length main.type.params)) ≡ Some count → HasMain (elim o [ None ↦ NoMain | Some main ↦ elim (nested main.func.body) [ None ↦ Stuck s | Some code ↦ runs m room words n (first_config m room main args s code) ] ])
    from None f = cc
    from (Some main) f = of_body main (nested main.func.body)

pub not_without : (m : Module) (room : ℕ) (s : TheStore) (args : List ℤ) (words n count : ℕ) → main_arity m ≡ Some count → run_main m room s args words n ≡ NoMain → ⊥
not_without m room s args words n count e f = subst HasMain f (main_has m room s args words n count e)

-- what is refused is why the run has no end that has a line
refusal_told : (m : Module) (args : List ℤ) (words limit : ℕ) (e : RunEnd) (r : MachineEnd) (first s : TheStore) → IsCallable m (length args) → mach m args words limit ≡ e → EndsAs first e r s → IfErr (answer_of r (status s) words limit) (λ f. HasNoEnd m args words limit f)
refusal_told m args words limit (Returned z t) r first s callable same h = subst (λ r. IfErr (answer_of r (status s) words limit) (λ f. HasNoEnd m args words limit f)) (sym h.0) tt
refusal_told m args words limit (Trapped k t) r first s callable same h = subst (λ r. IfErr (answer_of r (status s) words limit) (λ f. HasNoEnd m args words limit f)) (sym h.0) tt
refusal_told m args words limit (StackFull t) r first s callable same h = subst (λ r. IfErr (answer_of r (status s) words limit) (λ f. HasNoEnd m args words limit f)) (sym h.0) (callable, refl, subst IsStackFull (sym same) tt)
refusal_told m args words limit (Stuck t) r first s callable same h = subst (λ r. IfErr (answer_of r (status s) words limit) (λ f. HasNoEnd m args words limit f)) (sym h.0) (callable, subst IsStuck (sym same) tt)
refusal_told m args words limit (Running c) r first s callable same h = subst (λ r. IfErr (answer_of r (status s) words limit) (λ f. HasNoEnd m args words limit f)) (sym h.0) (callable, refl, (c, same))
refusal_told m args words limit NoMain r first s callable same h = absurd (not_without m (fixed_room m) (store_at_first m) args words limit (length args) callable.main same)

-- ---- a machine at its beginning

-- the run is the first one of the module
first_run : (m : Module) (args : List ℤ) (words limit : ℕ) (x : Machine-model) (r : MachineEnd) (left : TheStore) → IsOpenedFor m words (length args) x → EndsAs x.store (run_main x.module_ (fixed_room x.module_) x.store args x.words limit) r left → EndsAs (store_at_first m) (mach m args words limit) r left
first_run m args words limit x r left opened h = subst (λ (x : Machine-model). EndsAs x.store (run_main x.module_ (fixed_room x.module_) x.store args x.words limit) r left) opened.0 h

on_ok : {A E : Type 0} (P Q : A → Type 0) (r : Result A E) → ((a : A) → P a → Q a) → IfOk r P → IfOk r Q
on_ok P Q (Ok a) f p = f a p
on_ok P Q (Err e) f p = tt

on_err : {A E : Type 0} (P Q : E → Type 0) (r : Result A E) → ((e : E) → P e → Q e) → IfErr r P → IfErr r Q
on_err P Q (Ok a) f p = tt
on_err P Q (Err e) f p = f e p

pub runs_to : (bytes : List ℕ) (args : List ℤ) (words limit : ℕ) (m : Module) (x : Machine-model) (r : MachineEnd) (left : TheStore) (n : ℕ) (answer : Result Line Refusal) → IsValidModule bytes m → IsOpenedFor m words (length args) x → EndsAs x.store (run_main x.module_ (fixed_room x.module_) x.store args x.words limit) r left → n ≡ status left → answer ≡ answer_of r n words limit → IfOk answer (λ l. RunsTo bytes args words limit l)
runs_to bytes args words limit m x r left n answer valid opened h same_status same =
    let told = line_told (mach m args words limit) r (store_at_first m) left words limit (first_run m args words limit x r left opened h) in
    let told_here = subst (λ a. IfOk a (λ l. line_of (mach m args words limit) ≡ Some l)) (sym (same ∙ ap (λ n. answer_of r n words limit) same_status)) told in
    on_ok (λ l. line_of (mach m args words limit) ≡ Some l) (λ l. RunsTo bytes args words limit l) answer (λ l e. record { the_module = m; is_module = valid; ends = record { callable = opened.1; ends = e } }) told_here

pub not_run : (bytes : List ℕ) (args : List ℤ) (words limit : ℕ) (m : Module) (x : Machine-model) (r : MachineEnd) (left : TheStore) (n : ℕ) (answer : Result Line Refusal) → IsValidModule bytes m → IsOpenedFor m words (length args) x → EndsAs x.store (run_main x.module_ (fixed_room x.module_) x.store args x.words limit) r left → n ≡ status left → answer ≡ answer_of r n words limit → IfErr answer (λ f. IsNotRun bytes args words limit f)
not_run bytes args words limit m x r left n answer valid opened h same_status same =
    let told = refusal_told m args words limit (mach m args words limit) r (store_at_first m) left opened.1 refl (first_run m args words limit x r left opened h) in
    let told_here = subst (λ a. IfErr a (λ f. HasNoEnd m args words limit f)) (sym (same ∙ ap (λ n. answer_of r n words limit) same_status)) told in
    on_err (λ f. HasNoEnd m args words limit f) (λ f. IsNotRun bytes args words limit f) answer (λ f e. inr (record { the_module = m; is_module = valid; no_end = inr e })) told_here
