-- Evaluation goes through a renaming. The two laws of renaming that are used are given.
use Rattle.std.specs.Prelude.{ℕ, zero, suc, Bool, true, false, List, Option, Some, None, ◌≡◌, refl}
use mathlib.Core.Path.{ap, ap₂, sym, ◌∙◌, fun_ext}
use Rattle.cf_term.specs.Core.{Tm, var, node, Tms, nil, cons, Head, Part, parts, first_part, rest_parts, AppH, LamH, LetH, FstH, SndH, UnitRecH, BoolRecH, NatRecH, ListRecH, QuoteH, SpliceH}
use Rattle.cf_term.specs.Forms.{Lam, Pair, Triv, True, False, Zero, Suc, Nil, Cons, Quote, Splice}
use Rattle.cf_term.specs.Substitution.{lift, lifts, rename, rename_all, instance, single, substitute}
use Rattle.cf_term.specs.Laws.{RenamingOfSubstituted, SubstitutionOfRenamed}
use Rattle.cf_term.specs.Evaluation.{Out, Done, Spent, Deep, Outs, AllDone, AllSpent, AllDeep, applied, first_of, second_of, unit_case, bool_case, nat_case, list_case, quoted, contract, quote_of, formed, step, step_or, finish, before, and_then, evaluate_by, evaluate_all_by, evaluate_within}
use Rattle.cf_reduction.specs.Laws.{renamed_out, EvaluationRenames}

abbrev renamed_option : (ℕ → ℕ) → Option Tm → Option Tm
renamed_option f None = None
renamed_option f (Some t) = Some (rename f t)

abbrev renamed_outs : (ℕ → ℕ) → List Part → Outs → Outs
renamed_outs f ps (AllDone ts k) = AllDone (rename_all f ps ts) k
renamed_outs f ps AllSpent = AllSpent
renamed_outs f ps AllDeep = AllDeep

single_renamed : (f : ℕ → ℕ) (u : Tm) (i : ℕ) → rename f (single u i) ≡ single (rename f u) (lift f i)
single_renamed f u zero = refl
single_renamed f u (suc i) = refl

first_renamed : (f : ℕ → ℕ) (t : Tm) → first_of (rename f t) ≡ renamed_option f (first_of t)
first_renamed f (Pair s t u) = refl
first_renamed f _ = refl

second_renamed : (f : ℕ → ℕ) (t : Tm) → second_of (rename f t) ≡ renamed_option f (second_of t)
second_renamed f (Pair s t u) = refl
second_renamed f _ = refl

unit_renamed : (f : ℕ → ℕ) (u n : Tm) → unit_case (rename f u) (rename f n) ≡ renamed_option f (unit_case u n)
unit_renamed f u Triv = refl
unit_renamed f u _ = refl

bool_renamed : (f : ℕ → ℕ) (t e n : Tm) → bool_case (rename f t) (rename f e) (rename f n) ≡ renamed_option f (bool_case t e n)
bool_renamed f t e True = refl
bool_renamed f t e False = refl
bool_renamed f t e _ = refl

nat_renamed : (f : ℕ → ℕ) (p z s n : Tm) → nat_case (rename f p) (rename f z) (rename f s) (rename f n) ≡ renamed_option f (nat_case p z s n)
nat_renamed f p z s Zero = refl
nat_renamed f p z s (Suc m) = refl
nat_renamed f p z s _ = refl

list_renamed : (f : ℕ → ℕ) (p n c l : Tm) → list_case (rename f p) (rename f n) (rename f c) (rename f l) ≡ renamed_option f (list_case p n c l)
list_renamed f p n c (Nil a) = refl
list_renamed f p n c (Cons x y) = refl
list_renamed f p n c _ = refl

quoted_renamed : (f : ℕ → ℕ) (t : Tm) → quoted (rename f t) ≡ renamed_option f (quoted t)
quoted_renamed f (Quote t) = refl
quoted_renamed f _ = refl

quote_renamed : (f : ℕ → ℕ) (t : Tm) → quote_of (rename f t) ≡ rename f (quote_of t)
quote_renamed f (Splice n) = refl
quote_renamed f _ = refl

formed_renamed : (f : ℕ → ℕ) (h : Head) (ts : Tms) → formed h (rename_all f (parts h) ts) ≡ rename f (formed h ts)
formed_renamed f QuoteH (cons t nil) = quote_renamed f t
formed_renamed f _ _ = refl

-- what goes on after a step goes through each renaming
abbrev Renames : (ℕ → ℕ → Tm → Out) → Type 0
Renames next = (f : ℕ → ℕ) (k d : ℕ) (t : Tm) → next k d (rename f t) ≡ renamed_out f (next k d t)

step_renamed : (next : ℕ → ℕ → Tm → Out) → Renames next → (f : ℕ → ℕ) (k d : ℕ) (r : Tm) → step next k d (rename f r) ≡ renamed_out f (step next k d r)
step_renamed next ok f zero d r = refl
step_renamed next ok f (suc k) zero r = refl
step_renamed next ok f (suc k) (suc d) r = ok f k d r

step_or_renamed : (next : ℕ → ℕ → Tm → Out) → Renames next → (f : ℕ → ℕ) (k d : ℕ) (v : Tm) (o : Option Tm) → step_or next k d (rename f v) (renamed_option f o) ≡ renamed_out f (step_or next k d v o)
step_or_renamed next ok f k d v None = refl
step_or_renamed next ok f k d v (Some r) = step_renamed next ok f k d r

before_renamed : (f : ℕ → ℕ) (ps : List Part) (v : Tm) (o : Outs) → before (rename (lifts (first_part ps).binds f) v) (renamed_outs f (rest_parts ps) o) ≡ renamed_outs f ps (before v o)
before_renamed f ps v (AllDone ts k) = refl
before_renamed f ps v AllSpent = refl
before_renamed f ps v AllDeep = refl

then_renamed : (f : ℕ → ℕ) (ps : List Part) (o : Out) (r s : ℕ → Outs) → ((k : ℕ) → r k ≡ renamed_outs f (rest_parts ps) (s k)) → and_then (renamed_out (lifts (first_part ps).binds f) o) r ≡ renamed_outs f ps (and_then o s)
then_renamed f ps (Done v k) r s e = ap (before (rename (lifts (first_part ps).binds f) v)) (e k) ∙ before_renamed f ps v (s k)
then_renamed f ps Spent r s e = refl
then_renamed f ps Deep r s e = refl

either_part : (b : Bool) {x y x' y' : Outs} (g : Outs → Outs) → x ≡ g x' → y ≡ g y' → elim b [ true ↦ x | false ↦ y ] ≡ g (elim b [ true ↦ x' | false ↦ y' ])
either_part true g p q = p
either_part false g p q = q

module _ (renaming-of-substituted : RenamingOfSubstituted) (substitution-of-renamed : SubstitutionOfRenamed) where
  instance_renamed : (f : ℕ → ℕ) (t u : Tm) → rename f (instance t u) ≡ instance (rename (lift f) t) (rename f u)
  instance_renamed f t u =
      renaming-of-substituted t f (single u) ∙ ap (λ s. substitute s t) (fun_ext (single_renamed f u)) ∙ sym (substitution-of-renamed t (single (rename f u)) (lift f))

  applied_renamed : (f : ℕ → ℕ) (t u : Tm) → applied (rename f t) (rename f u) ≡ renamed_option f (applied t u)
  applied_renamed f (Lam i a t) u = ap Some (sym (instance_renamed f t u))
  applied_renamed f (node (LamH i) nil) u = refl
  applied_renamed f (node (LamH i) (cons a nil)) u = refl
  applied_renamed f (node (LamH i) (cons a (cons t (cons v ts)))) u = refl
  applied_renamed f _ u = refl

  contract_renamed : (f : ℕ → ℕ) (h : Head) (ts : Tms) → contract h (rename_all f (parts h) ts) ≡ renamed_option f (contract h ts)
  contract_renamed f (AppH i) (cons t (cons u nil)) = applied_renamed f t u
  contract_renamed f LetH (cons a (cons t (cons u nil))) = ap Some (sym (instance_renamed f u t))
  contract_renamed f FstH (cons t nil) = first_renamed f t
  contract_renamed f SndH (cons t nil) = second_renamed f t
  contract_renamed f UnitRecH (cons p (cons u (cons n nil))) = unit_renamed f u n
  contract_renamed f BoolRecH (cons p (cons t (cons e (cons n nil)))) = bool_renamed f t e n
  contract_renamed f NatRecH (cons p (cons z (cons s (cons n nil)))) = nat_renamed f p z s n
  contract_renamed f ListRecH (cons p (cons n (cons c (cons l nil)))) = list_renamed f p n c l
  contract_renamed f SpliceH (cons t nil) = quoted_renamed f t
  contract_renamed f _ _ = refl

  finish_renamed : (next : ℕ → ℕ → Tm → Out) → Renames next → (f : ℕ → ℕ) (d : ℕ) (h : Head) (o : Outs) → finish next d h (renamed_outs f (parts h) o) ≡ renamed_out f (finish next d h o)
  finish_renamed next ok f d h (AllDone vs k) =
      ap₂ (λ v o. step_or next k d v o) (formed_renamed f h vs) (contract_renamed f h vs) ∙ step_or_renamed next ok f k d (formed h vs) (contract h vs)
  finish_renamed next ok f d h AllSpent = refl
  finish_renamed next ok f d h AllDeep = refl

  mutual
    evaluate_by_renamed : (t : Tm) (next : ℕ → ℕ → Tm → Out) → Renames next → (f : ℕ → ℕ) (k d : ℕ) → evaluate_by next k d (rename f t) ≡ renamed_out f (evaluate_by next k d t)
    evaluate_by_renamed (var i) next ok f k d = refl
    evaluate_by_renamed (node h ts) next ok f k d =
        ap (finish next d h) (evaluate_all_by_renamed ts next ok f k d (parts h)) ∙ finish_renamed next ok f d h (evaluate_all_by next k d (parts h) ts)

    evaluate_all_by_renamed : (ts : Tms) (next : ℕ → ℕ → Tm → Out) → Renames next → (f : ℕ → ℕ) (k d : ℕ) (ps : List Part) → evaluate_all_by next k d ps (rename_all f ps ts) ≡ renamed_outs f ps (evaluate_all_by next k d ps ts)
    evaluate_all_by_renamed nil next ok f k d ps = refl
    evaluate_all_by_renamed (cons t ts) next ok f k d ps =
        either_part (first_part ps).kept (renamed_outs f ps)
        (ap (before (rename (lifts (first_part ps).binds f) t)) (evaluate_all_by_renamed ts next ok f k d (rest_parts ps)) ∙ before_renamed f ps t (evaluate_all_by next k d (rest_parts ps) ts))
        (ap (λ o. and_then o (λ l. evaluate_all_by next l d (rest_parts ps) (rename_all f (rest_parts ps) ts))) (evaluate_by_renamed t next ok (lifts (first_part ps).binds f) k d)
        ∙ then_renamed f ps (evaluate_by next k d t) (λ l. evaluate_all_by next l d (rest_parts ps) (rename_all f (rest_parts ps) ts)) (λ l. evaluate_all_by next l d (rest_parts ps) ts)
        (λ l. evaluate_all_by_renamed ts next ok f l d (rest_parts ps)))

  within_renamed : (n : ℕ) → Renames (evaluate_within n)
  within_renamed zero f k d t = evaluate_by_renamed t (λ _ _ _. Spent) (λ _ _ _ _. refl) f k d
  within_renamed (suc n) f k d t = evaluate_by_renamed t (evaluate_within n) (within_renamed n) f k d

  pub evaluation_renames : EvaluationRenames
  evaluation_renames f k d t = within_renamed k f k d t
