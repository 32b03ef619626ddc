-- One step of building after another, from the last to the first.
use Rattle.std.proofs.Common.{◌≡◌, ◌∙◌, refl, ap, sym, subst, arith, append_assoc, ℕ, zero, suc, ◌+◌, ◌-◌, ◌≤◌, Bool, List, [], ◌∷◌, ◌++◌, drop, length, take, Result, Ok, Err}
use Rattle.std.specs.Prelude.{IfOk}
use Rattle.cf_grammar.specs.declared.productions.Production.{Production}
use Rattle.cf_grammar.specs.declared.productions.Step.{Step}
use Rattle.cf_grammar.specs.declared.productions.Step.TheVariants as step
use Rattle.cf_parse.specs.Building.{Sound, finished, taken, built, Stage, takes}
use Rattle.cf_parse.specs.Evaluation.{evaluated, first_token, next_at, reduced}
use Rattle.cf_parse.specs.Kinds.{AllFit, params}
use Rattle.cf_syntax.specs.Places.{place}
use Rattle.cf_parse.specs.Meaning.{Sem}
use Rattle.cf_parse.specs.Standing.{behind}
use Rattle.cf_syntax.specs.Tokens.{Token}

behind_suc : {A : Type 0} (xs : List A) (n : ℕ) → drop (suc n) xs ≡ drop 1 (drop n xs)
behind_suc xs zero = refl
behind_suc [] (suc n) = refl
behind_suc (x ∷ xs) (suc n) = behind_suc xs n

behind_drop : {A : Type 0} (xs : List A) (n : ℕ) → drop (n + 1) xs ≡ drop 1 (drop n xs)
behind_drop xs n = let e : n + 1 ≡ suc n = omega arith in rw e (behind_suc xs n)

behind_one : (ks : List Token) → drop 1 ks ≡ behind ks
behind_one [] = refl
behind_one (k ∷ ks) = refl

-- all tokens are taken
pub all_taken : {b : Bool} {ps : List Step} {ks : List Token} → Sound b ps ks → takes ps ≡ length ks
all_taken finished = refl
all_taken (taken h) = ap suc (all_taken h)
all_taken (built f h) = all_taken h

pub peeled : {b : Bool} (before after : List Step) (ks : List Token) → Sound b (before ++ after) ks → Sound b after (drop (takes before) ks)
peeled [] after ks h = h
peeled (step.Take ∷ ps) after _ (taken {ks = ks} h) = peeled ps after ks h
peeled {b = b} (step.Open p ∷ ps) after ks h = opened ks h (λ ls. peeled ps after ls)
  where
    opened : (ks : List Token) → Sound b (step.Open p ∷ (ps ++ after)) ks → ((ls : List Token) → Sound b (ps ++ after) ls → Sound b after (drop (takes ps) ls)) → Sound b after (drop (takes ps) ks)
    opened _ (built {k = k} {ks = ks} f h) go = go (k ∷ ks) h

takes_append : (xs ys : List Step) → takes (xs ++ ys) ≡ takes xs + takes ys
takes_append [] ys = omega arith
takes_append (step.Take ∷ xs) ys = omega (arith, takes_append xs ys)
takes_append (step.Open p ∷ xs) ys = takes_append xs ys

-- at the end nothing is left to be read
pub begun : {b : Bool} {all : List Step} {ks : List Token} (at : ℕ) → Sound b all ks → length ks ≡ at → Stage b all ks all at []
begun {b = b} {all = all} {ks = ks} at h e = record { after = []; parted = append_nil all; count = all_taken h ∙ e; means = refl }
  where
    append_nil : {A : Type 0} (xs : List A) → xs ++ [] ≡ xs
    append_nil [] = refl
    append_nil (x ∷ xs) = ap (λ z. x ∷ z) (append_nil xs)

-- the steps up to this one and those behind it
sound_here : {b : Bool} {all : List Step} {ks : List Token} (xs : List Step) (s : Step) (after : List Step) → Sound b all ks → (xs ++ s ∷ []) ++ after ≡ all → Sound b (s ∷ after) (drop (takes xs) ks)
sound_here {b = b} {ks = ks} xs s after h e = peeled xs (s ∷ after) ks (subst (λ l. Sound b l ks) (sym e ∙ append_assoc xs (s ∷ []) after) h)

pub record Took (b : Bool) (all : List Step) (ks : List Token) (xs : List Step) (at : ℕ) (ss : List Sem) : Type 0 where
  pub some : 1 ≤ at
  pub stage : Stage b all ks xs (at - 1) (first_token b (drop (at - 1) ks) ∷ ss)

pub took : {b : Bool} {all : List Step} {ks : List Token} {at : ℕ} {ss : List Sem} (before xs : List Step) → Sound b all ks → before ≡ xs ++ step.Take ∷ [] → Stage b all ks before at ss → Took b all ks xs at ss
took {b = b} {all = all} {ks = ks} {at = at} {ss = ss} before xs h e g =
    let n : takes xs + 1 ≡ at = sym (takes_append xs (step.Take ∷ [])) ∙ ap takes (sym e) ∙ g.count in
    let m : takes xs ≡ at - 1 = omega (arith, n) in
    let up : (at - 1) + 1 ≡ at = omega (arith, n) in
    let on : behind (drop (at - 1) ks) ≡ drop at ks = sym (behind_one (drop (at - 1) ks)) ∙ sym (behind_drop ks (at - 1)) ∙ ap (λ i. drop i ks) up in
    record {
      some = omega (arith, n);
      stage = record {
        after = step.Take ∷ g.after;
        parted = sym (append_assoc xs (step.Take ∷ []) g.after) ∙ ap (λ l. l ++ g.after) (sym e) ∙ g.parted;
        count = m;
        means = ap (λ l. first_token b (drop (at - 1) ks) ∷ l) (g.means ∙ ap (λ l. evaluated b g.after l) (sym on));
      };
    }

pub record Opening (b : Bool) (all : List Step) (ks : List Token) (xs : List Step) (p : Production) (at : ℕ) (ss : List Sem) : Type 0 where
  pub k : Token
  pub rest : List Token
  pub there : drop at ks ≡ k ∷ rest
  pub fits : AllFit (params p) ss
  pub stage : (new : List Sem) → new ≡ reduced p (place b k.at) ss → Stage b all ks xs at new

pub opening : {b : Bool} {all : List Step} {ks : List Token} {at : ℕ} {ss : List Sem} {p : Production} (before xs : List Step) → Sound b all ks → before ≡ xs ++ step.Open p ∷ [] → Stage b all ks before at ss → Opening b all ks xs p at ss
opening {b = b} {all = all} {ks = ks} {at = at} {ss = ss} {p = p} before xs h e g = by_cases (drop at ks) refl (subst (λ i. Sound b (step.Open p ∷ g.after) (drop i ks)) n (sound_here xs (step.Open p) g.after h (ap (λ l. l ++ g.after) (sym e) ∙ g.parted)))
  where
    n : takes xs ≡ at
    n = plus_none (takes xs) ∙ sym (takes_append xs (step.Open p ∷ [])) ∙ ap takes (sym e) ∙ g.count
      where
        plus_none : (i : ℕ) → i ≡ i + 0
        plus_none i = omega arith

    by_cases : (ls : List Token) → drop at ks ≡ ls → Sound b (step.Open p ∷ g.after) ls → Opening b all ks xs p at ss
    by_cases _ q (built {k = k} {ks = rest} f s) = record {
      k = k;
      rest = rest;
      there = q;
      fits = subst (AllFit (params p)) (ap (λ l. evaluated b g.after l) (sym q) ∙ sym g.means) f;
      stage = λ new w. record {
        after = step.Open p ∷ g.after;
        parted = sym (append_assoc xs (step.Open p ∷ []) g.after) ∙ ap (λ l. l ++ g.after) (sym e) ∙ g.parted;
        count = n;
        means = w ∙ (λ i. reduced p (place b (next_at (sym q i))) (g.means i));
      };
    }

-- no step is left
pub ended : {b : Bool} {all : List Step} {ks : List Token} {at : ℕ} {ss : List Sem} → Stage b all ks [] at ss → ss ≡ evaluated b all ks
ended {b = b} {all = all} {ks = ks} {at = at} g = g.means ∙ (λ i. evaluated b (g.parted i) (drop (sym g.count i) ks))

-- a list from which nothing was taken
pub none_left : {A : Type 0} (items rest : List A) (n : ℕ) → n ≡ 0 → rest ≡ take (n - 1) items → items ≡ rest ++ [] → items ≡ []
none_left items rest n z r e = e ∙ ap (λ l. l ++ []) (r ∙ ap (λ m. take (m - 1) items) z)

-- what holds where a call ended well
pub mapped : {T E : Type 0} {P Q : T → Type 0} (r : Result T E) → ((t : T) → P t → Q t) → IfOk r P → IfOk r Q
mapped (Ok t) f h = f t h
mapped (Err e) f h = tt
