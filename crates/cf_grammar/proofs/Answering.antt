-- What is said of the tokens that are left, from a stack of symbols on, and how it comes from what is said after a turn.
use Rattle.std.specs.Prelude.{ℕ, suc, ◌+◌, ◌≤◌, List, [], ◌∷◌, ◌++◌, length, Option, Some, None, ◌≡◌, refl}
use Rattle.std.proofs.Common.{arith}
use mathlib.Core.Path.{ap, sym, ◌∙◌, subst}
use Rattle.cf_grammar.proofs.Life.{Lives}
use Rattle.cf_grammar.specs.Laws.{Begins}
use Rattle.cf_grammar.proofs.Choice.{ByRule}
use Rattle.cf_grammar.specs.Grammar.{rules, Takes, Among, Derives, done, token, phrase}
use Rattle.cf_grammar.specs.Refusing.{over, excess, or_later, NoneBefore}
use Rattle.cf_grammar.specs.declared.classes.Class.{Class}
use Rattle.cf_grammar.specs.declared.endings.Ending.{Ending}
use Rattle.cf_grammar.specs.declared.endings.Ending.TheVariants.{Fine, Syntax, Past}
use Rattle.cf_grammar.specs.declared.endings.Fault.{Fault}
use Rattle.cf_grammar.specs.declared.phrases.Phrase.{Phrase}
use Rattle.cf_grammar.specs.declared.phrases.Symbol.{Symbol}
use Rattle.cf_grammar.specs.declared.phrases.Symbol.TheVariants.{Phrase as a}

-- token j is the first with which the stack derives no text, and no phrase past a limit begins before
pub record Stops (ys : List Symbol) (ks : List Class) (i j : ℕ) : Type 0 where
  pub front : List Class
  pub next : Class
  pub rest : List Class
  pub parted : ks ≡ front ++ next ∷ rest
  pub place : i + length front ≡ j
  pub more : List Class
  pub live : Derives ys (front ++ more)
  pub dead : (l : List Class) → Derives ys (front ++ next ∷ l) → ⊥
  pub within : (l t : List Class) → t ≡ front ++ l → (d : Derives ys t) → NoneBefore j (excess d i)

-- the stack derives a text with the tokens up to j, and in each the first phrase past a limit begins there
pub record Reaches (ys : List Symbol) (ks : List Class) (i j : ℕ) (f : Fault) : Type 0 where
  pub front : List Class
  pub next : Class
  pub rest : List Class
  pub parted : ks ≡ front ++ next ∷ rest
  pub place : i + length front ≡ j
  pub more : List Class
  pub live : Derives ys (front ++ next ∷ more)
  pub passes : (l t : List Class) → t ≡ front ++ next ∷ l → (d : Derives ys t) → excess d i ≡ Some (j, f)

abbrev pub Answers : List Symbol → List Class → ℕ → Ending → Type 0
Answers ys ks i Fine = (d : Derives ys ks) × (excess d i ≡ None)
Answers ys ks i (Syntax j) = Stops ys ks i j
Answers ys ks i (Past j f) = Reaches ys ks i j f

one_on : (i n j : ℕ) → suc i + n ≡ j → i + suc n ≡ j
one_on i n j e = omega arith

rest_of : {y : Symbol} {k : Class} {ys : List Symbol} {l : List Class} → Takes y k → Derives (y ∷ ys) (k ∷ l) → Derives ys l
rest_of t (token u d) = d
rest_of t (phrase i d) = elim t [ ]

abbrev tail_of : List Class → List Class
tail_of [] = []
tail_of (k ∷ ks) = ks

-- what holds of each derivation of the rest, of each derivation of the whole
through : {y : Symbol} {k : Class} (P : Option (ℕ × Fault) → Type 0) (ys : List Symbol) (i : ℕ) (l : List Class) → Takes y k → ((t : List Class) → t ≡ l → (d : Derives ys t) → P (excess d (suc i))) → (t : List Class) → t ≡ k ∷ l → (d : Derives (y ∷ ys) t) → P (excess d i)
through P ys i l t q s e (token {ks = ks} u d) = q ks (ap tail_of e) d
through P ys i l t q s e (phrase c d) = elim t [ ]

-- a token passed
pub passed : {y : Symbol} {k : Class} (ys : List Symbol) (ks : List Class) (i : ℕ) (e : Ending) → Takes y k → Answers ys ks (suc i) e → Answers (y ∷ ys) (k ∷ ks) i e
passed ys ks i Fine t q = (token t q.0, q.1)
passed {y} {k} ys ks i (Syntax j) t q = record { front = k ∷ q.front; next = q.next; rest = q.rest; parted = ap (λ l. k ∷ l) q.parted; place = one_on i (length q.front) j q.place; more = q.more; live = token t q.live; dead = λ l d. q.dead l (rest_of t d); within = λ l. through (NoneBefore j) ys i (q.front ++ l) t (q.within l) }
passed {y} {k} ys ks i (Past j f) t q = record { front = k ∷ q.front; next = q.next; rest = q.rest; parted = ap (λ l. k ∷ l) q.parted; place = one_on i (length q.front) j q.place; more = q.more; live = token t q.live; passes = λ l. through (λ o. o ≡ Some (j, f)) ys i (q.front ++ q.next ∷ l) t (q.passes l) }

-- every phrase is opened at its first token or after
not_before : {ys : List Symbol} {t : List Class} (d : Derives ys t) (j i : ℕ) → j ≤ i → NoneBefore j (excess d i)
not_before done j i p = tt
not_before (token u d) j i p = not_before d j (suc i) (omega arith)
not_before (phrase {n = n} c d) j i p = by_limit (over n) (excess d i) (not_before d j i p)
  where
    by_limit : (o : Option Fault) (later : Option (ℕ × Fault)) → NoneBefore j later → NoneBefore j (or_later o i later)
    by_limit (Some f) later q = p
    by_limit None later q = q

pub stopped : {ys : List Symbol} {k : Class} (ks : List Class) (i : ℕ) → Lives ys → ((l : List Class) → Derives ys (k ∷ l) → ⊥) → Stops ys (k ∷ ks) i i
stopped {ys} {k} ks i v never = record { front = []; next = k; rest = ks; parted = refl; place = omega arith; more = v.0; live = v.1; dead = never; within = λ l t e d. not_before d i i (omega arith) }

-- the head of what comes stays, whatever follows
headed : {k : Class} {ks : List Class} (front : List Class) (next : Class) (rest l : List Class) → k ∷ ks ≡ front ++ next ∷ rest → (m : List Class) × (front ++ next ∷ l ≡ k ∷ m)
headed {k} [] next rest l e = (l, ap (λ c. c ∷ l) (sym (ap (head_or k) e)))
  where
    head_or : Class → List Class → Class
    head_or c [] = c
    head_or c (x ∷ xs) = x
headed {k} (c ∷ front) next rest l e = (front ++ next ∷ l, ap (λ c. c ∷ (front ++ next ∷ l)) (sym (ap (head_or k) e)))
  where
    head_or : Class → List Class → Class
    head_or c [] = c
    head_or c (x ∷ xs) = x

-- what holds of each derivation after a phrase without excess is opened, of the whole
by_rule : (m : Phrase) {r : List Symbol} (ys : List Symbol) {t : List Class} (c : Among r (rules m)) (d : Derives (a m ∷ ys) t) (P : Option (ℕ × Fault) → Type 0) (i : ℕ) → over m ≡ None → ByRule m ys t c d → ((e : Derives (r ++ ys) t) → P (excess e i)) → P (excess d i)
by_rule m ys c d P i n b q = subst (λ x. P (excess x i)) (sym b.1) (subst (λ o. P (or_later o i (excess b.0 i))) (sym n) (q b.0))

-- each derivation of a text that begins with the token opens the phrase so
abbrev Only : (m : Phrase) {r : List Symbol} (k : Class) (ys : List Symbol) → Among r (rules m) → Type 0
Only m k ys c = (l t : List Class) → t ≡ k ∷ l → (d : Derives (a m ∷ ys) t) → ByRule m ys t c d

at_start : (i j : ℕ) → i + 0 ≡ j → j ≤ i
at_start i j e = omega arith

open_within : {m : Phrase} {r : List Symbol} {k : Class} {ks : List Class} (ys : List Symbol) (i j : ℕ) (front : List Class) (next : Class) (rest l : List Class) (c : Among r (rules m)) → k ∷ ks ≡ front ++ next ∷ rest → i + length front ≡ j → over m ≡ None → Only m k ys c → ((t : List Class) → t ≡ front ++ l → (d : Derives (r ++ ys) t) → NoneBefore j (excess d i)) → (t : List Class) → t ≡ front ++ l → (d : Derives (a m ∷ ys) t) → NoneBefore j (excess d i)
open_within ys i j [] next rest l c p e n back q t s d = not_before d j i (at_start i j e)
open_within {m} {k = k} ys i j (x ∷ front) next rest l c p e n back q t s d = by_rule m ys c d (NoneBefore j) i n (back (front ++ l) t (s ∙ ap (λ y. y ∷ (front ++ l)) (sym (ap (head_or k) p))) d) (q t s)
  where
    head_or : Class → List Class → Class
    head_or c [] = c
    head_or c (x ∷ xs) = x

-- a phrase opened, or left out as empty
pub opened : {m : Phrase} {r : List Symbol} {k : Class} (ys : List Symbol) (ks : List Class) (i : ℕ) (e : Ending) (c : Among r (rules m)) → over m ≡ None → Only m k ys c → Answers (r ++ ys) (k ∷ ks) i e → Answers (a m ∷ ys) (k ∷ ks) i e
opened ys ks i Fine c n back q = (phrase c q.0, ap (λ o. or_later o i (excess q.0 i)) n ∙ q.1)
opened {m} {r} {k} ys ks i (Syntax j) c n back q = record { front = q.front; next = q.next; rest = q.rest; parted = q.parted; place = q.place; more = q.more; live = phrase c q.live; dead = never; within = λ l. open_within ys i j q.front q.next q.rest l c q.parted q.place n back (q.within l) }
  where
    never : (l : List Class) → Derives (a m ∷ ys) (q.front ++ q.next ∷ l) → ⊥
    never l d =
        let h = headed q.front q.next q.rest l q.parted in
        q.dead l (back h.0 (q.front ++ q.next ∷ l) h.1 d).0
opened {m} {r} {k} ys ks i (Past j f) c n back q = record { front = q.front; next = q.next; rest = q.rest; parted = q.parted; place = q.place; more = q.more; live = phrase c q.live; passes = passes' }
  where
    passes' : (l t : List Class) → t ≡ q.front ++ q.next ∷ l → (d : Derives (a m ∷ ys) t) → excess d i ≡ Some (j, f)
    passes' l t s d =
        let h = headed q.front q.next q.rest l q.parted in
        by_rule m ys c d (λ o. o ≡ Some (j, f)) i n (back h.0 t (s ∙ h.1) d) (q.passes l t s)

pub past_says : {m : Phrase} {r : List Symbol} {k : Class} (ys : List Symbol) (ks : List Class) (i : ℕ) (f : Fault) → over m ≡ Some f → Among r (rules m) → Begins (r ++ ys) k → Reaches (a m ∷ ys) (k ∷ ks) i i f
past_says {m} {k = k} ys ks i f o c v = record { front = []; next = k; rest = ks; parted = refl; place = omega arith; more = v.0; live = phrase c v.1; passes = passes' }
  where
    passes' : (l t : List Class) → t ≡ k ∷ l → (d : Derives (a m ∷ ys) t) → excess d i ≡ Some (i, f)
    passes' l t s (token u d) = elim u [ ]
    passes' l t s (phrase c d) = ap (λ p. or_later p i (excess d i)) o
