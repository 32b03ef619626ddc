-- A turn of the walk, over the lists that it reads.
use Rattle.std.specs.Prelude.{ℕ, suc, ◌+◌, ◌-◌, ◌<◌, ◌≤◌, List, [], ◌∷◌, ◌++◌, length, take, drop, reverse, ◌≡◌}
use Rattle.std.proofs.Common.{arith, get_or}
use Rattle.std.proofs.lemmas.Bool.{cases_lt}
use mathlib.Core.Logic.{◌⊎◌, inl, inr}
use Rattle.std.proofs.Math.Seq.{drop-cons}
use Rattle.std.proofs.lemmas.List.{drop_all, reverse-append}
use mathlib.Core.Path.{ap, sym, ◌∙◌, subst}
use Rattle.cf_grammar.specs.Refusing.{Says}
use Rattle.cf_grammar.specs.Walking.{Fits, Turned, put}
use Rattle.cf_grammar.specs.declared.classes.Class.{Class}
use Rattle.cf_grammar.specs.declared.endings.Ending.TheVariants.{Fine, Syntax, Past}
use Rattle.cf_grammar.specs.declared.phrases.Symbol.{Symbol}
use Rattle.cf_grammar.specs.declared.phrases.Symbol.TheVariants.{Is as is, AnyName as NAME, Phrase as a}
use Rattle.cf_grammar.specs.declared.turning.Turn.{Turn}
use Rattle.cf_grammar.specs.declared.turning.Turn.TheVariants as turn
use Rattle.cf_grammar.proofs.Falling.{work}
use Rattle.cf_grammar.proofs.Small.{AllSmall}
use Rattle.cf_grammar.proofs.Standing.{Standing, After, more_left, turned, ends_at}

-- the stack with its top taken off
pub popped : (items rest : List Symbol) (y : Symbol) → items ≡ rest ++ y ∷ [] → reverse items ≡ y ∷ reverse rest
popped items rest y e = ap reverse e ∙ reverse-append rest (y ∷ [])

top : {all : List Class} (items rest : List Symbol) (y : Symbol) (ks : List Class) (i : ℕ) → items ≡ rest ++ y ∷ [] → Standing all (reverse items) ks i → Standing all (y ∷ reverse rest) ks i
top {all} items rest y ks i e s = subst (λ ys. Standing all ys ks i) (popped items rest y e) s

-- a token is left
pub left : (all : List Class) (items rest : List Symbol) (y : Symbol) (i : ℕ) → items ≡ rest ++ y ∷ [] → Standing all (reverse items) (drop i all) i → i < length all
left all items rest y i e s = by_order (cases_lt i (length all))
  where
    by_order : (i < length all) ⊎ (length all ≤ i) → i < length all
    by_order (inl p) = p
    by_order (inr p) = absurd (more_left y (reverse rest) (drop i all) i (top items rest y (drop i all) i e s) (drop_all i all p))

pub fits : {all : List Class} (items rest : List Symbol) (y : Symbol) (ks : List Class) (i : ℕ) → items ≡ rest ++ y ∷ [] → Standing all (reverse items) ks i → Fits y
fits items rest y ks i e s = by_symbol y (reverse rest) (top items rest y ks i e s).small
  where
    by_symbol : (y : Symbol) (ys : List Symbol) → AllSmall (y ∷ ys) → Fits y
    by_symbol (is j) ys p = tt
    by_symbol NAME ys p = tt
    by_symbol (a n) ys p = p.0

-- what comes of a turn
abbrev pub Then : (all : List Class) (ys : List Symbol) (i most : ℕ) → Turn → Type 0
Then all ys i most turn.Take = Standing all ys (drop (i + 1) all) (i + 1) × (work ys (length (drop (i + 1) all)) < most)
Then all ys i most turn.Open = Standing all ys (drop i all) i × (work ys (length (drop i all)) < most)
Then all ys i most turn.Refuse = Says all (Syntax i)
Then all ys i most (turn.Pass f) = Says all (Past i f)

restated : (all : List Class) (ys : List Symbol) (i : ℕ) (k : Class) (most : ℕ) (t : Turn) → drop i all ≡ k ∷ drop (i + 1) all → After all ys (drop (i + 1) all) i k most t → Then all ys i most t
restated all ys i k most turn.Take e q = (subst (λ n. Standing all ys (drop (i + 1) all) n) (one_on i) q.0, q.1)
  where
    one_on : (n : ℕ) → suc n ≡ n + 1
    one_on n = omega arith
restated all ys i k most turn.Open e q = (subst (λ ks. Standing all ys ks i) (sym e) q.0, subst (λ ks. work ys (length ks) < most) (sym e) q.1)
restated all ys i k most turn.Refuse e q = q
restated all ys i k most (turn.Pass f) e q = q

-- the next token and those behind it
pub next : (all : List Class) (i : ℕ) (d : Class) → i < length all → drop i all ≡ get_or all i d ∷ drop (i + 1) all
next all i d p = drop-cons all i d p ∙ ap (λ n. get_or all i d ∷ drop n all) (one_on i)
  where
    one_on : (n : ℕ) → suc n ≡ n + 1
    one_on n = omega arith

pub after : (all : List Class) (items rest new : List Symbol) (y : Symbol) (i : ℕ) (d : Class) (t u : Turn) → u ≡ t → items ≡ rest ++ y ∷ [] → Turned y (get_or all i d) u → reverse new ≡ put y (get_or all i d) ++ reverse rest → Standing all (reverse items) (drop i all) i → Then all (reverse new) i (work (reverse items) (length (drop i all))) t
after all items rest new y i d t u same e turns r s =
    let k = get_or all i d in
    let n = next all i d (left all items rest y i e s) in
    let before = subst (λ ks. Standing all (y ∷ reverse rest) ks i) n (top items rest y (drop i all) i e s) in
    let most = ap (λ ks. work (y ∷ reverse rest) (length ks)) (sym n) ∙ ap (λ ys. work ys (length (drop i all))) (sym (popped items rest y e)) in
    subst (λ ys. Then all ys i (work (reverse items) (length (drop i all))) t) (sym r)
    (subst (λ m. Then all (put y k ++ reverse rest) i m t) most
    (restated all (put y k ++ reverse rest) i k (work (y ∷ reverse rest) (suc (length (drop (i + 1) all)))) t n
    (turned all y k (reverse rest) (drop (i + 1) all) i t (subst (λ v. Turned y k v) same turns) before)))

-- the stack is empty
pub finished : (all : List Class) (items rest : List Symbol) (i n : ℕ) → n ≡ 0 → rest ≡ take (n - 1) items → items ≡ rest ++ [] → Standing all (reverse items) (drop i all) i → Says all Fine
finished all items rest i n z r e s =
    let none : rest ≡ [] = r ∙ ap (λ m. take (m - 1) items) z in
    ends_at all (drop i all) i (subst (λ ys. Standing all (reverse ys) (drop i all) i) (e ∙ ap (λ ys. ys ++ []) none) s)
