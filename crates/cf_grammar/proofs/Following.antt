-- The steps that the walk has taken: with those of a derivation of what is left they are the steps of a derivation of the whole.
use Rattle.std.specs.Prelude.{ℕ, ◌+◌, ◌-◌, ◌<◌, List, [], ◌∷◌, ◌++◌, length, take, drop, reverse, ◌≡◌}
use Rattle.std.proofs.Common.{append_assoc, get_or}
use Rattle.std.proofs.lemmas.List.{append-nil}
use mathlib.Core.Path.{ap, sym, ◌∙◌, subst}
use Rattle.cf_grammar.specs.Grammar.{start}
use Rattle.cf_grammar.specs.Productions.{production, step_of, Follows}
use Rattle.cf_grammar.specs.Productions
use Rattle.cf_grammar.specs.Walking.{Turned, put}
use Rattle.cf_grammar.specs.declared.classes.Class.{Class}
use Rattle.cf_grammar.specs.declared.phrases.Symbol.{Symbol}
use Rattle.cf_grammar.specs.declared.phrases.Symbol.TheVariants.{Is as is, AnyName as NAME, Phrase as a}
use Rattle.cf_grammar.specs.declared.productions.Step.{Step}
use Rattle.cf_grammar.specs.declared.productions.Step.TheVariants as step
use Rattle.cf_grammar.specs.declared.turning.Turn.{Turn}
use Rattle.cf_grammar.specs.declared.turning.Turn.TheVariants as turn
use Rattle.cf_grammar.proofs.Standing.{Standing, none_left}
use Rattle.cf_grammar.proofs.Turns.{popped, next}

-- the steps so far, the stack and the tokens that are left
pub record Going (all : List Class) (ys : List Symbol) (ks : List Class) (ss : List Step) : Type 0 where
  pub on : (ps : List Step) → Follows ys ps ks → Follows start (ss ++ ps) all

-- one step more
noted : {all : List Class} (ss : List Step) (s : Step) (ps : List Step) → Follows start (ss ++ s ∷ ps) all → Follows start ((ss ++ s ∷ []) ++ ps) all
noted {all} ss s ps f = subst (λ qs. Follows start qs all) (sym (append_assoc ss (s ∷ []) ps)) f

-- what comes of a turn that goes on
abbrev Went : (all : List Class) (ys : List Symbol) (ks : List Class) (k : Class) (ss : List Step) → Turn → Type 0
Went all ys ks k ss turn.Take = Going all ys ks ss
Went all ys ks k ss turn.Open = Going all ys (k ∷ ks) ss
Went all ys ks k ss turn.Refuse = Unit {0}
Went all ys ks k ss (turn.Pass f) = Unit {0}

went : (all : List Class) (y : Symbol) (k : Class) (ys : List Symbol) (ks : List Class) (ss : List Step) (t : Turn) → Turned y k t → Going all (y ∷ ys) (k ∷ ks) ss → Went all (put y k ++ ys) ks k (ss ++ step_of y k ∷ []) t
went all (is j) k ys ks ss turn.Take t g = record { on = λ ps f. noted ss step.Take ps (g.on (step.Take ∷ ps) (Productions.Follows.take t f)) }
went all NAME k ys ks ss turn.Take t g = record { on = λ ps f. noted ss step.Take ps (g.on (step.Take ∷ ps) (Productions.Follows.take t f)) }
went all (a n) k ys ks ss turn.Take t g = elim t [ ]
went all (is j) k ys ks ss turn.Open t g = absurd t
went all NAME k ys ks ss turn.Open t g = absurd t
went all (a n) k ys ks ss turn.Open t g = record { on = λ ps f. noted ss (step.Open (production n k)) ps (g.on (step.Open (production n k) ∷ ps) (Productions.Follows.opened f)) }
went all y k ys ks ss turn.Refuse t g = tt
went all y k ys ks ss (turn.Pass f) t g = tt

-- the same at the next token of the text
abbrev pub Goes : (all : List Class) (ys : List Symbol) (i : ℕ) (ss : List Step) → Turn → Type 0
Goes all ys i ss turn.Take = Going all ys (drop (i + 1) all) ss
Goes all ys i ss turn.Open = Going all ys (drop i all) ss
Goes all ys i ss turn.Refuse = Unit {0}
Goes all ys i ss (turn.Pass f) = Unit {0}

restated : (all : List Class) (ys : List Symbol) (i : ℕ) (k : Class) (ss : List Step) (t : Turn) → drop i all ≡ k ∷ drop (i + 1) all → Went all ys (drop (i + 1) all) k ss t → Goes all ys i ss t
restated all ys i k ss turn.Take e g = g
restated all ys i k ss turn.Open e g = subst (λ ks. Going all ys ks ss) (sym e) g
restated all ys i k ss turn.Refuse e g = tt
restated all ys i k ss (turn.Pass f) e g = tt

pub goes : (all : List Class) (items rest new : List Symbol) (y : Symbol) (i : ℕ) (d : Class) (t u : Turn) (before now : List Step) → u ≡ t → items ≡ rest ++ y ∷ [] → i < length all → Turned y (get_or all i d) u → reverse new ≡ put y (get_or all i d) ++ reverse rest → now ≡ before ++ step_of y (get_or all i d) ∷ [] → Going all (reverse items) (drop i all) before → Goes all (reverse new) i now t
goes all items rest new y i d t u before now same e p turns r s g =
    let k = get_or all i d in
    let n = next all i d p in
    let at_top = subst (λ ys. Going all ys (drop i all) before) (popped items rest y e) g in
    let at_next = subst (λ ks. Going all (y ∷ reverse rest) ks before) n at_top in
    subst (λ ys. Goes all ys i now t) (sym r)
    (subst (λ ss. Goes all (put y k ++ reverse rest) i ss t) (sym s)
    (restated all (put y k ++ reverse rest) i k (before ++ step_of y k ∷ []) t n
    (went all y k (reverse rest) (drop (i + 1) all) before t (subst (λ v. Turned y k v) same turns) at_next)))

-- before the first turn
pub going_at : (all : List Class) (ys : List Symbol) (ss : List Step) → ys ≡ start → ss ≡ [] → Going all ys all ss
going_at all ys ss e s = subst (λ qs. Going all ys all qs) (sym s) (subst (λ zs. Going all zs all []) (sym e) record { on = λ ps f. f })

over : {all ks : List Class} (ss : List Step) → ks ≡ [] → Going all [] ks ss → Follows start ss all
over {all} ss e g =
    let last = subst (λ ks. Going all [] ks ss) e g in
    subst (λ qs. Follows start qs all) (append-nil ss) (last.on [] Productions.Follows.done)

-- the stack is empty
pub followed : (all : List Class) (items rest : List Symbol) (i n : ℕ) (ss : List Step) → n ≡ 0 → rest ≡ take (n - 1) items → items ≡ rest ++ [] → Standing all (reverse items) (drop i all) i → Going all (reverse items) (drop i all) ss → Follows start ss all
followed all items rest i n ss z r e s g =
    let none : rest ≡ [] = r ∙ ap (λ m. take (m - 1) items) z in
    let empty : items ≡ [] = e ∙ ap (λ ys. ys ++ []) none in
    over ss
    (none_left i (subst (λ ys. Standing all (reverse ys) (drop i all) i) empty s))
    (subst (λ ys. Going all (reverse ys) (drop i all) ss) empty g)
