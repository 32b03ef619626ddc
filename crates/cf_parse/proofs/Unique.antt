-- Tokens have one tree of productions at most.
use Rattle.std.proofs.Common.{◌≡◌, ◌∙◌, refl, ap, sym, subst, ℕ, zero, suc, List, [], ◌∷◌, ◌++◌, Some, slice_get}
use Rattle.cf_grammar.proofs.Unique.{at_most_one_derivation}
use Rattle.cf_grammar.specs.Grammar.{rules, Takes, Among, Derives, first, other, exact}
use Rattle.cf_grammar.specs.Grammar as grammar
use Rattle.cf_grammar.specs.declared.classes.Class.{Class}
use Rattle.cf_grammar.specs.declared.classes.Class.TheVariants as class
use Rattle.cf_grammar.specs.declared.phrases.Phrase.TheVariants.{Program}
use Rattle.cf_grammar.specs.declared.phrases.Symbol.{Symbol}
use Rattle.cf_grammar.specs.declared.phrases.Symbol.TheVariants.{Is as is, Phrase as a}
use Rattle.cf_syntax.proofs.Cases.{none_some, some_inj}
use Rattle.cf_parse.specs.Derivation.{Cst, leaf, branch, Csts, nil, cons, Parses, ParsesAll, token, phrase, none, both}
use Rattle.cf_parse.specs.Laws.{ReadsOne}
use Rattle.cf_parse.specs.Meaning.{program_of}
use Rattle.cf_syntax.specs.Tokens.{Token, classes}

abbrev pub index : {r : List Symbol} {rs : List (List Symbol)} → Among r rs → ℕ
index first = 0
index (other i) = suc (index i)

-- the right side with a number, and its number
pub record Numbered (r : List Symbol) (rs : List (List Symbol)) (w : ℕ) : Type 0 where
  pub among : Among r rs
  pub number : index among ≡ w

pub numbered : (rs : List (List Symbol)) (w : ℕ) (r : List Symbol) → slice_get rs w ≡ Some r → Numbered r rs w
numbered [] w r e = none_some e
numbered (s ∷ rs) zero r e = subst (λ x. Numbered x (s ∷ rs) 0) (some_inj e) (record { among = first; number = refl })
numbered (s ∷ rs) (suc w) r e = let o = numbered rs w r e in record { among = other o.among; number = ap suc o.number }

-- what a tree derives, before what others do
abbrev mutual
  pub derives : {y : Symbol} {c : Cst} {ks ls : List Token} {ys : List Symbol} → Parses y c ks ls → Derives ys (classes ls) → Derives (y ∷ ys) (classes ks)
  derives (token t) d = grammar.token t d
  derives (phrase {n = n} {which = w} {r = r} e p) d = grammar.phrase (numbered (rules n) w r e).among (derives_all p d)

  pub derives_all : {r : List Symbol} {cs : Csts} {ks ls : List Token} {ys : List Symbol} → ParsesAll r cs ks ls → Derives ys (classes ls) → Derives (r ++ ys) (classes ks)
  derives_all none d = d
  derives_all (both p q) d = derives p (derives_all q d)

-- as many trees as symbols, and the trees behind them
abbrev taken : List Symbol → Csts → Csts
taken [] cs = nil
taken (y ∷ r) nil = nil
taken (y ∷ r) (cons c cs) = cons c (taken r cs)

abbrev dropped : List Symbol → Csts → Csts
dropped [] cs = cs
dropped (y ∷ r) nil = nil
dropped (y ∷ r) (cons c cs) = dropped r cs

abbrev place_of : List Token → ℕ
place_of [] = 0
place_of (k ∷ ks) = k.at

-- the trees that a derivation stands for
abbrev tree_of : {ys : List Symbol} {l : List Class} → Derives ys l → List Token → Csts
tree_of grammar.done ts = nil
tree_of (grammar.token t d) [] = nil
tree_of (grammar.token t d) (k ∷ ts) = cons (leaf k) (tree_of d ts)
tree_of (grammar.phrase {n = n} {r = r} i d) ts = let cs = tree_of d ts in cons (branch n (index i) (place_of ts) (taken r cs)) (dropped r cs)

abbrev append : Csts → Csts → Csts
append nil ds = ds
append (cons c cs) ds = cons c (append cs ds)

taken_all : {r : List Symbol} {cs : Csts} {ks ls : List Token} → ParsesAll r cs ks ls → (ds : Csts) → taken r (append cs ds) ≡ cs
taken_all none ds = refl
taken_all (both {c = c} p q) ds = ap (cons c) (taken_all q ds)

dropped_all : {r : List Symbol} {cs : Csts} {ks ls : List Token} → ParsesAll r cs ks ls → (ds : Csts) → dropped r (append cs ds) ≡ ds
dropped_all none ds = refl
dropped_all (both p q) ds = dropped_all q ds

mutual
  tree_back : {y : Symbol} {c : Cst} {ks ls : List Token} {ys : List Symbol} (p : Parses y c ks ls) (d : Derives ys (classes ls)) → tree_of (derives p d) ks ≡ cons c (tree_of d ls)
  tree_back (token t) d = refl
  tree_back (phrase {n = n} {which = w} {r = r} {cs = cs} {k = k} {ks = ks} {rest = ls} e p) d =
      let b = trees_back p d in
      let o = numbered (rules n) w r e in
      λ i. cons (branch n (o.number i) k.at ((ap (taken r) b ∙ taken_all p (tree_of d ls)) i)) ((ap (dropped r) b ∙ dropped_all p (tree_of d ls)) i)

  trees_back : {r : List Symbol} {cs : Csts} {ks ls : List Token} {ys : List Symbol} (p : ParsesAll r cs ks ls) (d : Derives ys (classes ls)) → tree_of (derives_all p d) ks ≡ append cs (tree_of d ls)
  trees_back none d = refl
  trees_back (both {c = c} p q) d = tree_back p (derives_all q d) ∙ ap (cons c) (trees_back q d)

at_end : (k : Token) → k.class ≡ class.End → Derives (is class.End ∷ []) (classes (k ∷ []))
at_end k e = grammar.token (subst (λ c. Takes (is class.End) c) (sym e) exact) grammar.done

abbrev head_or : Cst → Csts → Cst
head_or c nil = c
head_or c (cons d ds) = d

pub one_tree : {c d : Cst} {j k : Token} (ks : List Token) → Parses (a Program) c ks (j ∷ []) → j.class ≡ class.End → Parses (a Program) d ks (k ∷ []) → k.class ≡ class.End → c ≡ d
one_tree {c = c} {d = d} {j = j} {k = k} ks p e q f =
    ap (head_or c) (sym (tree_back p (at_end j e)) ∙ ap (λ x. tree_of x ks) (at_most_one_derivation (classes ks) (derives p (at_end j e)) (derives q (at_end k f))) ∙ tree_back q (at_end k f))

pub reads_one : ReadsOne
reads_one b ks p q r s = some_inj (sym r.means ∙ ap (program_of b) (one_tree ks r.parses r.ends s.parses s.ends) ∙ s.means)
