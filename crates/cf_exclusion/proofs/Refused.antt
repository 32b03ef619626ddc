-- Tokens are one program, or are refused for one reason: with the first token with which something is wrong, the first thing that is.
use Rattle.std.proofs.Common.{◌≡◌, ◌≢◌, ◌∙◌, refl, ap, sym, subst, arith, append-nil, ℕ, suc, Bool, true, List, [], ◌∷◌, ◌++◌, length, Option, Some, None}
use Rattle.cf_base.specs.declared.at.At.{At}
use Rattle.cf_base.specs.declared.limit.Limit.{Limit}
use Rattle.cf_grammar.proofs.Logic.{left, right}
use Rattle.cf_grammar.specs.Grammar.{rules, Derives, IsProgram, Takes, exact}
use Rattle.cf_grammar.specs.Grammar as grammar
use Rattle.cf_grammar.specs.Laws.{OneChoice}
use Rattle.cf_grammar.specs.Refusing.{excess, or_later, over, NoneBefore}
use Rattle.cf_grammar.specs.declared.classes.Class.{Class}
use Rattle.cf_grammar.specs.declared.classes.Class.TheVariants as class
use Rattle.cf_grammar.specs.declared.endings.Fault.{Fault}
use Rattle.cf_grammar.specs.declared.endings.Fault.TheVariants.{Many}
use Rattle.cf_grammar.specs.declared.phrases.Phrase.{Phrase}
use Rattle.cf_grammar.specs.declared.phrases.Symbol.{Symbol}
use Rattle.cf_lex.specs.Lexed.{TokenList}
use Rattle.cf_syntax.proofs.Refusing.{clean}
use Rattle.cf_syntax.specs.Checks.{AllInRange, none, one}
use Rattle.cf_syntax.specs.Numbers.{in_range}
use Rattle.cf_syntax.specs.Places.{place}
use Rattle.cf_syntax.specs.Refusals.{Begins, IsRefused, IsWrong, many, Literal, RefusedAt, Refuses, Syntax, TooMany, TooNested, Wrong, rank}
use Rattle.cf_syntax.specs.Tokens.{Token, classes, tokens_of}
use Rattle.cf_syntax.specs.declared.ends.ParseEnd.{ParseEnd}
use Rattle.cf_syntax.specs.declared.ends.ParseEnd.TheVariants as end
use Rattle.cf_tree.specs.Tree as trees
use Rattle.cf_parse.proofs.Unique.{derives, derives_all}
use Rattle.cf_parse.specs.Derivation.{Cst, Csts, Parses, ParsesAll, token, phrase, none as no_more, both}
use Rattle.cf_parse.specs.Reads.{ReadsTokens, within, within_all, within_limit}
use Rattle.cf_exclusion.proofs.Items.{one_limit}
use Rattle.cf_exclusion.specs.Laws.{RefusesNoProgram, OneRefusalOfTokens}

-- ---- a program within the limits

none_over : (o : Option Fault) → within_limit o ≡ true → o ≡ None
none_over None e = refl
none_over (Some f) e = absurd cc

-- no phrase that the derivation opens passes a limit
abbrev IsFine : {ys : List Symbol} {l : List Class} → Derives ys l → Type 0
IsFine d = (i : ℕ) → excess d i ≡ None

mutual
  fine : {y : Symbol} {c : Cst} {ks ls : List Token} {ys : List Symbol} (p : Parses y c ks ls) (d : Derives ys (classes ls)) → within c ≡ true → IsFine d → IsFine (derives p d)
  fine (token t) d w h i = h (suc i)
  fine (phrase {n = n} {cs = cs} e p) d w h i =
      ap (λ o. or_later o i (excess (derives_all p d) i)) (none_over (over n) (left (within_limit (over n)) (within_all cs) w))
      ∙ fine_all p d (right (within_limit (over n)) (within_all cs) w) h i

  fine_all : {r : List Symbol} {cs : Csts} {ks ls : List Token} {ys : List Symbol} (p : ParsesAll r cs ks ls) (d : Derives ys (classes ls)) → within_all cs ≡ true → IsFine d → IsFine (derives_all p d)
  fine_all no_more d w h i = h i
  fine_all (both {c = c} {cs = cs} p q) d w h i = fine p (derives_all q d) (left (within c) (within_all cs) w) (fine_all q d (right (within c) (within_all cs) w) h) i

mutual
  ranges : {y : Symbol} {c : Cst} {ks ls : List Token} → Parses y c ks ls → within c ≡ true → AllInRange ls → AllInRange ks
  ranges (token t) w h = one w h
  ranges (phrase {n = n} {cs = cs} e p) w h = ranges_all p (right (within_limit (over n)) (within_all cs) w) h

  ranges_all : {r : List Symbol} {cs : Csts} {ks ls : List Token} → ParsesAll r cs ks ls → within_all cs ≡ true → AllInRange ls → AllInRange ks
  ranges_all no_more w h = h
  ranges_all (both {c = c} {cs = cs} p q) w h = ranges p (left (within c) (within_all cs) w) (ranges_all q (right (within c) (within_all cs) w) h)

end_takes : (k : Class) → k ≡ class.End → Derives (Symbol.Is class.End ∷ []) (k ∷ [])
end_takes k e = grammar.token (subst (λ c. Takes (Symbol.Is class.End) c) (sym e) exact) grammar.done

-- nothing is wrong with the tokens of a program
nothing_wrong : (b : Bool) (ks : List Token) (p : trees.Program) (at : ℕ) (w : Wrong) → ReadsTokens b ks p → Refuses ks at w → ⊥
unfolding end_takes
nothing_wrong b ks p at w reads r =
    let u = reads.unlimited in
    let last = end_takes u.end_token.class u.ends in
    let d : IsProgram (classes ks) = derives u.parses last in
    let e : excess d 0 ≡ None = fine u.parses last reads.limits (λ i. refl) 0 in
    let more = subst (λ l. (d : IsProgram l) × (excess d 0 ≡ None)) (sym (append-nil (classes ks))) (d, e) in
    let h : AllInRange ks = ranges u.parses reads.limits (one (subst (λ c. in_range c u.end_token.text ≡ true) (sym u.ends) refl) none) in
    clean
    (record { more = []; program = more.0; fine = subst (λ o. NoneBefore (length (classes ks)) o) (sym more.1) tt })
    h
    r.before
    r.this
    r.after
    w
    r.split
    r.wrong

-- ---- one reason

-- two places in a list: they are the same, or one stands before the other
data Compared (xs ys : List Token) (x y : Token) : Type 0 where
  same : xs ≡ ys → x ≡ y → Compared xs ys x y
  earlier : (rest : List Token) → ys ≡ xs ++ x ∷ rest → Compared xs ys x y
  later : (rest : List Token) → xs ≡ ys ++ y ∷ rest → Compared xs ys x y

abbrev head_or : Token → List Token → Token
head_or k [] = k
head_or k (j ∷ l) = j

abbrev tail_of : List Token → List Token
tail_of [] = []
tail_of (j ∷ l) = l

one_more : {xs ys : List Token} {x y : Token} (z w : Token) → z ≡ w → Compared xs ys x y → Compared (z ∷ xs) (w ∷ ys) x y
one_more z w e (same f g) = same (λ i. e i ∷ f i) g
one_more z w e (earlier rest f) = earlier rest (λ i. sym e i ∷ f i)
one_more z w e (later rest f) = later rest (λ i. e i ∷ f i)

compare : (xs ys : List Token) (x y : Token) (more others : List Token) → xs ++ x ∷ more ≡ ys ++ y ∷ others → Compared xs ys x y
compare [] [] x y more others e = same refl (ap (head_or x) e)
compare [] (w ∷ ys) x y more others e = earlier ys (ap (λ k. k ∷ ys) (sym (ap (head_or x) e)))
compare (z ∷ xs) [] x y more others e = later xs (ap (λ k. k ∷ xs) (ap (head_or z) e))
compare (z ∷ xs) (w ∷ ys) x y more others e = one_more z w (ap (head_or z) e) (compare xs ys x y more others (ap tail_of e))

many_of : {before : List Class} {k : Token} {l : Limit} → IsWrong before k (TooMany l) → (n : Phrase) × Begins before k.class n × (over n ≡ Some (Many l))
many_of (many {n = n} s o) = (n, s, o)

module _ (choice : OneChoice) where
  same_wrong : (before : List Class) (k : Token) (w v : Wrong) → rank w ≡ rank v → IsWrong before k w → IsWrong before k v → w ≡ v
  same_wrong before k Syntax Syntax e x y = refl
  same_wrong before k (TooMany l) (TooMany m) e x y =
      let s = many_of x in
      let t = many_of y in
      ap TooMany (one_limit choice before k.class s.0 t.0 l m s.1 s.2 t.1 t.2)
  same_wrong before k TooNested TooNested e x y = refl
  same_wrong before k Literal Literal e x y = refl
  same_wrong before k _ _ e x y = absurd (omega (arith, e))

  one_refuses : (ks : List Token) (at to : ℕ) (w v : Wrong) → Refuses ks at w → Refuses ks to v → (at ≡ to) × (w ≡ v)
  one_refuses ks at to w v r s = by_cases (compare r.before s.before r.this s.this r.after s.after (sym r.split ∙ s.split))
    where
      by_cases : Compared r.before s.before r.this s.this → (at ≡ to) × (w ≡ v)
      by_cases (earlier rest e) = absurd (s.first r.before r.this rest w e r.wrong)
      by_cases (later rest e) = absurd (r.first s.before s.this rest v e s.wrong)
      by_cases (same e f) =
          let x : IsWrong (classes r.before) r.this v = subst (λ t. IsWrong (classes r.before) t v) (sym f) (subst (λ b. IsWrong (classes b) s.this v) (sym e) s.wrong) in
          let y : IsWrong (classes s.before) s.this w = subst (λ t. IsWrong (classes s.before) t w) f (subst (λ b. IsWrong (classes b) r.this w) e r.wrong) in
          (r.place ∙ ap (λ t. t.at) f ∙ sym s.place, same_wrong (classes r.before) r.this w v (omega (arith, r.least v x, s.least w y)) r.wrong x)

  abbrev end_of : At → Wrong → ParseEnd
  end_of p Syntax = end.Syntax p
  end_of p (TooMany l) = end.TooMany p l
  end_of p TooNested = end.TooNested p
  end_of p Literal = end.Literal p

  -- a refusal by what is wrong, where it is not want of memory
  record Told (b : Bool) (ks : List Token) (e : ParseEnd) : Type 0 where
    at : At
    wrong : Wrong
    refused : RefusedAt b ks at wrong
    is : e ≡ end_of at wrong

  told : (b : Bool) (l : TokenList) (e : ParseEnd) → e ≢ end.NoMemory → IsRefused b l e → Told b (tokens_of l) e
  told b l (end.Syntax p) n h = record { at = p; wrong = Syntax; refused = h; is = refl }
  told b l (end.TooMany p m) n h = record { at = p; wrong = TooMany m; refused = h; is = refl }
  told b l (end.TooNested p) n h = record { at = p; wrong = TooNested; refused = h; is = refl }
  told b l (end.Literal p) n h = record { at = p; wrong = Literal; refused = h; is = refl }
  told b l end.NoMemory n h = absurd (n refl)

  pub one_refusal : OneRefusalOfTokens
  one_refusal b l e f h k n o =
      let t = told b l e n h in
      let u = told b l f o k in
      let s = one_refuses (tokens_of l) t.refused.offset u.refused.offset t.wrong u.wrong t.refused.refuses u.refused.refuses in
      let p : t.at ≡ u.at = t.refused.at ∙ ap (place b) s.0 ∙ sym u.refused.at in
      t.is ∙ (λ i. end_of (p i) (s.1 i)) ∙ sym u.is

pub refuses_no_program : RefusesNoProgram
refuses_no_program b l p (end.Syntax at) r h = absurd (nothing_wrong b (tokens_of l) p h.offset Syntax r h.refuses)
refuses_no_program b l p (end.TooMany at m) r h = absurd (nothing_wrong b (tokens_of l) p h.offset (TooMany m) r h.refuses)
refuses_no_program b l p (end.TooNested at) r h = absurd (nothing_wrong b (tokens_of l) p h.offset TooNested r h.refuses)
refuses_no_program b l p (end.Literal at) r h = absurd (nothing_wrong b (tokens_of l) p h.offset Literal r h.refuses)
refuses_no_program b l p end.NoMemory r h = refl
