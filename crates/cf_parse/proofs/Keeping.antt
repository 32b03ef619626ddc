-- Each tree of productions means what its symbol's kind says, so each declaration of the text is one of the program.
use Rattle.std.proofs.Common.{◌≡◌, ◌∙◌, refl, ap, sym, subst, arith, ℕ, zero, suc, Bool, true, false, ◌&&◌, List, [], ◌∷◌, ◌++◌, length, map, Some, slice_get}
use Rattle.cf_base.specs.declared.at.At.{At}
use Rattle.cf_tree.specs.Tree as trees
use Rattle.cf_lex.specs.declared.keywords.Keyword.TheVariants as keyword
use Rattle.cf_lex.specs.declared.marks.Mark.TheVariants as mark
use Rattle.cf_grammar.specs.Grammar.{rules, sign, word, Takes}
use Rattle.cf_grammar.specs.Productions.{productions}
use Rattle.cf_grammar.specs.Refusing.{over}
use Rattle.cf_grammar.specs.declared.classes.Class.{Class}
use Rattle.cf_grammar.specs.declared.phrases.Phrase.{Phrase}
use Rattle.cf_grammar.specs.declared.phrases.Phrase.TheVariants as phrase
use Rattle.cf_grammar.specs.declared.phrases.Symbol.{Symbol}
use Rattle.cf_grammar.specs.declared.phrases.Symbol.TheVariants.{Is as is, Phrase as a}
use Rattle.cf_parse.proofs.Evaluating.{firsts_of, token_fits}
use Rattle.cf_parse.proofs.Fitting.{acted, acting, mapped_there, matched, nothing_fits, optional, right}
use Rattle.cf_parse.proofs.Steps.{no_phrase}
use Rattle.cf_parse.specs.Derivation.{Cst, branch, Csts, nil, cons, Parses, ParsesAll}
use Rattle.cf_parse.specs.Derivation as derivation
use Rattle.cf_parse.specs.Evaluation.{action, arity, firsts}
use Rattle.cf_parse.specs.Kinds as kind
use Rattle.cf_parse.specs.Kinds.{Fits, AllFit, end, next, a_decl, kind_of, of_symbol}
use Rattle.cf_parse.specs.Laws.{KeepsDeclarations, decl_in, declarations}
use Rattle.cf_parse.specs.Meaning.{Sem, actions, also, decl, decls_in, meaning, program_of, run, value, values}
use Rattle.cf_parse.specs.Reads.{within, within_all, within_limit}
use Rattle.cf_parse.specs.Standing.{nullable}
use Rattle.cf_syntax.proofs.Cases.{clash, none_some, some_inj}
use Rattle.cf_syntax.specs.Places.{place}
use Rattle.cf_syntax.specs.Tokens.{Token}

and_left : (x y : Bool) → (x && y) ≡ true → x ≡ true
and_left true y e = refl
and_left false y e = e

and_right : (x y : Bool) → (x && y) ≡ true → y ≡ true
and_right true y e = e
and_right false y e = clash (sym e)

append_none : {A : Type 0} (xs : List A) → xs ++ [] ≡ xs
append_none [] = refl
append_none (x ∷ xs) = ap (λ ys. x ∷ ys) (append_none xs)

-- a right side without symbols is among the right sides
nullable_there : (rs : List (List Symbol)) (w : ℕ) → slice_get rs w ≡ Some [] → nullable rs ≡ true
nullable_there [] w e = none_some e
nullable_there ([] ∷ rs) w e = refl
nullable_there ((y ∷ ys) ∷ rs) zero e = absurd (subst is_cons (some_inj e) tt)
  where
    is_cons : List Symbol → Type 0
    is_cons [] = ⊥
    is_cons (z ∷ zs) = Unit {0}
nullable_there ((y ∷ ys) ∷ rs) (suc w) e = nullable_there rs w e

-- as many meanings as symbols
mapped_length : (r : List Symbol) → length (map of_symbol r) ≡ length r
mapped_length [] = refl
mapped_length (y ∷ r) = ap suc (mapped_length r)

-- what a right side makes of meanings of its symbols' kinds is of its phrase's kind
meaning_fits : (n : Phrase) (w : ℕ) (r : List Symbol) (vs : List Sem) (p : At) → slice_get (rules n) w ≡ Some r → length vs ≡ length r → AllFit (map of_symbol r) vs → Fits (kind_of n) (meaning n w p vs)
meaning_fits n w [] [] p e l h = nothing_fits (kind_of n) (optional n (nullable_there (rules n) w e))
meaning_fits n w (y ∷ r) [] p e l h = absurd (omega (arith, l))
meaning_fits n w r (v ∷ vs) p e l h =
    let way = right (rules n) (productions n) (kind_of n) (matched n) w r e in
    let act : slice_get (actions n) w ≡ Some (action way.by) = ap (λ l. slice_get l w) (sym (acting n)) ∙ mapped_there (productions n) w way.by way.there in
    let count : length (v ∷ vs) ≡ arity way.by = l ∙ sym (mapped_length r) ∙ ap length way.asks in
    let all : firsts (arity way.by) (v ∷ vs) ≡ v ∷ vs = ap (firsts (arity way.by)) (sym (append_none (v ∷ vs))) ∙ firsts_of (v ∷ vs) [] (arity way.by) count in
    subst (Fits (kind_of n)) (ap (action way.by p) all ∙ sym (ap (λ f. run f p (v ∷ vs)) act)) (acted way.by p (v ∷ vs) (kind_of n) (subst (λ js. AllFit js (v ∷ vs)) way.asks h) way.gives)

values_length : (b : Bool) {r : List Symbol} {cs : Csts} {ks ls : List Token} → ParsesAll r cs ks ls → length (values b cs) ≡ length r
values_length b derivation.ParsesAll.none = refl
values_length b (derivation.both p q) = ap suc (values_length b q)

mutual
  -- a tree means something of its symbol's kind
  pub fits : (b : Bool) {y : Symbol} {c : Cst} {ks ls : List Token} → Parses y c ks ls → within c ≡ true → Fits (of_symbol y) (value b c)
  fits b (derivation.token {y = y} {k = k} t) h = token_fits y k.class (place b k.at) k.text t h
  fits b (derivation.phrase {n = n} {which = w} {r = r} {cs = cs} {k = k} e p) h =
      meaning_fits n w r (values b cs) (place b k.at) e (values_length b p) (all_fit b p (and_right (within_limit (over n)) (within_all cs) h))

  all_fit : (b : Bool) {r : List Symbol} {cs : Csts} {ks ls : List Token} → ParsesAll r cs ks ls → within_all cs ≡ true → AllFit (map of_symbol r) (values b cs)
  all_fit b derivation.ParsesAll.none h = end
  all_fit b (derivation.both {c = c} {cs = cs} p q) h = next (fits b p (and_left (within c) (within_all cs) h)) (all_fit b q (and_right (within c) (within_all cs) h))

abbrev phrase_or : Phrase → Symbol → Phrase
phrase_or n (a m) = m
phrase_or n y = n

same_phrase : {n m : Phrase} → a n ≡ a m → n ≡ m
same_phrase {n = n} e = ap (phrase_or n) e

abbrev is_phrase : Symbol → Type 0
is_phrase (a n) = Unit {0}
is_phrase y = ⊥

-- the declarations that a tree has are those that its meaning lists
abbrev Kept : Bool → Cst → Type 0
Kept b c = map (λ c. decl_in (value b c)) (declarations c) ≡ map Some (decls_in (value b c))

-- what is known of the tree of a symbol: of a token's, of a declaration's, of that of declarations
record Known (b : Bool) (y : Symbol) (c : Cst) : Type 0 where
  fit : Fits (of_symbol y) (value b c)
  bare : (k : Class) → y ≡ is k → declarations c ≡ []
  alone : (x : Bool) (i : ℕ) → y ≡ a (phrase.Decl x i) → declarations c ≡ c ∷ []
  kept : (x : Bool) (i : ℕ) → y ≡ a (phrase.Decls x i) → Kept b c

data AllKnown (b : Bool) : List Symbol → Csts → Type 0 where
  none : AllKnown b [] nil
  both : {y : Symbol} {ys : List Symbol} {c : Cst} {cs : Csts} → Known b y c → AllKnown b ys cs → AllKnown b (y ∷ ys) (cons c cs)

decl_is : {v : Sem} → Fits kind.Decl v → (d : trees.DeclTree) × (v ≡ decl d)
decl_is (a_decl {d = d}) = (d, refl)

-- a declaration before others
put_before : (b : Bool) (c d : Cst) → Fits kind.Decl (value b c) → declarations c ≡ c ∷ [] → Kept b d → map (λ c. decl_in (value b c)) (declarations c ++ (declarations d ++ [])) ≡ map Some (decls_in (also (value b c) (value b d)))
put_before b c d f e h =
    let v = decl_is f in
    ap (λ l. map (λ c. decl_in (value b c)) (l ++ (declarations d ++ []))) e
    ∙ (λ i. decl_in (v.1 i) ∷ map (λ c. decl_in (value b c)) (append_none (declarations d) i))
    ∙ ap (λ l. Some v.0 ∷ l) h
    ∙ sym (ap (λ s. map Some (decls_in (also s (value b d)))) v.1)

-- declarations by each of their right sides
by_decls : (b x : Bool) (i w : ℕ) (r : List Symbol) (cs : Csts) (at : ℕ) → slice_get (rules (phrase.Decls x i)) w ≡ Some r → AllKnown b r cs → Kept b (branch (phrase.Decls x i) w at cs)
by_decls b x i zero r cs at e g = no_decls cs (subst (λ r. AllKnown b r cs) (sym (some_inj e)) g)
  where
    no_decls : (cs : Csts) → AllKnown b [] cs → Kept b (branch (phrase.Decls x i) 0 at cs)
    no_decls _ none = refl
by_decls b x i (suc zero) r cs at e g = more_decls cs (subst (λ r. AllKnown b r cs) (sym (some_inj e)) g)
  where
    more_decls : (cs : Csts) → AllKnown b (a (phrase.Decl x i) ∷ a (phrase.Decls x (suc i)) ∷ []) cs → Kept b (branch (phrase.Decls x i) 1 at cs)
    more_decls _ (both {c = c} k (both {c = d} m none)) = put_before b c d k.fit (k.alone x i refl) (m.kept x (suc i) refl)
by_decls b x i (suc (suc w)) r cs at e g = none_some e

mutual
  known : (b : Bool) {y : Symbol} {c : Cst} {ks ls : List Token} → Parses y c ks ls → within c ≡ true → Known b y c
  known b {y = y} (derivation.token {k = k} t) h = record {
    fit = fits b (derivation.token {k = k} {rest = []} t) h;
    bare = λ j e. refl;
    alone = λ x i e. no_phrase (subst (λ z. Takes z k.class) e t);
    kept = λ x i e. no_phrase (subst (λ z. Takes z k.class) e t);
  }
  known b (derivation.phrase {n = n} {which = w} {r = r} {cs = cs} {k = k} e p) h =
      let g = all_known b p (and_right (within_limit (over n)) (within_all cs) h) in
      record {
        fit = fits b (derivation.phrase e p) h;
        bare = λ j q. absurd (subst is_phrase q tt);
        alone = λ x i q. subst (λ m. declarations (branch m w k.at cs) ≡ branch m w k.at cs ∷ []) (sym (same_phrase q)) refl;
        kept = λ x i q. subst (λ m. Kept b (branch m w k.at cs)) (sym (same_phrase q)) (by_decls b x i w r cs k.at (subst (λ m. slice_get (rules m) w ≡ Some r) (same_phrase q) e) g);
      }

  all_known : (b : Bool) {r : List Symbol} {cs : Csts} {ks ls : List Token} → ParsesAll r cs ks ls → within_all cs ≡ true → AllKnown b r cs
  all_known b derivation.ParsesAll.none h = none
  all_known b (derivation.both {c = c} {cs = cs} p q) h = both (known b p (and_left (within c) (within_all cs) h)) (all_known b q (and_right (within c) (within_all cs) h))

-- the declarations of a program by each of its right sides
abbrev AsRead : Bool → Cst → Type 0
AsRead b c = (p : trees.Program) → program_of b c ≡ Some p → map (λ c. decl_in (value b c)) (declarations c) ≡ map Some p.decls

told : {p q : trees.Program} (b : Bool) (l : List Cst) → map (λ c. decl_in (value b c)) l ≡ map Some q.decls → Some q ≡ Some p → map (λ c. decl_in (value b c)) l ≡ map Some p.decls
told b l h e = h ∙ ap (λ (r : trees.Program). map Some r.decls) (some_inj e)

by_program : (b : Bool) (w : ℕ) (r : List Symbol) (cs : Csts) (at : ℕ) → slice_get (rules phrase.Program) w ≡ Some r → AllKnown b r cs → AsRead b (branch phrase.Program w at cs)
by_program b zero r cs at e g = explicit cs (subst (λ r. AllKnown b r cs) (sym (some_inj e)) g)
  where
    explicit : (cs : Csts) → AllKnown b (word keyword.Explicit ∷ sign mark.Semicolon ∷ a (phrase.Decls true 0) ∷ []) cs → AsRead b (branch phrase.Program 0 at cs)
    explicit _ (both k (both l (both {c = c} m none))) = λ p q. told b _ (ap (map (λ c. decl_in (value b c))) (λ i. k.bare _ refl i ++ (l.bare _ refl i ++ append_none (declarations c) i)) ∙ m.kept true 0 refl) q
by_program b (suc zero) r cs at e g = prelude cs (subst (λ r. AllKnown b r cs) (sym (some_inj e)) g)
  where
    prelude : (cs : Csts) → AllKnown b (word keyword.Use ∷ word keyword.Prelude ∷ sign mark.Semicolon ∷ a (phrase.Decls false 0) ∷ []) cs → AsRead b (branch phrase.Program 1 at cs)
    prelude _ (both j (both k (both l (both {c = c} m none)))) =
        λ p q. told b _ (ap (map (λ c. decl_in (value b c))) (λ i. j.bare _ refl i ++ (k.bare _ refl i ++ (l.bare _ refl i ++ append_none (declarations c) i))) ∙ m.kept false 0 refl) q
by_program b (suc (suc zero)) r cs at e g = plain cs (subst (λ r. AllKnown b r cs) (sym (some_inj e)) g)
  where
    plain : (cs : Csts) → AllKnown b (a (phrase.Decl false 0) ∷ a (phrase.Decls false 1) ∷ []) cs → AsRead b (branch phrase.Program 2 at cs)
    plain _ (both {c = c} k (both {c = d} m none)) = λ p q. told b _ (put_before b c d k.fit (k.alone false 0 refl) (m.kept false 1 refl)) q
by_program b (suc (suc (suc zero))) r cs at e g = empty cs (subst (λ r. AllKnown b r cs) (sym (some_inj e)) g)
  where
    empty : (cs : Csts) → AllKnown b [] cs → AsRead b (branch phrase.Program 3 at cs)
    empty _ none = λ p q. told b [] refl q
by_program b (suc (suc (suc (suc w)))) r cs at e g = none_some e

as_read : (b : Bool) {c : Cst} {ks ls : List Token} → Parses (a phrase.Program) c ks ls → within c ≡ true → AsRead b c
as_read b (derivation.token t) h = no_phrase t
as_read b (derivation.phrase {which = w} {r = r} {cs = cs} {k = k} e p) h = by_program b w r cs k.at e (all_known b p (and_right (within_limit (over phrase.Program)) (within_all cs) h))

pub keeps_declarations : KeepsDeclarations
keeps_declarations b ks p r = as_read b r.unlimited.parses r.limits p r.unlimited.means
