-- At one token one limit on items is passed at most: what an item's first token opens below it is no item.
use Rattle.std.proofs.Common.{◌≡◌, ◌∙◌, refl, ap, sym, subst, Bool, true, false, if◌then◌else◌, nat_lt, List, [], ◌∷◌, ◌++◌, Some, None}
use Rattle.cf_base.specs.declared.limit.Limit.{Limit}
use Rattle.cf_grammar.proofs.Follow.{every}
use Rattle.cf_grammar.proofs.Front.{of_each}
use Rattle.cf_grammar.specs.Choosing.{side}
use Rattle.cf_grammar.specs.Grammar.{rules, Takes, Among, Derives, Leads, start, done, token, phrase}
use Rattle.cf_grammar.specs.Grammar as grammar
use Rattle.cf_grammar.specs.Laws.{OneChoice}
use Rattle.cf_grammar.specs.Refusing.{over}
use Rattle.cf_grammar.specs.declared.classes.Class.{Class}
use Rattle.cf_grammar.specs.declared.endings.Fault.TheVariants.{Many, Nested}
use Rattle.cf_grammar.specs.declared.phrases.Phrase.{Phrase}
use Rattle.cf_grammar.specs.declared.phrases.Phrase.TheVariants.{Decl, Param, Ctor, Field, Term, Chain, App, Head, Atom, Code, Operand, Arg}
use Rattle.cf_grammar.specs.declared.phrases.Symbol.{Symbol}
use Rattle.cf_grammar.specs.declared.phrases.Symbol.TheVariants.{Is as is, AnyName as NAME, Phrase as a}
use Rattle.cf_syntax.proofs.Cases.{none_some, clash}
use Rattle.cf_syntax.proofs.Closing.{leads_token, leads_phrase, right_of}
use Rattle.cf_syntax.specs.Refusals.{Begins}

-- ---- what is below an item at its first token

-- the phrases that a term's first token may open
abbrev in_term : Phrase → Bool
in_term (Term x d) = true
in_term (Chain x d) = true
in_term (App x d) = true
in_term (Head x d) = true
in_term (Atom x d) = true
in_term (Code x d) = true
in_term _ = false

-- such a phrase, or a token, stands first
abbrev is_inner : List Symbol → Bool
is_inner [] = false
is_inner (is j ∷ ys) = true
is_inner (NAME ∷ ys) = true
is_inner (a m ∷ ys) = in_term m

stays_inner : (m : Phrase) → in_term m ≡ true → every is_inner (rules m) ≡ true
stays_inner (Term true d) e = refl
stays_inner (Term false d) e = refl
stays_inner (Chain x d) e = refl
stays_inner (App x d) e = refl
stays_inner (Head true d) e = refl
stays_inner (Head false d) e = refl
stays_inner (Atom true d) e = refl
stays_inner (Atom false d) e = refl
stays_inner (Code x d) e = refl
stays_inner _ e = clash (sym e)

nested_many : {A : Type 0} (b : Bool) {l : Limit} → (if b then None else Some Nested) ≡ Some (Many l) → A
nested_many true e = none_some e
nested_many false e = clash (ap (λ o. elim o [ None ↦ true | Some f ↦ elim f [ Many l ↦ false | Nested ↦ true ] ]) e)

-- an item is opened by a token, or by a term
item_is_inner : (m : Phrase) {l : Limit} → over m ≡ Some (Many l) → every is_inner (rules m) ≡ true
item_is_inner (Decl x k) e = refl
item_is_inner (Param k) e = refl
item_is_inner (Ctor x k) e = refl
item_is_inner (Field x k) e = refl
item_is_inner (Operand x d k) e = refl
item_is_inner (Arg true d k) e = refl
item_is_inner (Arg false d k) e = refl
item_is_inner (Term x d) e = nested_many (nat_lt d 201) e
item_is_inner (Code x d) e = nested_many (nat_lt d 201) e
item_is_inner _ e = none_some e

no_item : {A : Type 0} (m : Phrase) {l : Limit} → in_term m ≡ true → over m ≡ Some (Many l) → A
no_item (Term x d) e f = nested_many (nat_lt d 201) f
no_item (Code x d) e f = nested_many (nat_lt d 201) f
no_item (Chain x d) e f = none_some f
no_item (App x d) e f = none_some f
no_item (Head x d) e f = none_some f
no_item (Atom x d) e f = none_some f
no_item _ e f = clash (sym e)

inner_more : (r ys : List Symbol) → is_inner r ≡ true → is_inner (r ++ ys) ≡ true
inner_more [] ys e = clash (sym e)
inner_more (is j ∷ r) ys e = e
inner_more (NAME ∷ r) ys e = e
inner_more (a m ∷ r) ys e = e

leads_inner : {xs zs : List Symbol} → Leads xs [] zs → is_inner xs ≡ true → is_inner zs ≡ true
leads_inner grammar.none e = e
leads_inner (grammar.phrase {n = n} {r = r} {ys = ys} c g) e = leads_inner g (inner_more r ys (of_each is_inner c (stays_inner n e)))

many_inj : {l m : Limit} → Some (Many l) ≡ Some (Many m) → l ≡ m
many_inj {l = l} e = ap (λ o. elim o [ None ↦ l | Some f ↦ elim f [ Many k ↦ k | Nested ↦ l ] ]) e

below : {n m : Phrase} {ys zs : List Symbol} {l k : Limit} → Leads (a n ∷ ys) [] (a m ∷ zs) → over n ≡ Some (Many l) → over m ≡ Some (Many k) → l ≡ k
below grammar.none e f = many_inj (sym e ∙ f)
below {n = n} {m = m} {ys = ys} (grammar.phrase {r = r} c g) e f = no_item m (leads_inner g (inner_more r ys (of_each is_inner c (item_is_inner n e)))) f

-- ---- two ways to one token

join : {xs ys : List Symbol} {b l : List Class} → Leads xs b ys → Derives ys l → Derives xs (b ++ l)
join grammar.none d = d
join (grammar.token t g) d = token t (join g d)
join (grammar.phrase c g) d = phrase c (join g d)

abbrev head_or : Class → List Class → Class
head_or k [] = k
head_or k (j ∷ l) = j

abbrev tail_of : List Class → List Class
tail_of [] = []
tail_of (j ∷ l) = l

no_takes : {A : Type 0} {n : Phrase} {k : Class} → Takes (a n) k → A
no_takes t = elim t [ ]

-- one way goes on to where the other ends, with no token between
data Met (xs ys : List Symbol) : Type 0 where
  onward : Leads xs [] ys → Met xs ys
  backward : Leads ys [] xs → Met xs ys

module _ (choice : OneChoice) where
  -- the first token tells the right side
  right_is : {before : List Class} {n : Phrase} {ys : List Symbol} (b : List Class) (k : Class) (m : List Class) (d : Derives (a n ∷ ys) (b ++ k ∷ m)) → Leads start before (a n ∷ ys)
      → right_of d ≡ side n (head_or k b)
  right_is {before = before} {n = n} {ys = ys} [] k m d g = ap right_of (choice before n k ys m g d).opened
  right_is {before = before} {n = n} {ys = ys} (j ∷ b) k m d g = ap right_of (choice before n j ys (b ++ k ∷ m) g d).opened

  -- two ways over the same tokens, with the same token behind them
  meet : {xs ys zs : List Symbol} {b c before : List Class} (k : Class) (m l : List Class) → Leads xs b ys → Leads xs c zs → b ≡ c → Derives ys (k ∷ m) → Derives zs (k ∷ l)
      → Leads start before xs → Met ys zs
  meet {xs = xs} {zs = zs} k m l grammar.none h e d f s = onward (subst (λ b. Leads xs b zs) (sym e) h)
  meet {xs = xs} {ys = ys} k m l g grammar.none e d f s = backward (subst (λ b. Leads xs b ys) e g)
  meet k m l (grammar.token t g) (grammar.token u h) e d f s = meet k m l g h (ap tail_of e) d f (leads_token s t)
  meet k m l (grammar.token t g) (grammar.phrase i h) e d f s = no_takes t
  meet k m l (grammar.phrase i g) (grammar.token t h) e d f s = no_takes t
  meet {zs = zs} {b = b} {c = c} k m l (grammar.phrase {n = n} {r = r} {ys = ys} i g) (grammar.phrase {r = q} j h) e d f s =
      let o : r ≡ side n (head_or k b) = right_is b k m (phrase i (join g d)) s in
      let p : q ≡ side n (head_or k c) = right_is c k l (phrase j (join h f)) s in
      let w : q ≡ r = p ∙ ap (λ x. side n (head_or k x)) (sym e) ∙ sym o in
      meet k m l g (subst (λ x. Leads (x ++ ys) c zs) w h) e d f (leads_phrase s i)

  -- where items of two kinds are too many with one token, they are of one kind
  pub one_limit : (before : List Class) (k : Class) (n m : Phrase) (l o : Limit) → Begins before k n → over n ≡ Some (Many l) → Begins before k m → over m ≡ Some (Many o) → l ≡ o
  one_limit before k n m l o s e t f = by_cases (meet k s.more t.more s.reached t.reached refl s.goes_on t.goes_on grammar.none)
    where
      by_cases : Met (a n ∷ s.others) (a m ∷ t.others) → l ≡ o
      by_cases (onward g) = below g e f
      by_cases (backward g) = sym (below g f e)
