-- What the grammar says of the tokens is what is wrong with the first of them with which something is.
use Rattle.std.proofs.Common.{◌≡◌, ◌∙◌, refl, ap, sym, subst, arith, append_assoc, ℕ, suc, ◌+◌, ◌≤◌, ◌<◌, true, false, List, [], ◌∷◌, ◌++◌, length, length-append, Option, Some, None}
use Rattle.cf_base.specs.declared.limit.Limit.{Limit}
use Rattle.cf_grammar.proofs.Items.{items_are_first}
use Rattle.cf_grammar.proofs.Reached.{one_choice}
use Rattle.cf_grammar.specs.Choosing.{side}
use Rattle.cf_grammar.specs.Grammar.{rules, Takes, Among, Derives, Leads, start, IsProgram, done, token, phrase}
use Rattle.cf_grammar.specs.Grammar as grammar
use Rattle.cf_grammar.specs.Laws.{item, item_excess, NoneUpTo}
use Rattle.cf_grammar.specs.Refusing.{excess, or_later, over, IsDead, NoneBefore}
use Rattle.cf_grammar.specs.declared.classes.Class.{Class}
use Rattle.cf_grammar.specs.declared.endings.Fault.{Fault}
use Rattle.cf_grammar.specs.declared.endings.Fault.TheVariants.{Many, Nested}
use Rattle.cf_grammar.specs.declared.phrases.Phrase.{Phrase}
use Rattle.cf_grammar.specs.declared.phrases.Symbol.{Symbol}
use Rattle.cf_grammar.specs.declared.phrases.Symbol.TheVariants.{Phrase as a}
use Rattle.cf_syntax.specs.Checks.{AllInRange, one}
use Rattle.cf_syntax.proofs.Closing.{closed, closed_behind, closed_opened, leads_token, leads_phrase, never_ends, right_of, some, some_opened}
use Rattle.cf_syntax.proofs.Cases.{none_some, some_inj, clash}
use Rattle.cf_syntax.specs.Numbers.{in_range}
use Rattle.cf_syntax.specs.Refusals.{Begins, IsWrong, dead, many, nested, range, Literal, Refuses, Syntax, TooMany, TooNested, Wrong, rank}
use Rattle.cf_syntax.specs.Tokens.{Token, classes}

-- the first phrase that a test finds in a derivation
abbrev first_of : {ys : List Symbol} {l : List Class} → (Phrase → Option Fault) → Derives ys l → ℕ → Option (ℕ × Fault)
first_of o done i = None
first_of o (token t d) i = first_of o d (suc i)
first_of o (phrase {n = n} c d) i = or_later (o n) i (first_of o d i)

is_excess : {ys : List Symbol} {l : List Class} (d : Derives ys l) (i : ℕ) → first_of over d i ≡ excess d i
is_excess done i = refl
is_excess (token t d) i = is_excess d (suc i)
is_excess (phrase {n = n} c d) i = ap (or_later (over n) i) (is_excess d i)

is_item : {ys : List Symbol} {l : List Class} (d : Derives ys l) (i : ℕ) → first_of (λ n. item (over n)) d i ≡ item_excess d i
is_item done i = refl
is_item (token t d) i = is_item d (suc i)
is_item (phrase {n = n} c d) i = ap (or_later (item (over n)) i) (is_item d i)

-- something is found, with a token up to this one
pub record FoundBy (o : Option (ℕ × Fault)) (most : ℕ) : Type 0 where
  pub at : ℕ
  pub fault : Fault
  pub is : o ≡ Some (at, fault)
  pub early : at ≤ most

found_or : (o : Option Fault) (i most : ℕ) (later : Option (ℕ × Fault)) → i ≤ most → FoundBy later most → FoundBy (or_later o i later) most
found_or None i most later h f = f
found_or (Some g) i most later h f = record { at = i; fault = g; is = refl; early = h }

-- a derivation behind what leads to it
join : {xs ys : List Symbol} {b l : List Class} → Leads xs b ys → Derives ys l → Derives xs (b ++ l)
join grammar.none d = d
join (grammar.token t g) d = token t (join g d)
join (grammar.phrase c g) d = phrase c (join g d)

no_takes : {A : Type 0} {n : Phrase} {k : Class} → Takes (a n) k → A
no_takes t = elim t [ ]

abbrev tail_of : List Class → List Class
tail_of [] = []
tail_of (j ∷ l) = l

no_nil : {A : Type 0} {k : Class} {l : List Class} → [] ≡ k ∷ l → A
no_nil e = absurd (subst is_nil e tt)
  where
    is_nil : List Class → Type 0
    is_nil [] = Unit {0}
    is_nil (x ∷ xs) = ⊥

right_is : {before : List Class} {n : Phrase} {ys : List Symbol} (k : Class) (ks l : List Class) → k ∷ ks ≡ l → (d : Derives (a n ∷ ys) l) → Leads start before (a n ∷ ys) → right_of d ≡ side n k
right_is {before = before} {n = n} {ys = ys} k ks l e d g =
    subst (λ m. (d : Derives (a n ∷ ys) m) → right_of d ≡ side n k) e (λ d. ap right_of (one_choice before n k ys ks g d).opened) d

-- two derivations whose texts begin alike take the same right side first
same_right : {before : List Class} {n : Phrase} {ys : List Symbol} (b : List Class) (k : Class) (m m' l : List Class) → b ++ k ∷ m ≡ l → (d : Derives (a n ∷ ys) l) → (e : Derives (a n ∷ ys) (b ++ k ∷ m')) → Leads start before (a n ∷ ys) → right_of e ≡ right_of d
same_right [] k m m' l q d e g = right_is k m' (k ∷ m') refl e g ∙ sym (right_is k m l q d g)
same_right (j ∷ b) k m m' l q d e g = right_is j (b ++ k ∷ m') (j ∷ (b ++ k ∷ m')) refl e g ∙ sym (right_is j (b ++ k ∷ m) l q d g)

-- a phrase that the test finds at a token of one program is found, there or before, in each program that begins with the same tokens
shared : {xs others : List Symbol} {n : Phrase} {b before more l : List Class} {k : Class} {f : Fault} (o : Phrase → Option Fault) (m : List Class) → Leads xs b (a n ∷ others) → Leads start before xs → Derives (a n ∷ others) (k ∷ more) → o n ≡ Some f → (d : Derives xs l) → b ++ k ∷ m ≡ l → (i : ℕ) → FoundBy (first_of o d i) (i + length b)
shared o m grammar.none h g e (token t d) q i = no_takes t
shared {f = f} o m grammar.none h g e (phrase c d) q i = record { at = i; fault = f; is = ap (λ x. or_later x i (first_of o d i)) e; early = omega arith }
shared o m (grammar.token {ks = b'} t g') h g e (token u d) q i =
    let r = shared o m g' (leads_token h t) g e d (ap tail_of q) (suc i) in
    record { at = r.at; fault = r.fault; is = r.is; early = omega (arith, r.early) }
shared o m (grammar.token t g') h g e (phrase c d) q i = no_takes t
shared o m (grammar.phrase c g') h g e (token t d) q i = no_takes t
shared {b = b} {more = more} {l = l} {k = k} o m (grammar.phrase {n = n'} {r = r'} {ys = ys} c g') h g e (phrase {r = r} c' d) q i =
    let z : r' ≡ r = same_right b k m more l q (phrase c' d) (phrase c (join g' g)) h in
    let w = subst (λ x. (d : Derives (x ++ ys) l) → FoundBy (first_of o d i) (i + length b)) z (λ d. shared o m g' (leads_phrase h c) g e d q i) d in
    found_or (o n') i (i + length b) (first_of o d i) (omega arith) w

-- where a derivation passes a limit first
pub record Passing (l : List Class) (j : ℕ) (f : Fault) : Type 0 where
  pub before : List Class
  pub k : Class
  pub rest : List Class
  pub n : Phrase
  pub others : List Symbol
  pub parted : l ≡ before ++ k ∷ rest
  pub number : length before ≡ j
  pub reached : Leads start before (a n ∷ others)
  pub goes_on : Derives (a n ∷ others) (k ∷ rest)
  pub passes : over n ≡ Some f

abbrev pair_at : (ℕ × Fault) → Option (ℕ × Fault) → ℕ × Fault
pair_at p None = p
pair_at p (Some q) = q

pub passing : {xs : List Symbol} {l : List Class} {j : ℕ} {f : Fault} (before : List Class) (i : ℕ) → Leads start before xs → length before ≡ i → closed xs ≡ true → (d : Derives xs l) → excess d i ≡ Some (j, f) → Passing (before ++ l) j f
passing before i h q c done e = none_some e
passing {j = j} {f = f} before i h q c (token {y = y} {k = k} {ys = ys} {ks = l} t d) e =
    let n : length (before ++ k ∷ []) ≡ suc i = omega (arith, length-append before (k ∷ []), q) in
    subst (λ z. Passing z j f) (append_assoc before (k ∷ []) l) (passing (before ++ k ∷ []) (suc i) (leads_token h t) n (closed_behind y ys c) d e)
passing {l = l} {j = j} {f = f} before i h q c (phrase {n = n} {r = r} {ys = ys} s d) e = by_cases (over n) refl (λ x. passing before i (leads_phrase h s) q (closed_opened r n ys c) d x) e
  where
    here : {g : Fault} → over n ≡ Some g → i ≡ j → g ≡ f → (m : List Class) → m ≡ l → Derives (a n ∷ ys) m → some m ≡ true → Passing (before ++ l) j f
    here o u v [] w x y = clash (sym y)
    here o u v (k ∷ m) w x y = record { before = before; k = k; rest = m; n = n; others = ys; parted = ap (λ z. before ++ z) (sym w); number = q ∙ u; reached = h; goes_on = x; passes = o ∙ ap Some v }

    by_cases : (o : Option Fault) → over n ≡ o → (excess d i ≡ Some (j, f) → Passing (before ++ l) j f) → or_later o i (excess d i) ≡ Some (j, f) → Passing (before ++ l) j f
    by_cases None o go x = go x
    by_cases (Some g) o go x =
        let z = some_inj x in
        here o (ap (λ p. p.0) z) (ap (λ p. p.1) z) l refl (phrase s d) (never_ends d (closed_opened r n ys c) (some_opened r n ys c))

abbrev head_or : Class → List Class → Class
head_or k [] = k
head_or k (j ∷ l) = j

parted_classes : (ls : List Token) (k : Token) (rest : List Token) {ks : List Token} → ks ≡ ls ++ k ∷ rest → classes ks ≡ classes ls ++ k.class ∷ classes rest
parted_classes ls k rest e = ap classes e ∙ joined ls
  where
    joined : (ls : List Token) → classes (ls ++ k ∷ rest) ≡ classes ls ++ k.class ∷ classes rest
    joined [] = refl
    joined (l ∷ ls) = ap (λ z. l.class ∷ z) (joined ls)

-- some program begins with these tokens, and no phrase past a limit begins among them
pub record Unspoiled (cs : List Class) : Type 0 where
  pub more : List Class
  pub program : IsProgram (cs ++ more)
  pub fine : NoneBefore (length cs) (excess program 0)

none_less : (i j : ℕ) (o : Option (ℕ × Fault)) → i ≤ j → NoneBefore j o → NoneBefore i o
none_less i j None h n = tt
none_less i j (Some p) h n = omega (arith, h, n)

pub unspoiled_front : (cs ds : List Class) → Unspoiled (cs ++ ds) → Unspoiled cs
unspoiled_front cs ds u =
    let e = append_assoc cs ds u.more in
    let n : NoneBefore (length cs) (excess u.program 0) = none_less (length cs) (length (cs ++ ds)) (excess u.program 0) (omega (arith, length-append cs ds)) u.fine in
    subst_program (ds ++ u.more) e u.program n
  where
    subst_program : (more : List Class) {l : List Class} → l ≡ cs ++ more → (d : IsProgram l) → NoneBefore (length cs) (excess d 0) → Unspoiled cs
    subst_program more e d n = subst (λ l. (d : IsProgram l) → NoneBefore (length cs) (excess d 0) → Unspoiled cs) (sym e) (λ d n. record { more = more; program = d; fine = n }) d n

some_is : {x y : ℕ × Fault} → Some x ≡ Some y → x ≡ y
some_is {x = x} e = ap (pair_at x) e

spoils : {cs : List Class} (b : List Class) (k : Class) (rest : List Class) (u : Unspoiled cs) → cs ≡ b ++ k ∷ rest → {n : Phrase} {f : Fault} → Begins b k n → over n ≡ Some f → ⊥
spoils {cs = cs} b k rest u e s o =
    let q : b ++ k ∷ (rest ++ u.more) ≡ cs ++ u.more = sym (append_assoc b (k ∷ rest) u.more) ∙ ap (λ z. z ++ u.more) (sym e) in
    let r = shared over (rest ++ u.more) s.reached grammar.none s.goes_on o u.program q 0 in
    let x : excess u.program 0 ≡ Some (r.at, r.fault) = sym (is_excess u.program 0) ∙ r.is in
    let y : length cs ≤ r.at = subst (λ z. NoneBefore (length cs) z) x u.fine in
    let z : length cs ≡ length b + suc (length rest) = ap length e ∙ length-append b (k ∷ rest) in
    absurd (omega (arith, r.early, y, z))

-- then only a number can be wrong
pub only_range : {ks : List Token} (ls rest : List Token) {k : Token} {w : Wrong} → Unspoiled (classes ks) → ks ≡ ls ++ k ∷ rest → IsWrong (classes ls) k w → (w ≡ Literal) × (in_range k.class k.text ≡ false)
only_range ls rest {k = k} u e (dead x) =
    let q = parted_classes ls k rest e in
    absurd (x (classes rest ++ u.more) (subst IsProgram (ap (λ z. z ++ u.more) q ∙ append_assoc (classes ls) (k.class ∷ classes rest) u.more ∙ sym (append_assoc (classes ls) (k.class ∷ []) (classes rest ++ u.more))) u.program))
only_range ls rest {k = k} u e (many s o) = absurd (spoils (classes ls) k.class (classes rest) u (parted_classes ls k rest e) s o)
only_range ls rest {k = k} u e (nested s o) = absurd (spoils (classes ls) k.class (classes rest) u (parted_classes ls k rest e) s o)
only_range ls rest u e (range x) = (refl, x)

in_all : (ls rest : List Token) (k : Token) (ks : List Token) → AllInRange ks → ks ≡ ls ++ k ∷ rest → in_range k.class k.text ≡ true
in_all ls rest k ks h e = by_list ls (subst AllInRange e h)
  where
    by_list : (ls : List Token) → AllInRange (ls ++ k ∷ rest) → in_range k.class k.text ≡ true
    by_list [] (one q n) = q
    by_list (l ∷ ls) (one q n) = by_list ls n

-- nothing is wrong with these tokens
pub clean : {ks : List Token} → Unspoiled (classes ks) → AllInRange ks → (ls : List Token) (k : Token) (rest : List Token) (w : Wrong) → ks ≡ ls ++ k ∷ rest → IsWrong (classes ls) k w → ⊥
clean {ks = ks} u h ls k rest w e x = clash (sym (in_all ls rest k ks h e) ∙ (only_range ls rest u e x).1)

-- a number out of range, where nothing else is wrong up to it
pub literal_refused : (before after : List Token) (this : Token) → Unspoiled (classes (before ++ this ∷ [])) → AllInRange before → in_range this.class this.text ≡ false → Refuses (before ++ this ∷ after) this.at Literal
literal_refused before after this u h e =
    let v = unspoiled_front (classes before) (this.class ∷ []) (subst Unspoiled (parted_classes before this [] refl) u) in
    record { before = before; this = this; after = after; split = refl; place = refl; wrong = range e; least = λ w x. least w (only_range before [] u refl x).0; first = clean v h }
  where
    least : (w : Wrong) → w ≡ Literal → rank Literal ≤ rank w
    least w e = subst (λ w. rank Literal ≤ rank w) (sym e) (omega arith)

pub syntax_refused : (before after : List Token) (this : Token) → Unspoiled (classes before) → AllInRange before → IsDead (classes before ++ this.class ∷ []) → Refuses (before ++ this ∷ after) this.at Syntax
syntax_refused before after this u h e =
    record { before = before; this = this; after = after; split = refl; place = refl; wrong = dead e; least = λ w x. omega arith; first = clean u h }

-- why a phrase past a limit is refused
abbrev pub wrong_of : Fault → Wrong
wrong_of (Many l) = TooMany l
wrong_of Nested = TooNested

same_cut : (xs ys xs' ys' : List Class) (x y : Class) → xs ++ x ∷ xs' ≡ ys ++ y ∷ ys' → length xs ≡ length ys → (xs ≡ ys) × (x ≡ y)
same_cut [] [] xs' ys' x y e n = (refl, ap (head_or x) e)
same_cut [] (z ∷ ys) xs' ys' x y e n = absurd (omega (arith, n))
same_cut (z ∷ xs) [] xs' ys' x y e n = absurd (omega (arith, n))
same_cut (z ∷ xs) (w ∷ ys) xs' ys' x y e n =
    let o = same_cut xs ys xs' ys' x y (ap tail_of e) (omega (arith, n)) in
    ((λ i. head_or z (e i) ∷ o.0 i), o.1)

passes_at : (before : List Class) (k : Class) (more : List Class) (f : Fault) → Passing (before ++ k ∷ more) (length before) f → (n : Phrase) × Begins before k n × (over n ≡ Some f)
passes_at before k more f p =
    let o = same_cut p.before before p.rest more p.k k (sym p.parted) p.number in
    (p.n, record { others = p.others; more = p.rest; reached = subst (λ z. Leads start z (a p.n ∷ p.others)) o.0 p.reached; goes_on = subst (λ z. Derives (a p.n ∷ p.others) (z ∷ p.rest)) o.1 p.goes_on }, p.passes)

pub past_refused : (before after : List Token) (this : Token) (f : Fault) (more : List Class) → IsProgram (classes before ++ this.class ∷ more) → ((m : List Class) (d : IsProgram (classes before ++ this.class ∷ m)) → excess d 0 ≡ Some (length (classes before), f)) → AllInRange before → Refuses (before ++ this ∷ after) this.at (wrong_of f)
past_refused before after this f more d passes h =
    let p = passes_at (classes before) this.class more f (passing [] 0 grammar.none refl refl d (passes more d)) in
    let u : Unspoiled (classes before) = record { more = this.class ∷ more; program = d; fine = subst (λ z. NoneBefore (length (classes before)) z) (sym (passes more d)) (omega arith) } in
    record { before = before; this = this; after = after; split = refl; place = refl; wrong = wrong f p.1 p.2; least = λ w x. least f (passes more d) w x; first = clean u h }
  where
    wrong : (f : Fault) {n : Phrase} → Begins (classes before) this.class n → over n ≡ Some f → IsWrong (classes before) this (wrong_of f)
    wrong (Many l) s o = many s o
    wrong Nested s o = nested s o

    not_dead : IsDead (classes before ++ this.class ∷ []) → ⊥
    not_dead x = x more (subst IsProgram (sym (append_assoc (classes before) (this.class ∷ []) more)) d)

    no_item : {n : Phrase} {l : Limit} → excess d 0 ≡ Some (length (classes before), Nested) → Begins (classes before) this.class n → over n ≡ Some (Many l) → ⊥
    no_item e s o =
        let r = shared (λ n. item (over n)) more s.reached grammar.none s.goes_on (ap item o) d refl 0 in
        let x : item_excess d 0 ≡ Some (r.at, r.fault) = sym (is_item d 0) ∙ r.is in
        let y : length (classes before) < r.at = subst (λ z. NoneUpTo (length (classes before)) z) x (items_are_first (classes before ++ this.class ∷ more) d (length (classes before)) e) in
        absurd (omega (arith, r.early, y))

    least : (f : Fault) → excess d 0 ≡ Some (length (classes before), f) → (w : Wrong) → IsWrong (classes before) this w → rank (wrong_of f) ≤ rank w
    least f e Syntax (dead x) = absurd (not_dead x)
    least (Many l) e (TooMany m) (many s o) = omega arith
    least (Many l) e TooNested (nested s o) = omega arith
    least (Many l) e Literal (range x) = omega arith
    least Nested e (TooMany m) (many s o) = absurd (no_item e s o)
    least Nested e TooNested (nested s o) = omega arith
    least Nested e Literal (range x) = omega arith
