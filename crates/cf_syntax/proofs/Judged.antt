-- From what the grammar says of the classes, and the first number out of range, to what is answered.
use Rattle.std.proofs.Common.{◌≡◌, ◌∙◌, refl, ap, sym, subst, arith, append_assoc, ℕ, zero, suc, ◌+◌, ◌≤◌, ◌<◌, Bool, true, false, ◌&&◌, List, [], ◌∷◌, ◌++◌, length, length-append, map, take, drop, Some, None}
use Rattle.std.proofs.lemmas.List.{length-map}
use Rattle.std.specs.List.{list_all}
use Rattle.std.specs.Prelude.{slice_range}
use Rattle.cf_lex.specs.declared.token.TokenKind.{TokenKind}
use Rattle.cf_lex.specs.declared.token.TokenKind.TheVariants as kind
use Rattle.cf_lex.specs.Lexed.{TokenList}
use Rattle.cf_lex.specs.declared.token.Token as lexed
use Rattle.cf_grammar.specs.declared.endings.Ending.TheVariants as ending
use Rattle.cf_syntax.specs.Places.{IsPlace, front}
use Rattle.cf_base.specs.declared.at.At.{At}
use Rattle.cf_grammar.specs.Grammar.{IsProgram}
use Rattle.cf_grammar.specs.Refusing.{excess, IsFirstDead, IsFirstPast, IsDead, IsText, NoneBefore, Says}
use Rattle.cf_grammar.specs.declared.classes.Class.{Class}
use Rattle.cf_grammar.specs.declared.endings.Fault.{Fault}
use Rattle.cf_syntax.proofs.Refusing.{Unspoiled, unspoiled_front, literal_refused, syntax_refused, past_refused, wrong_of}
use Rattle.cf_syntax.proofs.Cases.{clash}
use Rattle.cf_syntax.specs.Checks as checks
use Rattle.cf_syntax.specs.Checks.{AllInRange, one, FirstBad, token_in_range}
use Rattle.cf_syntax.specs.Numbers.{in_range}
use Rattle.cf_syntax.specs.Refusals.{RefusedAt, Refuses, Literal, Syntax, Wrong}
use Rattle.cf_syntax.specs.Tokens.{Token, class_of, classes, end_of, token_of, tokens_of}

-- a list cut before one of its tokens
pub record Cut (ks : List Token) (r : ℕ) : Type 0 where
  pub before : List Token
  pub k : Token
  pub after : List Token
  pub parted : ks ≡ before ++ k ∷ after
  pub number : length before ≡ r
  pub taken : take r ks ≡ before
  pub dropped : drop r ks ≡ k ∷ after

pub cut : (ks : List Token) (r : ℕ) → r < length ks → Cut ks r
cut [] r h = absurd (omega (arith, h))
cut (k ∷ ks) zero h = record { before = []; k = k; after = ks; parted = refl; number = refl; taken = refl; dropped = refl }
cut (k ∷ ks) (suc r) h =
    let o = cut ks r (omega (arith, h)) in
    record { before = k ∷ o.before; k = o.k; after = o.after; parted = ap (λ z. k ∷ z) o.parted; number = ap suc o.number; taken = ap (λ z. k ∷ z) o.taken; dropped = o.dropped }

and_left : (x y : Bool) → (x && y) ≡ true → x ≡ true
and_left true y e = refl
and_left false y e = clash (sym e)

and_right : (x y : Bool) → (x && y) ≡ true → y ≡ true
and_right true y e = e
and_right false y e = clash (sym e)

pub all_in_range : (ks : List Token) → list_all token_in_range ks ≡ true → AllInRange ks
all_in_range [] e = checks.AllInRange.none
all_in_range (k ∷ ks) e = one (and_left _ _ e) (all_in_range ks (and_right _ _ e))

range_front : (xs ys : List Token) → AllInRange (xs ++ ys) → AllInRange xs
range_front [] ys h = checks.AllInRange.none
range_front (x ∷ xs) ys (one q h) = one q (range_front xs ys h)

abbrev head_or : Token → List Token → Token
head_or k [] = k
head_or k (j ∷ l) = j

abbrev tail_of : List Token → List Token
tail_of [] = []
tail_of (j ∷ l) = l

-- of two cuts of one list, the earlier one is within the front of the later one
pub earlier : (xs ys : List Token) (x y : Token) (us vs : List Token) → xs ++ x ∷ us ≡ ys ++ y ∷ vs → length xs < length ys → (zs : List Token) × (ys ≡ xs ++ x ∷ zs)
earlier [] [] x y us vs e h = absurd (omega (arith, h))
earlier [] (z ∷ ys) x y us vs e h = (ys, λ i. head_or x (sym e i) ∷ ys)
earlier (w ∷ xs) [] x y us vs e h = absurd (omega (arith, h))
earlier (w ∷ xs) (z ∷ ys) x y us vs e h =
    let o = earlier xs ys x y us vs (ap tail_of e) (omega (arith, h)) in
    (o.0, λ i. head_or w (sym e i) ∷ o.1 i)

pub front_of : (xs ys : List Token) (x y : Token) (us vs : List Token) → xs ++ x ∷ us ≡ ys ++ y ∷ vs → length ys ≤ length xs → AllInRange xs → AllInRange ys
front_of xs [] x y us vs e h al = checks.AllInRange.none
front_of [] (z ∷ ys) x y us vs e h al = absurd (omega (arith, h))
front_of (w ∷ xs) (z ∷ ys) x y us vs e h (one q al) = one (subst (λ k. in_range k.class k.text ≡ true) (ap (head_or w) e) q) (front_of xs ys x y us vs (ap tail_of e) (omega (arith, h)) al)

-- the tokens of a cut of their classes
pub record Parted (ks : List Token) (front : List Class) (next : Class) : Type 0 where
  pub before : List Token
  pub this : Token
  pub after : List Token
  pub split : ks ≡ before ++ this ∷ after
  pub fronts : classes before ≡ front
  pub nexts : this.class ≡ next

abbrev class_or : Class → List Class → Class
class_or k [] = k
class_or k (j ∷ l) = j

abbrev classes_of : List Class → List Class
classes_of [] = []
classes_of (j ∷ l) = l

no_nil : {A : Type 0} {k : Class} {l : List Class} → [] ≡ k ∷ l → A
no_nil e = absurd (subst is_nil e tt)
  where
    is_nil : List Class → Type 0
    is_nil [] = Unit {0}
    is_nil (x ∷ xs) = ⊥

pub part_tokens : (ks : List Token) (front : List Class) (next : Class) (rest : List Class) → classes ks ≡ front ++ next ∷ rest → Parted ks front next
part_tokens [] [] next rest e = no_nil e
part_tokens [] (f ∷ front) next rest e = no_nil e
part_tokens (k ∷ ks) [] next rest e = record { before = []; this = k; after = ks; split = refl; fronts = refl; nexts = ap (class_or next) e }
part_tokens (k ∷ ks) (f ∷ front) next rest e =
    let o = part_tokens ks front next rest (ap classes_of e) in
    record { before = k ∷ o.before; this = o.this; after = o.after; split = ap (λ z. k ∷ z) o.split; fronts = λ i. class_or f (e i) ∷ o.fronts i; nexts = o.nexts }

length_classes : (ks : List Token) → length (classes ks) ≡ length ks
length_classes [] = refl
length_classes (k ∷ ks) = ap suc (length_classes ks)

classes_append : (xs ys : List Token) → classes (xs ++ ys) ≡ classes xs ++ classes ys
classes_append [] ys = refl
classes_append (x ∷ xs) ys = ap (λ z. x.class ∷ z) (classes_append xs ys)

append_nil : (cs : List Class) → cs ++ [] ≡ cs
append_nil [] = refl
append_nil (c ∷ cs) = ap (λ z. c ∷ z) (append_nil cs)

-- a number out of range at number r, within tokens of which nothing else is wrong
pub early_literal : (ks before : List Token) (rest : List Token) (r : ℕ) → ks ≡ before ++ rest → Unspoiled (classes before) → r < length before → FirstBad ks r → r + 1 < length ks → (k : Token) (ls : List Token) → drop r ks ≡ k ∷ ls → Refuses ks k.at Literal
early_literal ks before rest r e u h f g k ls d =
    let o = cut ks r f.inside in
    let p = cut before r h in
    let q : o.before ++ o.k ∷ o.after ≡ p.before ++ p.k ∷ (p.after ++ rest) = sym o.parted ∙ e ∙ ap (λ z. z ++ rest) p.parted ∙ append_assoc p.before (p.k ∷ p.after) rest in
    let s = same o.before p.before o.k p.k o.after (p.after ++ rest) q (o.number ∙ sym p.number) in
    let kk : o.k ≡ k = ap (head_or o.k) (sym o.dropped ∙ d) in
    let v : Unspoiled (classes (o.before ++ o.k ∷ [])) = unspoiled_front (classes (o.before ++ o.k ∷ [])) (classes p.after) (subst Unspoiled (ap classes (p.parted ∙ (λ i. sym s.0 i ++ sym s.1 i ∷ p.after) ∙ sym (append_assoc o.before (o.k ∷ []) p.after)) ∙ classes_append (o.before ++ o.k ∷ []) p.after) u) in
    let a = all_in_range o.before (subst (λ z. list_all token_in_range z ≡ true) o.taken f.before) in
    subst (λ j. Refuses ks j.at Literal) kk (subst (λ z. Refuses z o.k.at Literal) (sym o.parted) (literal_refused o.before o.after o.k v a (f.bad o.k o.after o.dropped g)))
  where
    same : (xs ys : List Token) (x y : Token) (us vs : List Token) → xs ++ x ∷ us ≡ ys ++ y ∷ vs → length xs ≡ length ys → (xs ≡ ys) × (x ≡ y)
    same [] [] x y us vs e n = (refl, ap (head_or x) e)
    same [] (z ∷ ys) x y us vs e n = absurd (omega (arith, n))
    same (z ∷ xs) [] x y us vs e n = absurd (omega (arith, n))
    same (z ∷ xs) (w ∷ ys) x y us vs e n =
        let o = same xs ys x y us vs (ap tail_of e) (omega (arith, n)) in
        ((λ i. head_or z (e i) ∷ o.0 i), o.1)

pub whole_unspoiled : (cs : List Class) (d : IsProgram cs) → excess d 0 ≡ None → Unspoiled cs
whole_unspoiled cs d e = subst (λ l. (d : IsProgram l) → excess d 0 ≡ None → Unspoiled cs) (append_nil cs) (λ d e. record { more = []; program = d; fine = subst (λ z. NoneBefore (length cs) z) (sym e) tt }) d e

length_tokens : (f : lexed.Token → Token) (ts : List (lexed.Token)) (e : Token) → length (map f ts ++ e ∷ []) ≡ length ts + 1
length_tokens f [] e = refl
length_tokens f (t ∷ ts) e = omega (arith, length_tokens f ts e)

pub length_of : (l : TokenList) → length (tokens_of l) ≡ length l.tokens + 1
length_of l = length_tokens (token_of l) l.tokens (end_of l)

with_last : (xs : List Token) (e : Token) (r : ℕ) → in_range e.class e.text ≡ true → length xs ≤ r → AllInRange (take r (xs ++ e ∷ [])) → AllInRange (xs ++ e ∷ [])
with_last [] e r q h al = one q checks.AllInRange.none
with_last (x ∷ xs) e zero q h al = absurd (omega (arith, h))
with_last (x ∷ xs) e (suc r) q h (one p al) = one p (with_last xs e r q (omega (arith, h)) al)

-- no number is out of range
pub none_bad : (l : TokenList) (r : ℕ) → FirstBad (tokens_of l) r → length l.tokens ≤ r → AllInRange (tokens_of l)
none_bad l r f h = with_last (map (token_of l) l.tokens) (end_of l) r refl (omega (arith, h, length-map l.tokens (token_of l))) (all_in_range (take r (tokens_of l)) f.before)

pub refused_at : {b : Bool} {ks : List Token} {p : At} {w : Wrong} (k : Token) (ls : List Token) (r : ℕ) → IsPlace b (drop r ks) p → drop r ks ≡ k ∷ ls → Refuses ks k.at w → RefusedAt b ks p w
refused_at k ls r at_p d q = record { offset = k.at; at = at_p k ls d; refuses = q }

-- a number out of range before token i, where the tokens before that are fine
pub literal_before : {b : Bool} {p : At} (ks before rest : List Token) (r : ℕ) → ks ≡ before ++ rest → Unspoiled (classes before) → r < length before → FirstBad ks r → r + 1 < length ks → IsPlace b (drop r ks) p → RefusedAt b ks p Literal
literal_before ks before rest r e u h f g at_p =
    let o = cut ks r f.inside in
    refused_at o.k o.after r at_p o.dropped (early_literal ks before rest r e u h f g o.k o.after o.dropped)

append_nil' : (ks : List Token) → ks ≡ ks ++ []
append_nil' [] = refl
append_nil' (k ∷ ks) = ap (λ z. k ∷ z) (append_nil' ks)

pub literal_fine : {b : Bool} {p : At} (l : TokenList) (r : ℕ) → Says (classes (tokens_of l)) ending.Fine → r < length l.tokens → FirstBad (tokens_of l) r → IsPlace b (drop r (tokens_of l)) p → RefusedAt b (tokens_of l) p Literal
literal_fine l r s h f at_p =
    let ks = tokens_of l in
    let n = length_of l in
    literal_before ks ks [] r (append_nil' ks) (whole_unspoiled (classes ks) s.0 s.1) (omega (arith, h, n)) f (omega (arith, h, n)) at_p

dead_front : {cs : List Class} {i : ℕ} → IsFirstDead cs i → (f : IsFirstDead cs i) → Unspoiled f.front
dead_front x f = record { more = f.live.0; program = f.live.1; fine = subst (λ z. NoneBefore z (excess f.live.1 0)) (sym f.place) (f.within f.live.0 f.live.1) }

abbrev past_program : {cs : List Class} {i : ℕ} {g : Fault} (f : IsFirstPast cs i g) → IsProgram (f.front ++ f.next ∷ f.live.0)
past_program f = subst IsProgram (append_assoc f.front (f.next ∷ []) f.live.0) f.live.1

past_front : {cs : List Class} {i : ℕ} {g : Fault} (f : IsFirstPast cs i g) → Unspoiled f.front
past_front f = record { more = f.next ∷ f.live.0; program = past_program f; fine = subst (λ z. NoneBefore (length f.front) z) (sym (f.passes f.live.0 (past_program f))) (omega (arith, f.place)) }

-- the tokens up to one that the grammar refuses
record Refused (ks : List Token) (i : ℕ) (front : List Class) (next : Class) : Type 0 where
  parts : Parted ks front next
  number : length parts.before ≡ i
  longer : i + 1 ≤ length ks

refused_parts : (ks : List Token) (i : ℕ) (front : List Class) (next : Class) (rest : List Class) → classes ks ≡ front ++ next ∷ rest → length front ≡ i → Refused ks i front next
refused_parts ks i front next rest e n =
    let o = part_tokens ks front next rest e in
    let m : length o.before ≡ i = sym (length_classes o.before) ∙ ap length o.fronts ∙ n in
    record { parts = o; number = m; longer = omega (arith, m, ap length o.split, length-append o.before (o.this ∷ o.after)) }

dropped_here : (before after : List Token) (k : Token) → drop (length before) (before ++ k ∷ after) ≡ k ∷ after
dropped_here [] after k = refl
dropped_here (b ∷ before) after k = dropped_here before after k

ranges_before : (ks before after : List Token) (this : Token) (r : ℕ) → FirstBad ks r → ks ≡ before ++ this ∷ after → length before ≤ r → AllInRange before
ranges_before ks before after this r f e h =
    let o = cut ks r f.inside in
    front_of o.before before o.k this o.after after (sym o.parted ∙ e) (omega (arith, h, o.number)) (all_in_range o.before (subst (λ z. list_all token_in_range z ≡ true) o.taken f.before))

pub literal_dead : {b : Bool} {p : At} (ks : List Token) (r i : ℕ) → IsFirstDead (classes ks) i → r < i → FirstBad ks r → IsPlace b (drop r ks) p → RefusedAt b ks p Literal
literal_dead ks r i d h f at_p =
    let o = refused_parts ks i d.front d.next d.rest d.parted d.place in
    literal_before ks o.parts.before (o.parts.this ∷ o.parts.after) r o.parts.split (subst Unspoiled (sym o.parts.fronts) (dead_front d d)) (omega (arith, h, o.number)) f (omega (arith, h, o.longer)) at_p

pub literal_past : {b : Bool} {p : At} {g : Fault} (ks : List Token) (r i : ℕ) → IsFirstPast (classes ks) i g → r < i → FirstBad ks r → IsPlace b (drop r ks) p → RefusedAt b ks p Literal
literal_past ks r i d h f at_p =
    let o = refused_parts ks i d.front d.next d.rest d.parted d.place in
    literal_before ks o.parts.before (o.parts.this ∷ o.parts.after) r o.parts.split (subst Unspoiled (sym o.parts.fronts) (past_front d)) (omega (arith, h, o.number)) f (omega (arith, h, o.longer)) at_p

at_this : (ks before after : List Token) (this : Token) (i : ℕ) → ks ≡ before ++ this ∷ after → length before ≡ i → drop i ks ≡ this ∷ after
at_this ks before after this i e n = (λ z. drop (sym n z) (e z)) ∙ dropped_here before after this

pub dead_answer : {b : Bool} {p : At} (ks : List Token) (r i : ℕ) → IsFirstDead (classes ks) i → i ≤ r → FirstBad ks r → IsPlace b (drop i ks) p → RefusedAt b ks p Syntax
dead_answer ks r i d h f at_p =
    let o = refused_parts ks i d.front d.next d.rest d.parted d.place in
    let q = o.parts in
    let a = ranges_before ks q.before q.after q.this r f q.split (omega (arith, h, o.number)) in
    let x : IsDead (classes q.before ++ q.this.class ∷ []) = subst IsDead (λ z. sym q.fronts z ++ sym q.nexts z ∷ []) d.dead in
    refused_at q.this q.after i at_p (at_this ks q.before q.after q.this i q.split o.number)
    (subst (λ z. Refuses z q.this.at Syntax) (sym q.split) (syntax_refused q.before q.after q.this (subst Unspoiled (sym q.fronts) (dead_front d d)) a x))

pub past_answer : {b : Bool} {p : At} {g : Fault} (ks : List Token) (r i : ℕ) → IsFirstPast (classes ks) i g → i ≤ r → FirstBad ks r → IsPlace b (drop i ks) p → RefusedAt b ks p (wrong_of g)
past_answer {g = g} ks r i d h f at_p =
    let o = refused_parts ks i d.front d.next d.rest d.parted d.place in
    let q = o.parts in
    let a = ranges_before ks q.before q.after q.this r f q.split (omega (arith, h, o.number)) in
    let m : length (classes q.before) ≡ i = length_classes q.before ∙ o.number in
    let pass : (m : List Class) (d : IsProgram (classes q.before ++ q.this.class ∷ m)) → excess d 0 ≡ Some (length (classes q.before), g) = subst (λ cs. (m : List Class) (d : IsProgram (cs ++ q.this.class ∷ m)) → excess d 0 ≡ Some (length (classes q.before), g)) (sym q.fronts) (subst (λ c. (m : List Class) (d : IsProgram (d.front ++ c ∷ m)) → excess d 0 ≡ Some (length (classes q.before), g)) (sym q.nexts) (λ n e. d.passes n e ∙ ap (λ j. Some (j, g)) (sym m))) in
    refused_at q.this q.after i at_p (at_this ks q.before q.after q.this i q.split o.number)
    (subst (λ z. Refuses z q.this.at (wrong_of g)) (sym q.split) (past_refused q.before q.after q.this g d.live.0 (subst IsProgram (λ z. sym q.fronts z ++ sym q.nexts z ∷ d.live.0) (past_program d)) pass a))

-- one token more
pub range_more : (ks : List Token) (at : ℕ) → at < length ks → list_all token_in_range (take at ks) ≡ true → ((k : Token) (ls : List Token) → drop at ks ≡ k ∷ ls → token_in_range k ≡ true) → list_all token_in_range (take (at + 1) ks) ≡ true
range_more ks at h e q = let n : at + 1 ≡ suc at = omega arith in rw n (more ks at h e q)
  where
    more : (ks : List Token) (at : ℕ) → at < length ks → list_all token_in_range (take at ks) ≡ true → ((k : Token) (ls : List Token) → drop at ks ≡ k ∷ ls → token_in_range k ≡ true) → list_all token_in_range (take (suc at) ks) ≡ true
    more [] at h e q = refl
    more (k ∷ ks) zero h e q = and_true (q k ks refl)
      where
        and_true : {x : Bool} → x ≡ true → (x && true) ≡ true
        and_true p = ap (λ x. x && true) p
    more (k ∷ ks) (suc at) h e q = both_true (and_left _ _ e) (more ks at (omega (arith, h)) (and_right _ _ e) q)
      where
        both_true : {x y : Bool} → x ≡ true → y ≡ true → (x && y) ≡ true
        both_true p r = λ i. p i && r i

pub classes_more : (ks : List Token) (at : ℕ) → at < length ks → classes (take (at + 1) ks) ≡ classes (take at ks) ++ front (drop at ks) ∷ []
classes_more ks at h = let n : at + 1 ≡ suc at = omega arith in rw n (more ks at h)
  where
    more : (ks : List Token) (at : ℕ) → at < length ks → classes (take (suc at) ks) ≡ classes (take at ks) ++ front (drop at ks) ∷ []
    more [] at h = absurd (omega (arith, h))
    more (k ∷ ks) zero h = refl
    more (k ∷ ks) (suc at) h = ap (λ z. k.class ∷ z) (more ks at (omega (arith, h)))

pub take_whole : (ks : List Token) (n : ℕ) → length ks ≤ n → take n ks ≡ ks
take_whole [] zero h = refl
take_whole [] (suc n) h = refl
take_whole (k ∷ ks) zero h = absurd (omega (arith, h))
take_whole (k ∷ ks) (suc n) h = ap (λ z. k ∷ z) (take_whole ks n (omega (arith, h)))

-- the classes of a text's tokens are those of a text
not_end : (q : TokenKind) (text : List ℕ) (ks : List Class) → IsText ks → IsText (class_of q text ∷ ks)
not_end (kind.Name n) text ks h = h
not_end (kind.Word y) text ks h = h
not_end kind.Whole text ks h = h
not_end kind.NatLit text ks h = h
not_end kind.Hole text ks h = h
not_end (kind.Mark z) text ks h = h

pub is_text : (l : TokenList) → IsText (classes (tokens_of l))
is_text l = all l.tokens
  where
    all : (ts : List (lexed.Token)) → IsText (classes (map (token_of l) ts ++ end_of l ∷ []))
    all [] = refl
    all (t ∷ ts) = not_end t.kind (slice_range l.text t.start t.end) (classes (map (token_of l) ts ++ end_of l ∷ [])) (all ts)
