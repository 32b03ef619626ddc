-- What holds at each turn of the walk: of the tokens that are left and the stack, the same is said as of the whole text.
use Rattle.std.specs.Prelude.{ℕ, suc, ◌+◌, ◌<◌, Bool, true, false, List, [], ◌∷◌, ◌++◌, length, Some, None, ◌≡◌, refl}
use Rattle.std.proofs.Common.{arith}
use mathlib.Core.Path.{ap, sym, ◌∙◌, subst}
use Rattle.cf_grammar.specs.Grammar.{rules, Takes, Derives, done, token, start, IsProgram}
use Rattle.cf_grammar.specs.Refusing.{IsText, over, Says}
use Rattle.cf_grammar.specs.Choosing.{side, starts}
use Rattle.cf_grammar.specs.Walking.{may_be_empty, IsWithin, Turned, put}
use Rattle.cf_grammar.specs.declared.turning.Turn.{Turn}
use Rattle.cf_grammar.specs.declared.turning.Turn.TheVariants as turn
use Rattle.cf_grammar.proofs.First.{nullable}
use Rattle.cf_grammar.specs.declared.classes.Class.{Class}
use Rattle.cf_grammar.specs.declared.endings.Ending.{Ending}
use Rattle.cf_grammar.specs.declared.endings.Ending.TheVariants.{Fine, Syntax, Past}
use Rattle.cf_grammar.specs.declared.endings.Fault.{Fault}
use Rattle.cf_grammar.specs.declared.phrases.Phrase.{Phrase}
use Rattle.cf_grammar.specs.declared.phrases.Symbol.{Symbol}
use Rattle.cf_grammar.specs.declared.phrases.Symbol.TheVariants.{Is as is, AnyName as NAME, Phrase as a}
use Rattle.cf_grammar.proofs.Logic.{clash}
use Rattle.cf_grammar.proofs.Answering.{Answers, passed, stopped, opened, past_says}
use Rattle.cf_grammar.proofs.Choice.{right_side, empty_side, no_side}
use Rattle.cf_grammar.proofs.Facts.{empties, empty_is_free}
use Rattle.cf_grammar.proofs.Front.{nil_among}
use Rattle.cf_grammar.proofs.Life.{lives}
use Rattle.cf_grammar.proofs.Beginnings.{leads_more}
use Rattle.cf_grammar.proofs.Prediction.{Told, begins_so, never, told}
use Rattle.cf_grammar.proofs.Small.{AllSmall, small_opened}
use Rattle.cf_grammar.proofs.Stack
use Rattle.cf_grammar.proofs.Stack.{Sound, sound_opened, sound_start, Paired, paired_token, paired_opened}
use Rattle.cf_grammar.proofs.Falling.{work, past_token, past_empty, past_opening}
use Rattle.cf_grammar.proofs.Unique.{sound_after}

-- the state of the walk: the stack, the tokens that are left, and the number of the next one
pub record Standing (all : List Class) (ys : List Symbol) (ks : List Class) (i : ℕ) : Type 0 where
  pub sound : Sound ys
  pub paired : Paired ys ks
  pub small : AllSmall ys
  pub whole : (e : Ending) → Answers ys ks i e → Says all e

-- what a token that the symbol on top takes leaves
pub token_taken : {all : List Class} {y : Symbol} {k : Class} (ys : List Symbol) (ks : List Class) (i : ℕ) → Takes y k → AllSmall ys → Standing all (y ∷ ys) (k ∷ ks) i → Standing all ys ks (suc i)
token_taken ys ks i t m s = record { sound = sound_after ys t s.sound; paired = paired_token ys ks t s.paired; small = m; whole = λ e q. s.whole e (passed ys ks i e t q) }

-- a phrase opened by its right side, or left out as empty
pub phrase_opened : {all : List Class} (n : Phrase) (k : Class) (ys : List Symbol) (ks : List Class) (i : ℕ) (r : List Symbol) (b : Bool) → Told n k r b → (b ≡ true → over n ≡ None) → (b ≡ false → may_be_empty n ≡ true) → Standing all (a n ∷ ys) (k ∷ ks) i → Standing all (r ++ ys) (k ∷ ks) i
phrase_opened n k ys ks i r true (begins_so c p) o e s = let v = o refl in record { sound = sound_opened n ys c s.sound; paired = paired_opened n ys (k ∷ ks) c s.paired; small = small_opened n ys c v s.small; whole = λ g q. s.whole g (opened ys ks i g c v (λ l t f d. right_side n ys c p (s.sound.0 k l) f d) q) }
phrase_opened {all} n k ys ks i r false (never f p) o e s = subst (λ r. Standing all (r ++ ys) (k ∷ ks) i) (sym f) left_out
  where
    left_out : Standing all ys (k ∷ ks) i
    left_out =
        let v : nullable (rules n) ≡ true = sym (empties n) ∙ e refl in
        let c = nil_among (rules n) v in
        let o = empty_is_free n v in
        record { sound = sound_opened n ys c s.sound; paired = paired_opened n ys (k ∷ ks) c s.paired; small = small_opened n ys c o s.small; whole = λ g q. s.whole g (opened ys ks i g c o (λ l t f d. empty_side n ys c p f d) q) }

-- a refusal
pub token_refused : {all : List Class} (y : Symbol) (k : Class) (ys : List Symbol) (ks : List Class) (i : ℕ) → ((l : List Class) → Derives (y ∷ ys) (k ∷ l) → ⊥) → Standing all (y ∷ ys) (k ∷ ks) i → Says all (Syntax i)
token_refused y k ys ks i f s = s.whole (Syntax i) (stopped ks i (lives (y ∷ ys)) f)

phrase_refused : (n : Phrase) (k : Class) (ys : List Symbol) (r : List Symbol) (b : Bool) → Told n k r b → b ≡ false → may_be_empty n ≡ false → (l : List Class) → Derives (a n ∷ ys) (k ∷ l) → ⊥
phrase_refused n k ys r true (begins_so c p) e f l d = clash e
phrase_refused n k ys r false (never g p) e f l d = no_side n ys (sym (empties n) ∙ f) p d

-- a limit passed
past_limit : {all : List Class} (n : Phrase) (k : Class) (ys : List Symbol) (ks : List Class) (i : ℕ) (f : Fault) (r : List Symbol) (b : Bool) → Told n k r b → b ≡ true → over n ≡ Some f → Standing all (a n ∷ ys) (k ∷ ks) i → Says all (Past i f)
past_limit n k ys ks i f r true (begins_so c p) e v s = s.whole (Past i f) (past_says ys ks i f v c (leads_more r ys k p))
past_limit n k ys ks i f r false (never g p) e v s = clash (sym e)

-- a stack with a symbol has a token left
pub more_left : {all : List Class} (y : Symbol) (ys : List Symbol) (ks : List Class) (i : ℕ) → Standing all (y ∷ ys) ks i → ks ≡ [] → ⊥
more_left y ys [] i s e = no_text s.paired
  where
    no_text : Paired (y ∷ ys) [] → ⊥
    no_text (Stack.Paired.open' e t) = t
more_left y ys (k ∷ ks) i s e = clash (ap (λ l. elim l [ [] ↦ true | k ∷ ks ↦ false ]) (sym e))

-- what comes of a turn
abbrev pub After : (all : List Class) (ys : List Symbol) (ks : List Class) (i : ℕ) (k : Class) (most : ℕ) → Turn → Type 0
After all ys ks i k most turn.Take = Standing all ys ks (suc i) × (work ys (length ks) < most)
After all ys ks i k most turn.Open = Standing all ys (k ∷ ks) i × (work ys (suc (length ks)) < most)
After all ys ks i k most turn.Refuse = Says all (Syntax i)
After all ys ks i k most (turn.Pass f) = Says all (Past i f)

last : (ys : List Symbol) (ks : List Class) → Paired ys ks → length ks ≡ 0 → ys ≡ []
last ys [] (Stack.Paired.open' e t) f = absurd t
last [] [] Stack.Paired.over f = refl
last ys (k ∷ ks) p f = absurd (no_zero (length ks) f)
  where
    no_zero : (n : ℕ) → suc n ≡ 0 → ⊥
    no_zero n e = omega arith

opened_work : (n : Phrase) (k : Class) (ys : List Symbol) (t : ℕ) (r : List Symbol) (b : Bool) → Told n k r b → (b ≡ false → may_be_empty n ≡ true) → work (r ++ ys) (suc t) < work (a n ∷ ys) (suc t)
opened_work n k ys t r true (begins_so c p) e = past_opening n r ys t k c p
opened_work n k ys t r false (never f p) e = subst (λ r. work (r ++ ys) (suc t) < work (a n ∷ ys) (suc t)) (sym f) (past_empty n ys t (sym (empties n) ∙ e refl))

-- what a derivation's first token is
taken_by : {j k : Class} {ys : List Symbol} {l : List Class} → Derives (is j ∷ ys) (k ∷ l) → Takes (is j) k
taken_by (token t d) = t

name_by : {k : Class} {ys : List Symbol} {l : List Class} → Derives (NAME ∷ ys) (k ∷ l) → Takes NAME k
name_by (token t d) = t

-- by whether a right side begins with the token
limit_of : (n : Phrase) (b : Bool) → IsWithin n b → (b ≡ true → over n ≡ None) × (b ≡ false → may_be_empty n ≡ true)
limit_of n true o = (λ e. o, λ e. clash e)
limit_of n false o = (λ e. clash (sym e), λ e. o)

pub turned : (all : List Class) (y : Symbol) (k : Class) (ys : List Symbol) (ks : List Class) (i : ℕ) (t : Turn) → Turned y k t → Standing all (y ∷ ys) (k ∷ ks) i → After all (put y k ++ ys) ks i k (work (y ∷ ys) (suc (length ks))) t
turned all (is j) k ys ks i turn.Take t s = let u = token_taken ys ks i t s.small s in (u, past_token (is j) ys (length ks) refl refl (last ys ks u.paired))
turned all NAME k ys ks i turn.Take t s = let u = token_taken ys ks i t s.small s in (u, past_token NAME ys (length ks) refl refl (last ys ks u.paired))
turned all (a n) k ys ks i turn.Take t s = elim t [ ]
turned all (is j) k ys ks i turn.Refuse t s = token_refused (is j) k ys ks i (λ l d. t (taken_by d)) s
turned all NAME k ys ks i turn.Refuse t s = token_refused NAME k ys ks i (λ l d. t (name_by d)) s
turned all (a n) k ys ks i turn.Refuse t s = token_refused (a n) k ys ks i (phrase_refused n k ys (side n k) (starts n k) (told n k) t.0 t.1) s
turned all (is j) k ys ks i turn.Open t s = absurd t
turned all NAME k ys ks i turn.Open t s = absurd t
turned all (a n) k ys ks i turn.Open t s =
    let l = limit_of n (starts n k) t in
    (phrase_opened n k ys ks i (side n k) (starts n k) (told n k) l.0 l.1 s, opened_work n k ys (length ks) (side n k) (starts n k) (told n k) l.1)
turned all (is j) k ys ks i (turn.Pass f) t s = absurd t
turned all NAME k ys ks i (turn.Pass f) t s = absurd t
turned all (a n) k ys ks i (turn.Pass f) t s = past_limit n k ys ks i f (side n k) (starts n k) (told n k) t.0 t.1 s

regrouped : (front : List Class) (next : Class) (more : List Class) → (front ++ next ∷ []) ++ more ≡ front ++ next ∷ more
regrouped [] next more = refl
regrouped (k ∷ front) next more = ap (λ l. k ∷ l) (regrouped front next more)

-- what is said from the start is said of the text
said : (ks : List Class) (e : Ending) → Answers (start) ks 0 e → Says ks e
said ks Fine q = q
said ks (Syntax i) q = record { within = λ more d. q.within more (q.front ++ more) refl d; front = q.front; next = q.next; rest = q.rest; parted = q.parted; place = from_zero (length q.front) i q.place; live = (q.more, q.live); dead = λ more d. q.dead more (subst (λ l. IsProgram l) (regrouped q.front q.next more) d) }
  where
    from_zero : (n j : ℕ) → 0 + n ≡ j → n ≡ j
    from_zero n j e = omega arith
said ks (Past i f) q = record { passes = λ more d. q.passes more (q.front ++ q.next ∷ more) refl d; front = q.front; next = q.next; rest = q.rest; parted = q.parted; place = from_zero (length q.front) i q.place; live = (q.more, subst (λ l. IsProgram l) (sym (regrouped q.front q.next q.more)) q.live) }
  where
    from_zero : (n j : ℕ) → 0 + n ≡ j → n ≡ j
    from_zero n j e = omega arith

-- the state before the first turn
pub begins_at : (all : List Class) (ys : List Symbol) → IsText all → ys ≡ start → Standing all ys all 0
begins_at all ys t e = subst (λ zs. Standing all zs all 0) (sym e) record { sound = sound_start; paired = Stack.Paired.open' refl t; small = (tt, λ o. tt); whole = said all }

-- the state behind the last
pub ends_at : (all ks : List Class) (i : ℕ) → Standing all [] ks i → Says all Fine
ends_at all [] i s = s.whole Fine (done, refl)
ends_at all (k ∷ ks) i s = no_end s.paired
  where
    no_end : {A : Type 0} → Paired [] (k ∷ ks) → A
    no_end (Stack.Paired.open' e t) = absurd e

-- with an empty stack no token is left
pub none_left : {all ks : List Class} (i : ℕ) → Standing all [] ks i → ks ≡ []
none_left {ks = []} i s = refl
none_left {ks = k ∷ ks} i s = no_end s.paired
  where
    no_end : {A : Type 0} → Paired [] (k ∷ ks) → A
    no_end (Stack.Paired.open' e t) = absurd e
