-- The steps of a derivation evaluate to what stands at the tokens, and at each step the meanings are of the kinds that it asks for.
use Rattle.std.proofs.Common.{◌≡◌, ◌∙◌, refl, ap, sym, subst, arith, ℕ, zero, suc, Bool, true, List, [], ◌∷◌, ◌++◌, map, drop, length, Option, Some, None, slice_get}
use Rattle.cf_base.specs.declared.at.At.{At}
use Rattle.cf_grammar.specs.Choosing.{numbered, side, which}
use Rattle.cf_grammar.specs.Grammar.{rules, Takes, exact, any_name}
use Rattle.cf_grammar.specs.Productions.{Follows, done, take, opened, at_number, production, productions}
use Rattle.cf_grammar.specs.declared.classes.Class.{Class}
use Rattle.cf_grammar.specs.declared.classes.Class.TheVariants as class
use Rattle.cf_grammar.specs.declared.phrases.Symbol.{Symbol}
use Rattle.cf_grammar.specs.declared.phrases.Symbol.TheVariants.{Phrase as a}
use Rattle.cf_grammar.specs.declared.productions.Production.TheVariants as by
use Rattle.cf_grammar.specs.declared.productions.Step.{Step}
use Rattle.cf_grammar.specs.declared.productions.Step.TheVariants as step
use Rattle.cf_parse.proofs.Deriving.{filled, get_side}
use Rattle.cf_parse.proofs.Fitting.{acted, acting, mapped_there, matched, nothing_fits, numbered_there, optional, right}
use Rattle.cf_syntax.proofs.Cases.{some_inj}
use Rattle.cf_parse.proofs.Steps.{ended, no_phrase, opened as opened_there, Opened, by_empty, by_side, Parted, parted}
use Rattle.cf_parse.specs.Building.{Sound}
use Rattle.cf_parse.specs.Evaluation.{action, arity, evaluated, first_token, firsts, reduced, next_at}
use Rattle.cf_parse.specs.Kinds.{Kind, Fits, AllFit, end, next, a_token, a_name, a_whole, a_natlit, a_word, atoms_of, kind_of, of_atoms, of_symbol, params}
use Rattle.cf_syntax.specs.Places.{place}
use Rattle.cf_parse.specs.Meaning.{Action, Sem, actions, meaning, nothing, run}
use Rattle.cf_parse.specs.Meaning as meant
use Rattle.cf_syntax.specs.Numbers.{in_range}
use Rattle.cf_parse.specs.Standing.{Stands, StandAll, token, empty, phrase, none, both}
use Rattle.cf_syntax.specs.Tokens.{Token, classes}

abbrev class_or : Class → List Class → Class
class_or k [] = k
class_or k (j ∷ l) = j

abbrev classes_behind : List Class → List Class
classes_behind [] = []
classes_behind (j ∷ l) = l

no_nil : {A : Type 0} {k : Class} {l : List Class} → [] ≡ k ∷ l → A
no_nil e = absurd (subst is_nil e tt)
  where
    is_nil : List Class → Type 0
    is_nil [] = Unit {0}
    is_nil (x ∷ xs) = ⊥

-- a token's meaning is of its symbol's kind
pub token_fits : (y : Symbol) (c : Class) (p : At) (x : List ℕ) → Takes y c → in_range c x ≡ true → Fits (of_symbol y) (meant.token p c x)
token_fits _ _ p x any_name q = a_name
token_fits _ (class.Name b) p x exact q = a_name
token_fits _ class.Whole p x exact q = a_whole q
token_fits _ class.NatLit p x exact q = a_natlit q
token_fits _ class.Hole p x exact q = a_token
token_fits _ (class.Mark z) p x exact q = a_token
token_fits _ class.End p x exact q = a_token
token_fits _ (class.Word y) p x exact q = by_atoms (atoms_of y) refl
  where
    by_atoms : (o : Option ℕ) → atoms_of y ≡ o → Fits (of_atoms o) (meant.token p (class.Word y) x)
    by_atoms None e = a_token
    by_atoms (Some n) e = a_word e

-- meanings one behind the other
back_fits : (js os : List Kind) (us vs : List Sem) → length us ≡ length js → AllFit (js ++ os) (us ++ vs) → AllFit os vs
back_fits [] os [] vs e h = h
back_fits [] os (u ∷ us) vs e h = absurd (omega (arith, e))
back_fits (j ∷ js) os [] vs e h = absurd (omega (arith, e))
back_fits (j ∷ js) os (u ∷ us) vs e (next f h) = back_fits js os us vs (omega (arith, e)) h

front_fits : (js os : List Kind) (vs : List Sem) → AllFit (js ++ os) vs → AllFit js vs
front_fits [] os vs h = end
front_fits (j ∷ js) os _ (next f h) = next f (front_fits js os _ h)

pub firsts_of : (us vs : List Sem) (n : ℕ) → length us ≡ n → firsts n (us ++ vs) ≡ us
firsts_of [] vs zero e = refl
firsts_of [] vs (suc n) e = absurd (omega (arith, e))
firsts_of (u ∷ us) vs zero e = absurd (omega (arith, e))
firsts_of (u ∷ us) vs (suc n) e = ap (λ z. u ∷ z) (firsts_of us vs n (omega (arith, e)))

dropped : (us vs : List Sem) (n : ℕ) → length us ≡ n → drop n (us ++ vs) ≡ vs
dropped [] vs zero e = refl
dropped [] vs (suc n) e = absurd (omega (arith, e))
dropped (u ∷ us) vs zero e = absurd (omega (arith, e))
dropped (u ∷ us) vs (suc n) e = dropped us vs n (omega (arith, e))

map_length : (r : List Symbol) → length (map of_symbol r) ≡ length r
map_length [] = refl
map_length (y ∷ r) = ap suc (map_length r)

map_append : (r ys : List Symbol) → map of_symbol (r ++ ys) ≡ map of_symbol r ++ map of_symbol ys
map_append [] ys = refl
map_append (y ∷ r) ys = ap (λ z. of_symbol y ∷ z) (map_append r ys)

stand_length : {b : Bool} {r : List Symbol} {ks : List Token} {us : List Sem} {ls : List Token} → StandAll b r ks us ls → length us ≡ length r
stand_length none = refl
stand_length (both g h) = ap suc (stand_length h)

stand_append : {b : Bool} {r ys : List Symbol} {ks ls m : List Token} {us vs : List Sem} → StandAll b r ks us ls → StandAll b ys ls vs m → StandAll b (r ++ ys) ks (us ++ vs) m
stand_append none h = h
stand_append (both g k) h = both g (stand_append k h)

pub record Outcome (b : Bool) (ys : List Symbol) (ps : List Step) (ks : List Token) (vs : List Sem) : Type 0 where
  pub are : evaluated b ps ks ≡ vs
  pub fit : AllFit (map of_symbol ys) vs
  pub sound : Sound b ps ks

-- what a token's symbol stands for
token_there : {b : Bool} {y : Symbol} {c : Class} {k : Token} {ks : List Token} {v : Sem} {l : List Token} → Takes y c → Stands b y (k ∷ ks) v l → (v ≡ first_token b (k ∷ ks)) × ((l ≡ ks) × (Takes y k.class × (in_range k.class k.text ≡ true)))
token_there t (token u q) = (refl, (refl, (u, q)))
token_there t (empty e q) = no_phrase t
token_there t (phrase e q h) = no_phrase t

run_some : (f : Action) (p : At) (us : List Sem) (n : ℕ) → length us ≡ suc n → run (Some f) p us ≡ f p us
run_some f p [] n e = absurd (omega (arith, e))
run_some f p (u ∷ us) n e = refl

pub outcome : {b : Bool} {ys : List Symbol} {ps : List Step} {cs : List Class} {vs : List Sem} (ks : List Token) → Follows ys ps cs → classes ks ≡ cs → StandAll b ys ks vs [] → Outcome b ys ps ks vs
outcome {b = b} {vs = vs} ks done e s =
    let o = ended vs s in
    record { are = sym o.0; fit = end; sound = subst (λ l. Sound b [] l) o.1 Sound.finished }
outcome [] (take t f) e s = no_nil e
outcome [] (opened f) e s = no_nil e
outcome {b = b} {vs = vs} (k ∷ ks) (take {y = y} {k = c} {ys = ys} {ps = ps} t f) e s =
    let o = parted s in
    let d = token_there t o.first in
    let i = outcome ks f (ap classes_behind e) (subst (λ l. StandAll b ys l o.us []) d.1.0 o.others) in
    record {
      are = (λ z. sym d.0 z ∷ i.are z) ∙ sym o.are;
      fit = subst (AllFit (of_symbol y ∷ map of_symbol ys)) (sym o.are) (next (subst (Fits (of_symbol y)) (sym d.0) (token_fits y k.class (place b k.at) k.text d.1.1.0 d.1.1.1)) i.fit);
      sound = Sound.taken i.sound;
    }
outcome {b = b} {vs = vs} (k ∷ ks) (opened {n = n} {k = c} {ys = ys} {ps = ps} {ks = cs} f) e s = by_cases (λ ws h. outcome (k ∷ ks) f e h) (opened_there o.first)
  where
    o : Parted b (a n) ys (k ∷ ks) vs []
    o = parted s

    c_is : k.class ≡ c
    c_is = ap (class_or c) e

    by_cases : ((ws : List Sem) → StandAll b (side n c ++ ys) (k ∷ ks) ws [] → Outcome b (side n c ++ ys) ps (k ∷ ks) ws) → Opened b n (k ∷ ks) o.v o.l → Outcome b (a n ∷ ys) (step.Open (production n c) ∷ ps) (k ∷ ks) vs
    by_cases go (by_empty t q g h) =
        let t' : which n c ≡ None = ap (which n) (sym c_is) ∙ t in
        let side_is : side n c ≡ [] = ap (numbered (rules n)) t' in
        let is_empty : production n c ≡ by.Empty = ap (at_number (productions n)) t' in
        let i = subst (λ r. Outcome b (r ++ ys) ps (k ∷ ks) o.us) side_is (go o.us (subst (λ r. StandAll b (r ++ ys) (k ∷ ks) o.us []) (sym side_is) (subst (λ l. StandAll b ys l o.us []) h o.others))) in
        subst (λ p. Outcome b (a n ∷ ys) (step.Open p ∷ ps) (k ∷ ks) vs) (sym is_empty) (record {
          are = (λ z. sym g z ∷ i.are z) ∙ sym o.are;
          fit = subst (AllFit (kind_of n ∷ map of_symbol ys)) (sym o.are) (next (subst (Fits (kind_of n)) (sym g) (nothing_fits (kind_of n) (optional n q))) i.fit);
          sound = Sound.built end i.sound;
        })
    by_cases go (by_side w r us j ls q t h g m) =
        let t' : which n c ≡ Some w = ap (which n) (sym c_is) ∙ t in
        let r_is : side n c ≡ r = some_inj (sym (get_side n c w t') ∙ h) in
        let way = right (rules n) (productions n) (kind_of n) (matched n) w r h in
        let p_is : production n c ≡ way.by = ap (at_number (productions n)) t' ∙ numbered_there (productions n) w way.by way.there in
        let i = subst (λ r. Outcome b (r ++ ys) ps (k ∷ ks) (us ++ o.us)) r_is (go (us ++ o.us) (subst (λ r. StandAll b (r ++ ys) (k ∷ ks) (us ++ o.us) []) (sym r_is) (stand_append g o.others))) in
        let count : length us ≡ arity way.by = stand_length g ∙ sym (map_length r) ∙ ap length way.asks in
        let fit' : AllFit (params way.by ++ map of_symbol ys) (us ++ o.us) = subst (λ js. AllFit js (us ++ o.us)) (map_append r ys ∙ ap (λ js. js ++ map of_symbol ys) way.asks) i.fit in
        let at = place b k.at in
        let first = filled n c w t' in
        let some : length us ≡ suc (length first.1.0) = stand_length g ∙ ap length (sym r_is ∙ first.1.1) in
        let act : slice_get (actions n) w ≡ Some (action way.by) = ap (λ l. slice_get l w) (sym (acting n)) ∙ mapped_there (productions n) w way.by way.there in
        let at_is : place b j.at ≡ at = ap (λ l. place b (next_at l)) (sym q) in
        let v_is : action way.by at (firsts (arity way.by) (us ++ o.us)) ≡ o.v = ap (action way.by at) (firsts_of us o.us (arity way.by) count) ∙ sym (run_some (action way.by) at us (length first.1.0) some) ∙ ap (λ f. run f at us) (sym act) ∙ ap (λ p. meaning n w p us) (sym at_is) ∙ sym m in
        let whole : reduced way.by at (us ++ o.us) ≡ o.v ∷ o.us = λ z. v_is z ∷ dropped us o.us (arity way.by) count z in
        subst (λ p. Outcome b (a n ∷ ys) (step.Open p ∷ ps) (k ∷ ks) vs) (sym p_is) (record {
          are = ap (reduced way.by at) i.are ∙ whole ∙ sym o.are;
          fit = subst (AllFit (kind_of n ∷ map of_symbol ys)) (sym o.are) (next (subst (Fits (kind_of n)) v_is (acted way.by at (us ++ o.us) (kind_of n) (front_fits (params way.by) (map of_symbol ys) (us ++ o.us) fit') way.gives)) (back_fits (params way.by) (map of_symbol ys) us o.us count fit'));
          sound = Sound.built (subst (AllFit (params way.by)) (sym i.are) (front_fits (params way.by) (map of_symbol ys) (us ++ o.us) fit')) i.sound;
        })
