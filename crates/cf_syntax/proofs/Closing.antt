-- Stacks of symbols with the end at the bottom, and what leads to them.
use Rattle.std.proofs.Common.{◌≡◌, refl, sym, Bool, true, false, List, [], ◌∷◌, ◌++◌}
use Rattle.cf_grammar.specs.Grammar.{rules, Takes, Among, Derives, Leads}
use Rattle.cf_grammar.specs.Grammar as grammar
use Rattle.cf_grammar.specs.declared.classes.Class.{Class}
use Rattle.cf_grammar.specs.declared.classes.Class.TheVariants as class
use Rattle.cf_grammar.specs.declared.phrases.Phrase.{Phrase}
use Rattle.cf_grammar.specs.declared.phrases.Symbol.{Symbol}
use Rattle.cf_grammar.specs.declared.phrases.Symbol.TheVariants.{Is as is, Phrase as a}
use Rattle.cf_syntax.proofs.Cases.{clash}

-- the end stands at the bottom of each stack
abbrev pub is_last : Symbol → Bool
is_last (is class.End) = true
is_last y = false

abbrev pub closed : List Symbol → Bool
closed [] = true
closed (y ∷ []) = is_last y
closed (y ∷ z ∷ ys) = closed (z ∷ ys)

pub closed_behind : (y : Symbol) (ys : List Symbol) → closed (y ∷ ys) ≡ true → closed ys ≡ true
closed_behind y [] e = refl
closed_behind y (z ∷ ys) e = e

pub closed_opened : (r : List Symbol) (n : Phrase) (ys : List Symbol) → closed (a n ∷ ys) ≡ true → closed (r ++ ys) ≡ true
closed_opened r n [] e = clash (sym e)
closed_opened [] n (z ∷ ys) e = e
closed_opened (y ∷ []) n (z ∷ ys) e = e
closed_opened (y ∷ x ∷ r) n (z ∷ ys) e = closed_opened (x ∷ r) n (z ∷ ys) e

abbrev pub some : {A : Type 0} → List A → Bool
some [] = false
some (x ∷ xs) = true

pub some_opened : (r : List Symbol) (n : Phrase) (ys : List Symbol) → closed (a n ∷ ys) ≡ true → some (r ++ ys) ≡ true
some_opened r n [] e = clash (sym e)
some_opened [] n (z ∷ ys) e = refl
some_opened (y ∷ r) n (z ∷ ys) e = refl

pub never_ends : {ys : List Symbol} {l : List Class} → Derives ys l → closed ys ≡ true → some ys ≡ true → some l ≡ true
never_ends grammar.done c e = clash (sym e)
never_ends (grammar.token t d) c e = refl
never_ends (grammar.phrase {n = n} {r = r} {ys = ys} i d) c e = never_ends d (closed_opened r n ys c) (some_opened r n ys c)

pub leads_token : {xs ys : List Symbol} {y : Symbol} {k : Class} {l : List Class} → Leads xs l (y ∷ ys) → Takes y k → Leads xs (l ++ k ∷ []) ys
leads_token grammar.none t = grammar.token t grammar.none
leads_token (grammar.token u d) t = grammar.token u (leads_token d t)
leads_token (grammar.phrase i d) t = grammar.phrase i (leads_token d t)

pub leads_phrase : {xs ys : List Symbol} {n : Phrase} {r : List Symbol} {l : List Class} → Leads xs l (a n ∷ ys) → Among r (rules n) → Leads xs l (r ++ ys)
leads_phrase grammar.none j = grammar.phrase j grammar.none
leads_phrase (grammar.token u d) j = grammar.token u (leads_phrase d j)
leads_phrase (grammar.phrase i d) j = grammar.phrase i (leads_phrase d j)

-- the right side that a derivation takes first
abbrev pub right_of : {n : Phrase} {ys : List Symbol} {l : List Class} → Derives (a n ∷ ys) l → List Symbol
right_of (grammar.token t d) = []
right_of (grammar.phrase {r = r} i d) = r
