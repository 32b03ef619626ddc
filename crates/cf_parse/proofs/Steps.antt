-- How what stands at some tokens is told from its parts.
use Rattle.std.proofs.Common.{◌≡◌, refl, ℕ, Bool, true, List, [], ◌∷◌, Some, None, slice_get}
use Rattle.cf_grammar.specs.Choosing.{which}
use Rattle.cf_grammar.specs.Grammar.{rules, Takes}
use Rattle.cf_grammar.specs.declared.classes.Class.{Class}
use Rattle.cf_grammar.specs.declared.phrases.Phrase.{Phrase}
use Rattle.cf_grammar.specs.declared.phrases.Symbol.{Symbol}
use Rattle.cf_grammar.specs.declared.phrases.Symbol.TheVariants.{Phrase as a}
use Rattle.cf_syntax.specs.Places.{place, front}
use Rattle.cf_parse.specs.Meaning.{Sem, nothing, meaning}
use Rattle.cf_parse.specs.Standing.{Stands, token, empty, phrase, StandAll, none, both, nullable}
use Rattle.cf_syntax.specs.Tokens.{Token}

pub no_phrase : {A : Type 0} {n : Phrase} {c : Class} → Takes (a n) c → A
no_phrase t = elim t [ ]

-- no symbol
pub ended : {b : Bool} {l m : List Token} (us : List Sem) → StandAll b [] l us m → (us ≡ []) × (m ≡ l)
ended _ none = (refl, refl)

-- the first of some symbols, and the others
pub record Parted (b : Bool) (y : Symbol) (ys : List Symbol) (ks : List Token) (vs : List Sem) (m : List Token) : Type 0 where
  pub v : Sem
  pub us : List Sem
  pub l : List Token
  pub are : vs ≡ v ∷ us
  pub first : Stands b y ks v l
  pub others : StandAll b ys l us m

pub parted : {b : Bool} {y : Symbol} {ys : List Symbol} {ks : List Token} {vs : List Sem} {m : List Token} → StandAll b (y ∷ ys) ks vs m → Parted b y ys ks vs m
parted (both {v = v} {vs = vs} {ls = l} d g) = record { v = v; us = vs; l = l; are = refl; first = d; others = g }

-- what is known of a phrase that stands somewhere
pub data Opened (b : Bool) (n : Phrase) (ks : List Token) (v : Sem) (m : List Token) : Type 0 where
  by_empty : which n (front ks) ≡ None → nullable (rules n) ≡ true → v ≡ nothing → m ≡ ks → Opened b n ks v m
  by_side : (w : ℕ) (r : List Symbol) (vs : List Sem) (k : Token) (ls : List Token) → ks ≡ k ∷ ls → which n (front ks) ≡ Some w → slice_get (rules n) w ≡ Some r → StandAll b r ks vs m → v ≡ meaning n w (place b k.at) vs → Opened b n ks v m

pub opened : {b : Bool} {n : Phrase} {ks : List Token} {v : Sem} {m : List Token} → Stands b (a n) ks v m → Opened b n ks v m
opened (token t q) = no_phrase t
opened (empty e q) = by_empty e q refl refl
opened (phrase {k = k} {ks = ks} {w = w} {r = r} {vs = vs} e q d) = by_side w r vs k ks refl e q d refl
