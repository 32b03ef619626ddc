-- Laws of the grammar.
use Rattle.std.specs.Prelude.{ℕ, suc, ◌<◌, List, ◌∷◌, ◌++◌, Option, Some, None, ◌≡◌}
use Rattle.cf_grammar.specs.declared.classes.Class.{Class}
use Rattle.cf_grammar.specs.declared.phrases.Phrase.{Phrase}
use Rattle.cf_grammar.specs.declared.phrases.Symbol.{Symbol}
use Rattle.cf_grammar.specs.declared.phrases.Symbol.TheVariants.{Phrase as a}
use Rattle.cf_grammar.specs.declared.endings.Fault.{Fault}
use Rattle.cf_grammar.specs.declared.endings.Fault.TheVariants.{Many, Nested}
use Rattle.cf_grammar.specs.declared.endings.Ending.{Ending}
use Rattle.cf_grammar.specs.Grammar.{rules, Among, Derives, done, token, phrase, start, IsProgram, Leads}
use Rattle.cf_grammar.specs.Refusing.{over, or_later, excess, Says}
use Rattle.cf_grammar.specs.Choosing.{side}

-- at most one ending holds of the tokens of a text
abbrev pub OneEnding : Type 0
OneEnding = (ks : List Class) (e g : Ending) → Says ks e → Says ks g → e ≡ g

-- each text is a program by at most one derivation
abbrev pub OneDerivation : Type 0
OneDerivation = (ks : List Class) → (d e : IsProgram ks) → d ≡ e

-- an item past a limit
abbrev pub item : Option Fault → Option Fault
item (Some (Many l)) = Some (Many l)
item o = None

-- the first item past a limit that a derivation opens, and the number of its first token
abbrev pub item_excess : {ys : List Symbol} {ks : List Class} → Derives ys ks → ℕ → Option (ℕ × Fault)
item_excess done i = None
item_excess (token t d) i = item_excess d (suc i)
item_excess (phrase {n = n} c d) i = or_later (item (over n)) i (item_excess d i)

-- none begins with token i or before
abbrev pub NoneUpTo : ℕ → Option (ℕ × Fault) → Type 0
NoneUpTo i None = Unit {0}
NoneUpTo i (Some o) = i < o.0

-- where the first phrase past a limit is one that is nested too deep, no item past a limit begins with the same token
abbrev pub ItemsFirst : Type 0
ItemsFirst = (ks : List Class) (d : IsProgram ks) (i : ℕ) → excess d 0 ≡ Some (i, Nested) → NoneUpTo i (item_excess d 0)

-- the symbols derive a text that begins with this token
abbrev pub Begins : List Symbol → Class → Type 0
Begins ys k = (ks : List Class) × Derives ys (k ∷ ks)

-- no two right sides of a phrase begin with the same token
abbrev pub Apart : Type 0
Apart = (n : Phrase) (k : Class) (r s : List Symbol) → Among r (rules n) → Among s (rules n) → Begins r k → Begins s k → r ≡ s

-- a derivation opens its first phrase by the right side that the table gives for its first token
pub record Opens {n : Phrase} {k : Class} {ys : List Symbol} {ks : List Class} (d : Derives (a n ∷ ys) (k ∷ ks)) : Type 0 where
  pub right : Among (side n k) (rules n)
  pub rest : Derives (side n k ++ ys) (k ∷ ks)
  pub opened : d ≡ phrase right rest
  pub within : (i : ℕ) → excess d i ≡ None → (over n ≡ None) × (excess rest i ≡ None)

-- at a phrase that is reached within a program, the next token tells the right side
abbrev pub OneChoice : Type 0
OneChoice = (before : List Class) (n : Phrase) (k : Class) (ys : List Symbol) (ks : List Class) → Leads start before (a n ∷ ys) → (d : Derives (a n ∷ ys) (k ∷ ks)) → Opens d
