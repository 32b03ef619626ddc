-- What may be said of the tokens of a text: a program within the limits, or the first token that is wrong.
use Rattle.std.specs.Prelude.{ℕ, suc, ◌≤◌, List, [], ◌∷◌, ◌++◌, length, Option, Some, None, nat_lt, if◌then◌else◌, ◌≡◌}
use Rattle.cf_base.specs.declared.limit.Limit.TheVariants as limit
use Rattle.cf_grammar.specs.declared.classes.Class.{Class}
use Rattle.cf_grammar.specs.declared.classes.Class.TheVariants as class
use Rattle.cf_grammar.specs.declared.phrases.Phrase.{Phrase}
use Rattle.cf_grammar.specs.declared.phrases.Phrase.TheVariants.{Decl, Param, Ctor, Field, Operand, Arg, Term, Code}
use Rattle.cf_grammar.specs.declared.phrases.Symbol.{Symbol}
use Rattle.cf_grammar.specs.declared.endings.Fault.{Fault}
use Rattle.cf_grammar.specs.declared.endings.Fault.TheVariants.{Many, Nested}
use Rattle.cf_grammar.specs.declared.endings.Ending.{Ending}
use Rattle.cf_grammar.specs.declared.endings.Ending.TheVariants as ending
use Rattle.cf_grammar.specs.Grammar.{Derives, done, token, phrase, IsProgram}

-- the tokens of a text: the end stands last, and nowhere else
abbrev pub IsText : List Class → Type 0
IsText [] = ⊥
IsText (class.End ∷ ks) = ks ≡ []
IsText (k ∷ ks) = IsText ks

-- the fault, from a number on
abbrev pub from : ℕ → ℕ → Fault → Option Fault
from least n f = if nat_lt n least then None else Some f

-- the limit that a phrase passes: items are numbered from 0 on, and depth 200 is the deepest
abbrev pub over : Phrase → Option Fault
over (Decl x k) = from 4096 k (Many limit.Declarations)
over (Param k) = from 16 k (Many limit.Parameters)
over (Ctor x k) = from 256 k (Many limit.Constructors)
over (Field x k) = from 16 k (Many limit.Fields)
over (Operand x d k) = from 16 k (Many limit.Arguments)
over (Arg x d k) = from 16 k (Many limit.Arguments)
over (Term x d) = from 201 d Nested
over (Code x d) = from 201 d Nested
over n = None

-- the first of two, where the first may be missing
abbrev pub or_later : Option Fault → ℕ → Option (ℕ × Fault) → Option (ℕ × Fault)
or_later (Some f) i later = Some (i, f)
or_later None i later = later

-- the first phrase past a limit that a derivation opens, and the number of its first token; the derivation's own first token has number i
abbrev pub excess : {ys : List Symbol} {ks : List Class} → Derives ys ks → ℕ → Option (ℕ × Fault)
excess done i = None
excess (token t d) i = excess d (suc i)
excess (phrase {n = n} c d) i = or_later (over n) i (excess d i)

-- some program begins with these tokens
abbrev pub IsLive : List Class → Type 0
IsLive ks = (more : List Class) × IsProgram (ks ++ more)

-- no program begins with these tokens
abbrev pub IsDead : List Class → Type 0
IsDead ks = (more : List Class) → IsProgram (ks ++ more) → ⊥

-- no phrase past a limit begins before token i
abbrev pub NoneBefore : ℕ → Option (ℕ × Fault) → Type 0
NoneBefore i None = Unit {0}
NoneBefore i (Some o) = i ≤ o.0

-- some program begins with the tokens before token i, none with those up to it, and no phrase past a limit begins before it
pub record IsFirstDead (ks : List Class) (i : ℕ) : Type 0 where
  pub front : List Class
  pub next : Class
  pub rest : List Class
  pub parted : ks ≡ front ++ next ∷ rest
  pub place : length front ≡ i
  pub live : IsLive front
  pub dead : IsDead (front ++ next ∷ [])
  pub within : (more : List Class) (d : IsProgram (front ++ more)) → NoneBefore i (excess d 0)

-- some program begins with the tokens up to token i, and in each the first phrase past a limit begins with it
pub record IsFirstPast (ks : List Class) (i : ℕ) (f : Fault) : Type 0 where
  pub front : List Class
  pub next : Class
  pub rest : List Class
  pub parted : ks ≡ front ++ next ∷ rest
  pub place : length front ≡ i
  pub live : IsLive (front ++ next ∷ [])
  pub passes : (more : List Class) (d : IsProgram (front ++ next ∷ more)) → excess d 0 ≡ Some (i, f)

-- what an ending says of the tokens
abbrev pub Says : List Class → Ending → Type 0
Says ks ending.Fine = (d : IsProgram ks) × (excess d 0 ≡ None)
Says ks (ending.Syntax i) = IsFirstDead ks i
Says ks (ending.Past i f) = IsFirstPast ks i f
