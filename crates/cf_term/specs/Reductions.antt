-- Reductions, at any place of a term. Nothing here computes or counts.
use Rattle.std.specs.Prelude.{◌≡◌, ℕ, zero, suc, List, Option, Some, None}
use Rattle.cf_term.specs.Core.{Tm, var, node, Tms, cons, Head, Part, parts, first_part, rest_parts}
use Rattle.cf_term.specs.Forms.{Quote, Splice}
use Rattle.cf_term.specs.Same.{plain}
use Rattle.cf_term.specs.Substitution.{rename}
use Rattle.cf_term.specs.Evaluation.{contract}

-- a value under one more binder
abbrev pub raised : Option Tm → Option Tm
raised None = None
raised (Some v) = Some (rename suc v)

-- the values of the defined variables, under n binders more
abbrev pub beneath : ℕ → (ℕ → Option Tm) → ℕ → Option Tm
beneath zero known i = known i
beneath (suc n) known zero = None
beneath (suc n) known (suc i) = raised (beneath n known i)

-- one reduction, where known i is the value of the variable i if it is a defined one
mutual
  pub data Reduces : (known : ℕ → Option Tm) → Tm → Tm → Type 0 where
    -- an application of a lambda, mlet, a projection of a pair, a recursor on a constructor, ~<t>
    at_root : {known : ℕ → Option Tm} {h : Head} {ts : Tms} {r : Tm} → contract h ts ≡ Some r → Reduces known (node h ts) r
    -- <~u>
    unquote : {known : ℕ → Option Tm} {u : Tm} → Reduces known (Quote (Splice u)) u
    defined : {known : ℕ → Option Tm} {i : ℕ} {v : Tm} → known i ≡ Some v → Reduces known (var i) v
    in_part : {known : ℕ → Option Tm} {h : Head} {ts us : Tms} → ReducesOne known (parts h) ts us → Reduces known (node h ts) (node h us)

  -- one of the parts reduces
  pub data ReducesOne : (known : ℕ → Option Tm) → List Part → Tms → Tms → Type 0 where
    this_part : {known : ℕ → Option Tm} {ps : List Part} {t u : Tm} {ts : Tms} → Reduces (beneath (first_part ps).binds known) t u → ReducesOne known ps (cons t ts) (cons u ts)
    later_part : {known : ℕ → Option Tm} {ps : List Part} {t : Tm} {ts us : Tms} → ReducesOne known (rest_parts ps) ts us → ReducesOne known ps (cons t ts) (cons t us)

-- any number of reductions, one after the other
pub data Reaches (known : ℕ → Option Tm) : Tm → Tm → Type 0 where
  there : {t : Tm} → Reaches known t t
  after : {t u v : Tm} → Reduces known t u → Reaches known u v → Reaches known t v

-- the least equivalence that contains one reduction, and in which terms that differ in marks and `implicit` flags alone are one
pub data Converts (known : ℕ → Option Tm) : Tm → Tm → Type 0 where
  reduces : {t u : Tm} → Reduces known t u → Converts known t u
  alike : {t u : Tm} → plain t ≡ plain u → Converts known t u
  backward : {t u : Tm} → Converts known t u → Converts known u t
  in_turn : {t u v : Tm} → Converts known t u → Converts known u v → Converts known t v
