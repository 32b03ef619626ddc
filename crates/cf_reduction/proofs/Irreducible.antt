-- A term is normal exactly where nothing in it reduces.
use Rattle.std.specs.Prelude.{ℕ, zero, suc, List, Option, Some, None, ◌≡◌, refl}
use Rattle.std.proofs.Common.{arith}
use mathlib.Core.Path.{ap, sym, ◌∙◌, subst}
use Rattle.cf_term.specs.Core.{Tm, var, node, Tms, nil, cons, Head, Part, parts, first_part, rest_parts, depth, QuoteH, SpliceH}
use Rattle.cf_term.specs.Forms.{Quote, Splice}
use Rattle.cf_term.specs.Evaluation.{contract, quote_of, formed}
use Rattle.cf_term.specs.Reductions.{raised, beneath, Reduces, at_root, unquote, defined, in_part, ReducesOne, this_part, later_part}
use Rattle.cf_reduction.specs.Normal.{IsNormal, AreNormal}
use Rattle.cf_reduction.specs.Laws.{NormalTermsDoNotReduce}

-- no variable is defined
abbrev IsFree : (ℕ → Option Tm) → Type 0
IsFree known = (i : ℕ) → known i ≡ None

free_beneath : (n : ℕ) (known : ℕ → Option Tm) → IsFree known → IsFree (beneath n known)
free_beneath zero known h i = h i
free_beneath (suc n) known h zero = refl
free_beneath (suc n) known h (suc i) = ap raised (free_beneath n known h i)

none_some : (v : Tm) → None ≡ Some v → ⊥
none_some v e = subst (λ (x : Option Tm). elim x as (λ _. Type 0) [ None ↦ Unit {0} | Some t ↦ ⊥ ]) e tt

mutual
  stays : (known : ℕ → Option Tm) → IsFree known → (t u : Tm) → IsNormal t → Reduces known t u → ⊥
  stays known free _ u h (at_root e) = none_some u (sym h.0 ∙ e)
  stays known free _ u h unquote = omega (arith, ap depth h.1)
  stays known free _ v h (defined {i = i} e) = none_some v (sym (free i) ∙ e)
  stays known free (node c ts) _ h (in_part {us = us} r) = parts_stay known free (parts c) ts us h.2 r

  parts_stay : (known : ℕ → Option Tm) → IsFree known → (ps : List Part) (ts us : Tms) → AreNormal ts → ReducesOne known ps ts us → ⊥
  parts_stay known free ps _ _ h (this_part {t = t} {u = u} r) = stays (beneath (first_part ps).binds known) (free_beneath (first_part ps).binds known free) t u h.0 r
  parts_stay known free ps _ _ h (later_part {ts = ts} {us = us} r) = parts_stay known free (rest_parts ps) ts us h.1 r

no_step : (known : ℕ → Option Tm) (c : Head) (ts : Tms) (o : Option Tm) → contract c ts ≡ o → ((u : Tm) → Reduces known (node c ts) u → ⊥) → contract c ts ≡ None
no_step known c ts None e f = e
no_step known c ts (Some r) e f = absurd (f r (at_root e))

no_splice : (known : ℕ → Option Tm) (t : Tm) → ((u : Tm) → Reduces known (Quote t) u → ⊥) → quote_of t ≡ Quote t
no_splice known (Splice n) f = absurd (f n unquote)
no_splice known (node SpliceH nil) f = refl
no_splice known (node SpliceH (cons n (cons m ms))) f = refl
no_splice known (node c ts) f = refl
no_splice known (var i) f = refl

no_unquote : (known : ℕ → Option Tm) (c : Head) (ts : Tms) → ((u : Tm) → Reduces known (node c ts) u → ⊥) → formed c ts ≡ node c ts
no_unquote known QuoteH (cons t nil) f = no_splice known t f
no_unquote known QuoteH nil f = refl
no_unquote known QuoteH (cons t (cons u us)) f = refl
no_unquote known _ _ f = refl

mutual
  is_normal : (t : Tm) (known : ℕ → Option Tm) → ((u : Tm) → Reduces known t u → ⊥) → IsNormal t
  is_normal (var i) known f = tt
  is_normal (node c ts) known f = (no_step known c ts (contract c ts) refl f, no_unquote known c ts f, are_normal ts (parts c) known (λ us r. f (node c us) (in_part r)))

  are_normal : (ts : Tms) (ps : List Part) (known : ℕ → Option Tm) → ((us : Tms) → ReducesOne known ps ts us → ⊥) → AreNormal ts
  are_normal nil ps known f = tt
  are_normal (cons t ts) ps known f = (is_normal t (beneath (first_part ps).binds known) (λ u r. f (cons u ts) (this_part r)), are_normal ts (rest_parts ps) known (λ us r. f (cons t us) (later_part r)))

pub irreducible : NormalTermsDoNotReduce
irreducible known free t = (λ h u r. stays known free t u h r, λ f. is_normal t known f)
