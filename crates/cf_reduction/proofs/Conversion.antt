-- Conversion is an equivalence, and what is reached converts.
use Rattle.std.specs.Prelude.{ℕ, Option, ◌≡◌, refl}
use mathlib.Core.Path.{ap, ap₂, sym}
use Rattle.cf_term.specs.Core.{Tm, var, node, Tms, nil, cons, MarkH}
use Rattle.cf_term.specs.Same.{only, bare, bare_all, plain, plain_all, plain_head}
use Rattle.cf_term.specs.Laws.{SameDecides}
use Rattle.cf_term.specs.Reductions.{Reaches, there, after, Converts, reduces, alike, backward, in_turn}
use Rattle.cf_reduction.specs.Laws.{ConversionIsEquivalence, ReachedTermsConvert, SameNormalFormsConvert}
use Rattle.cf_reduction.proofs.Written.{normal_form_reaches}

pub equivalence : ConversionIsEquivalence
equivalence known = (λ t. alike refl, λ t u c. backward c, λ t u v c e. in_turn c e)

pub reached_converts : ReachedTermsConvert
reached_converts known t _ there = alike refl
reached_converts known t v (after {u = u} r s) = in_turn (reduces r) (reached_converts known u v s)

plain_only : (ts us : Tms) → plain_all ts ≡ us → plain (only ts) ≡ only us
plain_only nil us e = ap only e
plain_only (cons t ts) us e = ap only e

mutual
  -- marks say nothing
  plain_bare : (t : Tm) → plain (bare t) ≡ plain t
  plain_bare (var i) = refl
  plain_bare (node MarkH ts) = plain_only (bare_all ts) (plain_all ts) (all_plain_bare ts)
  plain_bare (node h ts) = ap (node (plain_head h)) (all_plain_bare ts)

  all_plain_bare : (ts : Tms) → plain_all (bare_all ts) ≡ plain_all ts
  all_plain_bare nil = refl
  all_plain_bare (cons t ts) = ap₂ cons (plain_bare t) (all_plain_bare ts)

module _ (same-decides : SameDecides) where
  to_normal_form : (known : ℕ → Option Tm) (t u : Tm) → Reaches known (bare t) u → Converts known t u
  to_normal_form known t u r = in_turn (alike (sym (plain_bare t))) (reached_converts known (bare t) u r)

  pub same_convert : SameNormalFormsConvert
  same_convert t u k d m e v w l j p q s known =
      in_turn (to_normal_form known t v (normal_form_reaches t k d v l p known)) (in_turn (alike ((same-decides v w).0 s)) (backward (to_normal_form known u w (normal_form_reaches u m e w j q known))))
