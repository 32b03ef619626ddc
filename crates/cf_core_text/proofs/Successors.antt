-- Nat literals, walked down from the outermost `suc`.
use Rattle.std.proofs.Common.{◌≡◌, ℕ, suc, ◌+◌, Bool, [], ◌∷◌, Option, Some, None, Global, refl, ap, arith}
use Rattle.std.specs.declared.rc.Rc.{Rc}
use Rattle.cf_term.specs.Core.{Tm}
use Rattle.cf_term.specs.Forms.{Zero, Suc}
use Rattle.cf_term.specs.View.{marked, tm_of}
use Rattle.cf_term.specs.declared.forms.TermNode.{TermNode}
use Rattle.cf_term.specs.declared.forms.TermNode.TheVariants as form
use Rattle.cf_lex.specs.declared.keywords.Keyword.TheVariants as keyword
use Rattle.cf_core_text.proofs.Marked.{of_mark}
use Rattle.cf_core_text.specs.Pieces.{Printed, printed, literal, worded, successor}

-- n more
abbrev pub more : ℕ → Option ℕ → Option ℕ
more n (Some m) = Some (n + m)
more n None = None

more_more : (n : ℕ) (o : Option ℕ) → more n (more 1 o) ≡ more (n + 1) o
more_more n (Some m) =
    let e : n + (1 + m) ≡ n + 1 + m = omega arith in
    rw e refl
more_more n None = refl

of_marked : (g d : ℕ) (m : Bool) (t : Tm) → (printed g d (marked m t)).number ≡ (printed g d t).number
of_marked g d m t = ap (λ (f : Printed). f.number) (of_mark g d m t)

of_successor : (f : Printed) → (successor f).number ≡ more 1 f.number
of_successor f = by_number f.number
  where
    by_number : (o : Option ℕ) → (elim o as (λ _. Printed) [ Some n ↦ literal (suc n) | None ↦ worded keyword.Suc (f ∷ []) ]).number ≡ more 1 o
    by_number (Some n) =
        let e : suc n ≡ 1 + n = omega arith in
        rw e refl
    by_number None = refl

at_zero : (g d n : ℕ) (m : Bool) → more n (printed g d (marked m Zero)).number ≡ Some n
at_zero g d n m =
    let e : n + 0 ≡ n = omega arith in
    rw (of_marked g d m Zero) (rw e refl)

at_suc : (g d n : ℕ) (m : Bool) (t : Tm) → more n (printed g d (marked m (Suc t))).number ≡ more (n + 1) (printed g d t).number
at_suc g d n m t = rw (of_marked g d m (Suc t)) (rw (of_successor (printed g d t)) (more_more n (printed g d t).number))

at_other : (g d : ℕ) (x : TermNode) → (x ≡ form.Zero → ⊥) → ((t : Rc Tm Global) → x ≡ form.Suc t → ⊥) → (printed g d (tm_of x)).number ≡ None
at_other g d form.Zero zero_not suc_not = absurd (zero_not refl)
at_other g d (form.Suc t) zero_not suc_not = absurd (suc_not t refl)
at_other g d x zero_not suc_not = refl

-- at `zero`, at `suc`, and at any other form
pub found : (g d n : ℕ) (m : Bool) (x : TermNode) (t : Tm) → marked m (tm_of x) ≡ t → x ≡ form.Zero → more n (printed g d t).number ≡ Some n
found g d n m x t v e = rw (← v, e) (at_zero g d n m)

pub walked : (g d n k : ℕ) (m : Bool) (x : TermNode) (t u : Tm) (r : Rc Tm Global)
    → marked m (tm_of x) ≡ t → x ≡ form.Suc r → u ≡ r.value → k ≡ n + 1 → more n (printed g d t).number ≡ more k (printed g d u).number
walked g d n k m x t u r v e f h = rw (← v, e, f, h) (at_suc g d n m r.value)

pub missed : (g d n : ℕ) (m : Bool) (x : TermNode) (t : Tm)
    → marked m (tm_of x) ≡ t → (x ≡ form.Zero → ⊥) → ((r : Rc Tm Global) → x ≡ form.Suc r → ⊥) → more n (printed g d t).number ≡ None
missed g d n m x t v zero_not suc_not = rw (← v, of_marked g d m (tm_of x), at_other g d x zero_not suc_not) refl
