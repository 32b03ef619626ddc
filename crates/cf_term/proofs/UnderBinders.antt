-- Shifting and substitution under binders, by numbers.
use Rattle.std.proofs.Common.{◌≡◌, ℕ, zero, suc, ◌+◌, ◌-◌, ◌<◌, nat_lt, nat_eq, if◌then◌else◌, refl, arith}
use Rattle.std.proofs.lemmas.Bool.Decides.{nat_tests}
use mathlib.Core.Path.{ap, ap₂, sym, ◌∙◌, fun_ext}
use Rattle.cf_term.specs.Core.{Tm, var}
use Rattle.cf_term.specs.Substitution.{lift, lifts, rename, up, ups, substitute, skip, shifted, in_place, substituted}
use Rattle.cf_term.proofs.Renaming.{ren-ren, sub-ren, sub-var, ren-is-sub}

-- under n binders the place of a shift is n higher
lift-skip : (from by i : ℕ) → lift (skip from by) i ≡ skip (from + 1) by i
lift-skip from by zero = grind (arith, nat_tests)
lift-skip from by (suc i) = grind (arith, nat_tests)

pub lifts-skip : (n from by i : ℕ) → lifts n (skip from by) i ≡ skip (from + n) by i
lifts-skip zero from by i =
    let e : from + 0 ≡ from = omega arith in
    rw e refl
lifts-skip (suc n) from by i =
    let e : (from + n) + 1 ≡ from + suc n = omega arith in
    ap (λ f. lift f i) (fun_ext (lifts-skip n from by)) ∙ lift-skip (from + n) by i ∙ ap (λ m. skip m by i) e

pub ups-more : (n d : ℕ) (s : ℕ → Tm) (i : ℕ) → ups n (ups d s) i ≡ ups (d + n) s i
ups-more zero d s i =
    let e : d + 0 ≡ d = omega arith in
    rw e refl
ups-more (suc n) d s i =
    let e : suc (d + n) ≡ d + suc n = omega arith in
    ap (λ r. up r i) (fun_ext (ups-more n d s)) ∙ ap (λ m. ups m s i) e

shift-nothing : (from i : ℕ) → skip from 0 i ≡ i
shift-nothing from i = grind (arith, nat_tests)

pub shift-by-nothing : (t : Tm) (from : ℕ) → shifted t from 0 ≡ t
shift-by-nothing t from = ap (λ f. rename f t) (fun_ext (shift-nothing from)) ∙ ren-is-sub t (λ i. i) ∙ sub-var t

-- the variable that a substitution below d binders stands at: what is put in is shifted by d
abbrev pub at_depth : (d at : ℕ) → Tm → ℕ → Tm
at_depth d at u i = if nat_lt i (at + d) then var i else if nat_eq i (at + d) then shifted u 0 d else var (i - 1)

skip_more : (d i : ℕ) → suc (skip 0 d i) ≡ skip 0 (suc d) i
skip_more d i = grind (arith, nat_tests)

shift_more : (u : Tm) (d : ℕ) → rename suc (shifted u 0 d) ≡ shifted u 0 (suc d)
shift_more u d = ren-ren u suc (skip 0 d) ∙ ap (λ f. rename f u) (fun_ext (skip_more d))

depth_first : (d at : ℕ) (u : Tm) → at_depth (suc d) at u 0 ≡ var 0
depth_first d at u = grind (arith, nat_tests)

depth_next : (d at : ℕ) (u : Tm) (i : ℕ) → rename suc (at_depth d at u i) ≡ at_depth (suc d) at u (suc i)
depth_next d at u i = grind (arith, nat_tests, shift_more u d)

pub ups-in-place : (d at : ℕ) (u : Tm) (i : ℕ) → ups d (in_place at u) i ≡ at_depth d at u i
ups-in-place zero at u i =
    let e : at + 0 ≡ at = omega arith in
    rw (e, shift-by-nothing u 0) refl
ups-in-place (suc d) at u zero = sym (depth_first d at u)
ups-in-place (suc d) at u (suc i) = ap (rename suc) (ups-in-place d at u i) ∙ depth_next d at u i

cancelled : (at : ℕ) (u : Tm) (i : ℕ) → in_place at u (skip at 1 i) ≡ var i
cancelled at u i = grind (arith, nat_tests)

-- what was shifted past a variable does not have it
pub sub-shifted : (t u : Tm) (at : ℕ) → substituted (shifted t at 1) at u ≡ t
sub-shifted t u at = sub-ren t (in_place at u) (skip at 1) ∙ ap (λ s. substitute s t) (fun_ext (cancelled at u)) ∙ sub-var t

skips-add : (from m n i : ℕ) → skip from n (skip from m i) ≡ skip from (m + n) i
skips-add from m n i = grind (arith, nat_tests)

pub shifts-add : (t : Tm) (from m n : ℕ) → shifted (shifted t from m) from n ≡ shifted t from (m + n)
shifts-add t from m n = ren-ren t (skip from n) (skip from m) ∙ ap (λ f. rename f t) (fun_ext (skips-add from m n))

-- the place and the term in the forms in which the code has them
pub raised_under : (from by binds m : ℕ) (t u : Tm) → m ≡ from + binds → t ≡ u → shifted t m by ≡ rename (lifts binds (skip from by)) u
raised_under from by binds m t u e d = ap₂ (λ k x. shifted x k by) e d ∙ ap (λ f. rename f u) (fun_ext (λ i. sym (lifts-skip binds from by i)))

pub put_under : (d at binds m : ℕ) (by t u : Tm) → m ≡ d + binds → t ≡ u → substitute (ups m (in_place at by)) t ≡ substitute (ups binds (ups d (in_place at by))) u
put_under d at binds m by t u e f = ap₂ (λ k x. substitute (ups k (in_place at by)) x) e f ∙ ap (λ s. substitute s u) (fun_ext (λ i. sym (ups-more binds d (in_place at by) i)))

-- the three cases of a variable below d binders
pub ups-there : (d at : ℕ) (u : Tm) (i : ℕ) → i ≡ at + d → ups d (in_place at u) i ≡ shifted u 0 d
ups-there d at u i e = ups-in-place d at u i ∙ there d at u i e where
  there : (d at : ℕ) (u : Tm) (i : ℕ) → i ≡ at + d → at_depth d at u i ≡ shifted u 0 d
  there d at u i e = grind (arith, nat_tests, e)

pub ups-below : (d at : ℕ) (u : Tm) (i : ℕ) → i < at + d → ups d (in_place at u) i ≡ var i
ups-below d at u i h = ups-in-place d at u i ∙ low d at u i h where
  low : (d at : ℕ) (u : Tm) (i : ℕ) → i < at + d → at_depth d at u i ≡ var i
  low d at u i h = grind (arith, nat_tests, h)

pub ups-above : (d at : ℕ) (u : Tm) (i : ℕ) → at + d < i → ups d (in_place at u) i ≡ var (i - 1)
ups-above d at u i h = ups-in-place d at u i ∙ high d at u i h where
  high : (d at : ℕ) (u : Tm) (i : ℕ) → at + d < i → at_depth d at u i ≡ var (i - 1)
  high d at u i h = grind (arith, nat_tests, h)
