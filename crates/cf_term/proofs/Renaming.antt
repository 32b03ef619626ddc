-- The laws of renaming and substitution, once for all forms.
use Rattle.std.specs.Prelude.{ℕ, zero, suc, List, ◌≡◌, refl}
use mathlib.Core.Path.{ap, ap₂, sym, ◌∙◌, fun_ext}
use Rattle.cf_term.specs.Core.{Tm, var, node, Tms, nil, cons, Part, parts, first_part, rest_parts}
use Rattle.cf_term.specs.Substitution.{lift, lifts, rename, rename_all, up, ups, substitute, substitute_all, instance, single}

pub lift-comp : (f g : ℕ → ℕ) (i : ℕ) → lift f (lift g i) ≡ lift (λ j. f (g j)) i
lift-comp f g zero = refl
lift-comp f g (suc i) = refl

pub lifts-comp : (n : ℕ) (f g : ℕ → ℕ) (i : ℕ) → lifts n f (lifts n g i) ≡ lifts n (λ j. f (g j)) i
lifts-comp zero f g i = refl
lifts-comp (suc n) f g i = lift-comp (lifts n f) (lifts n g) i ∙ ap (λ h. lift h i) (fun_ext (lifts-comp n f g))

mutual
  pub ren-ren : (t : Tm) (f g : ℕ → ℕ) → rename f (rename g t) ≡ rename (λ j. f (g j)) t
  ren-ren (var i) f g = refl
  ren-ren (node h ts) f g = ap (node h) (rens-rens ts (parts h) f g)

  pub rens-rens : (ts : Tms) (ps : List Part) (f g : ℕ → ℕ) → rename_all f ps (rename_all g ps ts) ≡ rename_all (λ j. f (g j)) ps ts
  rens-rens nil ps f g = refl
  rens-rens (cons t ts) ps f g =
      let n = (first_part ps).binds in
      ap₂ cons (ren-ren t (lifts n f) (lifts n g) ∙ ap (λ h. rename h t) (fun_ext (lifts-comp n f g))) (rens-rens ts (rest_parts ps) f g)

pub up-lift : (s : ℕ → Tm) (f : ℕ → ℕ) (i : ℕ) → up s (lift f i) ≡ up (λ j. s (f j)) i
up-lift s f zero = refl
up-lift s f (suc i) = refl

pub ups-lifts : (n : ℕ) (s : ℕ → Tm) (f : ℕ → ℕ) (i : ℕ) → ups n s (lifts n f i) ≡ ups n (λ j. s (f j)) i
ups-lifts zero s f i = refl
ups-lifts (suc n) s f i = up-lift (ups n s) (lifts n f) i ∙ ap (λ h. up h i) (fun_ext (ups-lifts n s f))

mutual
  pub sub-ren : (t : Tm) (s : ℕ → Tm) (f : ℕ → ℕ) → substitute s (rename f t) ≡ substitute (λ j. s (f j)) t
  sub-ren (var i) s f = refl
  sub-ren (node h ts) s f = ap (node h) (subs-rens ts (parts h) s f)

  pub subs-rens : (ts : Tms) (ps : List Part) (s : ℕ → Tm) (f : ℕ → ℕ) → substitute_all s ps (rename_all f ps ts) ≡ substitute_all (λ j. s (f j)) ps ts
  subs-rens nil ps s f = refl
  subs-rens (cons t ts) ps s f =
      let n = (first_part ps).binds in
      ap₂ cons (sub-ren t (ups n s) (lifts n f) ∙ ap (λ h. substitute h t) (fun_ext (ups-lifts n s f))) (subs-rens ts (rest_parts ps) s f)

pub lift-up : (f : ℕ → ℕ) (s : ℕ → Tm) (i : ℕ) → rename (lift f) (up s i) ≡ up (λ j. rename f (s j)) i
lift-up f s zero = refl
lift-up f s (suc i) = ren-ren (s i) (lift f) suc ∙ sym (ren-ren (s i) suc f)

pub lifts-ups : (n : ℕ) (f : ℕ → ℕ) (s : ℕ → Tm) (i : ℕ) → rename (lifts n f) (ups n s i) ≡ ups n (λ j. rename f (s j)) i
lifts-ups zero f s i = refl
lifts-ups (suc n) f s i = lift-up (lifts n f) (ups n s) i ∙ ap (λ h. up h i) (fun_ext (lifts-ups n f s))

mutual
  pub ren-sub : (t : Tm) (f : ℕ → ℕ) (s : ℕ → Tm) → rename f (substitute s t) ≡ substitute (λ j. rename f (s j)) t
  ren-sub (var i) f s = refl
  ren-sub (node h ts) f s = ap (node h) (rens-subs ts (parts h) f s)

  pub rens-subs : (ts : Tms) (ps : List Part) (f : ℕ → ℕ) (s : ℕ → Tm) → rename_all f ps (substitute_all s ps ts) ≡ substitute_all (λ j. rename f (s j)) ps ts
  rens-subs nil ps f s = refl
  rens-subs (cons t ts) ps f s =
      let n = (first_part ps).binds in
      ap₂ cons (ren-sub t (lifts n f) (ups n s) ∙ ap (λ h. substitute h t) (fun_ext (lifts-ups n f s))) (rens-subs ts (rest_parts ps) f s)

pub up-up : (s r : ℕ → Tm) (i : ℕ) → substitute (up s) (up r i) ≡ up (λ j. substitute s (r j)) i
up-up s r zero = refl
up-up s r (suc i) = sub-ren (r i) (up s) suc ∙ sym (ren-sub (r i) suc s)

pub ups-ups : (n : ℕ) (s r : ℕ → Tm) (i : ℕ) → substitute (ups n s) (ups n r i) ≡ ups n (λ j. substitute s (r j)) i
ups-ups zero s r i = refl
ups-ups (suc n) s r i = up-up (ups n s) (ups n r) i ∙ ap (λ h. up h i) (fun_ext (ups-ups n s r))

mutual
  pub sub-sub : (t : Tm) (s r : ℕ → Tm) → substitute s (substitute r t) ≡ substitute (λ j. substitute s (r j)) t
  sub-sub (var i) s r = refl
  sub-sub (node h ts) s r = ap (node h) (subs-subs ts (parts h) s r)

  pub subs-subs : (ts : Tms) (ps : List Part) (s r : ℕ → Tm) → substitute_all s ps (substitute_all r ps ts) ≡ substitute_all (λ j. substitute s (r j)) ps ts
  subs-subs nil ps s r = refl
  subs-subs (cons t ts) ps s r =
      let n = (first_part ps).binds in
      ap₂ cons (sub-sub t (ups n s) (ups n r) ∙ ap (λ h. substitute h t) (fun_ext (ups-ups n s r))) (subs-subs ts (rest_parts ps) s r)

pub up-var : (i : ℕ) → up var i ≡ var i
up-var zero = refl
up-var (suc i) = refl

pub ups-var : (n i : ℕ) → ups n var i ≡ var i
ups-var zero i = refl
ups-var (suc n) i = ap (λ h. up h i) (fun_ext (ups-var n)) ∙ up-var i

mutual
  pub sub-var : (t : Tm) → substitute var t ≡ t
  sub-var (var i) = refl
  sub-var (node h ts) = ap (node h) (subs-var ts (parts h))

  pub subs-var : (ts : Tms) (ps : List Part) → substitute_all var ps ts ≡ ts
  subs-var nil ps = refl
  subs-var (cons t ts) ps =
      ap₂ cons (ap (λ h. substitute h t) (fun_ext (ups-var (first_part ps).binds)) ∙ sub-var t) (subs-var ts (rest_parts ps))

-- a renaming is a substitution of variables
pub ren-is-sub : (t : Tm) (f : ℕ → ℕ) → rename f t ≡ substitute (λ i. var (f i)) t
ren-is-sub t f = sym (sub-var (rename f t)) ∙ sub-ren t var f

-- a substitution goes past the putting in of an argument
pub single-sub : (s : ℕ → Tm) (u : Tm) (i : ℕ) → substitute s (single u i) ≡ substitute (single (substitute s u)) (up s i)
single-sub s u zero = refl
single-sub s u (suc i) = sym (sub-var (s i)) ∙ sym (sub-ren (s i) (single (substitute s u)) suc)

pub sub-inst : (s : ℕ → Tm) (t u : Tm) → substitute s (instance t u) ≡ instance (substitute (up s) t) (substitute s u)
sub-inst s t u = sub-sub t s (single u) ∙ ap (λ h. substitute h t) (fun_ext (single-sub s u)) ∙ sym (sub-sub t (single (substitute s u)) (up s))
