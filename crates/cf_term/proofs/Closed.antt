-- Closed terms under renaming and substitution. What is said of n variables holds under binders of those and the bound ones.
use Rattle.std.specs.Prelude.{ℕ, zero, suc, ◌+◌, ◌-◌, ◌<◌, ◌≤◌, ◌≡◌, refl, List, Bool, true, false, nat_lt, nat_eq, if◌then◌else◌}
use Rattle.std.proofs.Common.{arith}
use Rattle.std.proofs.lemmas.Bool.Decides.{nat_tests}
use mathlib.Core.Path.{ap, ap₂}
use Rattle.cf_term.specs.Core.{Tm, var, node, Tms, nil, cons, Part, parts, first_part, rest_parts, MarkH}
use Rattle.cf_term.specs.Closed.{IsClosed, AreClosed}
use Rattle.cf_term.specs.Same.{only, bare, bare_all}
use Rattle.cf_term.specs.Substitution.{lifts, rename, rename_all, ups, substitute, substitute_all, skip, in_place}
use Rattle.cf_term.specs.Laws.{ClosedAmongMore, RenamingOfClosed, SubstitutionOfClosed, ShiftOfClosed, RenamedTermIsClosed, SubstitutionIsClosed, ShiftedTermIsClosed, SubstitutedTermIsClosed, BareTermIsClosed}

-- ---- more variables

mutual
  more : (t : Tm) (n m : ℕ) → n ≤ m → IsClosed n t → IsClosed m t
  more (var i) n m h c = omega (arith, h, c)
  more (node h ts) n m le c = all_more ts (parts h) n m le c

  all_more : (ts : Tms) (ps : List Part) (n m : ℕ) → n ≤ m → AreClosed n ps ts → AreClosed m ps ts
  all_more nil ps n m h c = tt
  all_more (cons t ts) ps n m h c =
      let b = (first_part ps).binds in
      (more t (n + b) (m + b) (omega (arith, h)) c.0, all_more ts (rest_parts ps) n m h c.1)

pub among_more : ClosedAmongMore
among_more = more

-- ---- what keeps the variables keeps the term

abbrev Keeps : ℕ → (ℕ → ℕ) → Type 0
Keeps n f = (i : ℕ) → i < n → f i ≡ i

keeps_lifts : (k n : ℕ) (f : ℕ → ℕ) → Keeps n f → Keeps (n + k) (lifts k f)
keeps_lifts zero n f h i l = h i (omega (arith, l))
keeps_lifts (suc k) n f h zero l = refl
keeps_lifts (suc k) n f h (suc i) l = ap suc (keeps_lifts k n f h i (omega (arith, l)))

mutual
  renaming_stays : (t : Tm) (n : ℕ) (f : ℕ → ℕ) → Keeps n f → IsClosed n t → rename f t ≡ t
  renaming_stays (var i) n f h c = ap var (h i c)
  renaming_stays (node g ts) n f h c = ap (node g) (renamings_stay ts (parts g) n f h c)

  renamings_stay : (ts : Tms) (ps : List Part) (n : ℕ) (f : ℕ → ℕ) → Keeps n f → AreClosed n ps ts → rename_all f ps ts ≡ ts
  renamings_stay nil ps n f h c = refl
  renamings_stay (cons t ts) ps n f h c =
      let b = (first_part ps).binds in
      ap₂ cons (renaming_stays t (n + b) (lifts b f) (keeps_lifts b n f h) c.0) (renamings_stay ts (rest_parts ps) n f h c.1)

pub renaming_keeps : RenamingOfClosed
renaming_keeps = renaming_stays

abbrev Leaves : ℕ → (ℕ → Tm) → Type 0
Leaves n s = (i : ℕ) → i < n → s i ≡ var i

leaves_ups : (k n : ℕ) (s : ℕ → Tm) → Leaves n s → Leaves (n + k) (ups k s)
leaves_ups zero n s h i l = h i (omega (arith, l))
leaves_ups (suc k) n s h zero l = refl
leaves_ups (suc k) n s h (suc i) l = ap (rename suc) (leaves_ups k n s h i (omega (arith, l)))

mutual
  substitution_stays : (t : Tm) (n : ℕ) (s : ℕ → Tm) → Leaves n s → IsClosed n t → substitute s t ≡ t
  substitution_stays (var i) n s h c = h i c
  substitution_stays (node g ts) n s h c = ap (node g) (substitutions_stay ts (parts g) n s h c)

  substitutions_stay : (ts : Tms) (ps : List Part) (n : ℕ) (s : ℕ → Tm) → Leaves n s → AreClosed n ps ts → substitute_all s ps ts ≡ ts
  substitutions_stay nil ps n s h c = refl
  substitutions_stay (cons t ts) ps n s h c =
      let b = (first_part ps).binds in
      ap₂ cons (substitution_stays t (n + b) (ups b s) (leaves_ups b n s h) c.0) (substitutions_stay ts (rest_parts ps) n s h c.1)

pub substitution_keeps : SubstitutionOfClosed
substitution_keeps = substitution_stays

skips_past : (n at by i : ℕ) → n ≤ at → i < n → skip at by i ≡ i
skips_past n at by i h l = grind (arith, nat_tests, h, l)

puts_past : (n at : ℕ) (u : Tm) (i : ℕ) → n ≤ at → i < n → in_place at u i ≡ var i
puts_past n at u i h l = grind (arith, nat_tests, h, l)

pub shift_keeps : ShiftOfClosed
shift_keeps t u n at by h c = (
  renaming_stays t n (skip at by) (λ i l. skips_past n at by i h l) c,
  substitution_stays t n (in_place at u) (λ i l. puts_past n at u i h l) c,
)

-- ---- renaming and substitution make closed terms

abbrev Bounds : (n m : ℕ) → (ℕ → ℕ) → Type 0
Bounds n m f = (i : ℕ) → i < n → f i < m

bounds_lifts : (k n m : ℕ) (f : ℕ → ℕ) → Bounds n m f → Bounds (n + k) (m + k) (lifts k f)
bounds_lifts zero n m f h i l = let g = h i (omega (arith, l)) in omega (arith, g)
bounds_lifts (suc k) n m f h zero l = omega arith
bounds_lifts (suc k) n m f h (suc i) l = let g = bounds_lifts k n m f h i (omega (arith, l)) in omega (arith, g)

mutual
  rename_closed : (t : Tm) (n m : ℕ) (f : ℕ → ℕ) → Bounds n m f → IsClosed n t → IsClosed m (rename f t)
  rename_closed (var i) n m f h c = h i c
  rename_closed (node g ts) n m f h c = rename_all_closed ts (parts g) n m f h c

  rename_all_closed : (ts : Tms) (ps : List Part) (n m : ℕ) (f : ℕ → ℕ) → Bounds n m f → AreClosed n ps ts → AreClosed m ps (rename_all f ps ts)
  rename_all_closed nil ps n m f h c = tt
  rename_all_closed (cons t ts) ps n m f h c =
      let b = (first_part ps).binds in
      (rename_closed t (n + b) (m + b) (lifts b f) (bounds_lifts b n m f h) c.0, rename_all_closed ts (rest_parts ps) n m f h c.1)

pub renamed : RenamedTermIsClosed
renamed = rename_closed

abbrev Puts : (n m : ℕ) → (ℕ → Tm) → Type 0
Puts n m s = (i : ℕ) → i < n → IsClosed m (s i)

puts_ups : (k n m : ℕ) (s : ℕ → Tm) → Puts n m s → Puts (n + k) (m + k) (ups k s)
puts_ups zero n m s h i l = more (s i) m (m + 0) (omega arith) (h i (omega (arith, l)))
puts_ups (suc k) n m s h zero l = omega arith
puts_ups (suc k) n m s h (suc i) l =
    rename_closed (ups k s i) (m + k) (m + suc k) suc (λ j g. omega (arith, g)) (puts_ups k n m s h i (omega (arith, l)))

mutual
  substitute_closed : (t : Tm) (n m : ℕ) (s : ℕ → Tm) → Puts n m s → IsClosed n t → IsClosed m (substitute s t)
  substitute_closed (var i) n m s h c = h i c
  substitute_closed (node g ts) n m s h c = substitute_all_closed ts (parts g) n m s h c

  substitute_all_closed : (ts : Tms) (ps : List Part) (n m : ℕ) (s : ℕ → Tm) → Puts n m s → AreClosed n ps ts → AreClosed m ps (substitute_all s ps ts)
  substitute_all_closed nil ps n m s h c = tt
  substitute_all_closed (cons t ts) ps n m s h c =
      let b = (first_part ps).binds in
      (substitute_closed t (n + b) (m + b) (ups b s) (puts_ups b n m s h) c.0, substitute_all_closed ts (rest_parts ps) n m s h c.1)

pub substituted_under : SubstitutionIsClosed
substituted_under t k n m s h c = substitute_closed t (n + k) (m + k) (ups k s) (puts_ups k n m s h) c

skips_below : (n from by i : ℕ) → i < n → skip from by i < n + by
skips_below n from by i h = grind (arith, nat_tests, h)

pub shifted_closed : ShiftedTermIsClosed
shifted_closed t n from by c = rename_closed t n (n + by) (skip from by) (λ i h. skips_below n from by i h) c

-- a variable below the place, u at the place, and the variable before one above it
put_choice : (b e : Bool) (n i : ℕ) (u : Tm) → (b ≡ true → i < n) → (b ≡ false → e ≡ false → i - 1 < n) → IsClosed n u → IsClosed n (if b then var i else if e then u else var (i - 1))
put_choice true e n i u low high c = low refl
put_choice false true n i u low high c = c
put_choice false false n i u low high c = high refl refl

puts_below : (n at : ℕ) (u : Tm) → at ≤ n → IsClosed n u → Puts (n + 1) n (in_place at u)
puts_below n at u h c i l =
    put_choice (nat_lt i at) (nat_eq i at) n i u
    (λ e. let x : nat_lt i at ≡ true = e in grind (arith, nat_tests, x, h, l))
    (λ e f. let x : nat_lt i at ≡ false = e in let y : nat_eq i at ≡ false = f in grind (arith, nat_tests, x, y, h, l))
    c

pub substituted_closed : SubstitutedTermIsClosed
substituted_closed t u n at h c d = substitute_closed t (n + 1) n (in_place at u) (puts_below n at u h d) c

-- ---- marks

only_closed : (n : ℕ) (ts : Tms) → AreClosed n (parts MarkH) ts → IsClosed n (only ts)
only_closed n nil c = tt
only_closed n (cons t ts) c = more t (n + 0) n (omega arith) c.0

mutual
  bares : (t : Tm) (n : ℕ) → IsClosed n t → IsClosed n (bare t)
  bares (var i) n c = c
  bares (node MarkH ts) n c = only_closed n (bare_all ts) (all_bare ts (parts MarkH) n c)
  bares (node h ts) n c = all_bare ts (parts h) n c

  all_bare : (ts : Tms) (ps : List Part) (n : ℕ) → AreClosed n ps ts → AreClosed n ps (bare_all ts)
  all_bare nil ps n c = tt
  all_bare (cons t ts) ps n c = (bares t (n + (first_part ps).binds) c.0, all_bare ts (rest_parts ps) n c.1)

pub bare_closed : BareTermIsClosed
bare_closed = bares
