-- Where a part stands among the parts of a form.
use Rattle.std.proofs.Common.{◌≡◌, ℕ, zero, suc, ◌+◌, ◌-◌, ◌*◌, ◌≤◌, ◌<◌, List, [], ◌∷◌, Some, None, get_or, length, refl, sym, arith}
use Rattle.std.specs.declared.rc.Rc.{Rc}
use Rattle.cf_term.specs.Core.{Tm, Tms, nil, cons, Part, here, under, group, branch_parts}
use Rattle.cf_term.specs.View.{listed, definitions, heads, bodies}
use Rattle.cf_term.specs.Numbered.{part_at, length_of}
use Rattle.cf_term.specs.declared.forms.Branch as branch
use Rattle.cf_term.specs.declared.forms.Definition.{Definition}

module _ {Z : Type 0} where
  pub listed_some : (ts : List (Rc Tm Z)) (us : Tms) (i : ℕ) (t : Rc Tm Z) → i < length ts → t ≡ get_or ts i t → part_at [] (listed ts us) i ≡ Some (record { place = here; term = t.value })
  listed_some [] us i t h e = absurd (omega arith)
  listed_some (x ∷ xs) us zero t h e = λ k. Some (record { place = here; term = (sym e k).value })
  listed_some (x ∷ xs) us (suc i) t h e = listed_some xs us i t (omega arith) e

  pub listed_none : (ts : List (Rc Tm Z)) (i : ℕ) → length ts ≤ i → part_at [] (listed ts nil) i ≡ None
  listed_none [] i h = refl
  listed_none (x ∷ xs) zero h = absurd (omega arith)
  listed_none (x ∷ xs) (suc i) h = listed_none xs i (omega arith)

  pub listed_left : (ts : List (Rc Tm Z)) (us : Tms) (i : ℕ) → i < length ts → part_at [] (listed ts us) i ≡ part_at [] (listed ts nil) i
  listed_left [] us i h = absurd (omega arith)
  listed_left (x ∷ xs) us zero h = refl
  listed_left (x ∷ xs) us (suc i) h = listed_left xs us i (omega arith)

  pub listed_right : (ts : List (Rc Tm Z)) (us : Tms) (i k : ℕ) → i ≡ length ts + k → part_at [] (listed ts us) i ≡ part_at [] us k
  listed_right [] us i k h =
      let e : i ≡ k = omega (arith, h) in
      rw e refl
  listed_right (x ∷ xs) us i k h =
      let e : i ≡ suc (length xs + k) = omega (arith, h) in
      rw e (listed_right xs us (length xs + k) k refl)

  pub listed_length : (ts : List (Rc Tm Z)) (us : Tms) → length_of (listed ts us) ≡ length ts + length_of us
  listed_length [] us = omega arith
  listed_length (t ∷ ts) us = omega (arith, listed_length ts us)

pub group_type : (n : ℕ) (ds : List Definition) (us : Tms) (i k : ℕ) (d : Definition)
    → i ≡ 2 * k → k < length ds → d ≡ get_or ds k d → part_at (group n (length ds)) (definitions ds us) i ≡ Some (record { place = here; term = d.ty.value })
group_type n [] us i k d f h e = absurd (omega arith)
group_type n (x ∷ xs) us i zero d f h e = rw f (λ k. Some (record { place = here; term = (sym e k).ty.value }))
group_type n (x ∷ xs) us i (suc k) d f h e =
    let two : i ≡ suc (suc (2 * k)) = omega (arith, f) in
    rw two (group_type n xs us (2 * k) k d refl (omega arith) e)

pub group_value : (n : ℕ) (ds : List Definition) (us : Tms) (i k : ℕ) (d : Definition)
    → i ≡ 2 * k + 1 → k < length ds → d ≡ get_or ds k d → part_at (group n (length ds)) (definitions ds us) i ≡ Some (record { place = under n; term = d.value.value })
group_value n [] us i k d f h e = absurd (omega arith)
group_value n (x ∷ xs) us i zero d f h e = rw f (λ k. Some (record { place = under n; term = (sym e k).value.value }))
group_value n (x ∷ xs) us i (suc k) d f h e =
    let two : i ≡ suc (suc (2 * k + 1)) = omega (arith, f) in
    rw two (group_value n xs us (2 * k + 1) k d refl (omega arith) e)

pub group_last : (n : ℕ) (ds : List Definition) (t : Tm) (i : ℕ) → i ≡ 2 * length ds → part_at (group n (length ds)) (definitions ds (cons t nil)) i ≡ Some (record { place = under n; term = t })
group_last n [] t i f = rw f refl
group_last n (x ∷ xs) t i f =
    let two : i ≡ suc (suc (2 * length xs)) = omega (arith, f) in
    rw two (group_last n xs t (2 * length xs) refl)

pub group_none : (n : ℕ) (ds : List Definition) (t : Tm) (i : ℕ) → 2 * length ds < i → part_at (group n (length ds)) (definitions ds (cons t nil)) i ≡ None
group_none n [] t zero f = absurd (omega arith)
group_none n [] t (suc i) f = refl
group_none n (x ∷ xs) t zero f = absurd (omega arith)
group_none n (x ∷ xs) t (suc zero) f = absurd (omega arith)
group_none n (x ∷ xs) t (suc (suc i)) f = group_none n xs t i (omega arith)

pub definitions_length : (ds : List Definition) (us : Tms) → length_of (definitions ds us) ≡ 2 * length ds + length_of us
definitions_length [] us = omega arith
definitions_length (d ∷ ds) us = omega (arith, definitions_length ds us)

pub branch_some : (bs : List (branch.Branch)) (i : ℕ) (b : branch.Branch)
    → i < length bs → b ≡ get_or bs i b → part_at (branch_parts (heads bs)) (bodies bs) i ≡ Some (record { place = under b.names; term = b.body.value })
branch_some [] i b h e = absurd (omega arith)
branch_some (x ∷ xs) zero b h e = λ k. Some (record { place = under (sym e k).names; term = (sym e k).body.value })
branch_some (x ∷ xs) (suc i) b h e = branch_some xs i b (omega arith) e

pub branch_none : (bs : List (branch.Branch)) (i : ℕ) → length bs ≤ i → part_at (branch_parts (heads bs)) (bodies bs) i ≡ None
branch_none [] i h = refl
branch_none (x ∷ xs) zero h = absurd (omega arith)
branch_none (x ∷ xs) (suc i) h = branch_none xs i (omega arith)

pub bodies_length : (bs : List (branch.Branch)) → length_of (bodies bs) ≡ length bs
bodies_length [] = refl
bodies_length (b ∷ bs) = omega (arith, bodies_length bs)

-- behind two parts
pub past_two : (p q : Part) (ps : List Part) (t u : Tm) (ts : Tms) (i : ℕ) → 2 ≤ i → part_at (p ∷ q ∷ ps) (cons t (cons u ts)) i ≡ part_at ps ts (i - 2)
past_two p q ps t u ts zero h = absurd (omega arith)
past_two p q ps t u ts (suc zero) h = absurd (omega arith)
past_two p q ps t u ts (suc (suc i)) h =
    let e : suc (suc i) - 2 ≡ i = omega arith in
    rw e refl
