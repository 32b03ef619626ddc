-- Values as they are stored, so that equal ones are stored alike and others are told apart.
use Rattle.std.specs.Prelude.{◌≡◌, refl}
use Rattle.std.specs.Coded.{Coded}
use base.Stored.{Gv, gnil, gnum, gcons}
use native.Mathlib.Nat.{suc-ne-zero}
use mathlib.Core.Path.{ap, sym}
use Rattle.cf_term.specs.Codes.{head_code, tm_code, number, front, back, is_pair}
use Rattle.cf_value.specs.Val.{Val, VParts, Vals, level, form, none, ready, frozen, empty, push}

abbrev mutual
  pub code : Val → Gv
  code (level n) = gnum n
  code (form h l ps) = gcons (head_code.code h) (gcons (gnum l) (part_codes ps))

  -- a part that is ready has a number in front, a frozen one a pair
  pub part_codes : VParts → Gv
  part_codes none = gnil
  part_codes (ready v ps) = gcons (gcons (gnum 0) (code v)) (part_codes ps)
  part_codes (frozen e t ps) = gcons (gcons (gcons gnil gnil) (gcons (env_code e) (tm_code.code t))) (part_codes ps)

  pub env_code : Vals → Gv
  env_code empty = gnil
  env_code (push v e) = gcons (code v) (env_code e)

mutual
  pub code_inj : (x y : Val) → code x ≡ code y → x ≡ y
  code_inj (level m) (level n) e = ap (λ g. level (number g)) e
  code_inj (form h l ps) (form g m qs) e = λ i. form (head_code.inj h g (ap front e) i) (number (front (back (e i)))) (parts_inj ps qs (ap (λ g. back (back g)) e) i)
  code_inj (level m) (form h l ps) e = absurd (suc-ne-zero 0 (sym (ap is_pair e)))
  code_inj (form h l ps) (level n) e = absurd (suc-ne-zero 0 (ap is_pair e))

  pub parts_inj : (x y : VParts) → part_codes x ≡ part_codes y → x ≡ y
  parts_inj none none e = refl
  parts_inj (ready v ps) (ready w qs) e = λ i. ready (code_inj v w (ap (λ g. back (front g)) e) i) (parts_inj ps qs (ap back e) i)
  parts_inj (frozen e t ps) (frozen f u qs) p =
      λ i. frozen (env_inj e f (ap (λ g. front (back (front g))) p) i) (tm_code.inj t u (ap (λ g. back (back (front g))) p) i) (parts_inj ps qs (ap back p) i)
  parts_inj none (ready v ps) e = absurd (suc-ne-zero 0 (sym (ap is_pair e)))
  parts_inj none (frozen f t ps) e = absurd (suc-ne-zero 0 (sym (ap is_pair e)))
  parts_inj (ready v ps) none e = absurd (suc-ne-zero 0 (ap is_pair e))
  parts_inj (frozen f t ps) none e = absurd (suc-ne-zero 0 (ap is_pair e))
  parts_inj (ready v ps) (frozen f t qs) e = absurd (suc-ne-zero 0 (sym (ap (λ g. is_pair (front (front g))) e)))
  parts_inj (frozen f t qs) (ready v ps) e = absurd (suc-ne-zero 0 (ap (λ g. is_pair (front (front g))) e))

  pub env_inj : (x y : Vals) → env_code x ≡ env_code y → x ≡ y
  env_inj empty empty e = refl
  env_inj (push v xs) (push w ys) e = λ i. push (code_inj v w (ap front e) i) (env_inj xs ys (ap back e) i)
  env_inj empty (push v ys) e = absurd (suc-ne-zero 0 (sym (ap is_pair e)))
  env_inj (push v xs) empty e = absurd (suc-ne-zero 0 (ap is_pair e))

abbrev pub val_code : Coded Val
val_code = record { code = code; inj = code_inj }

abbrev pub vals_code : Coded Vals
vals_code = record { code = env_code; inj = env_inj }
