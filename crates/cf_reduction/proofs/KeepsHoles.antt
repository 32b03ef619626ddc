-- Reductions bring no hole that was not there, but for those in the values of defined variables.
use Rattle.std.specs.Prelude.{ℕ, zero, suc, ◌≡◌, refl, Bool, List, Option, Some, None}
use mathlib.Core.Path.{subst}
use Rattle.cf_term.specs.Core.{Tm, var, node, Tms, nil, cons, Head, Part, parts, first_part, rest_parts, HoleH, MarkH, AppH, LetH, FstH, SndH, UnitRecH, BoolRecH, NatRecH, ListRecH, SpliceH}
use Rattle.cf_term.specs.Forms.{Lam, Pair, Triv, True, False, Zero, Suc, Nil, Cons, Quote}
use Rattle.cf_term.specs.Same.{only, bare, bare_all}
use Rattle.cf_term.specs.Substitution.{lifts, rename, rename_all, ups, substitute, substitute_all, single, instance}
use Rattle.cf_term.specs.Evaluation.{applied, first_of, second_of, unit_case, bool_case, nat_case, list_case, quoted, contract}
use Rattle.cf_term.specs.Reductions.{raised, beneath, Reduces, at_root, unquote, defined, in_part, ReducesOne, this_part, later_part, Reaches, there, after}
use Rattle.cf_reduction.specs.Holes.{HolesAre, AllHolesAre}
use Rattle.cf_reduction.specs.Laws.{NormalFormsKeepHoles, ReductionsKeepHoles}
use Rattle.cf_reduction.proofs.Written.{normal_form_reaches}

module _ (these : ℕ → Bool) where
  mutual
    renamed : (t : Tm) (f : ℕ → ℕ) → HolesAre these t → HolesAre these (rename f t)
    renamed (var i) f h = tt
    renamed (node (HoleH k) ts) f h = (h.0, all_renamed ts (parts (HoleH k)) f h.1)
    renamed (node c ts) f h = all_renamed ts (parts c) f h

    all_renamed : (ts : Tms) (ps : List Part) (f : ℕ → ℕ) → AllHolesAre these ts → AllHolesAre these (rename_all f ps ts)
    all_renamed nil ps f h = tt
    all_renamed (cons t ts) ps f h = (renamed t (lifts (first_part ps).binds f) h.0, all_renamed ts (rest_parts ps) f h.1)

  abbrev Puts : (ℕ → Tm) → Type 0
  Puts s = (i : ℕ) → HolesAre these (s i)

  puts_ups : (k : ℕ) (s : ℕ → Tm) → Puts s → Puts (ups k s)
  puts_ups zero s p i = p i
  puts_ups (suc k) s p zero = tt
  puts_ups (suc k) s p (suc i) = renamed (ups k s i) suc (puts_ups k s p i)

  mutual
    substituted : (t : Tm) (s : ℕ → Tm) → Puts s → HolesAre these t → HolesAre these (substitute s t)
    substituted (var i) s p h = p i
    substituted (node (HoleH k) ts) s p h = (h.0, all_substituted ts (parts (HoleH k)) s p h.1)
    substituted (node c ts) s p h = all_substituted ts (parts c) s p h

    all_substituted : (ts : Tms) (ps : List Part) (s : ℕ → Tm) → Puts s → AllHolesAre these ts → AllHolesAre these (substitute_all s ps ts)
    all_substituted nil ps s p h = tt
    all_substituted (cons t ts) ps s p h = (substituted t (ups (first_part ps).binds s) (puts_ups (first_part ps).binds s p) h.0, all_substituted ts (rest_parts ps) s p h.1)

  puts_single : (u : Tm) → HolesAre these u → Puts (single u)
  puts_single u h zero = h
  puts_single u h (suc i) = tt

  in_instance : (t u : Tm) → HolesAre these t → HolesAre these u → HolesAre these (instance t u)
  in_instance t u g h = substituted t (single u) (puts_single u h) g

  -- where there is a term
  abbrev IfTerm : Option Tm → Type 0
  IfTerm None = Unit {0}
  IfTerm (Some t) = HolesAre these t

  in_applied : (t u : Tm) → HolesAre these t → HolesAre these u → IfTerm (applied t u)
  in_applied (Lam i a t) u g h = in_instance t u g.1.0 h
  in_applied _ u g h = tt

  in_first : (t : Tm) → HolesAre these t → IfTerm (first_of t)
  in_first (Pair s t u) h = h.1.0
  in_first _ h = tt

  in_second : (t : Tm) → HolesAre these t → IfTerm (second_of t)
  in_second (Pair s t u) h = h.1.1.0
  in_second _ h = tt

  in_unit : (u t : Tm) → HolesAre these u → IfTerm (unit_case u t)
  in_unit u Triv h = h
  in_unit u _ h = tt

  in_bool : (t f b : Tm) → HolesAre these t → HolesAre these f → IfTerm (bool_case t f b)
  in_bool t f True g h = g
  in_bool t f False g h = h
  in_bool t f _ g h = tt

  in_nat : (p z s m : Tm) → HolesAre these p → HolesAre these z → HolesAre these s → HolesAre these m → IfTerm (nat_case p z s m)
  in_nat p z s Zero a b c h = b
  in_nat p z s (Suc m) a b c h = ((c, (h.0, tt)), ((a, (b, (c, (h.0, tt)))), tt))
  in_nat p z s _ a b c h = tt

  in_list : (p z c l : Tm) → HolesAre these p → HolesAre these z → HolesAre these c → HolesAre these l → IfTerm (list_case p z c l)
  in_list p z c (Nil q) a b e h = b
  in_list p z c (Cons x y) a b e h = (((e, (h.0, tt)), (h.1.0, tt)), ((a, (b, (e, (h.1.0, tt)))), tt))
  in_list p z c _ a b e h = tt

  in_quoted : (t : Tm) → HolesAre these t → IfTerm (quoted t)
  in_quoted (Quote t) h = h.0
  in_quoted _ h = tt

  in_contract : (c : Head) (ts : Tms) → HolesAre these (node c ts) → IfTerm (contract c ts)
  in_contract (AppH i) (cons t (cons u nil)) h = in_applied t u h.0 h.1.0
  in_contract LetH (cons a (cons t (cons u nil))) h = in_instance u t h.1.1.0 h.1.0
  in_contract FstH (cons t nil) h = in_first t h.0
  in_contract SndH (cons t nil) h = in_second t h.0
  in_contract UnitRecH (cons p (cons u (cons t nil))) h = in_unit u t h.1.0
  in_contract BoolRecH (cons p (cons t (cons f (cons b nil)))) h = in_bool t f b h.1.0 h.1.1.0
  in_contract NatRecH (cons p (cons z (cons s (cons m nil)))) h = in_nat p z s m h.0 h.1.0 h.1.1.0 h.1.1.1.0
  in_contract ListRecH (cons p (cons z (cons s (cons l nil)))) h = in_list p z s l h.0 h.1.0 h.1.1.0 h.1.1.1.0
  in_contract SpliceH (cons t nil) h = in_quoted t h.0
  in_contract _ _ h = tt

  -- the holes in the values of the defined variables are some of these
  abbrev AreValues : (ℕ → Option Tm) → Type 0
  AreValues known = (i : ℕ) → IfTerm (known i)

  in_raised : (o : Option Tm) → IfTerm o → IfTerm (raised o)
  in_raised None h = tt
  in_raised (Some v) h = renamed v suc h

  values_beneath : (k : ℕ) (known : ℕ → Option Tm) → AreValues known → AreValues (beneath k known)
  values_beneath zero known a i = a i
  values_beneath (suc k) known a zero = tt
  values_beneath (suc k) known a (suc i) = in_raised (beneath k known i) (values_beneath k known a i)

  mutual
    reduces_keeps : (known : ℕ → Option Tm) → AreValues known → (t u : Tm) → Reduces known t u → HolesAre these t → HolesAre these u
    reduces_keeps known a _ u (at_root {h = c} {ts = ts} e) h = subst IfTerm e (in_contract c ts h)
    reduces_keeps known a _ u unquote h = h.0.0
    reduces_keeps known a _ v (defined {i = i} e) h = subst IfTerm e (a i)
    reduces_keeps known a (node (HoleH k) ts) _ (in_part {us = us} r) h = (h.0, parts_keep known a (parts (HoleH k)) ts us r h.1)
    reduces_keeps known a (node c ts) _ (in_part {us = us} r) h = parts_keep known a (parts c) ts us r h

    parts_keep : (known : ℕ → Option Tm) → AreValues known → (ps : List Part) (ts us : Tms) → ReducesOne known ps ts us → AllHolesAre these ts → AllHolesAre these us
    parts_keep known a ps _ _ (this_part {t = t} {u = u} r) h =
        (reduces_keeps (beneath (first_part ps).binds known) (values_beneath (first_part ps).binds known a) t u r h.0, h.1)
    parts_keep known a ps _ _ (later_part {ts = ts} {us = us} r) h = (h.0, parts_keep known a (rest_parts ps) ts us r h.1)

  value_keeps : (o : Option Tm) → ((v : Tm) → o ≡ Some v → HolesAre these v) → IfTerm o
  value_keeps None f = tt
  value_keeps (Some v) f = f v refl

  reaches_keeps : (known : ℕ → Option Tm) (t u : Tm) → AreValues known → Reaches known t u → HolesAre these t → HolesAre these u
  reaches_keeps known t _ a there h = h
  reaches_keeps known t v a (after {u = u} r s) h = reaches_keeps known u v a s (reduces_keeps known a t u r h)

  only_keeps : (ts : Tms) → AllHolesAre these ts → HolesAre these (only ts)
  only_keeps nil h = tt
  only_keeps (cons t ts) h = h.0

  mutual
    bare_keeps : (t : Tm) → HolesAre these t → HolesAre these (bare t)
    bare_keeps (var i) h = tt
    bare_keeps (node MarkH ts) h = only_keeps (bare_all ts) (all_bare ts h)
    bare_keeps (node (HoleH k) ts) h = (h.0, all_bare ts h.1)
    bare_keeps (node c ts) h = all_bare ts h

    all_bare : (ts : Tms) → AllHolesAre these ts → AllHolesAre these (bare_all ts)
    all_bare nil h = tt
    all_bare (cons t ts) h = (bare_keeps t h.0, all_bare ts h.1)

pub keep_holes : ReductionsKeepHoles
keep_holes these known t u a r h = reaches_keeps these known t u (λ i. value_keeps these (known i) (a i)) r h

pub normal_keeps_holes : NormalFormsKeepHoles
normal_keeps_holes these t k d u l e h = reaches_keeps these (λ _. None) (bare t) u (λ i. tt) (normal_form_reaches t k d u l e (λ _. None)) (bare_keeps these t h)
