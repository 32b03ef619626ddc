-- Reductions bring no variable that was not there, but for those in the values of defined variables.
use Rattle.std.specs.Prelude.{ℕ, zero, suc, ◌+◌, ◌<◌, ◌≡◌, refl, List, Option, Some, None}
use Rattle.std.proofs.Common.{arith}
use mathlib.Core.Path.{subst}
use Rattle.cf_term.specs.Core.{Tm, node, Tms, nil, cons, Head, Part, parts, first_part, rest_parts, AppH, LetH, FstH, SndH, UnitRecH, BoolRecH, NatRecH, ListRecH, SpliceH}
use Rattle.cf_term.specs.Forms.{Lam, Pair, Triv, True, False, Zero, Suc, Nil, Cons, Quote}
use Rattle.cf_term.specs.Closed.{IsClosed, AreClosed}
use Rattle.cf_term.specs.Substitution.{single, instance}
use Rattle.cf_term.specs.Laws.{BareTermIsClosed, ClosedAmongMore, RenamedTermIsClosed, SubstitutionIsClosed}
use Rattle.cf_term.specs.Same.{bare}
use Rattle.cf_term.specs.Evaluation.{applied, first_of, second_of, unit_case, bool_case, nat_case, list_case, quoted, contract}
use Rattle.cf_term.specs.Reductions.{raised, beneath, Reduces, at_root, unquote, defined, in_part, ReducesOne, this_part, later_part, there, after}
use Rattle.cf_reduction.specs.Laws.{NormalFormsStayClosed, ReductionsStayClosed}
use Rattle.cf_reduction.proofs.Written.{normal_form_reaches}

module _ (among-more : ClosedAmongMore) (renamed-closed : RenamedTermIsClosed) (substitution-closed : SubstitutionIsClosed) where
  -- from a part under no binder, and to one
  out_of_part : (n : ℕ) (t : Tm) → IsClosed (n + 0) t → IsClosed n t
  out_of_part n t c = among-more t (n + 0) n (omega arith) c

  part_of : (n : ℕ) (t : Tm) → IsClosed n t → IsClosed (n + 0) t
  part_of n t c = among-more t n (n + 0) (omega arith) c

  put_first : (n : ℕ) (u : Tm) → IsClosed n u → (i : ℕ) → i < n + 1 → IsClosed n (single u i)
  put_first n u c zero h = c
  put_first n u c (suc i) h = omega (arith, h)

  in_instance : (n : ℕ) (t u : Tm) → IsClosed (n + 1) t → IsClosed n u → IsClosed n (instance t u)
  in_instance n t u c d = out_of_part n (instance t u) (substitution-closed t 0 (n + 1) n (single u) (put_first n u d) (among-more t (n + 1) (n + 1 + 0) (omega arith) c))

  -- where there is a term
  abbrev IfTerm : ℕ → Option Tm → Type 0
  IfTerm n None = Unit {0}
  IfTerm n (Some t) = IsClosed n t

  in_applied : (n : ℕ) (t u : Tm) → IsClosed n t → IsClosed n u → IfTerm n (applied t u)
  in_applied n (Lam i a t) u c d = in_instance n t u c.1.0 d
  in_applied n _ u c d = tt

  in_first : (n : ℕ) (t : Tm) → IsClosed n t → IfTerm n (first_of t)
  in_first n (Pair s t u) c = out_of_part n t c.1.0
  in_first n _ c = tt

  in_second : (n : ℕ) (t : Tm) → IsClosed n t → IfTerm n (second_of t)
  in_second n (Pair s t u) c = out_of_part n u c.1.1.0
  in_second n _ c = tt

  in_unit : (n : ℕ) (u t : Tm) → IsClosed n u → IfTerm n (unit_case u t)
  in_unit n u Triv c = c
  in_unit n u _ c = tt

  in_bool : (n : ℕ) (t f b : Tm) → IsClosed n t → IsClosed n f → IfTerm n (bool_case t f b)
  in_bool n t f True c d = c
  in_bool n t f False c d = d
  in_bool n t f _ c d = tt

  in_nat : (n : ℕ) (p z s m : Tm) → IsClosed n p → IsClosed n z → IsClosed n s → IsClosed n m → IfTerm n (nat_case p z s m)
  in_nat n p z s Zero a b c d = b
  in_nat n p z s (Suc m) a b c d =
      let e = out_of_part n m d.0 in (
        (part_of (n + 0) s (part_of n s c), (part_of (n + 0) m (part_of n m e), tt)),
        ((part_of (n + 0) p (part_of n p a), (part_of (n + 0) z (part_of n z b), (part_of (n + 0) s (part_of n s c), (part_of (n + 0) m (part_of n m e), tt)))), tt),
      )
  in_nat n p z s _ a b c d = tt

  in_list : (n : ℕ) (p z c l : Tm) → IsClosed n p → IsClosed n z → IsClosed n c → IsClosed n l → IfTerm n (list_case p z c l)
  in_list n p z c (Nil q) a b e d = b
  in_list n p z c (Cons x y) a b e d =
      let f = out_of_part n x d.0 in
      let g = out_of_part n y d.1.0 in (
        ((part_of (n + 0 + 0) c (part_of (n + 0) c (part_of n c e)), (part_of (n + 0 + 0) x (part_of (n + 0) x (part_of n x f)), tt)), (part_of (n + 0) y (part_of n y g), tt)),
        ((part_of (n + 0) p (part_of n p a), (part_of (n + 0) z (part_of n z b), (part_of (n + 0) c (part_of n c e), (part_of (n + 0) y (part_of n y g), tt)))), tt),
      )
  in_list n p z c _ a b e d = tt

  in_quoted : (n : ℕ) (t : Tm) → IsClosed n t → IfTerm n (quoted t)
  in_quoted n (Quote t) c = out_of_part n t c.0
  in_quoted n _ c = tt

  in_contract : (n : ℕ) (h : Head) (ts : Tms) → IsClosed n (node h ts) → IfTerm n (contract h ts)
  in_contract n (AppH i) (cons t (cons u nil)) c = in_applied n t u (out_of_part n t c.0) (out_of_part n u c.1.0)
  in_contract n LetH (cons a (cons t (cons u nil))) c = in_instance n u t c.1.1.0 (out_of_part n t c.1.0)
  in_contract n FstH (cons t nil) c = in_first n t (out_of_part n t c.0)
  in_contract n SndH (cons t nil) c = in_second n t (out_of_part n t c.0)
  in_contract n UnitRecH (cons p (cons u (cons t nil))) c = in_unit n u t (out_of_part n u c.1.0)
  in_contract n BoolRecH (cons p (cons t (cons f (cons b nil)))) c = in_bool n t f b (out_of_part n t c.1.0) (out_of_part n f c.1.1.0)
  in_contract n NatRecH (cons p (cons z (cons s (cons m nil)))) c = in_nat n p z s m (out_of_part n p c.0) (out_of_part n z c.1.0) (out_of_part n s c.1.1.0) (out_of_part n m c.1.1.1.0)
  in_contract n ListRecH (cons p (cons z (cons s (cons l nil)))) c = in_list n p z s l (out_of_part n p c.0) (out_of_part n z c.1.0) (out_of_part n s c.1.1.0) (out_of_part n l c.1.1.1.0)
  in_contract n SpliceH (cons t nil) c = in_quoted n t (out_of_part n t c.0)
  in_contract n _ _ c = tt

  -- the values of the defined variables are terms of n variables
  abbrev AreValues : ℕ → (ℕ → Option Tm) → Type 0
  AreValues n known = (i : ℕ) → IfTerm n (known i)

  raised_closed : (n : ℕ) (o : Option Tm) → IfTerm n o → IfTerm (suc n) (raised o)
  raised_closed n None c = tt
  raised_closed n (Some v) c = renamed-closed v n (suc n) suc (λ j h. omega (arith, h)) c

  same_bound : (n m : ℕ) (o : Option Tm) → n ≡ m → IfTerm n o → IfTerm m o
  same_bound n m o e c = subst (λ k. IfTerm k o) e c

  values_beneath : (k n : ℕ) (known : ℕ → Option Tm) → AreValues n known → AreValues (n + k) (beneath k known)
  values_beneath zero n known a i = same_bound n (n + 0) (known i) (omega arith) (a i)
  values_beneath (suc k) n known a zero = tt
  values_beneath (suc k) n known a (suc i) =
      same_bound (suc (n + k)) (n + suc k) (raised (beneath k known i)) (omega arith) (raised_closed (n + k) (beneath k known i) (values_beneath k n known a i))

  mutual
    reduces_closed : (known : ℕ → Option Tm) (n : ℕ) → AreValues n known → (t u : Tm) → Reduces known t u → IsClosed n t → IsClosed n u
    reduces_closed known n a _ u (at_root {h = h} {ts = ts} e) c = subst (IfTerm n) e (in_contract n h ts c)
    reduces_closed known n a _ u unquote c = out_of_part n u (out_of_part (n + 0) u c.0.0)
    reduces_closed known n a _ v (defined {i = i} e) c = subst (IfTerm n) e (a i)
    reduces_closed known n a (node h ts) _ (in_part {us = us} r) c = parts_closed known n a (parts h) ts us r c

    parts_closed : (known : ℕ → Option Tm) (n : ℕ) → AreValues n known → (ps : List Part) (ts us : Tms) → ReducesOne known ps ts us → AreClosed n ps ts → AreClosed n ps us
    parts_closed known n a ps _ _ (this_part {t = t} {u = u} r) c =
        let b = (first_part ps).binds in
        (reduces_closed (beneath b known) (n + b) (values_beneath b n known a) t u r c.0, c.1)
    parts_closed known n a ps _ _ (later_part {ts = ts} {us = us} r) c = (c.0, parts_closed known n a (rest_parts ps) ts us r c.1)

  value_closed : (n : ℕ) (o : Option Tm) → ((v : Tm) → o ≡ Some v → IsClosed n v) → IfTerm n o
  value_closed n None f = tt
  value_closed n (Some v) f = f v refl

  pub stay_closed : ReductionsStayClosed
  stay_closed known n t _ a there c = c
  stay_closed known n t v a (after {u = u} r s) c = stay_closed known n u v a s (reduces_closed known n (λ i. value_closed n (known i) (a i)) t u r c)

none_some : {A : Type 0} (v : Tm) → None ≡ Some v → A
none_some v e = absurd (subst (λ (x : Option Tm). elim x as (λ _. Type 0) [ None ↦ Unit {0} | Some t ↦ ⊥ ]) e tt)

pub normal_closed : BareTermIsClosed → ReductionsStayClosed → NormalFormsStayClosed
normal_closed bare-closed stays t n k d u l e c = stays (λ _. None) n (bare t) u (λ i v q. none_some v q) (normal_form_reaches t k d u l e (λ _. None)) (bare-closed t n c)
