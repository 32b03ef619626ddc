-- What a written tree becomes can be printed.
use Rattle.std.proofs.Common.{◌≡◌, refl, sym, ap, ◌∙◌, arith, ℕ, zero, suc, ◌+◌, ◌^◌, ◌<◌, ◌≤◌, Bool, true, false, cond, List, [], ◌∷◌, ◌++◌, length, length-append, map, Option, Some, None}
use Rattle.std.specs.Prelude.{slice_get, position}
use Rattle.std.specs.List.{position_or_len}
use Rattle.std.specs.Map.{lookup}
use Rattle.std.specs.Str.{bytes_eq}
use Rattle.cf_base.specs.declared.at.At.{At}
use Rattle.cf_tree.specs.declared.heads.Head.TheVariants as head
use Rattle.cf_tree.specs.Tree.{Name, Binder, Plain, Variable, DataAt, ConAt, Tree, tree, Trees, none, part}
use Rattle.cf_term.specs.Core.{Tm, var, node, Tms, nil, cons, parts, branch_parts, rest_parts, Branch, DataH, CaseH}
use Rattle.cf_elab.specs.Core.{constructed, resolve, resolve_all}
use Rattle.cf_elab.specs.Forms.{formed}
use Rattle.cf_elab.specs.Resolving.{As, Resolved, Resolving, Unknown, Twice, and_then, or_unknown, pure}
use Rattle.cf_elab.specs.Scope.{Globals, ctor_of, is_named, type_of, variable_of}
use Rattle.cf_elab.specs.Scope as scope
use Rattle.cf_elab.specs.declared.numbers.CtorNumber.{CtorNumber}
use Rattle.cf_core_text.specs.Pieces.{under}
use Rattle.cf_printed.specs.Scoped.{Are, AreAtLeast, AreCtors, AreScoped, IsCtor}
use Rattle.cf_printed.proofs.Found.{found_at}
use Rattle.cf_printed.proofs.Printable.{under_sum}
use Rattle.cf_printed.proofs.Heads.{Fine, Holds, Parts, end, next, form_fine, no_number, wider}
use Rattle.cf_printed.proofs.Written.{AllWritten, ArmsWritten, Written, cases, construction, data_type, no_arm, no_part, one_arm, one_part, plain, shape, size, sizes, variable, zeros}

-- one after the other
pub holds_then : {A B : Type 0} (Q : A → Type 0) (P : B → Type 0) (r : Resolved A) (f : A → Resolving B) → Holds Q r → ((a : A) (i : ℕ) → Q a → Holds P (f a i)) → Holds P (and_then r f)
holds_then Q P (As a n) f h k = k a n h
holds_then Q P (Unknown p) f h k = tt
holds_then Q P (Twice p) f h k = tt

pub holds_known : {A : Type 0} (p : At) (o : Option A) (n : ℕ) → Holds (λ a. o ≡ Some a) (or_unknown p o n)
holds_known p (Some a) n = refl
holds_known p None n = tt

-- what is found stands in the list
pub position_in : {A : Type 0} (p : A → Bool) (xs : List A) (i : ℕ) → position p xs ≡ Some i → i < length xs
position_in p xs i e = let r = found_at (position_or_len p xs) (length xs) i e in let a = r.0 in let b = r.1 in omega (arith, a, b)

abbrev Entry : List (Name × CtorNumber) → CtorNumber → Type 0
Entry es k = (i : ℕ) × (x : List ℕ) × (slice_get es i ≡ Some (x, k))

lookup_in : (p : Name → Bool) (es : List (Name × CtorNumber)) (k : CtorNumber) → lookup p es ≡ Some k → Entry es k
lookup_in p [] k e = absurd (cc)
lookup_in p (z ∷ es) k e = by_test (p z.0) (lookup_in p es k) e
  where
    by_test : (b : Bool) → (lookup p es ≡ Some k → Entry es k) → cond b (Some z.1) (lookup p es) ≡ Some k → Entry (z ∷ es) k
    by_test true h f = let q : z.1 ≡ k = cc in (0, z.0, (λ i. Some (z.0, q i)))
    by_test false h f = let r = h f in (suc r.0, r.1, r.2)

ctor_in : (g : Globals) (x : Name) (k : CtorNumber) → ctor_of g x ≡ Some k → IsCtor g k.data_type k.ctor
ctor_in g x k e = let r = lookup_in (bytes_eq x) g.ctors k e in (r.0, r.1, k, r.2, refl, refl)

pub length_under : (bs ls : List Binder) → length (scope.under bs ls) ≡ length bs + length ls
length_under [] ls = omega arith
length_under (b ∷ bs) ls = let e = length_under bs (b ∷ ls) in omega (arith, e)

pub length_map : {A B : Type 0} (f : A → B) (xs : List A) → length (map f xs) ≡ length xs
length_map f [] = refl
length_map f (x ∷ xs) = let e = length_map f xs in omega (arith, e)

module _ (g : Globals) where
  abbrev G : ℕ
  G = length g.variables

  -- parts under no variable
  flat_scoped : (d w n : ℕ) (us : Tms) → Parts g d w (zeros n []) us → AreScoped g d [] us
  flat_scoped d w zero _ end = tt
  flat_scoped d w (suc n) _ (next {ts = ts} t q) = (t.0, flat_scoped d w n ts q)

  flat_two : (d w k n : ℕ) (us : Tms) → Parts g d w (zeros k (zeros n [])) us → AreAtLeast k us × AreScoped g d [] us
  flat_two d w zero n us q = (tt, flat_scoped d w n us q)
  flat_two d w (suc k) n _ (next {ts = ts} t q) = let r = flat_two d w k n ts q in (r.0, (t.0, r.1))

  -- branches and their bodies
  abbrev Arms : (d : ℕ) → List Branch → Tms → Type 0
  Arms d cs us = AreCtors g cs × Are (length cs) us × AreScoped g d (branch_parts cs) us

  -- parts with the branches beside them
  abbrev Body : (d : ℕ) → List Branch × Tms → Type 0
  Body d r = Arms d r.0 r.1

  part_holds : (ls bs : List Binder) (t : Tree) (ts : Trees) (n : ℕ) (Q : Tm → Type 0) (R P : List Branch × Tms → Type 0) → Holds Q (resolve g (scope.under bs ls) t n) → ((i : ℕ) → Holds R (resolve_all g ls ts i)) → ((u : Tm) (r : List Branch × Tms) → Q u → R r → P (r.0, cons u r.1)) → Holds P (resolve_all g ls (part bs t ts) n)
  part_holds ls bs t ts n Q R P h k f =
      holds_then Q P (resolve g (scope.under bs ls) t n) (λ u. λ i. and_then (resolve_all g ls ts i) (λ r. pure (r.0, cons u r.1))) h
      (λ u i q. holds_then R P (resolve_all g ls ts i) (λ r. pure (r.0, cons u r.1)) (k i) (λ r j s. f u r q s))

  abbrev CaseFits : (d : ℕ) → List Branch × Tms → Type 0
  CaseFits d r = AreCtors g r.0 × Are (suc (suc (length r.0))) r.1 × AreScoped g d (parts (CaseH r.0)) r.1

  abbrev TypeFits : (d : ℕ) → List Branch × Tms → Type 0
  TypeFits d r = AreCtors g r.0 × Are (suc (length r.0)) r.1 × AreScoped g d (rest_parts (parts (CaseH r.0))) r.1

  case_fine : (d : ℕ) (cs : List Branch) (us : Tms) → d < G + 2 ^ 64 → CaseFits d (cs, us) → (w : ℕ) → Fine g d w (node (CaseH cs) us)
  case_fine d cs nil b f w = absurd f.1
  case_fine d cs (cons t nil) b f w = absurd f.1
  case_fine d cs (cons t (cons a us)) b f w = ((b, f.0, f.1, tt, f.2), (λ m e. no_number e))

  -- a part of d variables is under more
  pub deeper : (ls bs : List Binder) (d : ℕ) → d ≡ length ls + G → under d (length bs) ≡ length (scope.under bs ls) + G
  deeper ls bs d e = let a = under_sum d (length bs) in let b = length_under bs ls in omega (arith, a, b, e)

  mutual
    pub fine : (ls : List Binder) (d : ℕ) → d ≡ length ls + G → (t : Tree) → Written t → length ls + size t < 2 ^ 64 → (n : ℕ) → Holds (Fine g d (size t)) (resolve g ls t n)
    fine ls d e _ (plain {p = p} {h = h} {ts = ts} i q) l n =
        let w : ℕ = sizes ts in
        holds_then (λ r. Parts g d w (shape h) r.1) (Fine g d (size (tree p (Plain h) ts))) (resolve_all g ls ts n) (λ r. formed h r.0 r.1)
        (all_fine ls d e ts (shape h) q w (omega arith) (omega (arith, l)) n)
        (λ r k s. form_fine g d w (omega (arith, e, l)) h i r.0 r.1 s (omega (arith, l)) k)
    fine ls d e _ (cases {p = p} {s = s} {t = t} {ts = ts} a b c) l n =
        let w : ℕ = size (tree p (Plain head.Case) (part [] s (part [] t ts))) in
        holds_then (CaseFits d) (Fine g d w) (resolve_all g ls (part [] s (part [] t ts)) n) (λ r. formed head.Case r.0 r.1)
        (part_holds ls [] s (part [] t ts) n (Fine g d (size s)) (TypeFits d) (CaseFits d) (fine ls d e s a (omega (arith, l)) n)
        (λ i. part_holds ls [] t ts i (Fine g d (size t)) (Body d) (TypeFits d) (fine ls d e t b (omega (arith, l)) i)
        (λ j. arms_fine ls d e ts c (omega (arith, l)) j)
        (λ u r q s. (s.0, s.1, (q.0, s.2))))
        (λ u r q s. (s.0, s.1, (q.0, s.2))))
        (λ r k s. case_fine d r.0 r.1 (omega (arith, e, l)) s w)
    fine ls d e _ (variable {p = p} {x = x}) l n =
        holds_then (λ i. variable_of g ls x ≡ Some i) (Fine g d (size (tree p (Variable x) none))) (or_unknown p (variable_of g ls x) n) (λ i. pure (var i))
        (holds_known p (variable_of g ls x) n)
        (λ i k q.
        let a = position_in (is_named x) (ls ++ map Some g.variables) i q in
        let b = length-append ls (map Some g.variables) in
        let c = length_map {A = Name} {B = Binder} Some g.variables in
        ((omega (arith, e, l), omega (arith, a, b, c, e)), (λ m f. no_number f)))
    fine ls d e _ (data_type {p = p} {d = c} {ts = ts} m q) l n =
        let w : ℕ = sizes ts in
        let v : ℕ = size (tree p (DataAt c) ts) in
        holds_then (λ t. type_of g c.name ≡ Some t) (Fine g d v) (or_unknown c.at (type_of g c.name) n) (λ t. λ i. and_then (resolve_all g ls ts i) (λ r. pure (node (DataH t) r.1)))
        (holds_known c.at (type_of g c.name) n)
        (λ t i f. holds_then (λ r. Parts g d w (zeros m []) r.1) (Fine g d v) (resolve_all g ls ts i) (λ r. pure (node (DataH t) r.1))
        (all_fine ls d e ts (zeros m []) q w (omega arith) (omega (arith, l)) i)
        (λ r k s. ((omega (arith, e, l), position_in (bytes_eq c.name) g.types t f, tt, tt, flat_scoped d w m r.1 s), (λ m f. no_number f))))
    fine ls d e _ (construction {p = p} {c = c} {k = k} {ts = ts} m q) l n =
        let w : ℕ = sizes ts in
        let v : ℕ = size (tree p (ConAt c (Some k)) ts) in
        holds_then (λ t. ctor_of g c.name ≡ Some t) (Fine g d v) (or_unknown c.at (ctor_of g c.name) n) (λ t. λ i. and_then (resolve_all g ls ts i) (λ r. pure (constructed t k r.1)))
        (holds_known c.at (ctor_of g c.name) n)
        (λ t i f. holds_then (λ r. Parts g d w (zeros k (zeros m [])) r.1) (Fine g d v) (resolve_all g ls ts i) (λ r. pure (constructed t k r.1))
        (all_fine ls d e ts (zeros k (zeros m [])) q w (omega arith) (omega (arith, l)) i)
        (λ r j s. let o = flat_two d w k m r.1 s in ((omega (arith, e, l), ctor_in g c.name t f, o.0, tt, o.1), (λ m f. no_number f))))

    all_fine : (ls : List Binder) (d : ℕ) → d ≡ length ls + G → (ts : Trees) (ns : List ℕ) → AllWritten ns ts → (w : ℕ) → sizes ts ≤ w → length ls + sizes ts < 2 ^ 64 → (n : ℕ) → Holds (λ r. Parts g d w ns r.1) (resolve_all g ls ts n)
    all_fine ls d e _ _ no_part w m l n = end
    all_fine ls d e _ _ (one_part {n = b} {ns = ns} {bs = bs} {t = t} {ts = ts} f a q) w m l n =
        let z : under d b ≡ length (scope.under bs ls) + G = ap (under d) (sym f) ∙ deeper ls bs d e in
        let y = length_under bs ls in
        part_holds ls bs t ts n (Fine g (under d b) (size t)) (λ r. Parts g d w ns r.1) (λ r. Parts g d w (b ∷ ns) r.1)
        (fine (scope.under bs ls) (under d b) z t a (omega (arith, y, l)) n)
        (λ i. all_fine ls d e ts ns q w (omega (arith, m)) (omega (arith, l)) i)
        (λ u r s o. next (wider g (under d b) u (size t) w (omega (arith, m)) s) o)

    arms_fine : (ls : List Binder) (d : ℕ) → d ≡ length ls + G → (ts : Trees) → ArmsWritten ts → length ls + sizes ts < 2 ^ 64 → (n : ℕ) → Holds (Body d) (resolve_all g ls ts n)
    arms_fine ls d e _ no_arm l n = (tt, tt, tt)
    arms_fine ls d e _ (one_arm {c = c} {bs = bs} {t = t} {ts = ts} a q) l n =
        let y = length_under bs ls in
        let v : ℕ = under d (length bs) in
        holds_then (λ k. ctor_of g c.name ≡ Some k) (Body d) (or_unknown c.at (ctor_of g c.name) n)
        (λ k. λ i. and_then (resolve g (scope.under bs ls) t i) (λ u. λ j. and_then (resolve_all g ls ts j) (λ r. pure (record { type = k.data_type; ctor = k.ctor; names = length bs } ∷ r.0, cons u r.1))))
        (holds_known c.at (ctor_of g c.name) n)
        (λ k i f. holds_then (Fine g v (size t)) (Body d) (resolve g (scope.under bs ls) t i)
        (λ u. λ j. and_then (resolve_all g ls ts j) (λ r. pure (record { type = k.data_type; ctor = k.ctor; names = length bs } ∷ r.0, cons u r.1)))
        (fine (scope.under bs ls) v (deeper ls bs d e) t a (omega (arith, y, l)) i)
        (λ u j s. holds_then (Body d) (Body d) (resolve_all g ls ts j) (λ r. pure (record { type = k.data_type; ctor = k.ctor; names = length bs } ∷ r.0, cons u r.1))
        (arms_fine ls d e ts q (omega (arith, l)) j)
        (λ r m o. ((ctor_in g c.name k f, o.0), o.1, (s.0, o.2)))))
