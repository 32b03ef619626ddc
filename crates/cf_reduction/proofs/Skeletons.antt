-- What is written of a settled value is normal. Writing keeps the head of each part that is not kept and how many parts it has, and no more than that decides whether a form takes a step.
use Rattle.std.specs.Prelude.{ℕ, zero, suc, Bool, true, false, List, Option, Some, None, ◌≡◌, refl}
use Rattle.std.proofs.Common.{arith}
use mathlib.Core.Path.{ap, ap₂, sym, ◌∙◌, subst}
use Rattle.cf_term.specs.Core.{Tm, var, node, Tms, nil, cons, Head, Part, parts, first_part, rest_parts, depth, AppH, LamH, LetH, PairH, FstH, SndH, UnitH, UnitRecH, TrueH, FalseH, BoolRecH, ZeroH, SucH, NatRecH, NilH, ConsH, ListRecH, QuoteH, SpliceH}
use Rattle.cf_term.specs.Forms.{Lam, Pair, Triv, True, False, Zero, Suc, Nil, Cons, Quote, Splice}
use Rattle.cf_term.specs.Evaluation.{Out, Done, Spent, Deep, Outs, AllDone, AllSpent, AllDeep, applied, first_of, second_of, unit_case, bool_case, nat_case, list_case, quoted, contract, quote_of, formed, before, and_then, evaluate}
use Rattle.cf_term.specs.NormalForms.{write_then, write_all_by, written, write_within, then_read_back}
use Rattle.cf_reduction.specs.Normal.{IsNormal, AreNormal}
use Rattle.cf_reduction.proofs.Answered.{value_of, values_of, not_spent, not_deep, none_spent, none_deep, by_cases}
use Rattle.cf_reduction.proofs.Settled.{IsSettled, AreSettled, UnlessKept, within_settles}

-- the head of a term and how many parts it has
abbrev blank : Tms → Tms
blank nil = nil
blank (cons t ts) = cons (var 0) (blank ts)

abbrev skeleton : Tm → Tm
skeleton (var i) = var i
skeleton (node h ts) = node h (blank ts)

-- of the parts, kept ones aside
abbrev skeleton_at : Bool → Tm → Tm
skeleton_at true t = var 0
skeleton_at false t = skeleton t

abbrev skeletons : List Part → Tms → Tms
skeletons ps nil = nil
skeletons ps (cons t ts) = cons (skeleton_at (first_part ps).kept t) (skeletons (rest_parts ps) ts)

-- ---- whether a form takes a step

abbrev is_some : Option Tm → Bool
is_some None = false
is_some (Some t) = true

abbrev TrueOnly : Bool → Type 0
TrueOnly true = Unit {0}
TrueOnly false = ⊥

none_of : (o : Option Tm) → is_some o ≡ false → o ≡ None
none_of None e = refl
none_of (Some t) e = absurd (subst TrueOnly e tt)

abbrev is_lam : Tm → Bool
is_lam (Lam i a t) = true
is_lam _ = false

abbrev is_pair : Tm → Bool
is_pair (Pair s t u) = true
is_pair _ = false

abbrev is_unit : Tm → Bool
is_unit Triv = true
is_unit _ = false

abbrev is_bool : Tm → Bool
is_bool True = true
is_bool False = true
is_bool _ = false

abbrev is_nat : Tm → Bool
is_nat Zero = true
is_nat (Suc n) = true
is_nat _ = false

abbrev is_list : Tm → Bool
is_list (Nil a) = true
is_list (Cons x y) = true
is_list _ = false

abbrev is_quote : Tm → Bool
is_quote (Quote t) = true
is_quote _ = false

abbrev is_splice : Tm → Bool
is_splice (Splice t) = true
is_splice _ = false

lam_some : (t u : Tm) → is_some (applied t u) ≡ is_lam (skeleton t)
lam_some (Lam i a t) u = refl
lam_some (node (LamH i) nil) u = refl
lam_some (node (LamH i) (cons a nil)) u = refl
lam_some (node (LamH i) (cons a (cons t (cons v ts)))) u = refl
lam_some _ u = refl

first_some : (t : Tm) → is_some (first_of t) ≡ is_pair (skeleton t)
first_some (Pair s t u) = refl
first_some (node PairH nil) = refl
first_some (node PairH (cons s nil)) = refl
first_some (node PairH (cons s (cons t nil))) = refl
first_some (node PairH (cons s (cons t (cons u (cons v ts))))) = refl
first_some _ = refl

second_some : (t : Tm) → is_some (second_of t) ≡ is_pair (skeleton t)
second_some (Pair s t u) = refl
second_some (node PairH nil) = refl
second_some (node PairH (cons s nil)) = refl
second_some (node PairH (cons s (cons t nil))) = refl
second_some (node PairH (cons s (cons t (cons u (cons v ts))))) = refl
second_some _ = refl

unit_some : (u n : Tm) → is_some (unit_case u n) ≡ is_unit (skeleton n)
unit_some u Triv = refl
unit_some u (node UnitH (cons t ts)) = refl
unit_some u _ = refl

bool_some : (t f n : Tm) → is_some (bool_case t f n) ≡ is_bool (skeleton n)
bool_some t f True = refl
bool_some t f False = refl
bool_some t f (node TrueH (cons u ts)) = refl
bool_some t f (node FalseH (cons u ts)) = refl
bool_some t f _ = refl

nat_some : (p z s n : Tm) → is_some (nat_case p z s n) ≡ is_nat (skeleton n)
nat_some p z s Zero = refl
nat_some p z s (Suc m) = refl
nat_some p z s (node ZeroH (cons u ts)) = refl
nat_some p z s (node SucH nil) = refl
nat_some p z s (node SucH (cons u (cons v ts))) = refl
nat_some p z s _ = refl

list_some : (p n c l : Tm) → is_some (list_case p n c l) ≡ is_list (skeleton l)
list_some p n c (Nil a) = refl
list_some p n c (Cons x y) = refl
list_some p n c (node NilH nil) = refl
list_some p n c (node NilH (cons u (cons v ts))) = refl
list_some p n c (node ConsH nil) = refl
list_some p n c (node ConsH (cons u nil)) = refl
list_some p n c (node ConsH (cons u (cons v (cons w ts)))) = refl
list_some p n c _ = refl

quoted_some : (t : Tm) → is_some (quoted t) ≡ is_quote (skeleton t)
quoted_some (Quote t) = refl
quoted_some (node QuoteH nil) = refl
quoted_some (node QuoteH (cons t (cons u ts))) = refl
quoted_some _ = refl

-- by the skeletons of its parts alone
abbrev redex : Head → Tms → Bool
redex (AppH i) (cons t (cons u nil)) = is_lam t
redex LetH (cons a (cons t (cons u nil))) = true
redex FstH (cons t nil) = is_pair t
redex SndH (cons t nil) = is_pair t
redex UnitRecH (cons p (cons u (cons n nil))) = is_unit n
redex BoolRecH (cons p (cons t (cons f (cons n nil)))) = is_bool n
redex NatRecH (cons p (cons z (cons s (cons n nil)))) = is_nat n
redex ListRecH (cons p (cons n (cons c (cons l nil)))) = is_list l
redex SpliceH (cons t nil) = is_quote t
redex _ _ = false

contract_some : (h : Head) (ts : Tms) → is_some (contract h ts) ≡ redex h (skeletons (parts h) ts)
contract_some (AppH i) (cons t (cons u nil)) = lam_some t u
contract_some LetH (cons a (cons t (cons u nil))) = refl
contract_some FstH (cons t nil) = first_some t
contract_some SndH (cons t nil) = second_some t
contract_some UnitRecH (cons p (cons u (cons n nil))) = unit_some u n
contract_some BoolRecH (cons p (cons t (cons f (cons n nil)))) = bool_some t f n
contract_some NatRecH (cons p (cons z (cons s (cons n nil)))) = nat_some p z s n
contract_some ListRecH (cons p (cons n (cons c (cons l nil)))) = list_some p n c l
contract_some SpliceH (cons t nil) = quoted_some t
contract_some _ _ = refl

-- whether it is a quote of a splice
abbrev unquotes : Head → Tms → Bool
unquotes QuoteH (cons t nil) = is_splice t
unquotes _ _ = false

quote_stays : (t : Tm) → is_splice (skeleton t) ≡ false → quote_of t ≡ Quote t
quote_stays (Splice n) e = absurd (subst TrueOnly e tt)
quote_stays (node SpliceH nil) e = refl
quote_stays (node SpliceH (cons n (cons m ms))) e = refl
quote_stays (node h ts) e = refl
quote_stays (var i) e = refl

no_splice : (t : Tm) → quote_of t ≡ Quote t → is_splice (skeleton t) ≡ false
no_splice (Splice n) e = absurd (omega (arith, ap depth e))
no_splice (node SpliceH nil) e = refl
no_splice (node SpliceH (cons n (cons m ms))) e = refl
no_splice (node h ts) e = refl
no_splice (var i) e = refl

formed_stays : (h : Head) (ts : Tms) → unquotes h (skeletons (parts h) ts) ≡ false → formed h ts ≡ node h ts
formed_stays QuoteH (cons t nil) e = quote_stays t e
formed_stays QuoteH nil e = refl
formed_stays QuoteH (cons t (cons u us)) e = refl
formed_stays _ _ e = refl

no_unquote : (h : Head) (ts : Tms) → formed h ts ≡ node h ts → unquotes h (skeletons (parts h) ts) ≡ false
no_unquote QuoteH (cons t nil) e = no_splice t e
no_unquote QuoteH nil e = refl
no_unquote QuoteH (cons t (cons u us)) e = refl
no_unquote _ _ e = refl

form_normal : (h : Head) (vs ws : Tms) → contract h vs ≡ None → formed h vs ≡ node h vs → skeletons (parts h) vs ≡ skeletons (parts h) ws → AreNormal ws → IsNormal (node h ws)
form_normal h vs ws c f s n =
    (none_of (contract h ws) (contract_some h ws ∙ ap (redex h) (sym s) ∙ sym (contract_some h vs) ∙ ap is_some c), formed_stays h ws (ap (unquotes h) (sym s) ∙ no_unquote h vs f), n)

-- ---- what is written

abbrev Good : (ℕ → Tm → Out) → Type 0
Good write = (k : ℕ) (v t : Tm) (l : ℕ) → write k v ≡ Done t l → IsSettled v → IsNormal t × (skeleton v ≡ skeleton t)

abbrev AllGood : List Part → Tms → Tms → Type 0
AllGood ps vs ws = AreNormal ws × (skeletons ps vs ≡ skeletons ps ws)

same_at : (b : Bool) (t w : Tm) → UnlessKept b (skeleton t ≡ skeleton w) → skeleton_at b t ≡ skeleton_at b w
same_at true t w h = refl
same_at false t w h = h

before_good : (ps : List Part) (t w : Tm) (ts : Tms) (o : Outs) → IsNormal w → UnlessKept (first_part ps).kept (skeleton t ≡ skeleton w)
    → ((vs : Tms) (l : ℕ) → o ≡ AllDone vs l → AllGood (rest_parts ps) ts vs) → (ws : Tms) (l : ℕ) → before w o ≡ AllDone ws l → AllGood ps (cons t ts) ws
before_good ps t w ts (AllDone vs k) n h ih ws l e =
    subst (AllGood ps (cons t ts)) (ap (λ o. values_of o ws) e) ((n, (ih vs k refl).0), ap₂ cons (same_at (first_part ps).kept t w h) (ih vs k refl).1)
before_good ps t w ts AllSpent n h ih ws l e = absurd (none_spent e)
before_good ps t w ts AllDeep n h ih ws l e = absurd (none_deep e)

then_good : (ps : List Part) (t : Tm) (ts : Tms) (o : Out) (rest : ℕ → Outs) → ((w : Tm) (l : ℕ) → o ≡ Done w l → IsNormal w × UnlessKept (first_part ps).kept (skeleton t ≡ skeleton w))
    → ((k : ℕ) (vs : Tms) (l : ℕ) → rest k ≡ AllDone vs l → AllGood (rest_parts ps) ts vs) → (ws : Tms) (l : ℕ) → and_then o rest ≡ AllDone ws l → AllGood ps (cons t ts) ws
then_good ps t ts (Done w k) rest first ih ws l e = before_good ps t w ts (rest k) (first w k refl).0 (first w k refl).1 (ih k) ws l e
then_good ps t ts Spent rest first ih ws l e = absurd (none_spent e)
then_good ps t ts Deep rest first ih ws l e = absurd (none_deep e)

kept_good : (ps : List Part) → (first_part ps).kept ≡ true → (write : ℕ → Tm → Out) → Good write → (t : Tm) (ts : Tms) (o : Out) (rest : ℕ → Outs)
    → ((v : Tm) (l : ℕ) → o ≡ Done v l → IsSettled v) → ((k : ℕ) (vs : Tms) (l : ℕ) → rest k ≡ AllDone vs l → AllGood (rest_parts ps) ts vs) → (ws : Tms) (l : ℕ)
    → write_then write o rest ≡ AllDone ws l → AllGood ps (cons t ts) ws
kept_good ps b write ok t ts (Done v k) rest settled ih ws l e =
    then_good ps t ts (write k v) rest (λ w j q. ((ok k v w j q (settled v k refl)).0, subst (λ x. UnlessKept x (skeleton t ≡ skeleton w)) (sym b) tt)) ih ws l e
kept_good ps b write ok t ts Spent rest settled ih ws l e = absurd (none_spent e)
kept_good ps b write ok t ts Deep rest settled ih ws l e = absurd (none_deep e)

write_all_good : (ts : Tms) (write : ℕ → Tm → Out) → Good write → (k d : ℕ) (ps : List Part) → AreSettled ps ts → (ws : Tms) (l : ℕ) → write_all_by write k d ps ts ≡ AllDone ws l → AllGood ps ts ws
write_all_good nil write ok k d ps a ws l e = subst (AllGood ps nil) (ap (λ o. values_of o ws) e) (tt, refl)
write_all_good (cons t ts) write ok k d ps a ws l e =
    by_cases (first_part ps).kept (λ o. (o ≡ AllDone ws l) → AllGood ps (cons t ts) ws)
    (λ b q. kept_good ps b write ok t ts (evaluate k d t) (λ j. write_all_by write j d (rest_parts ps) ts) (λ v j r. within_settles k k d t v j r) (λ j vs m r. write_all_good ts write ok j d (rest_parts ps) a.1 vs m r) ws l q)
    (λ b q. then_good ps t ts (write k t) (λ j. write_all_by write j d (rest_parts ps) ts)
    (λ w j r. let g : IsNormal w × (skeleton t ≡ skeleton w) = ok k t w j r (subst (λ x. UnlessKept x (IsSettled t)) b a.0) in (g.0, subst (λ x. UnlessKept x (skeleton t ≡ skeleton w)) (sym b) g.1))
    (λ j vs m r. write_all_good ts write ok j d (rest_parts ps) a.1 vs m r) ws l q)
    e

blank_same : (ps : List Part) (vs ws : Tms) → skeletons ps vs ≡ skeletons ps ws → blank vs ≡ blank ws
blank_same ps vs ws e = sym (blank_of ps vs) ∙ ap blank e ∙ blank_of ps ws
  where
    blank_of : (ps : List Part) (vs : Tms) → blank (skeletons ps vs) ≡ blank vs
    blank_of ps nil = refl
    blank_of ps (cons t ts) = ap (cons (var 0)) (blank_of (rest_parts ps) ts)

written_good : (h : Head) (vs : Tms) (o : Outs) → IsSettled (node h vs) → ((ws : Tms) (l : ℕ) → o ≡ AllDone ws l → AllGood (parts h) vs ws) → (t : Tm) (l : ℕ) → written h o ≡ Done t l
    → IsNormal t × (skeleton (node h vs) ≡ skeleton t)
written_good h vs (AllDone ws k) s ih t l e =
    subst (λ x. IsNormal x × (skeleton (node h vs) ≡ skeleton x)) (ap (λ o. value_of o t) e)
    (form_normal h vs ws s.0 s.1 (ih ws k refl).1 (ih ws k refl).0, ap (node h) (blank_same (parts h) vs ws (ih ws k refl).1))
written_good h vs AllSpent s ih t l e = absurd (not_spent e)
written_good h vs AllDeep s ih t l e = absurd (not_deep e)

write_within_good : (n d : ℕ) → Good (write_within n d)
write_within_good zero d k v t l e s = absurd (not_spent e)
write_within_good (suc n) d zero v t l e s = absurd (not_spent e)
write_within_good (suc n) d (suc k) (var i) t l e s = subst (λ x. IsNormal x × (var i ≡ skeleton x)) (ap (λ o. value_of o t) e) (tt, refl)
write_within_good (suc n) d (suc k) (node h ts) t l e s =
    written_good h ts (write_all_by (write_within n d) k d (parts h) ts) s (λ ws j q. write_all_good ts (write_within n d) (write_within_good n d) k d (parts h) s.2 ws j q) t l e

then_normal : (d : ℕ) (o : Out) → ((v : Tm) (l : ℕ) → o ≡ Done v l → IsSettled v) → (u : Tm) (l : ℕ) → then_read_back d o ≡ Done u l → IsNormal u
then_normal d (Done v k) s u l e = (write_within_good k d k v u l e (s v k refl)).0
then_normal d Spent s u l e = absurd (not_spent e)
then_normal d Deep s u l e = absurd (not_deep e)

pub written_normal : (t : Tm) (k d : ℕ) (u : Tm) (l : ℕ) → then_read_back d (evaluate k d t) ≡ Done u l → IsNormal u
written_normal t k d u l e = then_normal d (evaluate k d t) (λ v j q. within_settles k k d t v j q) u l e
