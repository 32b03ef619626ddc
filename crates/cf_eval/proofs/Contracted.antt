-- The steps on values are those of the definition.
use Rattle.std.proofs.Common.{◌≡◌, ℕ, zero, suc, ◌≤◌, List, [], ◌∷◌, Bool, true, false, refl, sym, arith, Option, Some, None}
use mathlib.Core.Path.{subst}
use Rattle.cf_term.specs.Core.{Tm, Head, Part, parts, first_part, rest_parts, AppH, LamH, LetH, PairH, FstH, SndH, UnitH, UnitRecH, TrueH, FalseH, BoolRecH, ZeroH, SucH, NatRecH, NilH, ConsH, ListRecH, QuoteH, SpliceH}
use Rattle.cf_term.specs.Evaluation.{contract}
use Rattle.cf_value.specs.Heads.{Fits}
use Rattle.cf_value.specs.Val.{Val, VParts, Vals, level, form, none, ready, frozen, parts_in}
use Rattle.cf_value.specs.Stands.{terms_at}
use Rattle.cf_value.specs.Contexts.{IsKnown, AreKnownParts}
use Rattle.cf_eval.specs.Redexes.{Goal, case_of, kept_part, ready_part, redex, goal_at, IsKnownGoal, opened_with, lambda_of, first_value, second_value, value_at, unit_step, bool_step, bool_of, nat_step, list_step, quoted_value}
use Rattle.cf_eval.specs.Bulk.{part_bulk, goal_bulk}

-- ---- parts of the kinds that they should have

abbrev pub Shaped : List Bool → VParts → Type 0
Shaped [] none = Unit {0}
Shaped [] (ready v ps) = ⊥
Shaped [] (frozen e t ps) = ⊥
Shaped (k ∷ ks) none = ⊥
Shaped (true ∷ ks) (ready v ps) = ⊥
Shaped (true ∷ ks) (frozen e t ps) = Shaped ks ps
Shaped (false ∷ ks) (ready v ps) = Shaped ks ps
Shaped (false ∷ ks) (frozen e t ps) = ⊥

abbrev pub kinds : ℕ → List Part → List Bool
kinds zero qs = []
kinds (suc n) qs = (first_part qs).kept ∷ kinds n (rest_parts qs)

pub shaped : (n : ℕ) (qs : List Part) (known : ℕ → Type 0) (l : ℕ) (ps : VParts) → parts_in ps ≡ n → AreKnownParts known l qs ps → Shaped (kinds n qs) ps
shaped zero qs known l none e k = tt
shaped zero qs known l (ready v ps) e k = absurd (omega (arith, e))
shaped zero qs known l (frozen x t ps) e k = absurd (omega (arith, e))
shaped (suc n) qs known l none e k = absurd (omega (arith, e))
shaped (suc n) qs known l (ready v ps) e k = subst (λ b. Shaped (b ∷ kinds n (rest_parts qs)) (ready v ps)) (sym k.0) (shaped n (rest_parts qs) known l ps (omega (arith, e)) k.2)
shaped (suc n) qs known l (frozen x t ps) e k = subst (λ b. Shaped (b ∷ kinds n (rest_parts qs)) (frozen x t ps)) (sym k.0) (shaped n (rest_parts qs) known l ps (omega (arith, e)) k.3)

pub take_none : (ps : VParts) → Shaped [] ps → (P : VParts → Type 0) → P none → P ps
take_none none s P p = p
take_none (ready v ps) s P p = absurd s
take_none (frozen e t ps) s P p = absurd s

pub take_ready : (ks : List Bool) (ps : VParts) → Shaped (false ∷ ks) ps → (P : VParts → Type 0) → ((v : Val) (qs : VParts) → Shaped ks qs → P (ready v qs)) → P ps
take_ready ks none s P p = absurd s
take_ready ks (ready v ps) s P p = p v ps s
take_ready ks (frozen e t ps) s P p = absurd s

pub take_kept : (ks : List Bool) (ps : VParts) → Shaped (true ∷ ks) ps → (P : VParts → Type 0) → ((e : Vals) (t : Tm) (qs : VParts) → Shaped ks qs → P (frozen e t qs)) → P ps
take_kept ks none s P p = absurd s
take_kept ks (ready v ps) s P p = absurd s
take_kept ks (frozen e t ps) s P p = p e t ps s

pub one_ready : (ps : VParts) → Shaped (false ∷ []) ps → (P : VParts → Type 0) → ((v : Val) → P (ready v none)) → P ps
one_ready ps s P p = take_ready [] ps s P (λ v qs r. take_none qs r (λ x. P (ready v x)) (p v))

pub two_ready : (ps : VParts) → Shaped (false ∷ false ∷ []) ps → (P : VParts → Type 0) → ((v w : Val) → P (ready v (ready w none))) → P ps
two_ready ps s P p = take_ready (false ∷ []) ps s P (λ v qs r. one_ready qs r (λ x. P (ready v x)) (p v))

pub three_ready : (ps : VParts) → Shaped (false ∷ false ∷ false ∷ []) ps → (P : VParts → Type 0) → ((u v w : Val) → P (ready u (ready v (ready w none)))) → P ps
three_ready ps s P p = take_ready (false ∷ false ∷ []) ps s P (λ u qs r. two_ready qs r (λ x. P (ready u x)) (p u))

ready_kept : (ps : VParts) → Shaped (false ∷ true ∷ []) ps → (P : VParts → Type 0) → ((v : Val) (e : Vals) (t : Tm) → P (ready v (frozen e t none))) → P ps
ready_kept ps s P p = take_ready (true ∷ []) ps s P (λ v qs r. take_kept [] qs r (λ x. P (ready v x)) (λ e t xs q. take_none xs q (λ x. P (ready v (frozen e t x))) (p v e t)))

kept_ready_kept : (ps : VParts) → Shaped (true ∷ false ∷ true ∷ []) ps → (P : VParts → Type 0) → ((d : Vals) (a : Tm) (v : Val) (e : Vals) (t : Tm) → P (frozen d a (ready v (frozen e t none)))) → P ps
kept_ready_kept ps s P p = take_kept (false ∷ true ∷ []) ps s P (λ d a qs r. ready_kept qs r (λ x. P (frozen d a x)) (p d a))

kept_ready : (ps : VParts) → Shaped (true ∷ false ∷ []) ps → (P : VParts → Type 0) → ((e : Vals) (t : Tm) (v : Val) → P (frozen e t (ready v none))) → P ps
kept_ready ps s P p = take_kept (false ∷ []) ps s P (λ e t qs r. one_ready qs r (λ x. P (frozen e t x)) (p e t))

recursor : (ps : VParts) → Shaped (true ∷ true ∷ false ∷ []) ps → (P : VParts → Type 0) → ((d : Vals) (p : Tm) (e : Vals) (t : Tm) (v : Val) → P (frozen d p (frozen e t (ready v none)))) → P ps
recursor ps s P f = take_kept (true ∷ false ∷ []) ps s P (λ d p qs r. kept_ready qs r (λ x. P (frozen d p x)) (f d p))

recursor_of_two : (ps : VParts) → Shaped (true ∷ true ∷ true ∷ false ∷ []) ps → (P : VParts → Type 0)
    → ((d : Vals) (p : Tm) (e : Vals) (t : Tm) (g : Vals) (u : Tm) (v : Val) → P (frozen d p (frozen e t (frozen g u (ready v none))))) → P ps
recursor_of_two ps s P f = take_kept (true ∷ true ∷ false ∷ []) ps s P (λ d p qs r. recursor qs r (λ x. P (frozen d p x)) (f d p))

-- ---- steps

abbrev pub goals_at : (at : ℕ → ℕ) → Option Goal → Option Tm
goals_at at None = None
goals_at at (Some g) = Some (goal_at at g)

abbrev pub AreKnownGoals : (known : ℕ → Type 0) → Option Goal → Type 0
AreKnownGoals known None = Unit {0}
AreKnownGoals known (Some g) = IsKnownGoal known g

abbrev pub NoDeeper : ℕ → Option Goal → Type 0
NoDeeper b None = Unit {0}
NoDeeper b (Some g) = goal_bulk g ≤ b

-- what a form goes on to is what its step makes
abbrev pub Fine : (known : ℕ → Type 0) → Head → (l : ℕ) → VParts → Option Goal → Type 0
Fine known h l ps o = ((at : ℕ → ℕ) → contract h (terms_at at l (parts h) ps) ≡ goals_at at o) × AreKnownGoals known o × NoDeeper (part_bulk ps) o

app_fine : (known : ℕ → Type 0) (i : Bool) (l : ℕ) (f u : Val) → IsKnown known f → IsKnown known u → Fine known (AppH i) l (ready f (ready u none)) (opened_with (lambda_of f) u)
app_fine known i l (level n) u kf ku = (λ at. refl, tt, tt)
app_fine known i l (form (LamH j) m ps) u kf ku =
    ready_kept ps (shaped 2 (parts (LamH j)) known m ps kf.1 kf.2) (λ x. AreKnownParts known m (parts (LamH j)) x → Fine known (AppH i) l (ready (form (LamH j) m x) (ready u none)) (opened_with (kept_part x 1) u))
    (λ a e t k. (λ at. refl, ((k.2.1, k.2.2), ku), omega arith)) kf.2
app_fine known i l (form h m ps) u kf ku = (λ at. refl, tt, tt)

first_fine : (known : ℕ → Type 0) (l : ℕ) (v : Val) → IsKnown known v → Fine known FstH l (ready v none) (value_at (first_value v))
first_fine known l (level n) kv = (λ at. refl, tt, tt)
first_fine known l (form PairH m ps) kv =
    three_ready ps (shaped 3 (parts PairH) known m ps kv.1 kv.2) (λ x. AreKnownParts known m (parts PairH) x → Fine known FstH l (ready (form PairH m x) none) (value_at (ready_part x 1)))
    (λ s t u k. (λ at. refl, k.2.1, omega arith)) kv.2
first_fine known l (form h m ps) kv = (λ at. refl, tt, tt)

second_fine : (known : ℕ → Type 0) (l : ℕ) (v : Val) → IsKnown known v → Fine known SndH l (ready v none) (value_at (second_value v))
second_fine known l (level n) kv = (λ at. refl, tt, tt)
second_fine known l (form PairH m ps) kv =
    three_ready ps (shaped 3 (parts PairH) known m ps kv.1 kv.2) (λ x. AreKnownParts known m (parts PairH) x → Fine known SndH l (ready (form PairH m x) none) (value_at (ready_part x 2)))
    (λ s t u k. (λ at. refl, k.2.2.1, omega arith)) kv.2
second_fine known l (form h m ps) kv = (λ at. refl, tt, tt)

splice_fine : (known : ℕ → Type 0) (l : ℕ) (v : Val) → IsKnown known v → Fine known SpliceH l (ready v none) (value_at (quoted_value v))
splice_fine known l (level n) kv = (λ at. refl, tt, tt)
splice_fine known l (form QuoteH m ps) kv =
    one_ready ps (shaped 1 (parts QuoteH) known m ps kv.1 kv.2) (λ x. AreKnownParts known m (parts QuoteH) x → Fine known SpliceH l (ready (form QuoteH m x) none) (value_at (ready_part x 0)))
    (λ t k. (λ at. refl, k.1, omega arith)) kv.2
splice_fine known l (form h m ps) kv = (λ at. refl, tt, tt)

unit_fine : (known : ℕ → Type 0) (l : ℕ) (d : Vals) (p : Tm) (e : Vals) (t : Tm) (v : Val) → AreKnownParts known l (parts UnitRecH) (frozen d p (frozen e t (ready v none)))
    → Fine known UnitRecH l (frozen d p (frozen e t (ready v none))) (unit_step (frozen d p (frozen e t (ready v none))) v)
unit_fine known l d p e t (level n) k = (λ at. refl, tt, tt)
unit_fine known l d p e t (form UnitH m ps) k =
    take_none ps (shaped 0 (parts UnitH) known m ps k.3.3.1.1 k.3.3.1.2) (λ x. Fine known UnitRecH l (frozen d p (frozen e t (ready (form UnitH m x) none))) (Some (case_of (record { env = e; body = t }))))
    (λ at. refl, (k.3.1, k.3.2), omega arith)
unit_fine known l d p e t (form h m ps) k = (λ at. refl, tt, tt)

bool_fine : (known : ℕ → Type 0) (l : ℕ) (d : Vals) (p : Tm) (e : Vals) (t : Tm) (g : Vals) (u : Tm) (v : Val) → AreKnownParts known l (parts BoolRecH) (frozen d p (frozen e t (frozen g u (ready v none))))
    → Fine known BoolRecH l (frozen d p (frozen e t (frozen g u (ready v none)))) (bool_step (frozen d p (frozen e t (frozen g u (ready v none)))) (bool_of v))
bool_fine known l d p e t g u (level n) k = (λ at. refl, tt, tt)
bool_fine known l d p e t g u (form TrueH m ps) k =
    take_none ps (shaped 0 (parts TrueH) known m ps k.3.3.3.1.1 k.3.3.3.1.2) (λ x. Fine known BoolRecH l (frozen d p (frozen e t (frozen g u (ready (form TrueH m x) none)))) (Some (case_of (record { env = e; body = t }))))
    (λ at. refl, (k.3.1, k.3.2), omega arith)
bool_fine known l d p e t g u (form FalseH m ps) k =
    take_none ps (shaped 0 (parts FalseH) known m ps k.3.3.3.1.1 k.3.3.3.1.2) (λ x. Fine known BoolRecH l (frozen d p (frozen e t (frozen g u (ready (form FalseH m x) none)))) (Some (case_of (record { env = g; body = u }))))
    (λ at. refl, (k.3.3.1, k.3.3.2), omega arith)
bool_fine known l d p e t g u (form h m ps) k = (λ at. refl, tt, tt)

nat_fine : (known : ℕ → Type 0) (l : ℕ) (d : Vals) (p : Tm) (e : Vals) (t : Tm) (g : Vals) (u : Tm) (v : Val) → AreKnownParts known l (parts NatRecH) (frozen d p (frozen e t (frozen g u (ready v none))))
    → Fine known NatRecH l (frozen d p (frozen e t (frozen g u (ready v none)))) (nat_step (frozen d p (frozen e t (frozen g u (ready v none)))) v)
nat_fine known l d p e t g u (level n) k = (λ at. refl, tt, tt)
nat_fine known l d p e t g u (form ZeroH m ps) k =
    take_none ps (shaped 0 (parts ZeroH) known m ps k.3.3.3.1.1 k.3.3.3.1.2) (λ x. Fine known NatRecH l (frozen d p (frozen e t (frozen g u (ready (form ZeroH m x) none)))) (Some (case_of (record { env = e; body = t }))))
    (λ at. refl, (k.3.1, k.3.2), omega arith)
nat_fine known l d p e t g u (form SucH m ps) k =
    one_ready ps (shaped 1 (parts SucH) known m ps k.3.3.3.1.1 k.3.3.3.1.2)
    (λ x. AreKnownParts known m (parts SucH) x → Fine known NatRecH l (frozen d p (frozen e t (frozen g u (ready (form SucH m x) none)))) (nat_step (frozen d p (frozen e t (frozen g u (ready (form SucH m x) none)))) (form SucH m x)))
    (λ w q. (λ at. refl, ((k.1, k.2), (k.3.1, k.3.2), (k.3.3.1, k.3.3.2), q.1), omega arith)) k.3.3.3.1.2
nat_fine known l d p e t g u (form h m ps) k = (λ at. refl, tt, tt)

list_fine : (known : ℕ → Type 0) (l : ℕ) (d : Vals) (p : Tm) (e : Vals) (t : Tm) (g : Vals) (u : Tm) (v : Val) → AreKnownParts known l (parts ListRecH) (frozen d p (frozen e t (frozen g u (ready v none))))
    → Fine known ListRecH l (frozen d p (frozen e t (frozen g u (ready v none)))) (list_step (frozen d p (frozen e t (frozen g u (ready v none)))) v)
list_fine known l d p e t g u (level n) k = (λ at. refl, tt, tt)
list_fine known l d p e t g u (form NilH m ps) k =
    one_ready ps (shaped 1 (parts NilH) known m ps k.3.3.3.1.1 k.3.3.3.1.2) (λ x. Fine known ListRecH l (frozen d p (frozen e t (frozen g u (ready (form NilH m x) none)))) (Some (case_of (record { env = e; body = t }))))
    (λ a. (λ at. refl, (k.3.1, k.3.2), omega arith))
list_fine known l d p e t g u (form ConsH m ps) k =
    two_ready ps (shaped 2 (parts ConsH) known m ps k.3.3.3.1.1 k.3.3.3.1.2)
    (λ x. AreKnownParts known m (parts ConsH) x → Fine known ListRecH l (frozen d p (frozen e t (frozen g u (ready (form ConsH m x) none)))) (list_step (frozen d p (frozen e t (frozen g u (ready (form ConsH m x) none)))) (form ConsH m x)))
    (λ x y q. (λ at. refl, ((k.1, k.2), (k.3.1, k.3.2), (k.3.3.1, k.3.3.2), q.1, q.2.1), omega arith)) k.3.3.3.1.2
list_fine known l d p e t g u (form h m ps) k = (λ at. refl, tt, tt)

pub redex_fine : (known : ℕ → Type 0) (h : Head) (l : ℕ) (ps : VParts) → Fits h (parts_in ps) → AreKnownParts known l (parts h) ps → Fine known h l ps (redex h ps)
redex_fine known (AppH i) l ps f k =
    two_ready ps (shaped 2 (parts (AppH i)) known l ps f k) (λ x. AreKnownParts known l (parts (AppH i)) x → Fine known (AppH i) l x (redex (AppH i) x)) (λ v w q. app_fine known i l v w q.1 q.2.1) k
redex_fine known LetH l ps f k =
    kept_ready_kept ps (shaped 3 (parts LetH) known l ps f k) (λ x. AreKnownParts known l (parts LetH) x → Fine known LetH l x (redex LetH x))
    (λ d a v e t q. (λ at. refl, ((q.3.2.1, q.3.2.2), q.3.1), omega arith)) k
redex_fine known FstH l ps f k = one_ready ps (shaped 1 (parts FstH) known l ps f k) (λ x. AreKnownParts known l (parts FstH) x → Fine known FstH l x (redex FstH x)) (λ v q. first_fine known l v q.1) k
redex_fine known SndH l ps f k = one_ready ps (shaped 1 (parts SndH) known l ps f k) (λ x. AreKnownParts known l (parts SndH) x → Fine known SndH l x (redex SndH x)) (λ v q. second_fine known l v q.1) k
redex_fine known UnitRecH l ps f k = recursor ps (shaped 3 (parts UnitRecH) known l ps f k) (λ x. AreKnownParts known l (parts UnitRecH) x → Fine known UnitRecH l x (redex UnitRecH x)) (λ d p e t v q. unit_fine known l d p e t v q) k
redex_fine known BoolRecH l ps f k =
    recursor_of_two ps (shaped 4 (parts BoolRecH) known l ps f k) (λ x. AreKnownParts known l (parts BoolRecH) x → Fine known BoolRecH l x (redex BoolRecH x)) (λ d p e t g u v q. bool_fine known l d p e t g u v q) k
redex_fine known NatRecH l ps f k =
    recursor_of_two ps (shaped 4 (parts NatRecH) known l ps f k) (λ x. AreKnownParts known l (parts NatRecH) x → Fine known NatRecH l x (redex NatRecH x)) (λ d p e t g u v q. nat_fine known l d p e t g u v q) k
redex_fine known ListRecH l ps f k =
    recursor_of_two ps (shaped 4 (parts ListRecH) known l ps f k) (λ x. AreKnownParts known l (parts ListRecH) x → Fine known ListRecH l x (redex ListRecH x)) (λ d p e t g u v q. list_fine known l d p e t g u v q) k
redex_fine known SpliceH l ps f k = one_ready ps (shaped 1 (parts SpliceH) known l ps f k) (λ x. AreKnownParts known l (parts SpliceH) x → Fine known SpliceH l x (redex SpliceH x)) (λ v q. splice_fine known l v q.1) k
redex_fine known h l ps f k = (λ at. refl, tt, tt)
