-- The core form of each written form has its parts, and its number has 64 bits.
use Rattle.std.proofs.Common.{◌≡◌, refl, sym, ap, ◌∙◌, subst, arith, ℕ, zero, suc, ◌+◌, ◌^◌, ◌<◌, ◌≤◌, List, [], ◌∷◌, length, Option, Some, None}
use Rattle.cf_tree.specs.declared.heads.Head.{Head}
use Rattle.cf_tree.specs.declared.heads.Head.TheVariants as head
use Rattle.cf_tree.specs.Tree.{Plain}
use Rattle.cf_term.specs.Core.{Tm, Tms, nil, cons, Branch}
use Rattle.cf_elab.specs.Forms.{formed, numeral}
use Rattle.cf_elab.specs.Resolving.{As, Resolved, Unknown, Twice}
use Rattle.cf_elab.specs.Scope.{Globals}
use Rattle.cf_core_text.specs.Pieces.{Printed, printed, under}
use Rattle.cf_printed.specs.Scoped.{IsScoped, IsSmall}
use Rattle.cf_printed.proofs.Printable.{successor_of}
use Rattle.cf_printed.proofs.Written.{IsShaped, number_of, shape}

-- what was read, if it was, is so
abbrev pub Holds : {A : Type 0} → (A → Type 0) → Resolved A → Type 0
Holds P (As a n) = P a
Holds P (Unknown p) = Unit {0}
Holds P (Twice p) = Unit {0}

pub no_number : {A : Type 0} {n : ℕ} → None ≡ Some n → A
no_number e = absurd (cc)

-- a term that can be printed under d variables, whose number is below w
abbrev pub Fine : Globals → (d w : ℕ) → Tm → Type 0
Fine g d w u = IsScoped g d u × ((n : ℕ) → (printed (length g.variables) d u).number ≡ Some n → n < w)

pub wider : (g : Globals) (d : ℕ) (u : Tm) (v w : ℕ) → v ≤ w → Fine g d v u → Fine g d w u
wider g d u v w l f = (f.0, (λ n e. let k = f.1 n e in omega (arith, k, l)))

-- parts, each under so many more variables
pub data Parts (g : Globals) (d w : ℕ) : List ℕ → Tms → Type 0 where
  end : Parts g d w [] nil
  next : {b : ℕ} {bs : List ℕ} {t : Tm} {ts : Tms} → Fine g (under d b) w t → Parts g d w bs ts → Parts g d w (b ∷ bs) (cons t ts)

successor_small : (o : Option ℕ) (f : Printed) (w : ℕ) → ((n : ℕ) → o ≡ Some n → n < w) → w + 1 < 2 ^ 64 → IsSmall (successor_of o f).number × ((n : ℕ) → (successor_of o f).number ≡ Some n → n < 0 + w + 1)
successor_small (Some n) f w h l = let k = h n refl in (omega (arith, k, l), (λ m e. let q : suc n ≡ m = cc in omega (arith, k, q)))
successor_small None f w h l = (tt, (λ m e. no_number e))

zero_number : (m w : ℕ) → Some 0 ≡ Some m → m < 0 + w + 1
zero_number m w e = let q : 0 ≡ m = cc in omega (arith, q)

module _ (g : Globals) (d w : ℕ) (b : d < length g.variables + 2 ^ 64) where
  abbrev G : ℕ
  G = length g.variables

  numeral_small : (k : ℕ) → k < 2 ^ 64 → IsScoped g d (numeral k) × ((printed G d (numeral k)).number ≡ Some k)
  numeral_small zero l = ((b, tt, tt, omega arith, tt), refl)
  numeral_small (suc k) l =
      let r = numeral_small k (omega (arith, l)) in
      let e : (printed G d (numeral (suc k))).number ≡ Some (suc k) = ap (λ o. (successor_of o (printed G d (numeral k))).number) r.1 in
      ((b, tt, tt, subst IsSmall (sym e) l, (r.0, tt)), e)

  numeral_fine : (k : ℕ) → k + w + 1 < 2 ^ 64 → Fine g d (k + w + 1) (numeral k)
  numeral_fine k l = let r = numeral_small k (omega (arith, l)) in (r.0, (λ n e. let q : k ≡ n = by_some k n (sym r.1 ∙ e) in omega (arith, q)))
    where
      by_some : (k n : ℕ) → Some k ≡ Some n → k ≡ n
      by_some k n e = cc

  -- a form over its parts
  pub form_fine : (h : Head) → IsShaped h → (cs : List Branch) (us : Tms) → Parts g d w (shape h) us → number_of (Plain h) + w + 1 < 2 ^ 64 → (n : ℕ) → Holds (Fine g d (number_of (Plain h) + w + 1)) (formed h cs us n)
  form_fine head.MetaTy i cs _ end l n = ((b, tt, tt, tt, tt), (λ m e. no_number e))
  form_fine head.ValTy i cs _ end l n = ((b, tt, tt, tt, tt), (λ m e. no_number e))
  form_fine head.CompTy i cs _ end l n = ((b, tt, tt, tt, tt), (λ m e. no_number e))
  form_fine head.Ty i cs _ end l n = ((b, tt, tt, tt, tt), (λ m e. no_number e))
  form_fine head.UnitTy i cs _ end l n = ((b, tt, tt, tt, tt), (λ m e. no_number e))
  form_fine head.Unit i cs _ end l n = ((b, tt, tt, tt, tt), (λ m e. no_number e))
  form_fine head.BoolTy i cs _ end l n = ((b, tt, tt, tt, tt), (λ m e. no_number e))
  form_fine head.True i cs _ end l n = ((b, tt, tt, tt, tt), (λ m e. no_number e))
  form_fine head.False i cs _ end l n = ((b, tt, tt, tt, tt), (λ m e. no_number e))
  form_fine head.NatTy i cs _ end l n = ((b, tt, tt, tt, tt), (λ m e. no_number e))
  form_fine head.IntTy i cs _ end l n = ((b, tt, tt, tt, tt), (λ m e. no_number e))
  form_fine head.Fst i cs _ (next t end) l n = ((b, tt, tt, tt, (t.0, tt)), (λ m e. no_number e))
  form_fine head.Snd i cs _ (next t end) l n = ((b, tt, tt, tt, (t.0, tt)), (λ m e. no_number e))
  form_fine head.ListTy i cs _ (next t end) l n = ((b, tt, tt, tt, (t.0, tt)), (λ m e. no_number e))
  form_fine head.Nil i cs _ (next t end) l n = ((b, tt, tt, tt, (t.0, tt)), (λ m e. no_number e))
  form_fine head.Lift i cs _ (next t end) l n = ((b, tt, tt, tt, (t.0, tt)), (λ m e. no_number e))
  form_fine head.Quote i cs _ (next t end) l n = ((b, tt, tt, tt, (t.0, tt)), (λ m e. no_number e))
  form_fine head.V i cs _ (next t end) l n = ((b, tt, tt, tt, (t.0, tt)), (λ m e. no_number e))
  form_fine head.C i cs _ (next t end) l n = ((b, tt, tt, tt, (t.0, tt)), (λ m e. no_number e))
  form_fine head.Fail i cs _ (next t end) l n = ((b, tt, tt, tt, (t.0, tt)), (λ m e. no_number e))
  form_fine head.Splice i cs _ (next t end) l n = ((b, tt, tt, tt, (t.0, tt)), (λ m e. no_number e))
  form_fine (head.Pi x) i cs _ (next t (next u end)) l n = ((b, tt, tt, tt, (t.0, (u.0, tt))), (λ m e. no_number e))
  form_fine (head.Lam x) i cs _ (next t (next u end)) l n = ((b, tt, tt, tt, (t.0, (u.0, tt))), (λ m e. no_number e))
  form_fine (head.App x) i cs _ (next t (next u end)) l n = ((b, tt, tt, tt, (t.0, (u.0, tt))), (λ m e. no_number e))
  form_fine head.Sig i cs _ (next t (next u end)) l n = ((b, tt, tt, tt, (t.0, (u.0, tt))), (λ m e. no_number e))
  form_fine head.Cons i cs _ (next t (next u end)) l n = ((b, tt, tt, tt, (t.0, (u.0, tt))), (λ m e. no_number e))
  form_fine head.Arr i cs _ (next t (next u end)) l n = ((b, tt, tt, tt, (t.0, (u.0, tt))), (λ m e. no_number e))
  form_fine (head.Prim o) i cs _ (next t (next u end)) l n = ((b, tt, tt, tt, (t.0, (u.0, tt))), (λ m e. no_number e))
  form_fine head.OLam i cs _ (next t (next u end)) l n = ((b, tt, tt, tt, (t.0, (u.0, tt))), (λ m e. no_number e))
  form_fine head.OApp i cs _ (next t (next u end)) l n = ((b, tt, tt, tt, (t.0, (u.0, tt))), (λ m e. no_number e))
  form_fine head.Let i cs _ (next s (next t (next u end))) l n = ((b, tt, tt, tt, (s.0, (t.0, (u.0, tt)))), (λ m e. no_number e))
  form_fine head.Pair i cs _ (next s (next t (next u end))) l n = ((b, tt, tt, tt, (s.0, (t.0, (u.0, tt)))), (λ m e. no_number e))
  form_fine head.UnitRec i cs _ (next s (next t (next u end))) l n = ((b, tt, tt, tt, (s.0, (t.0, (u.0, tt)))), (λ m e. no_number e))
  form_fine head.LetV i cs _ (next s (next t (next u end))) l n = ((b, tt, tt, tt, (s.0, (t.0, (u.0, tt)))), (λ m e. no_number e))
  form_fine head.LetRec i cs _ (next s (next t (next u end))) l n = ((b, refl, tt, tt, (s.0, (t.0, (u.0, tt)))), (λ m e. no_number e))
  form_fine head.BoolRec i cs _ (next r (next s (next t (next u end)))) l n = ((b, tt, tt, tt, (r.0, (s.0, (t.0, (u.0, tt))))), (λ m e. no_number e))
  form_fine head.NatRec i cs _ (next r (next s (next t (next u end)))) l n = ((b, tt, tt, tt, (r.0, (s.0, (t.0, (u.0, tt))))), (λ m e. no_number e))
  form_fine head.ListRec i cs _ (next r (next s (next t (next u end)))) l n = ((b, tt, tt, tt, (r.0, (s.0, (t.0, (u.0, tt))))), (λ m e. no_number e))
  form_fine (head.Lit z) i cs _ end l n = ((b, i, tt, tt, tt), (λ m e. no_number e))
  form_fine head.Zero i cs _ end l n = ((b, tt, tt, omega arith, tt), (λ m e. zero_number m w e))
  form_fine (head.NatLit k) i cs _ end l n = numeral_fine k l
  form_fine head.Suc i cs _ (next {t = u} t end) l n =
      let f : Printed = printed G d u in
      let r = successor_small f.number f w t.1 (omega (arith, l)) in
      ((b, tt, tt, r.0, (t.0, tt)), r.1)
  form_fine head.Case i cs us q l n = absurd i
  form_fine head.Hole i cs us q l n = absurd i
  form_fine head.Missing i cs us q l n = absurd i
