-- The room for evaluation.
use Rattle.std.proofs.Common.{ℕ, zero, suc, ◌+◌, ◌-◌, ◌*◌, ◌≤◌, ◌<◌, ◌≡◌, refl, arith, Result, Ok, Err, IfOk}
use Rattle.cf_eval.specs.Bulk.{rank}

-- less deep terms leave no more room
pub rank_mono : (n a b : ℕ) → a ≤ b → rank n a ≤ rank n b
rank_mono zero a b h = omega arith
rank_mono (suc n) a b h = omega (arith, h, rank_mono n a b h)

-- a nest has room for what follows its step
pub rank_falls : (n b : ℕ) → (n ≡ 0 → ⊥) → rank (n - 1) b + (8 * b + 15) < rank n b
rank_falls zero b h = absurd (h refl)
rank_falls (suc n) b h = let e : suc n - 1 ≡ n = omega arith in rw e (omega arith)

-- a bound of what is answered may be raised
pub ok_more : {X E : Type 0} (r : Result X E) (f : X → ℕ) (a b : ℕ) → IfOk r (λ x. f x ≤ a) → a ≤ b → IfOk r (λ x. f x ≤ b)
ok_more (Ok x) f a b h l = omega (arith, h, l)
ok_more (Err e) f a b h l = tt
