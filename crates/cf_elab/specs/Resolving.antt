-- Reading in the order of the text, with a number for each hole, up to the first name that is wrong.
use Rattle.std.specs.Prelude.{ℕ, zero, suc, List, [], ◌∷◌, Option, Some, None}
use Rattle.cf_base.specs.declared.at.At.{At}
use Rattle.cf_term.specs.Core.{Tm, Tms, cons}
use Rattle.cf_term.specs.Forms.{Hole}

infixl 10 ◌>>=◌
-- what was read, and how many holes there are so far; or the first name in the text that is wrong
pub data Resolved (A : Type 0) : Type 0 where
  As : A → (holes : ℕ) → Resolved A
  Unknown Twice : At → Resolved A

-- from the number of holes so far
abbrev pub Resolving : Type 0 → Type 0
Resolving A = (holes : ℕ) → Resolved A

-- this, with no new hole
abbrev pub pure : {A : Type 0} → A → Resolving A
pure a n = As a n

-- what was read goes on, and a name that is wrong ends the reading
abbrev pub and_then : {A B : Type 0} → Resolved A → (A → Resolving B) → Resolved B
and_then (As a n) f = f a n
and_then (Unknown p) f = Unknown p
and_then (Twice p) f = Twice p

-- one after the other
abbrev pub ◌>>=◌ : {A B : Type 0} → Resolving A → (A → Resolving B) → Resolving B
◌>>=◌ m f n = and_then (m n) f

-- what the name at this place stands for; where it stands for nothing it is the wrong one
abbrev pub or_unknown : {A : Type 0} → At → Option A → Resolving A
or_unknown p (Some a) = pure a
or_unknown p None = λ n. Unknown p

-- the next hole
abbrev pub fresh : Resolving Tm
fresh n = As (Hole n) (suc n)

-- as many new holes, and then these parts behind them
abbrev pub with_holes : ℕ → Resolving Tms → Resolving Tms
with_holes zero m = m
with_holes (suc k) m = fresh >>= (λ h. with_holes k m >>= (λ ts. pure (cons h ts)))

-- each in turn
abbrev pub each : {A B : Type 0} → (A → Resolving B) → List A → Resolving (List B)
each f [] = pure []
each f (x ∷ xs) = f x >>= (λ y. each f xs >>= (λ ys. pure (y ∷ ys)))
