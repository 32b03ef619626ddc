-- Laws of machines that follow one another. Types and relations are given first, since a clause cannot range over them.
use Rattle.std.specs.Prelude.{◌≡◌, ℕ, ◌+◌, ◌*◌}
use Rattle.cf_simulation.specs.Simulation.{Move, At, reach, weight, Follows, Keeps, Through}

-- a run of more steps goes on from where the run of fewer has come to
abbrev pub StepsAddUp : (S O : Type 0) → Type 0
StepsAddUp S O = (f : S → Move S O) (k j : ℕ) (s t : S) → reach f k s ≡ At t → reach f (k + j) s ≡ reach f j t

-- and its weight is that of both
abbrev pub WeightsAddUp : (S O : Type 0) → Type 0
WeightsAddUp S O = (f : S → Move S O) (w : S → ℕ) (k j : ℕ) (s t : S) → reach f k s ≡ At t → weight f w (k + j) s ≡ weight f w k s + weight f w j t

-- what follows step by step, by a relation of states and of steps saved, keeps runs
abbrev pub FollowsKeeps : {S O T P : Type 0} → (Agrees : O → P → Type 0) → (R : S → T → (saved : ℕ) → Type 0) → (Beside : S → T → Type 0) → Type 0
FollowsKeeps {S = S} {O = O} {T = T} {P = P} Agrees R Beside =
    (f : S → Move S O) (g : T → Move T P) (w : S → ℕ) (v : T → ℕ) (cost : ℕ)
    → Follows f g w v cost Agrees R
    → ((s : S) (t : T) (saved : ℕ) → R s t saved → Beside s t)
    → (s : S) (t : T) (saved : ℕ) → R s t saved
    → Keeps f g w v cost saved Agrees Beside s t

-- passes compose, and their factors multiply
abbrev pub KeepsThrough : {S O T P U Q : Type 0} → (Agrees : O → P → Type 0) → (Agrees' : P → Q → Type 0) → (Beside : S → T → Type 0) → (Beside' : T → U → Type 0) → Type 0
KeepsThrough {S = S} {O = O} {T = T} {P = P} {U = U} {Q = Q} Agrees Agrees' Beside Beside' =
    (f : S → Move S O) (g : T → Move T P) (h : U → Move U Q) (w : S → ℕ) (v : T → ℕ) (x : U → ℕ) (cost cost' saved saved' : ℕ) (s : S) (t : T) (u : U)
    → Keeps f g w v cost saved Agrees Beside s t
    → Keeps g h v x cost' saved' Agrees' Beside' t u
    → Keeps f h w x (cost * cost') (saved * cost' + saved') (Through Agrees Agrees') (Through Beside Beside') s u
