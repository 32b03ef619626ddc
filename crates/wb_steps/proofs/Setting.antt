-- A list of words with one in place of another.
use Rattle.std.proofs.Common.{zero, suc, [], ◌∷◌, refl, ap, arith}
use Rattle.wb_steps.specs.Variables.{SetIsRead, OthersAreRead, CountStays}

pub set_is_read : SetIsRead
set_is_read [] x w l = absurd (omega (arith, l))
set_is_read (v ∷ vs) zero w l = refl
set_is_read (v ∷ vs) (suc x) w l = set_is_read vs x w (omega (arith, l))

pub others_are_read : OthersAreRead
others_are_read [] x y w n = refl
others_are_read (v ∷ vs) zero zero w n = absurd (n refl)
others_are_read (v ∷ vs) zero (suc y) w n = refl
others_are_read (v ∷ vs) (suc x) zero w n = refl
others_are_read (v ∷ vs) (suc x) (suc y) w n = others_are_read vs x y w (λ e. n (ap suc e))

pub count_stays : CountStays
count_stays [] x w = refl
count_stays (v ∷ vs) zero w = refl
count_stays (v ∷ vs) (suc x) w = ap suc (count_stays vs x w)
