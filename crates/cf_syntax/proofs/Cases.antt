-- Cases that cannot be.
use Rattle.std.proofs.Common.{◌≡◌, ap, sym, subst, Bool, true, false, Option, Some, None}

abbrev is_some : {A : Type 0} → Option A → Type 0
is_some None = ⊥
is_some (Some n) = Unit {0}

pub none_some : {A B : Type 0} {x : A} → None ≡ Some x → B
none_some e = absurd (subst is_some (sym e) tt)

abbrev or_else : {A : Type 0} → A → Option A → A
or_else x None = x
or_else x (Some y) = y

pub some_inj : {A : Type 0} {x y : A} → Some x ≡ Some y → x ≡ y
some_inj {x = x} e = ap (or_else x) e

abbrev truth : Bool → Type 0
truth true = Unit {0}
truth false = ⊥

pub clash : {A : Type 0} → true ≡ false → A
clash e = absurd (subst truth e tt)
