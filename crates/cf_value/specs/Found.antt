-- Looking for the value of a variable.
use Rattle.std.specs.Prelude.{ℕ, zero, suc, ◌≡◌, Option, Some, None}
use denote.Ref.{Bor}
use Rattle.std.specs.declared.rc.Rc.{Rc}
use Rattle.cf_value.specs.Val.{Val, Vals, push, empty}
use Rattle.cf_value.specs.declared.values.Value.{Value}

-- the value after which i more were pushed
abbrev pub found : Vals → ℕ → Option Val
found empty i = None
found (push v e) zero = Some v
found (push v e) (suc i) = found e i

-- what is answered is that value
abbrev pub Finds : {Z : Type 0} → Option (Bor (Rc Value Z)) → Option Val → Type 0
Finds None None = Unit {0}
Finds None (Some v) = ⊥
Finds (Some r) None = ⊥
Finds (Some r) (Some v) = r.now.value ≡ v
