-- The value of a variable.
use Rattle.std.proofs.Common.{◌≡◌, ℕ, zero, suc, ◌≤◌, ◌<◌, Option, Some, None, ap, sym, arith}
use mathlib.Core.Path.{subst}
use denote.Ref.{Bor}
use Rattle.std.specs.declared.rc.Rc.{Rc}
use Rattle.cf_value.specs.Contexts.{IsKnown, AreKnown}
use Rattle.cf_value.specs.Found.{found, Finds}
use Rattle.cf_value.specs.Stands.{term_at, env_at}
use Rattle.cf_value.specs.Val.{Val, Vals, empty, push, values_in}
use Rattle.cf_value.specs.declared.values.Value.{Value}
use Rattle.cf_eval.specs.Bulk.{bulk, bulks}

pub finds : {Z : Type 0} (r : Bor (Rc Value Z)) (o : Option Val) → Finds (Some r) o → o ≡ Some r.now.value
finds r None h = absurd h
finds r (Some v) h = ap Some (sym h)

pub found_none : (Z : Type 0) (e : Vals) (i : ℕ) → i < values_in e → Finds {Z = Z} None (found e i) → ⊥
found_none Z empty i h f = omega arith
found_none Z (push v e) zero h f = f
found_none Z (push v e) (suc i) h f = found_none Z e i (omega arith) f

some : (v w : Val) → Some v ≡ Some w → v ≡ w
some v w e = cc

pub found_is : (e : Vals) (i : ℕ) (v : Val) → found e i ≡ Some v → (at : ℕ → ℕ) → env_at at e i ≡ term_at at v
found_is empty i v h at = cc
found_is (push w e) zero v h at = ap (term_at at) (some w v h)
found_is (push w e) (suc i) v h at = found_is e i v h at

pub found_known : (known : ℕ → Type 0) (e : Vals) (i : ℕ) (v : Val) → found e i ≡ Some v → AreKnown known e → IsKnown known v
found_known known empty i v h k = cc
found_known known (push w e) zero v h k = subst (IsKnown known) (some w v h) k.0
found_known known (push w e) (suc i) v h k = found_known known e i v h k.1

pub found_bulk : (e : Vals) (i : ℕ) (v : Val) → found e i ≡ Some v → bulk v ≤ bulks e
found_bulk empty i v h = cc
found_bulk (push w e) zero v h = omega (arith, ap bulk (some w v h))
found_bulk (push w e) (suc i) v h = omega (arith, found_bulk e i v h)
