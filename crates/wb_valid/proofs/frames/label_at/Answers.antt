use Rattle.std.proofs.Common.{◌≡◌, ℕ, zero, suc, ◌-◌, ◌<◌, arith, sym, ap, ◌∙◌, List, ◌∷◌, Some}
use Rattle.std.specs.Prelude.{slice_get}
use Rattle.std.specs.Option.{option_map}
use Rattle.std.proofs.lemmas.Option.{slice_get-map}
use Rattle.wb_valid.specs.Checking.{label}
use Rattle.wb_valid.proofs.frames.label_at.Goals as goal

-- behind the first element
behind_first : {A : Type 0} (x : A) (xs : List A) (k : ℕ) → 0 < k → slice_get (x ∷ xs) k ≡ slice_get xs (k - 1)
behind_first x xs zero l = absurd (omega (arith, l))
behind_first x xs (suc k) l = ap (slice_get xs) (omega arith)

pub returns-in-Some : goal.returns-in-Some
returns-in-Some c =
    ap Some c.label-in-Some.ensures
    ∙ sym (behind_first _ _ c.args.index (omega arith) ∙ slice_get-map label c.args.outer.now (c.args.index - 1) ∙ ap (option_map label) (sym c.in-Some.ensures))
