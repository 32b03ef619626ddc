-- A word is set in place of one of its type.
use Rattle.std.proofs.Common.{◌≡◌, ℕ, true, false, List, map, Some, None, slice_get, slice_set, sym, ap, ◌∙◌}
use Rattle.std.proofs.lemmas.List.{map-set}
use Rattle.wb_state.specs.declared.words.Word.{Word as Held}
use Rattle.wb_state.specs.Words.{seen, type_of, holds, replaced}

pub replaced_held : (ws : List Held) (x : ℕ) (w : Held) → holds (type_of (seen w)) (slice_get (map seen ws) x) ≡ true → replaced (map seen ws) x (seen w) ≡ Some (map seen (slice_set ws x w))
replaced_held ws x w h =
    ap (λ b. elim b [ true ↦ Some (slice_set (map seen ws) x (seen w)) | false ↦ None ]) h ∙ ap Some (sym (map-set seen ws x w))
