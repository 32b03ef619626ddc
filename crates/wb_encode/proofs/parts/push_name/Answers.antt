use Rattle.std.proofs.Common.{◌≡◌, List, ℕ, ◌∙◌}
use Rattle.wb_syntax.specs.Binary.{name}
use Rattle.wb_encode.proofs.Appending.{both, extended, named, for_same}
use Rattle.wb_encode.proofs.Items.{name_is}
use Rattle.wb_encode.proofs.ItemsParted.{name_parts}
use Rattle.wb_encode.proofs.parts.push_name.Goals as goal

pub returns : goal.returns
returns c =
    let text : List ℕ = c.as_bytes-bytes.result.now in
    let same : text ≡ c.args.text.now = c.as_bytes-bytes.ensures.value ∙ c.as_str.ensures.bytes in
    for_same name.Is same
    (named (both c.in_ok-push_length.ensures (extended c.in_ok-extend_from_slice.ensures.items)) (λ bytes. name_is text bytes c.as_bytes-bytes.ensures.utf8) (name_parts text))
