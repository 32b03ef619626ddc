use Rattle.std.proofs.Common.{◌≡◌, ◌∙◌, [], ap, arith, length}
use Rattle.std.proofs.lemmas.List.{length-map}
use Rattle.std.specs.Prelude.{string_bytes}
use Rattle.cf_lex.specs.Names.{names_in, token_of}
use Rattle.cf_lex.proofs.Places.{few}
use Rattle.cf_lex.proofs.list.Tokens.len.Goals as goal

pub overflow_cast-result : goal.overflow_cast-result
overflow_cast-result c =
    let h = c.self.invariant in
    let k = h.1 in
    let e : length c.self.inside.tokens.items ≡ length k.1 = ap length k.4 ∙ length-map k.1 (token_of (names_in k.1)) in
    omega (arith, e, few 0 k.0 k.1 (length (string_bytes c.self.inside.text)) [] k.3, h.0, c.len.ensures)
