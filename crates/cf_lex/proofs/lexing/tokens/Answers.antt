use Rattle.std.proofs.Common.{◌≡◌, ◌∙◌, ap, arith, length, subst}
use Rattle.std.specs.Prelude.{string_bytes}
use Rattle.std.specs.Str.{chars}
use Rattle.cf_lex.specs.Lexed.{IsRefusal, TokenList}
use Rattle.cf_lex.specs.Naming.{bytes_of}
use Rattle.cf_lex.specs.Tokens.{width}
use Rattle.cf_lex.proofs.Wholes.{are_chars, refusal, whole}
use Rattle.cf_lex.proofs.lexing.tokens.Goals as goal

pub pieces-requires : goal.pieces-requires
pieces-requires c =
    let text = c.in-Ok-from_str.text in
    let cs = c.as_slice.result.now in
    let a = are_chars text cs (c.as_slice.ensures.value ∙ c.in_ok-chars.ensures.chars ∙ ap chars c.as_str.ensures.value) in
    let e : width cs ≡ length c.args.bytes.now = ap length (a.1 ∙ c.in-Ok-from_str.ensures.ok ∙ c.in-Ok.ensures.cases.0) in
    omega (arith, e, c.requires)

pub returns-in-Err-pieces : goal.returns-in-Err-pieces
returns-in-Err-pieces c =
    let text = c.in-Ok-from_str.text in
    let cs = c.as_slice.result.now in
    let a = are_chars text cs (c.as_slice.ensures.value ∙ c.in_ok-chars.ensures.chars ∙ ap chars c.as_str.ensures.value) in
    subst (λ bytes. IsRefusal bytes c.in-Err-pieces.e) (c.in-Ok-from_str.ensures.ok ∙ c.in-Ok.ensures.cases.0)
    (refusal (string_bytes text) cs c.in-Err-pieces.e a c.in-Err-pieces.ensures)

pub invariant_of-result : goal.invariant_of-result
invariant_of-result c =
    let text = c.in-Ok-from_str.text in
    let cs = c.as_slice.result.now in
    let a = are_chars text cs (c.as_slice.ensures.value ∙ c.in_ok-chars.ensures.chars ∙ ap chars c.as_str.ensures.value) in
    let e : length (string_bytes text) ≡ length c.args.bytes.now = ap length (c.in-Ok-from_str.ensures.ok ∙ c.in-Ok.ensures.cases.0) in
    let r = c.in-Ok-pieces.ensures in
    let l : TokenList = record { text = string_bytes text; tokens = c.in-Ok-pieces.found.0.items; names = bytes_of c.in-Ok-pieces.found.1.keys } in
    (omega (arith, e, c.requires), whole l cs r.0 r.1 a r.2 r.3 r.4)

pub returns : goal.returns
returns c =
    let text = c.in-Ok-from_str.text in
    let cs = c.as_slice.result.now in
    let a = are_chars text cs (c.as_slice.ensures.value ∙ c.in_ok-chars.ensures.chars ∙ ap chars c.as_str.ensures.value) in
    let r = c.in-Ok-pieces.ensures in
    let l : TokenList = record { text = string_bytes text; tokens = c.in-Ok-pieces.found.0.items; names = bytes_of c.in-Ok-pieces.found.1.keys } in
    (c.in-Ok-from_str.ensures.ok ∙ c.in-Ok.ensures.cases.0, whole l cs r.0 r.1 a r.2 r.3 r.4)
