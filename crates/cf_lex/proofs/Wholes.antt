-- From the characters of a text to its bytes.
use Rattle.std.proofs.Common.{◌≡◌, ◌∙◌, ap, subst, arith, ℕ, ◌+◌, List, [], length, String, Global}
use Rattle.std.proofs.lemmas.Str.{encodes-chars, scalars-chars, IsUtf8-string_bytes}
use Rattle.std.specs.Prelude.{string_bytes}
use Rattle.std.specs.Str.{all_scalars, chars, encode_utf8_all}
use Rattle.cf_lex.specs.Lexed.{AreChars, IsLexed, IsRefusal, TokenList}
use Rattle.cf_lex.specs.Names.{first_seen, names_in, tokens_of}
use Rattle.cf_lex.specs.Reading.{Refuses}
use Rattle.cf_lex.specs.Tokens.{Item, Lexes, width}
use Rattle.cf_lex.specs.declared.ends.LexEnd.{LexEnd}
use Rattle.cf_lex.specs.declared.ends.LexEnd.TheVariants as end
use Rattle.cf_lex.proofs.Places.{read_to}

pub are_chars : (s : String Global) (cs : List ℕ) → cs ≡ chars (string_bytes s) → AreChars (string_bytes s) cs
are_chars s cs e =
    let u = IsUtf8-string_bytes s in
    (ap all_scalars e ∙ scalars-chars (string_bytes s) u, ap encode_utf8_all e ∙ encodes-chars (string_bytes s) u)

-- what is read to its end is the whole text
pub whole : (l : TokenList) (cs : List ℕ) (items : List Item) (m : ℕ) → AreChars l.text cs → Lexes 0 cs items m [] → l.tokens ≡ tokens_of items → l.names ≡ first_seen [] (names_in items) → IsLexed l
whole l cs items m a k t n =
    let r : 0 + width cs ≡ m + width [] = read_to 0 cs items m [] k in
    let b : width cs ≡ length l.text = ap length a.1 in
    (cs, items, a, subst (λ j. Lexes 0 cs items j []) (omega (arith, r, b)) k, t, n)

pub refusal : (bytes cs : List ℕ) (e : LexEnd) → AreChars bytes cs → Refuses cs e → IsRefusal bytes e
refusal bytes cs (end.NotText at) a r = absurd r
refusal bytes cs (end.BadChar at) a r = (cs, r.0, r.1, r.2, a, r.3)
refusal bytes cs end.NoMemory a r = tt
