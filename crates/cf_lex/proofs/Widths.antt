-- How many bytes some characters take.
use Rattle.std.proofs.Common.{◌≡◌, ◌∙◌, ap, ℕ, ◌+◌, ◌<◌, List, [], ◌∷◌, ◌++◌, length, take, drop, get_or, sym, length-append}
use Rattle.std.proofs.lemmas.List.{take_more, take-append-drop, append-nil}
use Rattle.std.proofs.lemmas.Str.{encodes-append, length-encode}
use Rattle.std.proofs.Math.Utf8.{encode}
use Rattle.std.specs.Char.{len_utf8}
use Rattle.std.specs.Str.{encode_utf8_all}
use Rattle.cf_lex.specs.Tokens.{width}

pub width-append : (xs ys : List ℕ) → width (xs ++ ys) ≡ width xs + width ys
width-append xs ys = ap length (encodes-append xs ys) ∙ length-append (encode_utf8_all xs) (encode_utf8_all ys)

encodes-one : (c : ℕ) → encode_utf8_all (c ∷ []) ≡ encode c
encodes-one c = append-nil (encode c)

-- one character more, as the loops over characters take it
pub encodes-more : (cs : List ℕ) (i c : ℕ) → i < length cs → c ≡ get_or cs i c → encode_utf8_all (take (i + 1) cs) ≡ encode_utf8_all (take i cs) ++ encode c
encodes-more cs i c h e =
    ap encode_utf8_all (take_more cs i c h ∙ ap (λ x. take i cs ++ x ∷ []) (sym e)) ∙ encodes-append (take i cs) (c ∷ []) ∙ ap (λ bs. encode_utf8_all (take i cs) ++ bs) (encodes-one c)

pub width-more : (cs : List ℕ) (i c : ℕ) → i < length cs → c ≡ get_or cs i c → width (take (i + 1) cs) ≡ width (take i cs) + len_utf8 c
width-more cs i c h e =
    ap length (encodes-more cs i c h e) ∙ length-append (encode_utf8_all (take i cs)) (encode c) ∙ ap (λ k. width (take i cs) + k) (length-encode c)

-- a front and the rest together
pub width-split : (n : ℕ) (cs : List ℕ) → width (take n cs) + width (drop n cs) ≡ width cs
width-split n cs = sym (width-append (take n cs) (drop n cs)) ∙ ap width (take-append-drop n cs)
