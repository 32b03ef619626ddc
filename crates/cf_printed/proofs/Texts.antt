-- The names of a text are spelt as names, and it has no more tokens than bytes.
use Rattle.std.proofs.Common.{◌≡◌, refl, sym, ap, ◌∙◌, subst, arith, append_assoc, length-append, ℕ, ◌+◌, ◌≤◌, true, List, [], ◌∷◌, ◌++◌, length, map, Some}
use Rattle.std.specs.Prelude.{slice_range}
use Rattle.std.specs.Str.{all_scalars, encode_utf8_all}
use Rattle.std.proofs.lemmas.Str.{encodes-append, length-le-encodes}
use Rattle.cf_lex.specs.Lexed.{IsLexed, TokenList}
use Rattle.cf_lex.specs.Names as lexed
use Rattle.cf_lex.specs.Tokens.{Item, Lexes, skips, spelled, stops, takes}
use Rattle.cf_lex.specs.declared.piece.Lexeme.{Lexeme}
use Rattle.cf_lex.specs.declared.piece.Lexeme.TheVariants as lexeme
use Rattle.cf_lex.specs.declared.piece.Piece.{Piece}
use Rattle.cf_lex.specs.declared.piece.Piece.TheVariants as read
use Rattle.cf_syntax.specs.Tokens.{Token, class_of, end_of, token_of, tokens_of}
use Rattle.cf_printed.proofs.Inside.{length_map}
use Rattle.cf_printed.proofs.Spelling.{slice_mid}
use Rattle.cf_printed.proofs.Truth.{left, right, both}
use Rattle.cf_printed.proofs.Walked.{AreSpelt, IsSpelt}

scalars_parts : (cs ds : List ℕ) → all_scalars (cs ++ ds) ≡ true → (all_scalars cs ≡ true) × (all_scalars ds ≡ true)
scalars_parts [] ds e = (refl, e)
scalars_parts (c ∷ cs) ds e = let r = scalars_parts cs ds (right _ (all_scalars (cs ++ ds)) e) in (both _ (all_scalars cs) (left _ (all_scalars (cs ++ ds)) e) r.0, r.1)

spelt_token : (names : List (List ℕ)) (x : Lexeme) (front t : List ℕ) → t ≡ encode_utf8_all front → all_scalars front ≡ true → spelled front ≡ Some (read.Token x) → IsSpelt (class_of (lexed.kind_of names x (encode_utf8_all front)) t) t
spelt_token names lexeme.Name front t e h s = (refl, (front, (h, sym e), s))
spelt_token names (lexeme.Word k) front t e h s = tt
spelt_token names lexeme.Whole front t e h s = tt
spelt_token names lexeme.NatLit front t e h s = tt
spelt_token names lexeme.Hole front t e h s = tt
spelt_token names (lexeme.Mark m) front t e h s = tt

-- a text that goes on behind `pre`
more_text : (text pre front rest : List ℕ) → text ≡ pre ++ encode_utf8_all (front ++ rest) → text ≡ pre ++ (encode_utf8_all front ++ encode_utf8_all rest)
more_text text pre front rest e = e ∙ ap (λ z. pre ++ z) (encodes-append front rest)

spelt_items : (l : TokenList) (names : List (List ℕ)) (n : ℕ) (cs : List ℕ) (items : List Item) (m : ℕ) (left : List ℕ) → Lexes n cs items m left → all_scalars cs ≡ true → (pre : List ℕ) → l.text ≡ pre ++ encode_utf8_all cs → length pre ≡ n → (ks : List Token) → AreSpelt ks → AreSpelt (map (token_of l) (map (lexed.token_of names) items) ++ ks)
spelt_items l names _ _ _ _ _ (stops n cs k) a pre e f ks s = s
spelt_items l names _ _ _ _ _ (skips n p front rest items m left t g h) a pre e f ks s =
    let d : l.text ≡ pre ++ (encode_utf8_all front ++ encode_utf8_all rest) = more_text l.text pre front rest e in
    let q : l.text ≡ (pre ++ encode_utf8_all front) ++ encode_utf8_all rest = d ∙ sym (append_assoc pre (encode_utf8_all front) (encode_utf8_all rest)) in
    spelt_items l names (n + length (encode_utf8_all front)) rest items m left h (scalars_parts front rest a).1 (pre ++ encode_utf8_all front) q (length-append pre (encode_utf8_all front) ∙ ap (λ i. i + length (encode_utf8_all front)) f) ks s
spelt_items l names _ _ _ _ _ (takes n x front rest items m left g h) a pre e f ks s =
    let d : l.text ≡ pre ++ (encode_utf8_all front ++ encode_utf8_all rest) = more_text l.text pre front rest e in
    let q : l.text ≡ (pre ++ encode_utf8_all front) ++ encode_utf8_all rest = d ∙ sym (append_assoc pre (encode_utf8_all front) (encode_utf8_all rest)) in
    let r = scalars_parts front rest a in
    let t : slice_range l.text n (n + length (encode_utf8_all front)) ≡ encode_utf8_all front = ap (λ z. slice_range z n (n + length (encode_utf8_all front))) d ∙ slice_mid pre (encode_utf8_all front) (encode_utf8_all rest) n f in (
      spelt_token names x front (slice_range l.text n (n + length (encode_utf8_all front))) t r.0 g.spells,
      spelt_items l names (n + length (encode_utf8_all front)) rest items m left h r.1 (pre ++ encode_utf8_all front) q (length-append pre (encode_utf8_all front) ∙ ap (λ i. i + length (encode_utf8_all front)) f) ks s,
    )

-- each token has a character
some_front : (p : Piece) (front : List ℕ) → spelled front ≡ Some p → 1 ≤ length front
some_front p [] e = absurd (cc)
some_front p (c ∷ cs) e = omega arith

count_items : (n : ℕ) (cs : List ℕ) (items : List Item) (m : ℕ) (left : List ℕ) → Lexes n cs items m left → length items ≤ length cs
count_items _ _ _ _ _ (stops n cs k) = omega arith
count_items _ _ _ _ _ (skips n p front rest items m left t g h) =
    let r = count_items (n + length (encode_utf8_all front)) rest items m left h in
    let e = length-append front rest in
    omega (arith, r, e)
count_items _ _ _ _ _ (takes n x front rest items m left g h) =
    let r = count_items (n + length (encode_utf8_all front)) rest items m left h in
    let e = length-append front rest in
    let k = some_front (read.Token x) front g.spells in
    omega (arith, r, e, k)

pub text_spelt : (l : TokenList) → IsLexed l → AreSpelt (tokens_of l)
text_spelt l h =
    let names : List (List ℕ) = lexed.names_in h.1 in
    subst (λ ts. AreSpelt (map (token_of l) ts ++ end_of l ∷ [])) (sym h.4)
    (spelt_items l names 0 h.0 h.1 (length l.text) [] h.3 h.2.0 [] (sym h.2.1) refl (end_of l ∷ []) (tt, tt))

pub text_count : (l : TokenList) → IsLexed l → length (tokens_of l) ≤ length l.text + 1
text_count l h =
    let names : List (List ℕ) = lexed.names_in h.1 in
    let a = length-append (map (token_of l) l.tokens) (end_of l ∷ []) in
    let b = length_map (token_of l) l.tokens in
    let c : length l.tokens ≡ length h.1 = ap length h.4 ∙ length_map (lexed.token_of names) h.1 in
    let d = count_items 0 h.0 h.1 (length l.text) [] h.3 in
    let e : length h.0 ≤ length (encode_utf8_all h.0) = length-le-encodes h.0 in
    let f : length (encode_utf8_all h.0) ≡ length l.text = ap length h.2.1 in
    omega (arith, a, b, c, d, e, f)
