-- A text has one list of tokens, or one reason why it has none.
use Rattle.std.proofs.Common.{◌≡◌, ◌≢◌, ◌∙◌, refl, ap, sym, subst, arith, ℕ, List, [], ◌∷◌, length, Ok, Err}
use Rattle.std.proofs.lemmas.Str.{chars-encodes, utf8_valid_len-IsUtf8}
use Rattle.std.specs.Str.{chars}
use Rattle.cf_lex.specs.Laws.{LexesOne}
use Rattle.cf_lex.specs.Lexed.{AreChars, IsLexed, IsRefusal, TokenList}
use Rattle.cf_lex.specs.Names.{first_seen, names_in, tokens_of}
use Rattle.cf_lex.specs.Tokens.{Item, Lexes}
use Rattle.cf_lex.specs.declared.ends.LexEnd.{LexEnd}
use Rattle.cf_lex.specs.declared.ends.LexEnd.TheVariants as end
use Rattle.cf_exclusion.specs.Laws.{OneLexed}

-- bytes are the UTF-8 of one list of characters
one_chars : (bytes cs ds : List ℕ) → AreChars bytes cs → AreChars bytes ds → cs ≡ ds
one_chars bytes cs ds a b = sym (chars-encodes cs a.0) ∙ ap chars (a.1 ∙ sym b.1) ∙ chars-encodes ds b.0

abbrev Empty : List ℕ → Type 0
Empty [] = Unit {0}
Empty (c ∷ cs) = ⊥

module _ (one : LexesOne) where
  -- what is left of one text is so once
  same_rest : (bytes cs ds : List ℕ) (items others : List Item) (m k : ℕ) (left rest : List ℕ) → AreChars bytes cs → AreChars bytes ds → Lexes 0 cs items m left → Lexes 0 ds others k rest
      → (items ≡ others) × (m ≡ k) × (left ≡ rest)
  same_rest bytes cs ds items others m k left rest a b f g = one 0 cs items others m k left rest f (subst (λ xs. Lexes 0 xs others k rest) (one_chars bytes ds cs b a) g)

  pub one_list : (l k : TokenList) → l.text ≡ k.text → IsLexed l → IsLexed k → l ≡ k
  one_list l k e f g =
      let a = subst (λ bytes. AreChars bytes f.0) e f.2 in
      let s = same_rest k.text f.0 g.0 f.1 g.1 (length l.text) (length k.text) [] [] a g.2 f.3 g.3 in
      let t : l.tokens ≡ k.tokens = f.4 ∙ ap tokens_of s.0 ∙ sym g.4 in
      let n : l.names ≡ k.names = f.5 ∙ ap (λ items. first_seen [] (names_in items)) s.0 ∙ sym g.5 in
      λ i. record { text = e i; tokens = t i; names = n i }

  not_text : (bytes cs : List ℕ) (at : ℕ) → AreChars bytes cs → IsRefusal bytes (end.NotText at) → ⊥
  not_text bytes cs at a h = let n = utf8_valid_len-IsUtf8 bytes (cs, (a.0, a.1)) in absurd (omega (arith, n, h.0, h.1))

  pub refuses_no_lexed : (bytes : List ℕ) (l : TokenList) (e : LexEnd) → l.text ≡ bytes → IsLexed l → IsRefusal bytes e → e ≡ end.NoMemory
  refuses_no_lexed bytes l (end.NotText at) t f h = absurd (not_text bytes f.0 at (subst (λ xs. AreChars xs f.0) t f.2) h)
  refuses_no_lexed bytes l (end.BadChar at) t f h =
      let s = same_rest bytes f.0 h.0 f.1 h.1 (length l.text) at [] (h.2 ∷ h.3) (subst (λ xs. AreChars xs f.0) t f.2) h.4 f.3 h.5 in
      absurd (subst Empty s.2 tt)
  refuses_no_lexed bytes l end.NoMemory t f h = refl

  pub one_refusal : (bytes : List ℕ) (e f : LexEnd) → IsRefusal bytes e → IsRefusal bytes f → e ≢ end.NoMemory → f ≢ end.NoMemory → e ≡ f
  one_refusal bytes (end.NotText at) (end.NotText to) h k n o = ap end.NotText (h.0 ∙ sym k.0)
  one_refusal bytes (end.NotText at) (end.BadChar to) h k n o = absurd (not_text bytes k.0 at k.4 h)
  one_refusal bytes (end.BadChar at) (end.NotText to) h k n o = absurd (not_text bytes h.0 to h.4 k)
  one_refusal bytes (end.BadChar at) (end.BadChar to) h k n o =
      ap end.BadChar (same_rest bytes h.0 k.0 h.1 k.1 at to (h.2 ∷ h.3) (k.2 ∷ k.3) h.4 k.4 h.5 k.5).1
  one_refusal bytes end.NoMemory f h k n o = absurd (n refl)
  one_refusal bytes e end.NoMemory h k n o = absurd (o refl)

  pub one_lexed : OneLexed
  one_lexed bytes (Ok l) (Ok k) h g n o = ap Ok (one_list l k (h.0 ∙ sym g.0) h.1 g.1)
  one_lexed bytes (Ok l) (Err e) h g n o = absurd (o (ap Err (refuses_no_lexed bytes l e h.0 h.1 g)))
  one_lexed bytes (Err e) (Ok k) h g n o = absurd (n (ap Err (refuses_no_lexed bytes k e g.0 g.1 h)))
  one_lexed bytes (Err e) (Err f) h g n o = ap Err (one_refusal bytes e f h g (λ q. n (ap Err q)) (λ q. o (ap Err q)))
