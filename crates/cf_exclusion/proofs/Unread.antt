-- A source reads as one program, or is unread for one reason: that of its text, or of its tokens.
use Rattle.std.proofs.Common.{◌≡◌, ◌≢◌, ◌∙◌, refl, ap, sym, subst, ℕ, false, List}
use Rattle.cf_grammar.specs.Laws.{OneChoice}
use Rattle.cf_lex.specs.Laws.{LexesOne}
use Rattle.cf_lex.specs.Lexed.{TokenList, IsRefusal}
use Rattle.cf_lex.specs.declared.ends.LexEnd.{LexEnd}
use Rattle.cf_lex.specs.declared.ends.LexEnd.TheVariants as lex
use Rattle.cf_tree.specs.Tree.{Program}
use Rattle.cf_syntax.specs.Refusals.{IsRefused}
use Rattle.cf_syntax.specs.Tokens.{tokens_of}
use Rattle.cf_syntax.specs.declared.ends.ParseEnd.{ParseEnd}
use Rattle.cf_syntax.specs.declared.ends.ParseEnd.TheVariants as end
use Rattle.cf_parse.specs.Laws.{ReadsOne}
use Rattle.cf_parse.specs.Reads.{Reads}
use Rattle.cf_diag.specs.declared.refusal.Refusal.{Refusal}
use Rattle.cf_diag.specs.declared.refusal.Refusal.TheVariants.{NotText, BadChar, Syntax, TooNested, TooMany, Literal, NoMemory}
use Rattle.cf_driver.specs.Sources.{HasTokens, ReadsAs, IsUnread}
use Rattle.cf_exclusion.proofs.Memory.{if_memory}
use Rattle.cf_exclusion.proofs.Texts as texts
use Rattle.cf_exclusion.proofs.Refused as tokens
use Rattle.cf_exclusion.specs.Laws.{ReadsAsOne, RefusesNoRead, OneRefusalOfSource}

abbrev of_text : LexEnd → Refusal
of_text (lex.NotText at) = NotText at
of_text (lex.BadChar at) = BadChar at
of_text lex.NoMemory = NoMemory

abbrev of_tokens : ParseEnd → Refusal
of_tokens (end.Syntax at) = Syntax at
of_tokens (end.TooMany at l) = TooMany at l
of_tokens (end.TooNested at) = TooNested at
of_tokens (end.Literal at) = Literal at
of_tokens end.NoMemory = NoMemory

-- what a source is unread for: its text, or its tokens
data Unread (source : List ℕ) (r : Refusal) : Type 0 where
  by_text : (e : LexEnd) → IsRefusal source e → r ≡ of_text e → Unread source r
  by_tokens : (e : ParseEnd) (l : TokenList) → HasTokens source l → IsRefused false l e → r ≡ of_tokens e → Unread source r

unread : (source : List ℕ) (r : Refusal) → r ≢ NoMemory → IsUnread source r → Unread source r
unread source (NotText at) n h = by_text (lex.NotText at) h refl
unread source (BadChar at) n h = by_text (lex.BadChar at) h refl
unread source (Syntax at) n h = by_tokens (end.Syntax at) h.0 h.1 h.2 refl
unread source (TooNested at) n h = by_tokens (end.TooNested at) h.0 h.1 h.2 refl
unread source (TooMany at l) n h = by_tokens (end.TooMany at l) h.0 h.1 h.2 refl
unread source (Literal at) n h = by_tokens (end.Literal at) h.0 h.1 h.2 refl
unread source NoMemory n h = absurd (n refl)
unread source _ n h = absurd h

-- the reason of a text or of tokens is not want of memory, where that of the source is not
text_reason : (e : LexEnd) (r : Refusal) → r ≡ of_text e → r ≢ NoMemory → e ≢ lex.NoMemory
text_reason e r q n m = n (q ∙ ap of_text m)

tokens_reason : (e : ParseEnd) (r : Refusal) → r ≡ of_tokens e → r ≢ NoMemory → e ≢ end.NoMemory
tokens_reason e r q n m = n (q ∙ ap of_tokens m)

module _ (lexes : LexesOne) where
  same_tokens : (source : List ℕ) (l k : TokenList) → HasTokens source l → HasTokens source k → l ≡ k
  same_tokens source l k h g = texts.one_list lexes l k (h.text ∙ sym g.text) h.lexed g.lexed

  has_tokens : (source : List ℕ) (l : TokenList) (e : LexEnd) → HasTokens source l → IsRefusal source e → e ≡ lex.NoMemory
  has_tokens source l e h f = texts.refuses_no_lexed lexes source l e h.text h.lexed f

  pub reads_as_one : ReadsOne → ReadsAsOne
  reads_as_one one source p q h g =
      let e = same_tokens source g.tokens h.tokens g.lexed h.lexed in
      let r : Reads false h.tokens q = subst (λ l. Reads false l q) e g.reads in
      one false (tokens_of h.tokens) p q h.reads.unlimited r.unlimited

  not_unread : (source : List ℕ) (p : Program) (r : Refusal) → ReadsAs source p → r ≢ NoMemory → Unread source r → ⊥
  not_unread source p r h n (by_text e f q) = text_reason e r q n (has_tokens source h.tokens e h.lexed f)
  not_unread source p r h n (by_tokens e l t f q) =
      tokens_reason e r q n (tokens.refuses_no_program false h.tokens p e h.reads (subst (λ k. IsRefused false k e) (same_tokens source l h.tokens t h.lexed) f))

  pub refuses_no_read : RefusesNoRead
  refuses_no_read source p r h f = if_memory r (λ n. not_unread source p r h n (unread source r n f))

  module _ (choice : OneChoice) where
    same_reason : (source : List ℕ) (r s : Refusal) → r ≢ NoMemory → s ≢ NoMemory → Unread source r → Unread source s → r ≡ s
    same_reason source r s n o (by_text e h q) (by_text f g p) = q ∙ ap of_text (texts.one_refusal lexes source e f h g (text_reason e r q n) (text_reason f s p o)) ∙ sym p
    same_reason source r s n o (by_text e h q) (by_tokens f l t g p) = absurd (text_reason e r q n (has_tokens source l e t h))
    same_reason source r s n o (by_tokens e l t h q) (by_text f g p) = absurd (text_reason f s p o (has_tokens source l f t g))
    same_reason source r s n o (by_tokens e l t h q) (by_tokens f k u g p) =
        let i = subst (λ x. IsRefused false x f) (same_tokens source k l u t) g in
        q ∙ ap of_tokens (tokens.one_refusal choice false l e f h i (tokens_reason e r q n) (tokens_reason f s p o)) ∙ sym p

    pub one_refusal : OneRefusalOfSource
    one_refusal source r s h g n o = same_reason source r s n o (unread source r n h) (unread source s o g)
