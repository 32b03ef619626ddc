-- Whatever a printed core reads as has that core.
use Rattle.std.proofs.Common.{◌≡◌, sym, ap, ◌∙◌, subst, ℕ, true, false, List, [], length}
use Rattle.std.specs.Prelude.{Ok}
use Rattle.std.proofs.lemmas.Str.{encodes_same}
use Rattle.cf_lex.specs.Laws.{LexesOne}
use Rattle.cf_lex.specs.Lexed.{Lexed, TokenList}
use Rattle.cf_lex.specs.Names.{first_seen, names_in, tokens_of as items_tokens}
use Rattle.cf_lex.specs.Tokens.{Lexes}
use Rattle.cf_tree.specs.Tree.{is_explicit}
use Rattle.cf_parse.specs.Laws.{ReadsOne}
use Rattle.cf_parse.specs.Reads.{ReadsUnlimited}
use Rattle.cf_syntax.specs.Tokens.{tokens_of}
use Rattle.cf_elab.specs.Core.{IsCoreOf}
use Rattle.cf_core_text.specs.Lines.{core_text}
use Rattle.cf_printed.specs.Laws.{ReadsOnly}
use Rattle.cf_printed.specs.Plain.{plain_program}
use Rattle.cf_printed.proofs.ReadBack.{read_back}

-- a text has one list of tokens
one_list : LexesOne → (bytes : List ℕ) (l k : TokenList) → Lexed bytes (Ok l) → Lexed bytes (Ok k) → l ≡ k
one_list law bytes l k a b =
    let text : l.text ≡ k.text = a.0 ∙ sym b.0 in
    let chars : a.1.0 ≡ b.1.0 = encodes_same a.1.0 b.1.0 (a.1.2.1 ∙ text ∙ sym b.1.2.1) in
    let other : Lexes 0 a.1.0 b.1.1 (length k.text) [] = subst (λ cs. Lexes 0 cs b.1.1 (length k.text) []) (sym chars) b.1.3 in
    let items : a.1.1 ≡ b.1.1 = (law 0 a.1.0 a.1.1 b.1.1 (length l.text) (length k.text) [] [] a.1.3 other).0 in
    let tokens : l.tokens ≡ k.tokens = a.1.4 ∙ ap items_tokens items ∙ sym b.1.4 in
    let names : l.names ≡ k.names = a.1.5 ∙ ap (λ is. first_seen [] (names_in is)) items ∙ sym b.1.5 in
    λ i. record { text = text i; tokens = tokens i; names = names i }

pub read_only : LexesOne → ReadsOne → ReadsOnly
read_only lexes reads ds s l h q u =
    let r = read_back ds s in
    let e : l ≡ r.0 = one_list lexes (core_text ds) l r.0 h r.2.tokens in
    let v : ReadsUnlimited false (tokens_of r.0) q = subst (λ k. ReadsUnlimited false (tokens_of k) q) e u in
    let f : q ≡ r.1 = reads false (tokens_of r.0) q r.1 v r.2.unlimited in
    (subst (λ p. is_explicit p ≡ true) (sym f) r.3, subst (λ p. IsCoreOf p (plain_program ds)) (sym f) r.4)
