-- A printed core reads back.
use Rattle.std.proofs.Common.{◌≡◌, refl, ap, ℕ, true, false, List, [], ◌∷◌}
use Rattle.cf_lex.specs.Lexed.{TokenList}
use Rattle.cf_lex.specs.declared.keywords.Keyword.TheVariants as keyword
use Rattle.cf_lex.specs.declared.marks.Mark.TheVariants as sign
use Rattle.cf_grammar.specs.Grammar.{Takes}
use Rattle.cf_grammar.specs.declared.phrases.Phrase.TheVariants as phrase
use Rattle.cf_grammar.specs.declared.phrases.Symbol.TheVariants.{Phrase as a}
use Rattle.cf_tree.specs.Tree.{Program, is_explicit}
use Rattle.cf_rules.specs.Programs.{Declaration}
use Rattle.cf_parse.specs.Meaning.{decls_in, program_in}
use Rattle.cf_parse.specs.Meaning as meant
use Rattle.cf_parse.specs.Reads.{ReadsUnlimited}
use Rattle.cf_syntax.specs.Tokens.{end_of, tokens_of}
use Rattle.cf_elab.specs.Core.{declare_all}
use Rattle.cf_elab.specs.Resolving.{As}
use Rattle.cf_elab.specs.Scope.{start}
use Rattle.cf_core_text.specs.Names.{Names, names_of}
use Rattle.cf_core_text.specs.Lines.{head_line, lines}
use Rattle.cf_core_text.specs.declared.pieces.Piece.TheVariants as piece
use Rattle.cf_printed.specs.Laws.{ReadsBack}
use Rattle.cf_printed.specs.Plain.{plain_program}
use Rattle.cf_printed.specs.Printed.{printed_tokens}
use Rattle.cf_printed.specs.Scoped.{AllScoped}
use Rattle.cf_printed.proofs.Declared.{printed_lexed}
use Rattle.cf_printed.proofs.Deriving.{Gives, g_last, g_map, g_phrase, g_token}
use Rattle.cf_printed.proofs.Found.{distinct_start}
use Rattle.cf_printed.proofs.Programs.{decls_form}
use Rattle.cf_printed.proofs.Spelling.{flat, spelled}
use Rattle.cf_printed.proofs.Tables.{agrees_start}

abbrev Program_of : List Declaration → Type 0
Program_of ds = (p : Program) × (is_explicit p ≡ true) × ((n : ℕ) → declare_all start p.decls n ≡ As (plain_program ds) n)

program_form : (ds : List Declaration) → AllScoped start ds → Gives (names_of ds) (a phrase.Program) (flat (head_line ∷ lines 1 0 ds)) {A = Program_of ds} (λ x. meant.program x.0)
program_form ds s =
    let N : Names = names_of ds in
    g_map N
    (g_phrase N phrase.Program 0 refl
    (g_token N (piece.Word keyword.Explicit) (piece.Mark sign.Semicolon ∷ flat (lines 1 0 ds)) Takes.exact
    (g_token N (piece.Mark sign.Semicolon) (flat (lines 1 0 ds)) Takes.exact
    (g_last N (flat (lines 1 0 ds)) (decls_form N start ds 1 0 refl refl (agrees_start ds) distinct_start s 0)))))
    (λ x. (record { explicit = true; prelude = false; decls = decls_in x.1.1.1.0 }, refl, x.1.1.1.1))
    (λ x. refl)

pub read_back : ReadsBack
read_back ds s =
    let l : TokenList = printed_tokens ds in
    let r = program_form ds s (tokens_of l) (end_of l) [] (spelled ds) in
    let u : ReadsUnlimited false (tokens_of l) r.0.0 = record { cst = r.1.cst; end_token = end_of l; parses = r.1.parses; ends = refl; means = ap program_in r.1.means } in (
      l,
      r.0.0,
      record { tokens = (refl, printed_lexed ds s); unlimited = u; limited = λ w. record { unlimited = u; limits = w r.0.0 u } },
      r.0.1,
      (0, r.0.2 0),
    )
