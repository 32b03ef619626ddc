-- The lines of a printed program are tokens.
use Rattle.std.proofs.Common.{◌≡◌, refl, sym, ap, ◌∙◌, subst, arith, inl, inr, append_assoc, length-append, ℕ, zero, suc, ◌+◌, ◌^◌, ◌<◌, List, [], ◌∷◌, ◌++◌, length, Some, None, map}
use Rattle.std.specs.Prelude.{slice_get}
use Rattle.std.proofs.lemmas.Bool.{cases_lt}
use Rattle.cf_lex.specs.Lexed.{IsLexed}
use Rattle.cf_lex.specs.declared.keywords.Keyword.TheVariants as keyword
use Rattle.cf_lex.specs.declared.marks.Mark.TheVariants as sign
use Rattle.cf_term.specs.Core.{Tm}
use Rattle.cf_rules.specs.Programs.{Constructor, Data, Declaration, DataC, MetaC, ObjectC}
use Rattle.cf_elab.specs.Scope.{Globals, start, with_own, with_type}
use Rattle.cf_core_text.specs.Names.{Names, ctor_in, data_types, global_names, names_of}
use Rattle.cf_core_text.specs.Pieces.{listed, pieces, printed, under}
use Rattle.cf_core_text.specs.Lines.{bar, constructor, constructors, definition, globals_below, head_line, line, line_text, lines, parameters, types_below}
use Rattle.cf_core_text.specs.declared.pieces.Piece.{Piece}
use Rattle.cf_core_text.specs.declared.pieces.Piece.TheVariants as piece
use Rattle.cf_printed.specs.Printed.{line_items, printed_tokens}
use Rattle.cf_printed.specs.Scoped.{AllScoped, CtorsScoped, DeclScoped, EachScoped, IsScoped, below, next_ctor}
use Rattle.cf_printed.proofs.Lines.{AreLines, lexed_lines}
use Rattle.cf_printed.proofs.Neighbours.{AreTokens, IsToken}
use Rattle.cf_printed.proofs.Printable.{EachPrinted, Tells, app, listed_t, printed_t}
use Rattle.cf_printed.proofs.Spelt.{local_token, mark_token, word_token}
use Rattle.cf_printed.proofs.Tables.{Agrees, agrees_below, agrees_start, adds, named, next_global, next_type, get_mid, tells}

-- how many stand above what follows a declaration
pub types_at : (g : Globals) (d : Declaration) (t : ℕ) → t ≡ length g.types → types_below t d ≡ length (below g d).types
types_at g (DataC d) t e = omega (arith, e, length-append g.types (d.name ∷ [])) ∙ ap length (sym (adds (with_type d.name g) (length g.types) d.params d.ctors).types)
types_at g (MetaC x a b) t e = e
types_at g (ObjectC x a b) t e = e

pub globals_at : (g : Globals) (d : Declaration) (v : ℕ) → v ≡ length g.variables → globals_below v d ≡ length (below g d).variables
globals_at g (DataC d) v e = e ∙ ap length (sym (adds (with_type d.name g) (length g.types) d.params d.ctors).variables)
globals_at g (MetaC x a b) v e = ap suc e
globals_at g (ObjectC x a b) v e = ap suc e

module _ (N : Names) where
  parameters_t : (k n : ℕ) → k + n < 2 ^ 64 → AreTokens N (parameters k n)
  parameters_t k zero h = tt
  parameters_t k (suc n) h = (mark_token N sign.OpenParen, (local_token N k (omega arith), (mark_token N sign.Colon, (word_token N keyword.ValTy, (mark_token N sign.CloseParen, parameters_t (suc k) n (omega (arith, h)))))))

  fields_t : (g : Globals) → Tells N g → (d : ℕ) (ts : List Tm) → EachScoped g d ts → EachPrinted N (map (printed (length g.variables) d) ts)
  fields_t g l d [] s = tt
  fields_t g l d (t ∷ ts) s = (printed_t N g l d t s.0, fields_t g l d ts s.1)

  -- constructors, of which some are printed; v: how many globals there are
  constructors_t : (g : Globals) → Tells N g → (t p : ℕ) (data_type : Data) → slice_get N.types t ≡ Some data_type → (done cs : List Constructor) → data_type.ctors ≡ done ++ cs → (j : ℕ) → j ≡ length done → CtorsScoped g t p cs → AreTokens N (constructors (length g.variables) (under (length g.variables) p) t j cs)
  constructors_t g l t p d at done [] e j f s = tt
  constructors_t g l t p d at done (c ∷ cs) e j f s =
      let v : ℕ = length g.variables in
      let here : slice_get d.ctors j ≡ Some c = (λ i. slice_get (e i) (f i)) ∙ get_mid done c cs in
      let name : ctor_in d j ≡ c.name = ap (λ o. elim o [ Some k ↦ k.name | None ↦ [] ]) here in
      let token : IsToken N (piece.Ctor t j) = named c.name _ (ap (λ o. elim o [ Some k ↦ ctor_in k j | None ↦ [] ]) at ∙ name) s.0.0 in
      let fields : AreTokens N (listed (map (printed v (under v p)) c.fields)) = listed_t N (map (printed v (under v p)) c.fields) (fields_t g l (under v p) c.fields s.1) in
      let first : AreTokens N (constructor v (under v p) t j c) = (token, (mark_token N sign.OpenParen, app N (listed (map (printed v (under v p)) c.fields)) (piece.Mark sign.CloseParen ∷ []) fields (mark_token N sign.CloseParen, tt))) in
      let rest : AreTokens N (constructors v (under v p) t (suc j) cs) =
      constructors_t (with_own c.name (next_ctor g t p) g) (record { globals = l.globals; types = l.types; ctors = l.ctors }) t p d at (done ++ c ∷ []) cs (e ∙ sym (append_assoc done (c ∷ []) cs)) (suc j) (omega (arith, f, length-append done (c ∷ []))) s.2 in
      app N (bar j ++ constructor v (under v p) t j c) (constructors v (under v p) t (suc j) cs) (app N (bar j) (constructor v (under v p) t j c) (bar_t j) first) rest
    where
      bar_t : (j : ℕ) → AreTokens N (bar j)
      bar_t zero = tt
      bar_t (suc j) = (mark_token N sign.Bar, tt)

  definition_t : (g : Globals) → Tells N g → IsToken N (piece.Global (length g.variables)) → (a t : Tm) → IsScoped g (length g.variables) a → IsScoped g (length g.variables) t → AreTokens N (definition (length g.variables) a t)
  definition_t g l x a t h k =
      let v : ℕ = length g.variables in
      (x, (mark_token N sign.Colon, app N (pieces v v a) _ (printed_t N g l v a h) (mark_token N sign.Becomes, app N (pieces v v t) _ (printed_t N g l v t k) (mark_token N sign.Semicolon, tt))))

  line_t : (g : Globals) (d : Declaration) (ds : List Declaration) → Agrees N g (d ∷ ds) → DeclScoped g d → AreTokens N (line (length g.types) (length g.variables) d)
  line_t g (DataC d) ds a s =
      let v : ℕ = length g.variables in
      let t : ℕ = length g.types in
      let at : slice_get N.types t ≡ Some d = next_type N a.front (data_types ds) d t a.types a.types_count in
      let token : IsToken N (piece.DataType t) = named d.name _ (ap (λ o. elim o [ Some k ↦ k.name | None ↦ [] ]) at) s.0.0 in
      let l = tells N g (DataC d ∷ ds) a in
      let types_more : (n : ℕ) → n < length (g.types ++ d.name ∷ []) → IsToken N (piece.DataType n) =
      λ n h. elim (cases_lt n t) [ inl k ↦ l.types n k | inr k ↦ let e : t ≡ n = omega (arith, h, k, length-append g.types (d.name ∷ [])) in subst (λ i. IsToken N (piece.DataType i)) e token ] in (
        word_token N keyword.Data,
        (
          token,
          app N (parameters 0 d.params) _ (parameters_t 0 d.params (omega (arith, s.1))) (
            mark_token N sign.Becomes,
            app N (constructors v (under v d.params) t 0 d.ctors) (piece.Mark sign.Semicolon ∷ [])
                (constructors_t (with_type d.name g) (record { globals = l.globals; types = types_more; ctors = l.ctors }) t d.params d at [] d.ctors refl 0 refl s.2) (mark_token N sign.Semicolon, tt),
          ),
        ),
      )
  line_t g (MetaC x b t) ds a s = (word_token N keyword.Meta, definition_t g (tells N g _ a) (named x _ (next_global N a.outer (global_names ds) x (length g.variables) a.globals a.globals_count) s.0.0) b t s.1 s.2)
  line_t g (ObjectC x b t) ds a s = definition_t g (tells N g _ a) (named x _ (next_global N a.outer (global_names ds) x (length g.variables) a.globals a.globals_count) s.0.0) b t s.1 s.2

  lines_t : (g : Globals) (ds : List Declaration) (t v : ℕ) → t ≡ length g.types → v ≡ length g.variables → Agrees N g ds → AllScoped g ds → AreLines N (lines t v ds)
  lines_t g [] t v e f a s = tt
  lines_t g (d ∷ ds) t v e f a s = (
    subst (λ i. AreTokens N (line i v d)) (sym e) (subst (λ j. AreTokens N (line (length g.types) j d)) (sym f) (line_t g d ds a s.0)),
    lines_t (below g d) ds (types_below t d) (globals_below v d) (types_at g d t e) (globals_at g d v f) (agrees_below N g d ds s.0 a) s.1,
  )

-- the tokens of a printed program
pub printed_lexed : (ds : List Declaration) → AllScoped start ds → IsLexed (printed_tokens ds)
printed_lexed ds s =
    let N : Names = names_of ds in
    let ls : List (List Piece) = head_line ∷ lines 1 0 ds in
    let ts : AreLines N ls = ((word_token N keyword.Explicit, (mark_token N sign.Semicolon, tt)), lines_t N start ds 1 0 refl refl (agrees_start ds) s) in
    let r = lexed_lines N 0 ls ts (length (line_text N ls)) (omega arith) in
    (r.cs, line_items N 0 ls, r.chars, r.lexes, refl, refl)
