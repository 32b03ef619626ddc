-- Declarations that are written one at a time.
use Rattle.std.proofs.Common.{◌≡◌, ℕ, ◌+◌, ◌<◌, ◌≤◌, ◌++◌, length, get_or, drop, List, [], ◌∷◌, sym, ap, ◌∙◌, append_assoc}
use Rattle.std.proofs.lemmas.List.{drop_all}
use Rattle.cf_rules.specs.View.{declaration, declarations}
use Rattle.cf_rules.specs.declared.programs.CoreDecl.{CoreDecl}
use Rattle.cf_core_text.specs.declared.lines.Above.{Above}
use Rattle.cf_core_text.specs.declared.pieces.Piece.{Piece}
use Rattle.cf_core_text.specs.Names.{Names}
use Rattle.cf_core_text.specs.Text.{joined}
use Rattle.cf_core_text.specs.Lines.{line, lines, line_text, types_below, globals_below}
use Rattle.cf_core_text.proofs.Steps.{next_of, grows, grown}

-- the text of the declarations from an index on
abbrev pub left : Names → Above → List CoreDecl → ℕ → List ℕ
left N a ds k = line_text N (lines a.types a.globals (declarations (drop k ds)))

abbrev pub below : Above → CoreDecl → Above
below a d = record { types = types_below a.types (declaration d); globals = globals_below a.globals (declaration d) }

left_next : (N : Names) (a : Above) (ds : List CoreDecl) (k : ℕ) (d : CoreDecl) → k < length ds → d ≡ get_or ds k d
    → left N a ds k ≡ (joined N (line a.types a.globals (declaration d)) ++ 10 ∷ []) ++ left N (below a d) ds (k + 1)
left_next N a ds k d h e =
    ap (λ xs. line_text N (lines a.types a.globals (declarations xs))) (next_of ds k d h e)
    ∙ sym (append_assoc (joined N (line a.types a.globals (declaration d))) (10 ∷ []) (left N (below a d) ds (k + 1)))

pub written_next : (N : Names) (a b : Above) (ds : List CoreDecl) (k : ℕ) (d : CoreDecl) (empty made seen : List Piece) (old new all : List ℕ)
    → old ++ left N a ds k ≡ all → empty ≡ [] → made ≡ empty ++ line a.types a.globals (declaration d) → seen ≡ made → new ≡ old ++ (joined N seen ++ 10 ∷ [])
    → k < length ds → d ≡ get_or ds k d → b ≡ below a d → new ++ left N b ds (k + 1) ≡ all
written_next N a b ds k d empty made seen old new all e p q r f h i s =
    let whole : seen ≡ line a.types a.globals (declaration d) = r ∙ q ∙ ap (λ ps. ps ++ line a.types a.globals (declaration d)) p in
    rw s
    (grows old new (left N a ds k) (joined N (line a.types a.globals (declaration d)) ++ 10 ∷ []) (left N (below a d) ds (k + 1)) all e
    (f ∙ ap (λ ps. old ++ (joined N ps ++ 10 ∷ [])) whole)
    (left_next N a ds k d h i))

pub written_end : (N : Names) (a : Above) (ds : List CoreDecl) (k : ℕ) (old all : List ℕ) → old ++ left N a ds k ≡ all → length ds ≤ k → old ≡ all
written_end N a ds k old all e h = grown old (left N a ds k) all e (ap (λ xs. line_text N (lines a.types a.globals (declarations xs))) (drop_all k ds h))
