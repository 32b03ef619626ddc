-- Names that are gathered one declaration at a time.
use Rattle.std.proofs.Common.{◌≡◌, ℕ, ◌+◌, ◌<◌, ◌≤◌, ◌++◌, length, get_or, drop, List, [], ◌∷◌, refl, sym, ap, ◌∙◌, append_assoc}
use Rattle.std.proofs.lemmas.List.{append-nil, drop_all}
use Rattle.cf_rules.specs.Programs.{Data, Declaration, DataC, MetaC, ObjectC}
use Rattle.cf_rules.specs.View.{declaration, declarations}
use Rattle.cf_rules.specs.declared.programs.CoreDecl.{CoreDecl}
use Rattle.cf_core_text.specs.Names.{data_types, global_names}
use Rattle.cf_core_text.proofs.Steps.{next_of}

types_first : (d : Declaration) (ds : List Declaration) → data_types (d ∷ ds) ≡ data_types (d ∷ []) ++ data_types ds
types_first (DataC t) ds = refl
types_first (MetaC x a b) ds = refl
types_first (ObjectC x a b) ds = refl

globals_first : (d : Declaration) (ds : List Declaration) → global_names (d ∷ ds) ≡ global_names (d ∷ []) ++ global_names ds
globals_first (DataC t) ds = refl
globals_first (MetaC x a b) ds = refl
globals_first (ObjectC x a b) ds = refl

pub types_next : (ds : List CoreDecl) (k : ℕ) (d : CoreDecl) (old new all : List Data) → old ++ data_types (declarations (drop k ds)) ≡ all
    → new ≡ old ++ data_types (declaration d ∷ []) → k < length ds → d ≡ get_or ds k d → new ++ data_types (declarations (drop (k + 1) ds)) ≡ all
types_next ds k d old new all e f h i =
    ap (λ ts. ts ++ data_types (declarations (drop (k + 1) ds))) f
    ∙ append_assoc old (data_types (declaration d ∷ [])) (data_types (declarations (drop (k + 1) ds)))
    ∙ ap (λ ts. old ++ ts) (sym (types_first (declaration d) (declarations (drop (k + 1) ds))))
    ∙ ap (λ xs. old ++ data_types (declarations xs)) (sym (next_of ds k d h i))
    ∙ e

pub globals_next : (ds : List CoreDecl) (k : ℕ) (d : CoreDecl) (old new all : List (List ℕ)) → old ++ global_names (declarations (drop k ds)) ≡ all
    → new ≡ old ++ global_names (declaration d ∷ []) → k < length ds → d ≡ get_or ds k d → new ++ global_names (declarations (drop (k + 1) ds)) ≡ all
globals_next ds k d old new all e f h i =
    ap (λ xs. xs ++ global_names (declarations (drop (k + 1) ds))) f
    ∙ append_assoc old (global_names (declaration d ∷ [])) (global_names (declarations (drop (k + 1) ds)))
    ∙ ap (λ xs. old ++ xs) (sym (globals_first (declaration d) (declarations (drop (k + 1) ds))))
    ∙ ap (λ xs. old ++ global_names (declarations xs)) (sym (next_of ds k d h i))
    ∙ e

pub types_end : (ds : List CoreDecl) (k : ℕ) (new all : List Data) → new ++ data_types (declarations (drop k ds)) ≡ all → length ds ≤ k → new ≡ all
types_end ds k new all e h = sym (append-nil new) ∙ ap (λ xs. new ++ data_types (declarations xs)) (sym (drop_all k ds h)) ∙ e

pub globals_end : (ds : List CoreDecl) (k : ℕ) (new all : List (List ℕ)) → new ++ global_names (declarations (drop k ds)) ≡ all → length ds ≤ k → new ≡ all
globals_end ds k new all e h = sym (append-nil new) ∙ ap (λ xs. new ++ global_names (declarations xs)) (sym (drop_all k ds h)) ∙ e
