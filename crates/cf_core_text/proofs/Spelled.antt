-- Tokens that are spelled one at a time.
use Rattle.std.proofs.Common.{◌≡◌, ℕ, ◌+◌, ◌<◌, ◌≤◌, ◌++◌, length, get_or, drop, List, [], ◌∷◌, Option, Some, None, refl, sym, ap, ◌∙◌, append_assoc}
use Rattle.std.proofs.lemmas.List.{append-nil, drop_all}
use Rattle.cf_core_text.specs.declared.pieces.Piece.{Piece}
use Rattle.cf_core_text.specs.Names.{Names}
use Rattle.cf_core_text.specs.Text.{behind, spelling}
use Rattle.cf_core_text.specs.Tables.{gap_behind, text_behind}
use Rattle.cf_core_text.proofs.Steps.{next_at}

first_token : (N : Names) (p : Option Piece) (q : Piece) (qs : List Piece) → text_behind N p (q ∷ qs) ≡ gap_behind p q ++ spelling N q ++ behind N q qs
first_token N None q qs = refl
first_token N (Some p) q qs = refl

no_token : (N : Names) (p : Option Piece) → text_behind N p [] ≡ []
no_token N None = refl
no_token N (Some p) = refl

pub spelled_next : (N : Names) (ps : List Piece) (k : ℕ) (p : Option Piece) (q d : Piece) (old mid new all : List ℕ) → old ++ text_behind N p (drop k ps) ≡ all
    → mid ≡ old ++ gap_behind p q → new ≡ mid ++ spelling N q → k < length ps → q ≡ get_or ps k d → new ++ text_behind N (Some q) (drop (k + 1) ps) ≡ all
spelled_next N ps k p q d old mid new all e f g h i =
    ap (λ xs. xs ++ behind N q (drop (k + 1) ps)) (g ∙ ap (λ xs. xs ++ spelling N q) f ∙ append_assoc old (gap_behind p q) (spelling N q))
    ∙ append_assoc old (gap_behind p q ++ spelling N q) (behind N q (drop (k + 1) ps))
    ∙ ap (λ xs. old ++ xs) (sym (first_token N p q (drop (k + 1) ps)))
    ∙ ap (λ qs. old ++ text_behind N p qs) (sym (next_at ps k q d h i))
    ∙ e

pub spelled_end : (N : Names) (ps : List Piece) (k : ℕ) (p : Option Piece) (new all : List ℕ) → new ++ text_behind N p (drop k ps) ≡ all → length ps ≤ k → new ≡ all
spelled_end N ps k p new all e h =
    sym (append-nil new) ∙ ap (λ xs. new ++ xs) (sym (no_token N p)) ∙ ap (λ qs. new ++ text_behind N p qs) (sym (drop_all k ps h)) ∙ e
