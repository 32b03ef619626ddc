-- Groups of definitions, one at a time.
use Rattle.std.proofs.Common.{◌≡◌, ℕ, suc, ◌+◌, ◌<◌, ◌≤◌, ◌++◌, max, length, get_or, drop, List, [], ◌∷◌, refl, arith, add-one, append_assoc}
use Rattle.std.proofs.lemmas.List.{append-nil, drop_all}
use Rattle.cf_lex.specs.declared.keywords.Keyword.{Keyword}
use Rattle.cf_lex.specs.declared.keywords.Keyword.TheVariants as keyword
use Rattle.cf_lex.specs.declared.marks.Mark.TheVariants as sign
use Rattle.cf_term.specs.Core.{Tm, depth, depth_all, nil, cons, group as parts}
use Rattle.cf_term.specs.View.{definitions}
use Rattle.cf_term.specs.declared.forms.Definition.{Definition}
use Rattle.cf_core_text.specs.declared.pieces.Piece.{Piece}
use Rattle.cf_core_text.specs.declared.pieces.Piece.TheVariants as piece
use Rattle.cf_core_text.specs.Pieces.{printed, printed_all, group, under, variable}
use Rattle.cf_core_text.specs.Layout.{opened, word_at}
use Rattle.cf_core_text.proofs.Steps.{next_of}

opened_next : (g d e : ℕ) (ds : List Definition) (k : ℕ) (x : Definition) → k < length ds → x ≡ get_or ds k x
    → opened (word_at k) g (under d k) d e (drop k ds)
    ≡ (piece.Word (word_at k) ∷ variable g (under d k) ∷ piece.Mark sign.Colon ∷ ((printed g d x.ty.value).pieces ++ piece.Mark sign.Becomes ∷ ((printed g e x.value.value).pieces ++ [])))
    ++ opened (word_at (k + 1)) g (under d (k + 1)) d e (drop (k + 1) ds)
opened_next g d e ds k x h i =
    rw (next_of ds k x h i)
    (rw (add-one k, append-nil (printed g e x.value.value).pieces, append_assoc (printed g d x.ty.value).pieces (piece.Mark sign.Becomes ∷ (printed g e x.value.value).pieces) (opened keyword.And g (suc (under d k)) d e (drop (suc k) ds)))
    refl)

pub opened_at : (g d e f n : ℕ) (ds : List Definition) (k : ℕ) (x : Definition) (w : Keyword) (v : Piece)
    → k < length ds → x ≡ get_or ds k x → w ≡ word_at k → v ≡ variable g n → n ≡ under d k → f ≡ g
    → opened (word_at k) g (under d k) d e (drop k ds)
    ≡ (piece.Word w ∷ v ∷ piece.Mark sign.Colon ∷ ((printed g d x.ty.value).pieces ++ piece.Mark sign.Becomes ∷ ((printed f e x.value.value).pieces ++ [])))
    ++ opened (word_at (k + 1)) g (under d (k + 1)) d e (drop (k + 1) ds)
opened_at g d e f n ds k x w v h i a b c j = rw (a, b, c, j) (opened_next g d e ds k x h i)

pub opened_end : (g n d e : ℕ) (w : Keyword) (ds : List Definition) (k : ℕ) → length ds ≤ k → opened w g n d e (drop k ds) ≡ []
opened_end g n d e w ds k h = rw (drop_all k ds h) refl

pub defined_next : (ds : List Definition) (k : ℕ) (x : Definition) → k < length ds → x ≡ get_or ds k x
    → depth_all (definitions (drop k ds) nil) ≡ max (max (depth x.ty.value) (max (depth x.value.value) 0)) (depth_all (definitions (drop (k + 1) ds) nil))
defined_next ds k x h i = rw (next_of ds k x h i) (omega arith)

pub defined_end : (ds : List Definition) (k : ℕ) → length ds ≤ k → depth_all (definitions (drop k ds) nil) ≡ 0
defined_end ds k h = rw (drop_all k ds h) refl

pub opened_group : (w : Keyword) (g n d m : ℕ) (ds : List Definition) (u : Tm)
    → opened w g n d (under d m) ds ++ piece.Mark sign.Semicolon ∷ ((printed g (under d m) u).pieces ++ [])
    ≡ group w g n (printed_all g d (parts m (length ds)) (definitions ds (cons u nil)))
opened_group w g n d m [] u = rw (append-nil (printed g (under d m) u).pieces) refl
opened_group w g n d m (x ∷ xs) u = rw (← opened_group keyword.And g (suc n) d m xs u) (simp append_assoc)

pub defined_group : (ds : List Definition) (u : Tm) → max (depth_all (definitions ds nil)) (max (depth u) 0) ≡ depth_all (definitions ds (cons u nil))
defined_group [] u = omega arith
defined_group (x ∷ xs) u = omega (arith, defined_group xs u)
