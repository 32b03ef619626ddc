-- What a layout stands for, for the contracts inside this crate.
use Rattle.std.specs.Prelude.{ℕ, zero, suc, ◌≡◌, ◌<◌, max, List, [], ◌∷◌, ◌++◌}
use Rattle.cf_lex.specs.declared.keywords.Keyword.{Keyword}
use Rattle.cf_lex.specs.declared.keywords.Keyword.TheVariants as keyword
use Rattle.cf_term.specs.Core.{depth}
use Rattle.cf_term.specs.declared.forms.Definition.{Definition}
use Rattle.cf_core_text.specs.declared.layouts.Item.{Item}
use Rattle.cf_core_text.specs.declared.layouts.Item.TheVariants as item
use Rattle.cf_core_text.specs.declared.layouts.Layout.{Layout}
use Rattle.cf_core_text.specs.declared.pieces.Piece.{Piece}
use Rattle.cf_core_text.specs.declared.pieces.Piece.TheVariants as piece
use Rattle.cf_core_text.specs.Pieces.{Printed, placed, printed, defining}

-- the tokens of an item
abbrev pub item_pieces : Item → List Piece
item_pieces (item.Token p) = p ∷ []
item_pieces (item.Part p s t) = placed p (printed s.globals s.depth t.now.value)

-- the tokens of items
abbrev pub flat : List Item → List Piece
flat [] = []
flat (i ∷ is) = item_pieces i ++ flat is

-- how deep the deepest part is
abbrev pub deepest : List Item → ℕ
deepest [] = 0
deepest (item.Token p ∷ is) = deepest is
deepest (item.Part p s t ∷ is) = max (depth t.now.value) (deepest is)

-- a layout has the class and the tokens of a form, and each of its parts is less deep than n
pub record Lays (l : Layout) (f : Printed) (n : ℕ) : Type 0 where
  pub class : l.class ≡ f.class
  pub tokens : flat l.items.items ≡ f.pieces
  pub shallow : deepest l.items.items < n

-- items that were added stand for these tokens, and their deepest part is so deep
pub record Adds (before after : List Item) (ps : List Piece) (n : ℕ) : Type 0 where
  pub tokens : flat after ≡ flat before ++ ps
  pub shallow : deepest after ≡ max (deepest before) n

-- the word before the definition with number k of a group
abbrev pub word_at : ℕ → Keyword
word_at zero = keyword.LetRec
word_at (suc k) = keyword.And

-- definitions, the first one behind this word, which stand for terms under e variables; n variables are before its own
abbrev pub opened : Keyword → (g n d e : ℕ) → List Definition → List Piece
opened w g n d e [] = []
opened w g n d e (x ∷ xs) = piece.Word w ∷ defining g n (printed g d x.ty.value) (printed g e x.value.value) (opened keyword.And g (suc n) d e xs)
