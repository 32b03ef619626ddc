-- Items that are added step by step.
use Rattle.std.proofs.Common.{◌≡◌, ℕ, suc, ◌+◌, ◌-◌, ◌<◌, ◌≤◌, ◌++◌, max, length, get_or, take, drop, List, [], ◌∷◌, refl, sym, ap, ◌∙◌, append_assoc, arith, add-one, drop-cons}
use Rattle.std.proofs.lemmas.List.{append-nil, take_all}
use Rattle.cf_core_text.specs.declared.layouts.Item.{Item}
use Rattle.cf_core_text.specs.declared.layouts.Item.TheVariants as item
use Rattle.cf_core_text.specs.declared.layouts.Layout.{Layout}
use Rattle.cf_core_text.specs.declared.pieces.Piece.{Piece}
use Rattle.cf_core_text.specs.Layout.{flat, deepest, item_pieces, Adds, Lays}
use Rattle.cf_core_text.specs.Pieces.{Printed}

pub flat_both : (is js : List Item) → flat (is ++ js) ≡ flat is ++ flat js
flat_both [] js = refl
flat_both (i ∷ is) js = ap (λ ps. item_pieces i ++ ps) (flat_both is js) ∙ sym (append_assoc (item_pieces i) (flat is) (flat js))

pub deepest_both : (is js : List Item) → deepest (is ++ js) ≡ max (deepest is) (deepest js)
deepest_both [] js = omega arith
deepest_both (item.Token p ∷ is) js = deepest_both is js
deepest_both (item.Part p s t ∷ is) js = omega (arith, deepest_both is js)

pub added : (before after more : List Item) → after ≡ before ++ more → Adds before after (flat more) (deepest more)
added before after more e = rw e (record { tokens = flat_both before more; shallow = deepest_both before more })

pub then_added : {is js ks : List Item} {ps qs : List Piece} {m n : ℕ} → Adds is js ps m → Adds js ks qs n → Adds is ks (ps ++ qs) (max m n)
then_added {is = is} {ps = ps} {qs = qs} a b = record {
  tokens = b.tokens ∙ ap (λ xs. xs ++ qs) a.tokens ∙ append_assoc (flat is) ps qs;
  shallow = omega (arith, a.shallow, b.shallow);
}

-- items that were added to none
pub laid : (l : Layout) (f : Printed) (n k : ℕ) (before : List Item) (ps : List Piece)
    → Adds before l.items.items ps k → before ≡ [] → l.class ≡ f.class → ps ≡ f.pieces → k < n → Lays l f n
laid l f n k before ps a b c e h = record {
  class = c;
  tokens = a.tokens ∙ ap (λ is. flat is ++ ps) b ∙ e;
  shallow = omega (arith, a.shallow, ap deepest b, h);
}

-- what was added, with what is left to add, is all
pub record Continues (before after : List Item) (left : List Piece) (m : ℕ) (ps : List Piece) (n : ℕ) : Type 0 where
  pub tokens : flat after ++ left ≡ flat before ++ ps
  pub shallow : max (deepest after) m ≡ max (deepest before) n

pub begins : (is : List Item) (ps : List Piece) (n : ℕ) → Continues is is ps n ps n
begins is ps n = record { tokens = refl; shallow = refl }

pub goes_on : {is js ks : List Item} {left ps qs : List Piece} {m n k : ℕ} (rest : List Piece) (r : ℕ)
    → Continues is js left m ps n → Adds js ks qs k → left ≡ qs ++ rest → m ≡ max k r → Continues is ks rest r ps n
goes_on {js = js} {qs = qs} rest r c a e h = record {
  tokens = ap (λ xs. xs ++ rest) a.tokens ∙ append_assoc (flat js) qs rest ∙ ap (λ xs. flat js ++ xs) (sym e) ∙ c.tokens;
  shallow = omega (arith, c.shallow, a.shallow, h);
}

pub ends : {is js : List Item} {left ps : List Piece} {m n : ℕ} → Continues is js left m ps n → left ≡ [] → m ≡ 0 → Adds is js ps n
ends {js = js} c e h = record {
  tokens = sym (append-nil (flat js)) ∙ ap (λ xs. flat js ++ xs) (sym e) ∙ c.tokens;
  shallow = omega (arith, c.shallow, h);
}

-- a list from an index on
pub next_at : {A : Type 0} (xs : List A) (k : ℕ) (x d : A) → k < length xs → x ≡ get_or xs k d → drop k xs ≡ x ∷ drop (k + 1) xs
next_at xs k x d h e = drop-cons xs k d h ∙ rw (add-one k) (ap (λ y. y ∷ drop (suc k) xs) (sym e))

pub next_of : {A : Type 0} (xs : List A) (k : ℕ) (x : A) → k < length xs → x ≡ get_or xs k x → drop k xs ≡ x ∷ drop (k + 1) xs
next_of xs k x h e = next_at xs k x x h e

-- the same, said of equal tokens and depths
pub restated : {is js : List Item} {ps qs : List Piece} {m n : ℕ} → Adds is js ps m → ps ≡ qs → m ≡ n → Adds is js qs n
restated a e h = record { tokens = rw (← e) a.tokens; shallow = rw (← h) a.shallow }

-- all behind the first, as a slice has it
pub tail_of : {A : Type 0} (xs : List A) → take (length xs - 1) (drop 1 xs) ≡ drop 1 xs
tail_of [] = refl
tail_of (x ∷ xs) =
    let h : length xs ≤ length (x ∷ xs) - 1 = omega arith in
    take_all (length (x ∷ xs) - 1) xs h

-- what was left was added
pub closes : {is js ks : List Item} {left ps : List Piece} {m n : ℕ} → Continues is js left m ps n → Adds js ks left m → Adds is ks ps n
closes c a = record { tokens = a.tokens ∙ c.tokens; shallow = a.shallow ∙ c.shallow }

-- a list that grows, and what is left to add
pub grows : {A : Type 0} (old new left qs rest all : List A) → old ++ left ≡ all → new ≡ old ++ qs → left ≡ qs ++ rest → new ++ rest ≡ all
grows old new left qs rest all e f h = ap (λ xs. xs ++ rest) f ∙ append_assoc old qs rest ∙ ap (λ xs. old ++ xs) (sym h) ∙ e

pub grown : {A : Type 0} (old left all : List A) → old ++ left ≡ all → left ≡ [] → old ≡ all
grown old left all e h = sym (append-nil old) ∙ ap (λ xs. old ++ xs) (sym h) ∙ e

pub twice : {A : Type 0} (old mid new ps qs : List A) → mid ≡ old ++ ps → new ≡ mid ++ qs → new ≡ old ++ (ps ++ qs)
twice old mid new ps qs e f = f ∙ ap (λ xs. xs ++ qs) e ∙ append_assoc old ps qs
