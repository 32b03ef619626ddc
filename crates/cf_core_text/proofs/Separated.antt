-- Lists of parts with commas between, one part at a time.
use Rattle.std.proofs.Common.{◌≡◌, ℕ, ◌+◌, ◌<◌, ◌≤◌, ◌++◌, max, length, get_or, take, drop, List, [], ◌∷◌, refl, ap, arith}
use Rattle.std.proofs.lemmas.List.{append-nil, drop_all}
use Rattle.std.specs.declared.rc.Rc.{Rc}
use Rattle.cf_lex.specs.declared.marks.Mark.TheVariants as sign
use Rattle.cf_term.specs.Core.{Tm, Tms, depth, depth_all, nil}
use Rattle.cf_term.specs.View.{listed}
use Rattle.cf_core_text.specs.declared.pieces.Piece.TheVariants as piece
use Rattle.cf_core_text.specs.Pieces.{printed, printed_all, further, listed as separated}
use Rattle.cf_core_text.proofs.Steps.{next_of}

module _ {Z : Type 0} where
  pub further_next : (g d : ℕ) (ts : List (Rc Tm Z)) (k : ℕ) (t : Rc Tm Z) → k < length ts → t ≡ get_or ts k t
      → further (printed_all g d [] (listed (drop k ts) nil)) ≡ (piece.Mark sign.Comma ∷ ((printed g d t.value).pieces ++ [])) ++ further (printed_all g d [] (listed (drop (k + 1) ts) nil))
  further_next g d ts k t h e = rw (next_of ts k t h e, append-nil (printed g d t.value).pieces) refl

  pub depth_next : (ts : List (Rc Tm Z)) (k : ℕ) (t : Rc Tm Z) → k < length ts → t ≡ get_or ts k t
      → depth_all (listed (drop k ts) nil) ≡ max (max (depth t.value) 0) (depth_all (listed (drop (k + 1) ts) nil))
  depth_next ts k t h e = rw (next_of ts k t h e) (omega arith)

  pub further_end : (g d : ℕ) (ts : List (Rc Tm Z)) (k : ℕ) → length ts ≤ k → further (printed_all g d [] (listed (drop k ts) nil)) ≡ []
  further_end g d ts k h = rw (drop_all k ts h) refl

  pub depth_end : (ts : List (Rc Tm Z)) (k : ℕ) → length ts ≤ k → depth_all (listed (drop k ts) nil) ≡ 0
  depth_end ts k h = rw (drop_all k ts h) refl

  pub listed_first : (g d : ℕ) (ts rest : List (Rc Tm Z)) (t : Rc Tm Z) → 1 ≤ length ts → t ≡ get_or ts 0 t → rest ≡ drop 1 ts
      → ((printed g d t.value).pieces ++ []) ++ further (printed_all g d [] (listed rest nil)) ≡ separated (printed_all g d [] (listed ts nil))
  listed_first g d [] rest t h e r = absurd (omega arith)
  listed_first g d (x ∷ xs) rest t h e r = rw (r, e, append-nil (printed g d x.value).pieces) refl

  pub depth_first : (ts rest : List (Rc Tm Z)) (t : Rc Tm Z) → 1 ≤ length ts → t ≡ get_or ts 0 t → rest ≡ drop 1 ts
      → max (max (depth t.value) 0) (depth_all (listed rest nil)) ≡ depth_all (listed ts nil)
  depth_first [] rest t h e r = absurd (omega arith)
  depth_first (x ∷ xs) rest t h e r = rw (r, e) (omega arith)

  pub front_parts : (g d : ℕ) (ps : List (Rc Tm Z)) (us : Tms) → take (length ps) (printed_all g d [] (listed ps us)) ≡ printed_all g d [] (listed ps nil)
  front_parts g d [] us = refl
  front_parts g d (p ∷ ps) us = ap (λ fs. printed g d p.value ∷ fs) (front_parts g d ps us)

  pub back_parts : (g d : ℕ) (ps : List (Rc Tm Z)) (us : Tms) → drop (length ps) (printed_all g d [] (listed ps us)) ≡ printed_all g d [] us
  back_parts g d [] us = refl
  back_parts g d (p ∷ ps) us = back_parts g d ps us

  pub depth_parts : (ps : List (Rc Tm Z)) (us : Tms) → max (depth_all (listed ps nil)) (depth_all us) ≡ depth_all (listed ps us)
  depth_parts [] us = omega arith
  depth_parts (p ∷ ps) us = omega (arith, depth_parts ps us)
