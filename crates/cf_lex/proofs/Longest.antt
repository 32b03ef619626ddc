-- When a piece at the front of a text is the longest.
use Rattle.std.proofs.Common.{◌≡◌, ◌∙◌, ap, subst, arith, inl, inr, ℕ, zero, suc, ◌+◌, ◌-◌, ◌<◌, ◌≤◌, Bool, true, List, ◌++◌, length, take, Some, sym}
use Rattle.std.specs.List.{list_all, prefix_len}
use Rattle.std.proofs.Math.Seq.{take-append_seam, take-append-add}
use Rattle.std.proofs.lemmas.Bool.{cases_lt}
use Rattle.std.proofs.lemmas.List.{length-append, length-take-le, take-append-drop}
use Rattle.std.proofs.lemmas.List.Sums.{prefix_len-le-length}
use Rattle.cf_lex.proofs.Runs.{all_run, within_run}
use Rattle.cf_lex.specs.Fronts.{NoLonger, Stands}
use Rattle.cf_lex.specs.Tokens.{IsStuck, spelled}
use Rattle.cf_lex.specs.declared.piece.Piece.{Piece}

front_at : (text other left : List ℕ) → other ++ left ≡ text → take (length other) text ≡ other
front_at text other left e = subst (λ t. take (length other) t ≡ other) e (take-append_seam other left)

front_fits : (text other left : List ℕ) → other ++ left ≡ text → length other ≤ length text
front_fits text other left e = omega (arith, length-append other left, ap length e)

pub stands : (text : List ℕ) (p : Piece) (n : ℕ) → 0 < n → n ≤ length text → spelled (take n text) ≡ Some p → NoLonger text n → Stands text p n
stands text p n positive fits s none = (
  positive,
  fits,
  record {
    spells = s;
    longest = λ q other left t e.
        let whole : other ++ left ≡ text = e ∙ take-append-drop n text in
        let same : spelled (take (length other) text) ≡ Some q = ap spelled (front_at text other left whole) ∙ t in
        let cut : length (take n text) ≡ n = length-take-le n text fits in
        elim (cases_lt n (length other)) [
          | inl h ↦ absurd (none (length other) q h (front_fits text other left whole) same)
          | inr h ↦ omega (arith, h, cut)
        ];
  },
)

-- a text whose first character alone is no piece, nor any longer front
pub stuck : (text : List ℕ) → ((q : Piece) → spelled (take 1 text) ≡ Some q → ⊥) → NoLonger text 1 → IsStuck text
stuck text one more p front rest s e = at (length front) (front_fits text front rest e) (ap spelled (front_at text front rest e) ∙ s)
  where
    at : (m : ℕ) → m ≤ length text → spelled (take m text) ≡ Some p → ⊥
    at zero h t = cc
    at (suc zero) h t = one p t
    at (suc (suc m)) h t = more (suc (suc m)) p (omega arith) h t

-- behind these characters the piece goes on just as long as characters are of the class f
pub record GoesOn (f : ℕ → Bool) (pre : List ℕ) (p : List ℕ → Piece) : Type 0 where
  pub some : 0 < length pre
  pub made : (cs : List ℕ) → list_all f cs ≡ true → spelled (pre ++ cs) ≡ Some (p (pre ++ cs))
  pub only : (cs : List ℕ) (q : Piece) → spelled (pre ++ cs) ≡ Some q → list_all f cs ≡ true

none_longer : (f : ℕ → Bool) (pre bs : List ℕ) (p : List ℕ → Piece) → GoesOn f pre p → NoLonger (pre ++ bs) (length pre + prefix_len f bs)
none_longer f pre bs p g m q h i s =
    let j : ℕ = m - length pre in
    let e : m ≡ length pre + j = omega arith in
    let t : take m (pre ++ bs) ≡ pre ++ take j bs = ap (λ k. take k (pre ++ bs)) e ∙ take-append-add pre bs j in
    let fits : j ≤ length bs = omega (arith, length-append pre bs) in
    let w : j ≤ prefix_len f bs = within_run f bs j fits (g.only (take j bs) q (ap spelled (sym t) ∙ s)) in
    omega arith

pub goes_on : (f : ℕ → Bool) (pre bs : List ℕ) (p : List ℕ → Piece) (n : ℕ) → GoesOn f pre p → n ≡ length pre + prefix_len f bs → Stands (pre ++ bs) (p (take n (pre ++ bs))) n
goes_on f pre bs p n g e =
    let k : ℕ = prefix_len f bs in
    let t : take (length pre + k) (pre ++ bs) ≡ pre ++ take k bs = take-append-add pre bs k in
    let s : spelled (take (length pre + k) (pre ++ bs)) ≡ Some (p (take (length pre + k) (pre ++ bs)))
    = ap spelled t ∙ g.made (take k bs) (all_run f bs) ∙ ap (λ cs. Some (p cs)) (sym t) in
    subst (λ m. Stands (pre ++ bs) (p (take m (pre ++ bs))) m) (sym e)
    (stands (pre ++ bs) (p (take (length pre + k) (pre ++ bs))) (length pre + k)
    (omega (arith, g.some)) (omega (arith, length-append pre bs, prefix_len-le-length f bs)) s (none_longer f pre bs p g))
