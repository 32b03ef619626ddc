-- Words between floors.
use Rattle.std.proofs.Common.{◌≡◌, ℕ, ◌+◌, ◌-◌, List, ◌++◌, length, take, drop, arith, refl, sym, ap, ◌∙◌, append_assoc, length-append}
use Rattle.std.specs.Prelude.{min}
use Rattle.std.proofs.lemmas.List.{take_at, drop_at}
use Rattle.wb_syntax.specs.Execute.{Word}
use Rattle.wb_state.specs.Stack.{Stack, height_of, lowest, cut}
use Rattle.wb_state.specs.Frames.{Frames, left}
use Rattle.wb_control.specs.Changes.{cut_to}

-- the last of two lists that are joined
pub lowest_last : {A : Type 0} (xs ys : List A) (n : ℕ) → n ≡ length ys → lowest n (xs ++ ys) ≡ ys
lowest_last xs ys n e =
    let l : length xs ≡ length (xs ++ ys) - n = omega (arith, length-append xs ys, e) in
    drop_at xs ys (length (xs ++ ys) - n) l

-- what a cut leaves of words in three pieces
pub cut_at : (s : Stack) (zs xs ys : List Word) (h f : ℕ) → s.above ++ s.below ≡ zs ++ (xs ++ ys) → h ≡ length (xs ++ ys) → f ≡ length ys → cut_to h f s ≡ record s { above = xs; below = ys }
cut_at s zs xs ys h f w eh ef =
    let all : List Word = s.above ++ s.below in
    let la = length-append s.above s.below in
    let lz = length-append zs (xs ++ ys) in
    let lx = length-append xs ys in
    let lw : length all ≡ length (zs ++ (xs ++ ys)) = ap length w in
    let hh : min h (height_of s) ≡ h = omega (arith, la, lz, lw, eh) in
    let ff : min f (min h (height_of s)) ≡ f = omega (arith, hh, lx, eh, ef) in
    let low : lowest h all ≡ xs ++ ys = ap (lowest h) w ∙ lowest_last zs (xs ++ ys) h eh in
    let bottom : lowest f all ≡ ys = ap (lowest f) (w ∙ sym (append_assoc zs xs ys)) ∙ lowest_last (zs ++ xs) ys f ef in
    let d : length xs ≡ h - f = omega (arith, lx, eh, ef) in
    let a : take (h - f) (lowest h all) ≡ xs = ap (take (h - f)) low ∙ take_at xs ys (h - f) d in
    ap (λ k. cut k (min f k) s) hh ∙ ap (λ k. cut h k s) (ap (min f) (sym hh) ∙ ff) ∙ (λ i. record s { above = a i; below = bottom i })

-- what is left of the locals of frames
pub locals_left : (g : Frames) (before ls : List Word) (b : ℕ) → g.outer ≡ before ++ ls → b ≡ length before → left (min b (length g.outer)) g ≡ record g { current = ls; outer = before }
locals_left g before ls b e eb =
    let lg : length g.outer ≡ length before + length ls = ap length e ∙ length-append before ls in
    let m : min b (length g.outer) ≡ length before = omega (arith, lg, eb) in
    let c : drop (length before) g.outer ≡ ls = ap (drop (length before)) e ∙ drop_at before ls (length before) refl in
    let o : take (length before) g.outer ≡ before = ap (take (length before)) e ∙ take_at before ls (length before) refl in
    ap (λ k. left k g) m ∙ (λ i. record g { current = c i; outer = o i })
