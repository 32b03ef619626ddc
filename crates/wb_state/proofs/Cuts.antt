-- The words of a stack or of locals, the top last, and what is left of them.
use Rattle.std.proofs.Common.{◌≡◌, ℕ, ◌+◌, ◌-◌, ◌≤◌, List, [], ◌∷◌, zero, suc, replicate, ◌++◌, length, take, drop, map, reverse, arith, refl, sym, ap, ◌∙◌, length-drop, length-append}
use Rattle.std.proofs.lemmas.List.{take_at, drop_at, take-take, reverse-append, length-reverse, length-map, map-append, take-append-drop, take-map, drop-map, length-take-le, take_all, drop_all, take-append-le, drop-append-le, drop-drop, reverse-reverse}
use Rattle.wb_state.specs.declared.words.Word.{Word as Held}
use Rattle.wb_state.specs.Words.{seen}
use Rattle.wb_syntax.specs.Execute.{Word}
use Rattle.wb_state.specs.Frames.{frames_of, entered, left, with_current}
use Rattle.wb_state.specs.Stack.{stack_of, height_of, lowest, raised, cut}

-- a list turned round, in two pieces
turned : {A : Type 0} (n : ℕ) (xs : List A) → reverse xs ≡ reverse (drop n xs) ++ reverse (take n xs)
turned n xs = ap reverse (sym (take-append-drop n xs)) ∙ reverse-append (take n xs) (drop n xs)

length_turned : {A : Type 0} (n : ℕ) (xs : List A) → length (reverse (drop n xs)) ≡ length xs - n
length_turned n xs = length-reverse (drop n xs) ∙ length-drop n xs

pub lowest_turned : {A : Type 0} (n : ℕ) (xs : List A) → n ≤ length xs → lowest n (reverse xs) ≡ reverse (take n xs)
lowest_turned n xs h =
    let l : length (reverse (drop n xs)) ≡ length (reverse xs) - n = length_turned n xs ∙ ap (λ k. k - n) (sym (length-reverse xs)) in
    ap (drop (length (reverse xs) - n)) (turned n xs) ∙ drop_at (reverse (drop n xs)) (reverse (take n xs)) (length (reverse xs) - n) l

pub top_turned : {A : Type 0} (n : ℕ) (xs : List A) → take (length xs - n) (reverse xs) ≡ reverse (drop n xs)
top_turned n xs = ap (take (length xs - n)) (turned n xs) ∙ take_at (reverse (drop n xs)) (reverse (take n xs)) (length xs - n) (length_turned n xs)

-- all words of a stack
pub whole_of : (ws : List Held) (g : ℕ) → reverse (map seen (drop g ws)) ++ reverse (map seen (take g ws)) ≡ reverse (map seen ws)
whole_of ws g = sym (reverse-append (map seen (take g ws)) (map seen (drop g ws))) ∙ ap reverse (sym (map-append seen (take g ws) (drop g ws)) ∙ ap (map seen) (take-append-drop g ws))

-- how many words a stack has
pub height_is : (ws : List Held) (g n k : ℕ) → height_of (stack_of ws g n k) ≡ length ws
height_is ws g n k =
    sym (length-append (reverse (map seen (drop g ws))) (reverse (map seen (take g ws)))) ∙ ap length (whole_of ws g) ∙ length-reverse (map seen ws) ∙ length-map ws seen

-- the lowest words
lowest_of : (ws : List Held) (g h : ℕ) → h ≤ length ws → lowest h (reverse (map seen (drop g ws)) ++ reverse (map seen (take g ws))) ≡ reverse (map seen (take h ws))
lowest_of ws g h l =
    let m : h ≤ length (map seen ws) = omega (arith, l, length-map ws seen) in
    ap (lowest h) (whole_of ws g) ∙ lowest_turned h (map seen ws) m ∙ ap reverse (take-map seen h ws)

pub cut_is : (ws : List Held) (g h f n k : ℕ) → f ≤ h → h ≤ length ws → stack_of (take h ws) f n k ≡ cut h f (stack_of ws g n k)
cut_is ws g h f n k fh hl =
    let low : List Held = take h ws in
    let len : length (map seen low) ≡ h = length-map low seen ∙ length-take-le h ws hl in
    let above : take (h - f) (reverse (map seen low)) ≡ reverse (map seen (drop f low)) =
    ap (λ m. take (m - f) (reverse (map seen low))) (sym len) ∙ top_turned f (map seen low) ∙ ap reverse (drop-map seen f low) in
    let a : reverse (map seen (drop f low)) ≡ take (h - f) (lowest h (reverse (map seen (drop g ws)) ++ reverse (map seen (take g ws)))) =
    sym above ∙ ap (take (h - f)) (sym (lowest_of ws g h hl)) in
    let b : reverse (map seen (take f low)) ≡ lowest f (reverse (map seen (drop g ws)) ++ reverse (map seen (take g ws))) =
    ap (λ xs. reverse (map seen xs)) (take-take f h ws fh) ∙ sym (lowest_of ws g f (omega arith)) in
    λ i. record { above = a i; below = b i; most = n; room = k }

pub raise_is : (ws : List Held) (g h n k : ℕ) → h ≡ length ws → stack_of ws h n k ≡ raised (stack_of ws g n k)
raise_is ws g h n k e =
    let a : reverse (map seen (drop h ws)) ≡ [] = ap (λ xs. reverse (map seen xs)) (drop_all h ws (omega (arith, e))) in
    let b : reverse (map seen (take h ws)) ≡ reverse (map seen (drop g ws)) ++ reverse (map seen (take g ws)) =
    ap (λ xs. reverse (map seen xs)) (take_all h ws (omega (arith, e))) ∙ sym (whole_of ws g) in
    λ i. record { above = a i; below = b i; most = n; room = k }

-- ---- locals

pub enter_is : (ws : List Held) (g h n : ℕ) → h ≡ length ws → frames_of ws h n ≡ entered (frames_of ws g n)
enter_is ws g h n e =
    let a : map seen (drop h ws) ≡ [] = ap (map seen) (drop_all h ws (omega (arith, e))) in
    let b : map seen (take h ws) ≡ map seen (take g ws) ++ map seen (drop g ws) =
    ap (map seen) (take_all h ws (omega (arith, e)) ∙ sym (take-append-drop g ws)) ∙ map-append seen (take g ws) (drop g ws) in
    λ i. record { current = a i; outer = b i; room = n }

pub leave_is : (ws : List Held) (g b n : ℕ) → frames_of (take g ws) b n ≡ left b (frames_of ws g n)
leave_is ws g b n = λ i. record { current = sym (drop-map seen b (take g ws)) i; outer = sym (take-map seen b (take g ws)) i; room = n }

map_replicate : (n : ℕ) (z : Held) (w : Word) → seen z ≡ w → map seen (replicate n z) ≡ replicate n w
map_replicate zero z w e = refl
map_replicate (suc n) z w e = λ i. e i ∷ map_replicate n z w e i

pub zeros_are : (ws : List Held) (g n count : ℕ) (z : Held) (w : Word) → g ≤ length ws → seen z ≡ w → frames_of (ws ++ replicate count z) g n ≡ with_current (frames_of ws g n) (map seen (drop g ws) ++ replicate count w)
zeros_are ws g n count z w l e =
    let a : map seen (drop g (ws ++ replicate count z)) ≡ map seen (drop g ws) ++ replicate count w =
    ap (map seen) (drop-append-le g ws (replicate count z) l) ∙ map-append seen (drop g ws) (replicate count z) ∙ ap (λ xs. map seen (drop g ws) ++ xs) (map_replicate count z w e) in
    let b : map seen (take g (ws ++ replicate count z)) ≡ map seen (take g ws) = ap (map seen) (take-append-le g ws (replicate count z) l) in
    λ i. record { current = a i; outer = b i; room = n }

-- what a list is filled up to
pub filled : (ws : List Held) (n m count : ℕ) (z : Held) → n ≡ m → n ≡ length ws → take (n + count) ws ++ replicate (n + count - m) z ≡ ws ++ replicate count z
filled ws n m count z d e =
    let k : n + count - m ≡ count = omega (arith, d) in
    ap (λ xs. xs ++ replicate (n + count - m) z) (take_all (n + count) ws (omega (arith, e))) ∙ ap (λ k. ws ++ replicate k z) k

-- ---- arguments

pub arguments_are : (ws : List Held) (g h n : ℕ) → h ≡ length ws → g ≤ h → n ≤ h - g → map seen (drop (h - n) ws) ≡ reverse (take n (reverse (map seen (drop g ws))))
arguments_are ws g h n e l m =
    let ys : List Word = map seen (drop g ws) in
    let len : length ys ≡ h - g = length-map (drop g ws) seen ∙ length-drop g ws ∙ ap (λ k. k - g) (sym e) in
    let k : ℕ = length ys - n in
    let back : length ys - k ≡ n = omega (arith, len, m) in
    let at : g + k ≡ h - n = omega (arith, len, m, l) in
    let top : take n (reverse ys) ≡ reverse (drop k ys) = ap (λ j. take j (reverse ys)) (sym back) ∙ top_turned k ys in
    let low : drop k ys ≡ map seen (drop (h - n) ws) = drop-map seen k (drop g ws) ∙ ap (map seen) (drop-drop k g ws ∙ ap (λ j. drop j ws) at) in
    sym (ap reverse top ∙ reverse-reverse (drop k ys) ∙ low)

pub arguments_there : (ws : List Held) (g h n : ℕ) → h ≡ length ws → g ≤ h → n ≤ h - g → n ≤ length (reverse (map seen (drop g ws)))
arguments_there ws g h n e l m =
    let len : length (reverse (map seen (drop g ws))) ≡ h - g = length-reverse (map seen (drop g ws)) ∙ length-map (drop g ws) seen ∙ length-drop g ws ∙ ap (λ k. k - g) (sym e) in
    omega (arith, len, m)
