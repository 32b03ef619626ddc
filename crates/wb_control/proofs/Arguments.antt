-- The locals and the arguments of a call.
use Rattle.std.proofs.Common.{◌≡◌, ℕ, zero, suc, ◌+◌, ◌-◌, ◌<◌, ◌≤◌, List, [], ◌∷◌, ◌++◌, length, take, drop, reverse, map, replicate, get_or, arith, refl, sym, ap, ◌∙◌, length-append, length-drop, append_assoc}
use Rattle.std.specs.Prelude.{Bool, true, false, ◌&&◌}
use Rattle.std.proofs.lemmas.Bool.{and_parts}
use Rattle.std.proofs.lemmas.List.{drop_more, length-reverse, length-take, length-map, length-replicate, map-append}
use Rattle.wb_syntax.specs.declared.syntax.NumType.{NumType}
use Rattle.wb_syntax.specs.declared.syntax.LocalRun.{LocalRun}
use Rattle.wb_syntax.specs.Syntax.{expanded}
use Rattle.wb_syntax.specs.Execute.{Word, word, same_type, have_types, zeros}
use Rattle.wb_state.specs.declared.words.Word.{Word as Held}
use Rattle.wb_state.specs.Words.{seen, type_of}
use Rattle.wb_state.specs.Stack.{height_of, lowest}
use Rattle.wb_syntax.specs.declared.syntax.FuncType.{FuncType}
use Rattle.wb_syntax.specs.declared.syntax.Func.{Func}
use Rattle.wb_control.specs.Changes.{Run, words_in, Fits}
use Rattle.wb_control.specs.Calls.{passes, opened}

-- words of these types are as many
have_length : (ts : List NumType) (ws : List Word) → have_types ts ws ≡ true → length ws ≡ length ts
have_length [] [] h = refl
have_length (t ∷ ts) (w ∷ ws) h = ap suc (have_length ts ws (and_parts (same_type t w.type) (have_types ts ws) h).1)
have_length [] (w ∷ ws) h = cc
have_length (t ∷ ts) [] h = cc

not_true : (b : Bool) → (b ≡ true → ⊥) → false ≡ b
not_true false h = refl
not_true true h = absurd (h refl)

pub other_length : (ts : List NumType) (ws : List Held) → (length ws ≡ length ts → ⊥) → false ≡ have_types ts (map seen ws)
other_length ts ws h = not_true (have_types ts (map seen ws)) (λ e. h (sym (length-map ws seen) ∙ have_length ts (map seen ws) e))

-- the locals of one run more
pub expanded_more : (runs : List LocalRun) (i : ℕ) (d : LocalRun) → i < length runs → expanded (drop i runs) ≡ replicate (get_or runs i d).count (get_or runs i d).ty ++ expanded (drop (i + 1) runs)
expanded_more runs i d h = ap expanded (drop_more runs i d h)

pub count_more : (runs : List LocalRun) (i : ℕ) (d : LocalRun) → i < length runs → length (expanded (drop i runs)) ≡ (get_or runs i d).count + length (expanded (drop (i + 1) runs))
count_more runs i d h =
    let r = get_or runs i d in
    ap length (expanded_more runs i d h) ∙ length-append (replicate r.count r.ty) (expanded (drop (i + 1) runs)) ∙ ap (λ n. n + length (expanded (drop (i + 1) runs))) (length-replicate r.count r.ty)

map_replicate : {A B : Type 0} (f : A → B) (n : ℕ) (x : A) → map f (replicate n x) ≡ replicate n (f x)
map_replicate f zero x = refl
map_replicate f (suc n) x = ap (λ ys. f x ∷ ys) (map_replicate f n x)

pub zeros_more : (runs : List LocalRun) (i : ℕ) (d : LocalRun) → i < length runs → zeros (expanded (drop i runs)) ≡ replicate (get_or runs i d).count (word (get_or runs i d).ty 0) ++ zeros (expanded (drop (i + 1) runs))
zeros_more runs i d h =
    let r = get_or runs i d in
    let z : NumType → Word = λ t. word t 0 in
    ap zeros (expanded_more runs i d h) ∙ map-append z (replicate r.count r.ty) (expanded (drop (i + 1) runs)) ∙ ap (λ ws. ws ++ zeros (expanded (drop (i + 1) runs))) (map_replicate z r.count r.ty)

-- one word and its type more
pub types_more : (ts : List NumType) (ws : List Held) (i : ℕ) (t : NumType) (w : Held) → i < length ts → i < length ws → have_types (drop i ts) (map seen (drop i ws)) ≡ (same_type (get_or ts i t) (type_of (seen (get_or ws i w))) && have_types (drop (i + 1) ts) (map seen (drop (i + 1) ws)))
types_more ts ws i t w a b = ap (λ xs. have_types xs (map seen (drop i ws))) (drop_more ts i t a) ∙ ap (λ ys. have_types (get_or ts i t ∷ drop (i + 1) ts) (map seen ys)) (drop_more ws i w b)

-- too few words
pub too_few : (ts : List NumType) (ws : List Word) → length ws < length ts → false ≡ have_types ts (reverse (take (length ts) ws))
too_few ts ws h = not_true (have_types ts (reverse (take (length ts) ws))) (λ e.
    let a = have_length ts (reverse (take (length ts) ws)) e in
    omega (arith, h, a, length-reverse (take (length ts) ws), length-take (length ts) ws))

-- the zeros of one run more
pub add_more : (runs : List LocalRun) (i : ℕ) (d : LocalRun) (now all : List Word) → i < length runs → now ++ zeros (expanded (drop i runs)) ≡ all → (now ++ replicate (get_or runs i d).count (word (get_or runs i d).ty 0)) ++ zeros (expanded (drop (i + 1) runs)) ≡ all
add_more runs i d now all h e =
    let r = get_or runs i d in
    append_assoc now (replicate r.count (word r.ty 0)) (zeros (expanded (drop (i + 1) runs))) ∙ ap (λ ws. now ++ ws) (sym (zeros_more runs i d h)) ∙ e

-- as many arguments as there are types
pub have_enough : (ts : List NumType) (ws : List Word) → have_types ts (reverse (take (length ts) ws)) ≡ true → length ts ≤ length ws
have_enough ts ws h =
    let a = have_length ts (reverse (take (length ts) ws)) h in
    omega (arith, a, length-reverse (take (length ts) ws), length-take (length ts) ws)

-- ---- the words of the frame of a call

lowest_length : {A : Type 0} (n : ℕ) (xs : List A) → n ≤ length xs → length (lowest n xs) ≡ n
lowest_length n xs h = let e = length-drop (length xs - n) xs in omega (arith, e, h)

pub opened_words : (x next : ℕ) (f : Func) (ft : FuncType) (r : Run) → passes ft.params r.state.operands ≡ true → words_in (opened x next f ft r) ≡ words_in r + (length (expanded f.locals) + 4)
opened_words x next f ft r p =
    let o = r.state.operands in
    let n = length ft.params in
    let h = height_of o - n in
    let ws = o.above ++ o.below in
    let enough = have_enough ft.params o.above p in
    let lw = length-append o.above o.below in
    let low = lowest_length h ws (omega (arith, lw)) in
    let top = length-take (h - h) (lowest h ws) in
    let args = length-reverse (take n o.above) in
    let taken = length-take n o.above in
    let zs = length-map (expanded f.locals) (λ (t : NumType). word t 0) in
    let cur = length-append (reverse (take n o.above)) (zeros (expanded f.locals)) in
    let out = length-append r.state.locals.outer r.state.locals.current in
    omega (arith, enough, low, top, args, taken, zs, cur, out)

pub too_full : (x next more : ℕ) (f : Func) (ft : FuncType) (r : Run) → Fits r → passes ft.params r.state.operands ≡ true → more ≤ length (expanded f.locals) + 4 → r.state.operands.most < height_of r.state.operands + more → r.state.operands.room < words_in (opened x next f ft r)
too_full x next more f ft r fits p l h = let e = opened_words x next f ft r p in omega (arith, e, fits.words, l, h)
