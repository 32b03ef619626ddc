-- What a machine begins with.
use Rattle.std.proofs.Common.{◌≡◌, ℕ, zero, suc, ◌+◌, ◌*◌, ◌/◌, ◌<◌, ◌≤◌, List, [], ◌∷◌, ◌++◌, length, map, drop, replicate, get_or, arith, refl, sym, ap, subst, ◌∙◌, ◌⊎◌, inl, inr}
use Rattle.std.specs.Prelude.{Option, Some, None, slice_get, sum}
use Rattle.std.specs.Option.{option_map}
use Rattle.std.proofs.lemmas.Bool.{cases_lt}
use Rattle.std.proofs.lemmas.List.{length-replicate}
use Rattle.std.proofs.lemmas.List.Sums.{sum_by-cons}
use Rattle.wb_syntax.specs.declared.syntax.Instr.{Instr}
use Rattle.wb_syntax.specs.declared.syntax.Instr.TheVariants.{I32Const, I64Const, End}
use Rattle.wb_syntax.specs.declared.syntax.Limits.{Limits}
use Rattle.wb_syntax.specs.declared.syntax.Global.{Global}
use Rattle.wb_syntax.specs.declared.syntax.Func.{Func}
use Rattle.wb_syntax.specs.Execute.{Word, page}
use Rattle.wb_syntax.specs.Runs.{constant_of, globals_at_first, memory_at_first}
use Rattle.wb_code.specs.declared.leading.Jump.{Jump}
use Rattle.wb_code.specs.Jumps.{AreJumps}
use Rattle.wb_plain.specs.Follows.{pages_of}
use Rattle.wb_state.specs.declared.words.Word.{Word as Held}
use Rattle.wb_state.specs.Words.{seen}
use Rattle.wb_control.specs.Changes.{results_of}
use Rattle.wb_control.specs.Advances.{constant_word}

none_some : {A : Type 0} (x : A) → None ≡ Some x → ⊥
none_some x e = cc

some_same : {A : Type 0} (x y : A) → Some x ≡ Some y → x ≡ y
some_same x y e = cc

-- ---- globals

abbrev words : Option Word → List Word
words None = []
words (Some w) = w ∷ []

results_are : (r : Option Held) → results_of r ≡ words (option_map seen r)
results_are None = refl
results_are (Some w) = refl

-- a constant and its end
pair : (x : Instr) → constant_of (x ∷ End ∷ []) ≡ words (constant_word x)
pair (I32Const z) = refl
pair (I64Const z) = refl
pair _ = refl

-- not an end
no_end : (x y : Instr) → (y ≡ End → ⊥) → constant_of (x ∷ y ∷ []) ≡ []
no_end (I32Const z) End h = absurd (h refl)
no_end (I32Const z) _ h = refl
no_end (I64Const z) End h = absurd (h refl)
no_end (I64Const z) _ h = refl
no_end _ y h = refl

one : (x : Instr) → constant_of (x ∷ []) ≡ []
one (I32Const z) = refl
one (I64Const z) = refl
one _ = refl

three : (x y z : Instr) (xs : List Instr) → constant_of (x ∷ y ∷ z ∷ xs) ≡ []
three (I32Const n) End z xs = refl
three (I32Const n) _ z xs = refl
three (I64Const n) End z xs = refl
three (I64Const n) _ z xs = refl
three _ y z xs = refl

pub other_length : (xs : List Instr) → (length xs ≡ 2 → ⊥) → constant_of xs ≡ []
other_length [] h = refl
other_length (x ∷ []) h = one x
other_length (x ∷ y ∷ []) h = absurd (h refl)
other_length (x ∷ y ∷ z ∷ xs) h = three x y z xs

pub other_end : (xs : List Instr) (b : Instr) → length xs ≡ 2 → b ≡ get_or xs 1 b → (b ≡ End → ⊥) → constant_of xs ≡ []
other_end [] b l q h = absurd (omega (arith, l))
other_end (x ∷ []) b l q h = absurd (omega (arith, l))
other_end (x ∷ y ∷ []) b l q h = no_end x y (λ e. h (q ∙ e))
other_end (x ∷ y ∷ z ∷ xs) b l q h = absurd (omega (arith, l))

pub is_constant : (xs : List Instr) (a b : Instr) (r : Option Held) → length xs ≡ 2 → a ≡ get_or xs 0 a → b ≡ get_or xs 1 b → b ≡ End → option_map seen r ≡ constant_word a → results_of r ≡ constant_of xs
is_constant [] a b r l p q e h = absurd (omega (arith, l))
is_constant (x ∷ []) a b r l p q e h = absurd (omega (arith, l))
is_constant (x ∷ y ∷ []) a b r l p q e h =
    let k : y ≡ End = sym q ∙ e in
    results_are r ∙ ap words h ∙ ap (λ v. words (constant_word v)) p ∙ sym (pair x) ∙ ap (λ v. constant_of (x ∷ v ∷ [])) (sym k)
is_constant (x ∷ y ∷ z ∷ xs) a b r l p q e h = absurd (omega (arith, l))

-- the globals from a place on
pub globals_more : (gs : List Global) (i : ℕ) (g : Global) → i < length gs → g ≡ get_or gs i g → globals_at_first (drop i gs) ≡ constant_of g.init ++ globals_at_first (drop (i + 1) gs)
globals_more [] i g l e = absurd (omega (arith, l))
globals_more (x ∷ gs) zero g l e = ap (λ (y : Global). constant_of y.init ++ globals_at_first gs) (sym e)
globals_more (x ∷ gs) (suc i) g l e =
    let k : suc i + 1 ≡ suc (i + 1) = omega arith in
    globals_more gs i g (omega (arith, l)) e ∙ ap (λ n. constant_of g.init ++ globals_at_first (drop n (x ∷ gs))) (sym k)

-- ---- memory

pub no_pages : (ms : List Limits) → slice_get ms 0 ≡ None → sum (map (λ (l : Limits). l.min) ms) ≡ 0
no_pages [] e = refl
no_pages (l ∷ ms) e = absurd (none_some l (sym e))

pub first_least : (ms : List Limits) (l : Limits) → slice_get ms 0 ≡ Some l → l.min ≤ sum (map (λ (x : Limits). x.min) ms)
first_least [] l e = absurd (none_some l e)
first_least (x ∷ ms) l e =
    let k : x.min ≡ l.min = ap (λ (y : Limits). y.min) (some_same x l e) in
    let s = sum_by-cons (λ n. n) x.min (map (λ (y : Limits). y.min) ms) in
    omega (arith, k, s)

pub only_pages : (ms : List Limits) (l : Limits) → length ms ≤ 1 → slice_get ms 0 ≡ Some l → l.min ≡ sum (map (λ (x : Limits). x.min) ms)
only_pages [] l h e = absurd (none_some l e)
only_pages (x ∷ []) l h e =
    let k : x.min ≡ l.min = ap (λ (y : Limits). y.min) (some_same x l e) in
    let s = sum_by-cons (λ n. n) x.min [] in
    omega (arith, k, s)
only_pages (x ∷ y ∷ ms) l h e = absurd (omega (arith, h))

pub no_memory : (ms : List Limits) → slice_get ms 0 ≡ None → None ≡ memory_at_first ms
no_memory [] e = refl
no_memory (l ∷ ms) e = absurd (none_some l (sym e))

pub has_memory : (ms : List Limits) (l : Limits) → slice_get ms 0 ≡ Some l → Some (replicate (l.min * page) 0) ≡ memory_at_first ms
has_memory [] l e = absurd (none_some l e)
has_memory (x ∷ ms) l e = ap (λ (y : Limits). Some (replicate (y.min * page) 0)) (sym (some_same x l e))

-- ---- jumps

-- the jumps of the first functions
abbrev pub LeadBelow : List Func → List (List Jump) → ℕ → Type 0
LeadBelow fs js n = (x : ℕ) (f : Func) → x < n → slice_get fs x ≡ Some f → (j : List Jump) × (slice_get js x ≡ Some j) × AreJumps f.body j

in_front : (js : List (List Jump)) (k : List Jump) (x : ℕ) (j : List Jump) → slice_get js x ≡ Some j → slice_get (js ++ k ∷ []) x ≡ Some j
in_front [] k x j e = absurd (none_some j e)
in_front (y ∷ js) k zero j e = e
in_front (y ∷ js) k (suc x) j e = in_front js k x j e

at_last : (js : List (List Jump)) (k : List Jump) → slice_get (js ++ k ∷ []) (length js) ≡ Some k
at_last [] k = refl
at_last (y ∷ js) k = at_last js k

lead_by : (fs : List Func) (js : List (List Jump)) (n : ℕ) (g : Func) (k : List Jump) → length js ≡ n → slice_get fs n ≡ Some g → AreJumps g.body k → LeadBelow fs js n → (x : ℕ) (f : Func) → x < n + 1 → ((x < n) ⊎ (n ≤ x)) → slice_get fs x ≡ Some f → (j : List Jump) × (slice_get (js ++ k ∷ []) x ≡ Some j) × AreJumps f.body j
lead_by fs js n g k l named leads h x f b (inl lt) e =
    let r = h x f lt e in
    (r.0, in_front js k x r.0 r.1, r.2)
lead_by fs js n g k l named leads h x f b (inr ge) e =
    let at : x ≡ n = omega (arith, b, ge) in
    let same : g ≡ f = some_same g f (sym named ∙ ap (slice_get fs) (sym at) ∙ e) in
    (k, ap (slice_get (js ++ k ∷ [])) (at ∙ sym l) ∙ at_last js k, subst (λ (y : Func). AreJumps y.body k) same leads)

pub lead_more : (fs : List Func) (js new : List (List Jump)) (n : ℕ) (g : Func) (k : List Jump) → length js ≡ n → slice_get fs n ≡ Some g → AreJumps g.body k → new ≡ js ++ k ∷ [] → LeadBelow fs js n → LeadBelow fs new (n + 1)
lead_more fs js new n g k l named leads is h =
    subst (λ xs. LeadBelow fs xs (n + 1)) (sym is) (λ x f b e. lead_by fs js n g k l named leads h x f b (cases_lt x n) e)

-- ---- the pages of the memory at first

pub pages_at_first : (ms : List Limits) → length ms ≤ 1 → pages_of (memory_at_first ms) ≡ sum (map (λ (x : Limits). x.min) ms)
pages_at_first [] h = refl
pages_at_first (l ∷ []) h =
    let r : length (replicate (l.min * 65536) 0) ≡ l.min * 65536 = length-replicate (l.min * 65536) 0 in
    let d : (l.min * 65536) / 65536 ≡ l.min = omega arith in
    let s = sum_by-cons (λ n. n) l.min [] in
    let e : l.min ≡ sum (map (λ (x : Limits). x.min) (l ∷ [])) = omega (arith, s) in
    ap (λ n. n / 65536) r ∙ d ∙ e
pages_at_first (l ∷ k ∷ ms) h = absurd (omega (arith, h))
