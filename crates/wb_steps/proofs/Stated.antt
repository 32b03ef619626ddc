-- States at a place: their words, and constants before it.
use Rattle.std.proofs.Common.{ap, ◌∙◌, ◌≡◌, ℕ, ◌+◌, ◌≤◌, List, [], ◌∷◌, length, sum, map, refl, arith}
use Rattle.std.specs.Prelude.{fold, ℤ, Option, Some, None}
use Rattle.wb_syntax.specs.Execute.{Word, TheStore, Label}
use Rattle.wb_syntax.specs.declared.syntax.Module.{Module}
use Rattle.wb_syntax.specs.Syntax.{Code}
use Rattle.wb_syntax.specs.Nesting.{nested}
use Rattle.wb_syntax.specs.Runs.{RunEnd, NoMain, Stuck, Main, runs, first_config, words_of_frame}
use Rattle.wb_steps.specs.States.{Surroundings, WordsFit, WordsOfState, WordsInLabel, WordsInCall, ConstantIs32, ConstantIs64, MainBegins}

pub words_of_state : WordsOfState
words_of_state a locals ws s c = omega arith

pub constant_is32 : ConstantIs32
constant_is32 a locals ws s z rest = refl

pub constant_is64 : ConstantIs64
constant_is64 a locals ws s z rest = refl

-- a run of a function that is there, and whose body has nested code
abbrev main_by : Module → ℕ → TheStore → List ℤ → (words n : ℕ) → Option Main → RunEnd
main_by m room s args words n o =
    elim o [ None ↦ NoMain | Some main ↦ elim (nested main.func.body) [ None ↦ Stuck s | Some body ↦ runs m room words n (first_config m room main args s body) ] ]

pub main_begins : MainBegins
main_begins m room s args words n main body e f =
    ap (main_by m room s args words n) e
    ∙ ap (λ (o : Option Code). elim o [ None ↦ Stuck s | Some body ↦ runs m room words n (first_config m room main args s body) ]) f

-- a sum begins with its first number
sum_on : (a : ℕ) (xs : List ℕ) → fold ◌+◌ a xs ≡ a + fold ◌+◌ 0 xs
sum_on a [] = (let e : a ≡ a + 0 = omega arith in e)
sum_on a (x ∷ xs) = (let p = sum_on (a + x) xs in let q = sum_on (0 + x) xs in omega (arith, p, q))

pub sum_more : (x : ℕ) (xs : List ℕ) → sum (x ∷ xs) ≡ x + sum xs
sum_more x xs = (let p = sum_on (0 + x) xs in omega (arith, p))

pub words_in_label : WordsInLabel
words_in_label a l locals = (let e = sum_more (length l.below) (map (λ (l : Label). length l.below) a.labels) in omega (arith, e))

pub words_in_call : WordsInCall
words_in_call a locals ws rest ft n =
    let below = sum (map (λ (l : Label). length l.below) a.labels) in
    let e = sum_more (length locals + 4 + length a.labels + length ws + below) (map words_of_frame a.callers) in
    omega (arith, e)

-- the words of a state at an instruction that is no constant, or where no code is left
pub words_at : (most : ℕ) (a : Surroundings) (locals ws : List Word) → WordsFit most a locals ws
    → length locals + 4 + length a.labels + length ws + sum (map (λ (l : Label). length l.below) a.labels) + sum (map words_of_frame a.callers) ≤ most
words_at most a locals ws l = omega (arith, l)
