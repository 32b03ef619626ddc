-- More steps change nothing of a run that has ended.
use Rattle.std.proofs.Common.{◌≡◌, ℕ, zero, suc, sym, subst, arith}
use Rattle.std.specs.Prelude.{Bool, true, false, nat_lt, Option, Some, None}
use Rattle.wb_syntax.specs.Syntax.{Code}
use Rattle.wb_syntax.specs.Nesting.{nested}
use Rattle.wb_syntax.specs.Execute.{TheStore, Config, Move, Goes, Finishes, Traps, NoRule, machine_step}
use Rattle.wb_syntax.specs.Runs.{words_of, fixed_room, store_at_first, Main, main_of, RunEnd, StackFull, Stuck, NoMain, HasEnded, after_step, before_step, runs, first_config}
use Rattle.wb_syntax.specs.Laws.{RunsEndedStay, MainEndedStays, MachEndedStays}

-- the end of a state whose words may be too many
abbrev unless_full : Bool → Config → RunEnd → RunEnd
unless_full full c end = elim full [ true ↦ StackFull c.store | false ↦ end ]

-- a state that has ended with no step to come has ended so with steps to come
none_more : (full : Bool) (move : Move) (c : Config) (next : Config → RunEnd) (e : RunEnd) → unless_full full c (before_step move c) ≡ e → HasEnded e → unless_full full c (after_step move c next) ≡ e
none_more true move c next e h ended = h
none_more false (Goes d) c next e h ended = absurd (subst HasEnded (sym h) ended)
none_more false (Finishes results s) c next e h ended = absurd (subst HasEnded (sym h) ended)
none_more false (Traps kind s) c next e h ended = absurd (subst HasEnded (sym h) ended)
none_more false NoRule c next e h ended = h

-- one step before runs that end alike
step_more : (full : Bool) (move : Move) (c : Config) (few more : Config → RunEnd) (e : RunEnd) → ((d : Config) → few d ≡ e → more d ≡ e) → unless_full full c (after_step move c few) ≡ e → unless_full full c (after_step move c more) ≡ e
step_more true move c few more e longer h = h
step_more false (Goes d) c few more e longer h = longer d h
step_more false (Finishes results s) c few more e longer h = h
step_more false (Traps kind s) c few more e longer h = h
step_more false NoRule c few more e longer h = h

pub runs_longer : RunsEndedStay
runs_longer m room words zero zero c e h ended l = h
runs_longer m room words zero (suc k) c e h ended l = none_more (nat_lt words (words_of c)) (machine_step m room c) c (runs m room words k) e h ended
runs_longer m room words (suc n) zero c e h ended l = absurd (omega (arith, l))
runs_longer m room words (suc n) (suc k) c e h ended l =
    step_more (nat_lt words (words_of c)) (machine_step m room c) c (runs m room words n) (runs m room words k) e
    (λ d g. runs_longer m room words n k d e g ended (omega (arith, l))) h

-- the end of a main whose body may have no nested code, from this store
abbrev with_code : TheStore → Option Code → (Code → RunEnd) → RunEnd
with_code s body go = elim body [ None ↦ Stuck s | Some b ↦ go b ]

code_more : (s : TheStore) (body : Option Code) (few more : Code → RunEnd) (e : RunEnd) → ((b : Code) → few b ≡ e → more b ≡ e) → with_code s body few ≡ e → with_code s body more ≡ e
code_more s None few more e longer h = h
code_more s (Some b) few more e longer h = longer b h

-- the end of a module that may have no main
abbrev with_main : Option Main → (Main → RunEnd) → RunEnd
with_main main go = elim main [ None ↦ NoMain | Some x ↦ go x ]

main_more : (main : Option Main) (few more : Main → RunEnd) (e : RunEnd) → ((x : Main) → few x ≡ e → more x ≡ e) → with_main main few ≡ e → with_main main more ≡ e
main_more None few more e longer h = h
main_more (Some x) few more e longer h = longer x h

pub run_main_longer : MainEndedStays
run_main_longer m room s args words n k e h ended l =
    let go : ℕ → Main → Code → RunEnd = λ steps x b. runs m room words steps (first_config m room x args s b) in
    let coded : ℕ → Main → RunEnd = λ steps x. with_code s (nested x.func.body) (go steps x) in
    main_more (main_of m) (coded n) (coded k) e
    (λ x. code_more s (nested x.func.body) (go n x) (go k x) e (λ b g. runs_longer m room words n k (first_config m room x args s b) e g ended l)) h

pub mach_longer : MachEndedStays
mach_longer m args words n k e h ended l = run_main_longer m (fixed_room m) (store_at_first m) args words n k e h ended l
