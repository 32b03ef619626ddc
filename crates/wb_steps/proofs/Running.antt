-- What the machine that steps comes to is what runs come to.
use Rattle.std.proofs.Common.{◌≡◌, ◌⊎◌, inl, inr, ⊎_elim, ℕ, zero, suc, ◌+◌, ◌≤◌, ◌<◌, List, [], ◌∷◌, refl, sym, ap, ◌∙◌, subst, arith}
use Rattle.std.proofs.lemmas.Bool.Decides.{nat_tests}
use Rattle.std.specs.Prelude.{true, false, nat_lt}
use Rattle.cf_simulation.specs.Simulation.{Move, Goes, Ends, Lost, At, Over, reach}
use Rattle.wb_syntax.specs.declared.syntax.Module.{Module}
use Rattle.wb_syntax.specs.Execute.{Word, TheStore, Config, machine_step}
use Rattle.wb_syntax.specs.Execute as wasm
use Rattle.wb_syntax.specs.Runs.{RunEnd, Trapped, HasEnded, IsStackFull, returned, words_of, runs, before_step}
use Rattle.wb_steps.specs.Moves.{as_move, bounded}
use Rattle.wb_steps.specs.Runs.{RunsGoOn, RunsEnd, RunsGoOnOrFill, RunsEndOrFill, FullIsLess, FullIsLessAtEnd, NoEndBefore}
use Rattle.wb_steps.proofs.Views.{decide, at_same, at_over, fits_more, is_full, now, next, ends_now, stepped, ending}

less : (most words n : ℕ) → nat_lt most n ≡ false → nat_lt words n ≡ true → words < most
less most words n e f = grind (arith, nat_tests, e, f)

-- neither before a step nor at an end of the machine is a run full
not_before : {A : Type 0} (x : wasm.Move) (c : Config) → IsStackFull (before_step x c) → A
not_before (wasm.Goes b) c h = absurd h
not_before (wasm.Finishes ws s) c h = absurd h
not_before (wasm.Traps kind s) c h = absurd h
not_before wasm.NoRule c h = absurd h

not_returned : {A : Type 0} (ws : List Word) (s : TheStore) → IsStackFull (returned ws s) → A
not_returned [] s h = absurd h
not_returned (w ∷ []) s h = absurd h
not_returned (w ∷ v ∷ ws) s h = absurd h

same_end : (e f : RunEnd) → ◌≡◌ {A = Move Config RunEnd} (Ends e) (Ends f) → e ≡ f
same_end e f h = cc

not_at_end : {A : Type 0} (x : wasm.Move) (e : RunEnd) → as_move x ≡ Ends e → IsStackFull e → A
not_at_end (wasm.Goes b) e p h = (let f : ◌≡◌ {A = Move Config RunEnd} (Goes b) (Ends e) = p in cc)
not_at_end (wasm.Finishes ws s) e p h = not_returned ws s (subst IsStackFull (sym (same_end (returned ws s) e p)) h)
not_at_end (wasm.Traps kind s) e p h = absurd (subst IsStackFull (sym (same_end (Trapped kind s) e p)) h)
not_at_end wasm.NoRule e p h = (let f : ◌≡◌ {A = Move Config RunEnd} Lost (Ends e) = p in cc)

module _ (m : Module) (room : ℕ) where
  module _ (most words : ℕ) where
    -- ---- with words enough

    go_on : most ≤ words → (k j : ℕ) (c d : Config) → reach (bounded m room most) k c ≡ At d → runs m room words (k + j) c ≡ runs m room words j d
    go_on l zero j c d h = (let z : 0 + j ≡ j = omega arith in ap (λ n. runs m room words n c) z ∙ ap (runs m room words j) (at_same c d h))
    go_on l (suc k) j c d h =
        let z : suc k + j ≡ suc (k + j) = omega arith in
        let v = stepped m room most k c d h in
        ap (λ n. runs m room words n c) z
        ∙ next m room words (k + j) c (wasm.Goes v.first) (fits_more most words (words_of c) l v.fit) v.step ∙ go_on l k j v.first d v.rest

    end_come : most ≤ words → (k n : ℕ) (c : Config) (e : RunEnd) → reach (bounded m room most) k c ≡ Over e → k ≤ n → runs m room words n c ≡ e
    end_come l zero n c e h p = at_over c e h
    end_come l (suc k) zero c e h p = absurd (omega (arith, p))
    end_come l (suc k) (suc n) c e h p =
        let v = ending m room most k c e h in
        let f = fits_more most words (words_of c) l v.fit in
        ⊎_elim
        (λ g. next m room words n c (wasm.Goes g.0) f g.1 ∙ end_come l k n g.0 e g.2 (omega (arith, p)))
        (λ g. ends_now m room words n c e f g)
        v.how

    -- ---- with any words

    full_here : (n : ℕ) (c : Config) → nat_lt words (words_of c) ≡ true → IsStackFull (runs m room words n c)
    full_here n c e = subst IsStackFull (sym (is_full m room words n c e)) tt

    -- after a step, where there is room for it
    abbrev OrFull : RunEnd → RunEnd → Type 0
    OrFull r e = (r ≡ e) ⊎ IsStackFull r

    or_full : (n : ℕ) (c b : Config) (e : RunEnd) → machine_step m room c ≡ wasm.Goes b → OrFull (runs m room words n b) e → OrFull (runs m room words (suc n) c) e
    or_full n c b e s h =
        ⊎_elim
        (λ f. inr (full_here (suc n) c f))
        (λ f. subst (λ r. OrFull r e) (sym (next m room words n c (wasm.Goes b) f s)) h)
        (decide (nat_lt words (words_of c)))

    go_on_or_fill : (k j : ℕ) (c d : Config) → reach (bounded m room most) k c ≡ At d → OrFull (runs m room words (k + j) c) (runs m room words j d)
    go_on_or_fill zero j c d h = (let z : 0 + j ≡ j = omega arith in inl (ap (λ n. runs m room words n c) z ∙ ap (runs m room words j) (at_same c d h)))
    go_on_or_fill (suc k) j c d h =
        let z : suc (k + j) ≡ suc k + j = omega arith in
        let v = stepped m room most k c d h in
        subst (λ n. OrFull (runs m room words n c) (runs m room words j d)) z (or_full (k + j) c v.first (runs m room words j d) v.step (go_on_or_fill k j v.first d v.rest))

    end_or_fill : (k n : ℕ) (c : Config) (e : RunEnd) → reach (bounded m room most) k c ≡ Over e → k ≤ n → OrFull (runs m room words n c) e
    end_or_fill zero n c e h p = at_over c e h
    end_or_fill (suc k) zero c e h p = absurd (omega (arith, p))
    end_or_fill (suc k) (suc n) c e h p =
        let v = ending m room most k c e h in
        ⊎_elim
        (λ g. or_full n c g.0 e g.1 (end_or_fill k n g.0 e g.2 (omega (arith, p))))
        (λ g. ⊎_elim (λ f. inr (full_here (suc n) c f)) (λ f. inl (ends_now m room words n c e f g)) (decide (nat_lt words (words_of c))))
        v.how

    -- ---- before a state that is come to

    full_is_less_by : (k n : ℕ) (c d : Config) → reach (bounded m room most) k c ≡ At d → n < k → IsStackFull (runs m room words n c) → words < most
    full_is_less_by zero n c d h p g = absurd (omega (arith, p))
    full_is_less_by (suc k) zero c d h p g =
        let v = stepped m room most k c d h in
        ⊎_elim
        (λ f. less most words (words_of c) v.fit f)
        (λ f. absurd (subst IsStackFull (now m room words c (wasm.Goes v.first) f v.step) g))
        (decide (nat_lt words (words_of c)))
    full_is_less_by (suc k) (suc n) c d h p g =
        let v = stepped m room most k c d h in
        ⊎_elim
        (λ f. less most words (words_of c) v.fit f)
        (λ f. full_is_less_by k n v.first d v.rest (omega (arith, p)) (subst IsStackFull (next m room words n c (wasm.Goes v.first) f v.step) g))
        (decide (nat_lt words (words_of c)))

    full_is_less_at_end_by : (k n : ℕ) (c : Config) (e : RunEnd) → reach (bounded m room most) k c ≡ Over e → IsStackFull (runs m room words n c) → words < most
    full_is_less_at_end_by zero n c e h g = at_over c e h
    full_is_less_at_end_by (suc k) zero c e h g =
        let v = ending m room most k c e h in
        ⊎_elim
        (λ f. less most words (words_of c) v.fit f)
        (λ f. not_before (machine_step m room c) c (subst IsStackFull (now m room words c (machine_step m room c) f refl) g))
        (decide (nat_lt words (words_of c)))
    full_is_less_at_end_by (suc k) (suc n) c e h g =
        let v = ending m room most k c e h in
        ⊎_elim
        (λ f. less most words (words_of c) v.fit f)
        (λ f.
        ⊎_elim
        (λ p. full_is_less_at_end_by k n p.0 e p.2 (subst IsStackFull (next m room words n c (wasm.Goes p.0) f p.1) g))
        (λ p. not_at_end (machine_step m room c) e p (subst IsStackFull (ends_now m room words n c e f p) g))
        v.how)
        (decide (nat_lt words (words_of c)))

    no_end_before_by : (k n : ℕ) (c d : Config) → reach (bounded m room most) k c ≡ At d → HasEnded (runs m room words n c) → (IsStackFull (runs m room words n c) → ⊥) → k ≤ n
    no_end_before_by zero n c d h e f = omega arith
    no_end_before_by (suc k) zero c d h e f =
        let v = stepped m room most k c d h in
        ⊎_elim
        (λ g. absurd (f (full_here 0 c g)))
        (λ g. absurd (subst HasEnded (now m room words c (wasm.Goes v.first) g v.step) e))
        (decide (nat_lt words (words_of c)))
    no_end_before_by (suc k) (suc n) c d h e f =
        let v = stepped m room most k c d h in
        ⊎_elim
        (λ g. absurd (f (full_here (suc n) c g)))
        (λ g.
        let s = next m room words n c (wasm.Goes v.first) g v.step in
        let l : k ≤ n = no_end_before_by k n v.first d v.rest (subst HasEnded s e) (λ x. f (subst IsStackFull (sym s) x)) in
        omega (arith, l))
        (decide (nat_lt words (words_of c)))

pub runs_go_on : RunsGoOn
runs_go_on m room most words k j c d h l = go_on m room most words l k j c d h.reached

pub runs_end : RunsEnd
runs_end m room most words k n c e h l p = end_come m room most words l k n c e h.over p

pub runs_go_on_or_fill : RunsGoOnOrFill
runs_go_on_or_fill m room most words k j c d h = go_on_or_fill m room most words k j c d h.reached

pub runs_end_or_fill : RunsEndOrFill
runs_end_or_fill m room most words k n c e h l = end_or_fill m room most words k n c e h.over l

pub full_is_less : FullIsLess
full_is_less m room most words k n c d h l g = full_is_less_by m room most words k n c d h.reached l g

pub full_is_less_at_end : FullIsLessAtEnd
full_is_less_at_end m room most words k n c e h g = full_is_less_at_end_by m room most words k n c e h.over g

pub no_end_before : NoEndBefore
no_end_before m room most words k n c d h e f = no_end_before_by m room most words k n c d h.reached e f
