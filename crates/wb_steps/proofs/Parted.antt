-- A run cut in two, a run with more words, and the states that a run comes to.
use Rattle.std.proofs.Common.{◌≡◌, ⊎_elim, ℕ, zero, suc, ◌+◌, ◌-◌, ◌≤◌, refl, sym, ap, ◌∙◌, subst, arith}
use Rattle.std.proofs.lemmas.Bool.{lt-ltb, ltb-true}
use Rattle.std.specs.Prelude.{true, false, nat_lt, List, [], ◌∷◌}
use Rattle.cf_simulation.specs.Simulation.{Goes, Ends, At, Over, reach}
use Rattle.wb_syntax.specs.declared.syntax.Module.{Module}
use Rattle.wb_syntax.specs.Execute.{Word, TheStore, Config, machine_step}
use Rattle.wb_syntax.specs.Execute as wasm
use Rattle.wb_syntax.specs.Runs.{RunEnd, Trapped, Running, StackFull, Stuck, IsStackFull, returned, words_of, runs, after_step, before_step}
use Rattle.wb_steps.specs.Moves.{as_move, bounded}
use Rattle.wb_steps.specs.Runs.{on_running, RunsPart, RunsWithMoreWords, RunningHasCome, HasAnswered, EndHasCome, Fills, FullExactly}
use Rattle.wb_steps.proofs.Views.{decide, fits_more, is_full, now, next, reach_next}
use Rattle.wb_steps.proofs.Running.{runs_go_on}

-- ---- ends that are not running, nor full

over : (ws : List Word) (s : TheStore) (go : Config → RunEnd) → returned ws s ≡ on_running (returned ws s) go
over [] s go = refl
over (w ∷ []) s go = refl
over (w ∷ v ∷ ws) s go = refl

not_running : {A : Type 0} (ws : List Word) (s : TheStore) (d : Config) → returned ws s ≡ Running d → A
not_running [] s d e = cc
not_running (w ∷ []) s d e = cc
not_running (w ∷ v ∷ ws) s d e = cc

not_full : {A : Type 0} (ws : List Word) (s t : TheStore) → returned ws s ≡ StackFull t → A
not_full [] s t e = cc
not_full (w ∷ []) s t e = cc
not_full (w ∷ v ∷ ws) s t e = cc

never_full : {A : Type 0} (x : wasm.Move) (c : Config) (t : TheStore) → before_step x c ≡ StackFull t → A
never_full (wasm.Goes b) c t e = cc
never_full (wasm.Finishes ws s) c t e = cc
never_full (wasm.Traps kind s) c t e = cc
never_full wasm.NoRule c t e = cc

same_store : (s t : TheStore) → StackFull s ≡ StackFull t → s ≡ t
same_store s t e = cc

module _ (m : Module) (room : ℕ) where
  -- ---- cut in two

  stuck : (words k : ℕ) (c : Config) → nat_lt words (words_of c) ≡ false → machine_step m room c ≡ wasm.NoRule → runs m room words k c ≡ Stuck c.store
  stuck words zero c f s = now m room words c wasm.NoRule f s
  stuck words (suc k) c f s = next m room words k c wasm.NoRule f s

  begun : (words k : ℕ) (c : Config) (x : wasm.Move) → nat_lt words (words_of c) ≡ false → machine_step m room c ≡ x
      → runs m room words k c ≡ on_running (before_step x c) (runs m room words k)
  begun words k c (wasm.Goes b) f s = refl
  begun words k c (wasm.Finishes ws t) f s = refl
  begun words k c (wasm.Traps kind t) f s = refl
  begun words k c wasm.NoRule f s = stuck words k c f s

  gone_on : (x : wasm.Move) (c : Config) (all few go : Config → RunEnd) → ((b : Config) → all b ≡ on_running (few b) go) → after_step x c all ≡ on_running (after_step x c few) go
  gone_on (wasm.Goes b) c all few go ih = ih b
  gone_on (wasm.Finishes ws s) c all few go ih = over ws s go
  gone_on (wasm.Traps kind s) c all few go ih = refl
  gone_on wasm.NoRule c all few go ih = refl

  part_full : (words n k j : ℕ) (c : Config) → nat_lt words (words_of c) ≡ true → runs m room words j c ≡ on_running (runs m room words n c) (runs m room words k)
  part_full words n k j c f = is_full m room words j c f ∙ sym (ap (λ e. on_running e (runs m room words k)) (is_full m room words n c f))

  part_by : (words n k : ℕ) (c : Config) → runs m room words (n + k) c ≡ on_running (runs m room words n c) (runs m room words k)
  part_by words zero k c =
      let z : 0 + k ≡ k = omega arith in
      ⊎_elim
      (part_full words 0 k (0 + k) c)
      (λ f.
      ap (λ n. runs m room words n c) z ∙ begun words k c (machine_step m room c) f refl
      ∙ sym (ap (λ e. on_running e (runs m room words k)) (now m room words c (machine_step m room c) f refl)))
      (decide (nat_lt words (words_of c)))
  part_by words (suc n) k c =
      let z : suc n + k ≡ suc (n + k) = omega arith in
      ⊎_elim
      (part_full words (suc n) k (suc n + k) c)
      (λ f.
      let x = machine_step m room c in
      ap (λ n. runs m room words n c) z ∙ next m room words (n + k) c x f refl
      ∙ gone_on x c (runs m room words (n + k)) (runs m room words n) (runs m room words k) (λ b. part_by words n k b)
      ∙ sym (ap (λ e. on_running e (runs m room words k)) (next m room words n c x f refl)))
      (decide (nat_lt words (words_of c)))

  -- ---- more words

  alike : (x : wasm.Move) (c : Config) (few many : Config → RunEnd) → ((b : Config) → (IsStackFull (few b) → ⊥) → many b ≡ few b) → (IsStackFull (after_step x c few) → ⊥)
      → after_step x c many ≡ after_step x c few
  alike (wasm.Goes b) c few many ih n = ih b n
  alike (wasm.Finishes ws s) c few many ih n = refl
  alike (wasm.Traps kind s) c few many ih n = refl
  alike wasm.NoRule c few many ih n = refl

  more_by : (few many n : ℕ) (c : Config) → few ≤ many → (IsStackFull (runs m room few n c) → ⊥) → runs m room many n c ≡ runs m room few n c
  more_by few many zero c l h =
      ⊎_elim
      (λ f. absurd (h (subst IsStackFull (sym (is_full m room few 0 c f)) tt)))
      (λ f.
      let x = machine_step m room c in
      now m room many c x (fits_more few many (words_of c) l f) refl ∙ sym (now m room few c x f refl))
      (decide (nat_lt few (words_of c)))
  more_by few many (suc n) c l h =
      ⊎_elim
      (λ f. absurd (h (subst IsStackFull (sym (is_full m room few (suc n) c f)) tt)))
      (λ f.
      let x = machine_step m room c in
      let e = next m room few n c x f refl in
      next m room many n c x (fits_more few many (words_of c) l f) refl
      ∙ alike x c (runs m room few n) (runs m room many n) (λ b. more_by few many n b l) (λ g. h (subst IsStackFull (sym e) g)) ∙ sym e)
      (decide (nat_lt few (words_of c)))

  -- ---- a run that still goes on

  come_now : (x : wasm.Move) (c d : Config) → before_step x c ≡ Running d → c ≡ d
  come_now (wasm.Goes b) c d e = cc
  come_now (wasm.Finishes ws s) c d e = cc
  come_now (wasm.Traps kind s) c d e = cc
  come_now wasm.NoRule c d e = cc

  come_next : (words n : ℕ) (c d : Config) → nat_lt words (words_of c) ≡ false → ((b : Config) → runs m room words n b ≡ Running d → reach (bounded m room words) n b ≡ At d)
      → (x : wasm.Move) → machine_step m room c ≡ x → after_step x c (runs m room words n) ≡ Running d → reach (bounded m room words) (suc n) c ≡ At d
  come_next words n c d f ih (wasm.Goes b) s e = reach_next m room words n c (Goes b) f (ap as_move s) ∙ ih b e
  come_next words n c d f ih (wasm.Finishes ws t) s e = not_running ws t d e
  come_next words n c d f ih (wasm.Traps kind t) s e = cc
  come_next words n c d f ih wasm.NoRule s e = cc

  full_is_not : {A : Type 0} (t : TheStore) (d : Config) → StackFull t ≡ Running d → A
  full_is_not t d e = cc

  has_come : (words n : ℕ) (c d : Config) → runs m room words n c ≡ Running d → reach (bounded m room words) n c ≡ At d
  has_come words zero c d e =
      ⊎_elim
      (λ f. full_is_not c.store d (sym (is_full m room words 0 c f) ∙ e))
      (λ f. ap At (come_now (machine_step m room c) c d (sym (now m room words c (machine_step m room c) f refl) ∙ e)))
      (decide (nat_lt words (words_of c)))
  has_come words (suc n) c d e =
      ⊎_elim
      (λ f. full_is_not c.store d (sym (is_full m room words (suc n) c f) ∙ e))
      (λ f. come_next words n c d f (λ b. has_come words n b d) (machine_step m room c) refl (sym (next m room words n c (machine_step m room c) f refl) ∙ e))
      (decide (nat_lt words (words_of c)))

  -- ---- a run that has answered

  none_before : {A : Type 0} (x : wasm.Move) (c : Config) (e : RunEnd) → before_step x c ≡ e → HasAnswered e → A
  none_before (wasm.Goes b) c e h g = absurd (subst HasAnswered (sym h) g)
  none_before (wasm.Finishes ws s) c e h g = absurd (subst HasAnswered (sym h) g)
  none_before (wasm.Traps kind s) c e h g = absurd (subst HasAnswered (sym h) g)
  none_before wasm.NoRule c e h g = absurd (subst HasAnswered (sym h) g)

  over_next : (words n : ℕ) (c : Config) (e : RunEnd) → nat_lt words (words_of c) ≡ false → ((b : Config) → runs m room words n b ≡ e → reach (bounded m room words) n b ≡ Over e)
      → (x : wasm.Move) → machine_step m room c ≡ x → after_step x c (runs m room words n) ≡ e → HasAnswered e → reach (bounded m room words) (suc n) c ≡ Over e
  over_next words n c e f ih (wasm.Goes b) s h g = reach_next m room words n c (Goes b) f (ap as_move s) ∙ ih b h
  over_next words n c e f ih (wasm.Finishes ws t) s h g = reach_next m room words n c (Ends (returned ws t)) f (ap as_move s) ∙ ap Over h
  over_next words n c e f ih (wasm.Traps kind t) s h g = reach_next m room words n c (Ends (Trapped kind t)) f (ap as_move s) ∙ ap Over h
  over_next words n c e f ih wasm.NoRule s h g = absurd (subst HasAnswered (sym h) g)

  end_come_by : (words n : ℕ) (c : Config) (e : RunEnd) → runs m room words n c ≡ e → HasAnswered e → reach (bounded m room words) n c ≡ Over e
  end_come_by words zero c e h g =
      ⊎_elim
      (λ f. absurd (subst HasAnswered (sym (sym (is_full m room words 0 c f) ∙ h)) g))
      (λ f. none_before (machine_step m room c) c e (sym (now m room words c (machine_step m room c) f refl) ∙ h) g)
      (decide (nat_lt words (words_of c)))
  end_come_by words (suc n) c e h g =
      ⊎_elim
      (λ f. absurd (subst HasAnswered (sym (sym (is_full m room words (suc n) c f) ∙ h)) g))
      (λ f. over_next words n c e f (λ b k. end_come_by words n b e k g) (machine_step m room c) refl (sym (next m room words n c (machine_step m room c) f refl) ∙ h) g)
      (decide (nat_lt words (words_of c)))

  -- ---- a run that is full

  fills_here : (words n : ℕ) (c : Config) (s : TheStore) → nat_lt words (words_of c) ≡ true → runs m room words n c ≡ StackFull s → Fills m room words n c s
  fills_here words n c s f e = record {
    steps = 0;
    filled = c;
    within = omega arith;
    comes = record { reached = refl };
    more = ltb-true words (words_of c) f;
    store = same_store c.store s (sym (is_full m room words n c f) ∙ e);
  }

  fills_after : (words n : ℕ) (c b : Config) (s : TheStore) → nat_lt words (words_of c) ≡ false → machine_step m room c ≡ wasm.Goes b → Fills m room words n b s
      → Fills m room words (suc n) c s
  fills_after words n c b s f g h =
      let l = h.within in
      record {
        steps = suc h.steps;
        filled = h.filled;
        within = omega (arith, l);
        comes = record { reached = reach_next m room words h.steps c (Goes b) f (ap as_move g) ∙ h.comes.reached };
        more = h.more;
        store = h.store;
      }

  fills_next : (words n : ℕ) (c : Config) (s : TheStore) → nat_lt words (words_of c) ≡ false → ((b : Config) → runs m room words n b ≡ StackFull s → Fills m room words n b s)
      → (x : wasm.Move) → machine_step m room c ≡ x → after_step x c (runs m room words n) ≡ StackFull s → Fills m room words (suc n) c s
  fills_next words n c s f ih (wasm.Goes b) g e = fills_after words n c b s f g (ih b e)
  fills_next words n c s f ih (wasm.Finishes ws t) g e = not_full ws t s e
  fills_next words n c s f ih (wasm.Traps kind t) g e = cc
  fills_next words n c s f ih wasm.NoRule g e = cc

  fills : (words n : ℕ) (c : Config) (s : TheStore) → runs m room words n c ≡ StackFull s → Fills m room words n c s
  fills words zero c s e =
      ⊎_elim
      (λ f. fills_here words 0 c s f e)
      (λ f. never_full (machine_step m room c) c s (sym (now m room words c (machine_step m room c) f refl) ∙ e))
      (decide (nat_lt words (words_of c)))
  fills words (suc n) c s e =
      ⊎_elim
      (λ f. fills_here words (suc n) c s f e)
      (λ f. fills_next words n c s f (λ b. fills words n b s) (machine_step m room c) refl (sym (next m room words n c (machine_step m room c) f refl) ∙ e))
      (decide (nat_lt words (words_of c)))

  filled : (words n : ℕ) (c : Config) (s : TheStore) → Fills m room words n c s → runs m room words n c ≡ StackFull s
  filled words n c s h =
      let l = h.within in
      let j = n - h.steps in
      let z : n ≡ h.steps + j = omega (arith, l) in
      ap (λ n. runs m room words n c) z ∙ runs_go_on m room words words h.steps j c h.filled h.comes (omega arith)
      ∙ is_full m room words j h.filled (lt-ltb words (words_of h.filled) h.more) ∙ ap StackFull h.store

pub runs_part : RunsPart
runs_part m room words n k c = part_by m room words n k c

pub runs_with_more_words : RunsWithMoreWords
runs_with_more_words m room few many n c l h = more_by m room few many n c l h

pub running_has_come : RunningHasCome
running_has_come m room words n c d e = record { reached = has_come m room words n c d e }

pub end_has_come : EndHasCome
end_has_come m room words n c e h g = record { over = end_come_by m room words n c e h g }

pub full_exactly : FullExactly
full_exactly m room words n c s = (fills m room words n c s, filled m room words n c s)
