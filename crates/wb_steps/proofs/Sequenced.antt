-- Steps that are made one after another.
use Rattle.std.proofs.Common.{◌≡◌, ⊎_elim, ℕ, zero, suc, ◌+◌, ◌≤◌, refl, ap, ◌∙◌, arith}
use Rattle.cf_simulation.specs.Simulation.{Goes, Ends, At, Over, reach}
use Rattle.wb_syntax.specs.declared.syntax.Module.{Module}
use Rattle.wb_syntax.specs.Execute.{Config}
use Rattle.wb_syntax.specs.Runs.{RunEnd, words_of}
use Rattle.wb_steps.specs.Moves.{as_move, bounded, ComesTo, StepIsMade, LastStepIsMade, NoStepStays, StepsFollow, EndFollows, StepsPart, EndStays, StepsWithMoreWords, EndWithMoreWords}
use Rattle.wb_steps.proofs.Views.{at_same, at_over, fits, fits_more, reach_next, stepped, ending}

pub step_is_made : StepIsMade
step_is_made m room most c d e l = record { reached = reach_next m room most 0 c (Goes d) (fits most (words_of c) l) (ap as_move e) }

pub last_step_is_made : LastStepIsMade
last_step_is_made m room most c e h l = record { over = reach_next m room most 0 c (Ends e) (fits most (words_of c) l) h }

pub no_step_stays : NoStepStays
no_step_stays m room most c = record { reached = refl }

module _ (m : Module) (room most : ℕ) where
  -- what is reached after steps is what is reached from where they lead
  pub reach_on : (n k : ℕ) (c d : Config) → reach (bounded m room most) n c ≡ At d → reach (bounded m room most) (n + k) c ≡ reach (bounded m room most) k d
  reach_on zero k c d h = (let z : 0 + k ≡ k = omega arith in ap (λ n. reach (bounded m room most) n c) z ∙ ap (reach (bounded m room most) k) (at_same c d h))
  reach_on (suc n) k c d h =
      let z : suc n + k ≡ suc (n + k) = omega arith in
      let v = stepped m room most n c d h in
      ap (λ n. reach (bounded m room most) n c) z
      ∙ reach_next m room most (n + k) c (Goes v.first) v.fit (ap as_move v.step) ∙ reach_on n k v.first d v.rest

  pub parted : (n k : ℕ) (c e : Config) → reach (bounded m room most) (n + k) c ≡ At e → (d : Config) × ComesTo m room most n c d × ComesTo m room most k d e
  parted zero k c e h = (let z : k ≡ 0 + k = omega arith in (c, record { reached = refl }, record { reached = ap (λ n. reach (bounded m room most) n c) z ∙ h }))
  parted (suc n) k c e h =
      let z : suc (n + k) ≡ suc n + k = omega arith in
      let v = stepped m room most (n + k) c e (ap (λ n. reach (bounded m room most) n c) z ∙ h) in
      let p = parted n k v.first e v.rest in
      (p.0, record { reached = reach_next m room most n c (Goes v.first) v.fit (ap as_move v.step) ∙ p.1.reached }, p.2)

  end_stays_by : (n k : ℕ) (c : Config) (e : RunEnd) → reach (bounded m room most) n c ≡ Over e → n ≤ k → reach (bounded m room most) k c ≡ Over e
  end_stays_by zero k c e h l = at_over c e h
  end_stays_by (suc n) zero c e h l = absurd (omega (arith, l))
  end_stays_by (suc n) (suc k) c e h l =
      let v = ending m room most n c e h in
      ⊎_elim
      (λ g. reach_next m room most k c (Goes g.0) v.fit (ap as_move g.1) ∙ end_stays_by n k g.0 e g.2 (omega (arith, l)))
      (λ g. reach_next m room most k c (Ends e) v.fit g)
      v.how

  module _ (many : ℕ) where
    more_words : most ≤ many → (n : ℕ) (c d : Config) → reach (bounded m room most) n c ≡ At d → reach (bounded m room many) n c ≡ At d
    more_words l zero c d h = h
    more_words l (suc n) c d h =
        let v = stepped m room most n c d h in
        reach_next m room many n c (Goes v.first) (fits_more most many (words_of c) l v.fit) (ap as_move v.step) ∙ more_words l n v.first d v.rest

    end_more_words : most ≤ many → (n : ℕ) (c : Config) (e : RunEnd) → reach (bounded m room most) n c ≡ Over e → reach (bounded m room many) n c ≡ Over e
    end_more_words l zero c e h = at_over c e h
    end_more_words l (suc n) c e h =
        let v = ending m room most n c e h in
        let f = fits_more most many (words_of c) l v.fit in
        ⊎_elim
        (λ g. reach_next m room many n c (Goes g.0) f (ap as_move g.1) ∙ end_more_words l n g.0 e g.2)
        (λ g. reach_next m room many n c (Ends e) f g)
        v.how

pub steps_follow : StepsFollow
steps_follow m room most n k c d e f g = record { reached = reach_on m room most n k c d f.reached ∙ g.reached }

pub end_follows : EndFollows
end_follows m room most n k c d e f g = record { over = reach_on m room most n k c d f.reached ∙ g.over }

pub steps_part : StepsPart
steps_part m room most n k c e h = parted m room most n k c e h.reached

pub end_stays : EndStays
end_stays m room most n k c e h l = record { over = end_stays_by m room most n k c e h.over l }

pub steps_with_more_words : StepsWithMoreWords
steps_with_more_words m room few many n c d l h = record { reached = more_words m room few many l n c d h.reached }

pub end_with_more_words : EndWithMoreWords
end_with_more_words m room few many n c e l h = record { over = end_more_words m room few many l n c e h.over }
