-- Words have one answer, and only one.
use Rattle.std.proofs.Common.{◌≡◌, ℕ, zero, suc, ◌<◌, ◌≤◌, ℤ, List, [], ◌∷◌, ◌++◌, take, refl, sym, ap, ◌∙◌, subst, arith, append_assoc}
use Rattle.std.specs.Prelude.{Some}
use Rattle.cf_words.specs.declared.command.Command.{Command}
use Rattle.cf_words.specs.declared.reading.Reading.{Reading}
use Rattle.cf_words.specs.Lines.{IsLine, IsUsage, BeginsLine}
use Rattle.cf_words.specs.Laws.{OneCommand, OneUsage}
use Rattle.cf_words.specs.declared.reading.Step.{Step}
use Rattle.cf_words.proofs.Onward.{Rest, goes_on, goes_one, is_end, with_step}
use Rattle.cf_words.specs.declared.reading.Reading.TheVariants.{Start}

one_rest : (s : Reading) (zs : List ℤ) (words : List (List ℕ)) (c d : Command) → Rest s zs words c → Rest s zs words d → c ≡ d
one_rest s zs [] c d p q = let e : Some c ≡ Some d = sym (is_end s zs c p) ∙ is_end s zs d q in cc
one_rest s zs (w ∷ ws) c d p q =
    let a = goes_on s zs w ws c p in
    let b = goes_on s zs w ws d q in
    let r = subst (λ (t : Step). Rest t.after (with_step zs t) ws d) (goes_one s b.0 a.0 w b.1 a.1) b.2 in
    let t = a.0 in
    one_rest t.after (with_step zs t) ws c d a.2 r

pub one_command : OneCommand
one_command words c d p q = one_rest Start [] words c d (refl, p) (refl, q)

take_apart : (i j : ℕ) (words : List (List ℕ)) → i ≤ j → (rest : List (List ℕ)) × (take i words ++ rest ≡ take j words)
take_apart zero j words le = (take j words, refl)
take_apart (suc i) zero words le = absurd (omega (arith, le))
take_apart (suc i) (suc j) [] le = ([], refl)
take_apart (suc i) (suc j) (w ∷ ws) le = let r = take_apart i j ws (omega (arith, le)) in (r.0, ap (λ l. w ∷ l) r.1)

begins_before : (i j : ℕ) (words : List (List ℕ)) → i ≤ j → BeginsLine (take j words) → BeginsLine (take i words)
begins_before i j words le b =
    let r = take_apart i j words le in
    (r.0 ++ b.0, b.1, subst (λ ws. IsLine ws b.1) (ap (λ l. l ++ b.0) (sym r.1) ∙ append_assoc (take i words) r.0 b.0) b.2)

not_before : (words : List (List ℕ)) (i j : ℕ) → IsUsage words i → IsUsage words j → i < j → ⊥
not_before words i j u v lt = u.here (let w = v.within in omega (arith, w, lt)) (begins_before (suc i) j words (omega (arith, lt)) v.before)

pub one_usage : OneUsage
one_usage words i j u v =
    let a : i < j → ⊥ = not_before words i j u v in
    let b : j < i → ⊥ = not_before words j i v u in
    grind (arith, a, b)
