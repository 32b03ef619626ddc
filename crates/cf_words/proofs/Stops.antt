-- Where reading stops, and what the words are then.
use Rattle.std.proofs.Common.{◌≡◌, ℕ, suc, ◌+◌, ◌<◌, ◌≤◌, ℤ, List, [], ◌∷◌, ◌++◌, length, take, drop, map, get_or, refl, sym, ap, ◌∙◌, subst, arith, append_assoc, append-nil, drop-cons}
use Rattle.std.specs.Prelude.{Some, None}
use Rattle.std.proofs.lemmas.List.{length-append, length-map, length-take-le, map-append, map_more, take-append-drop, take_all, take_at}
use Rattle.cf_words.specs.declared.command.Command.{Command}
use Rattle.cf_words.specs.declared.command.WordsEnd.{WordsEnd}
use Rattle.cf_words.specs.declared.command.WordsEnd.TheVariants.{Usage, NoMemory}
use Rattle.cf_words.specs.declared.reading.Reading.{Reading}
use Rattle.cf_words.specs.declared.reading.Reading.TheVariants.{Start}
use Rattle.cf_words.specs.declared.reading.Step.{Step}
use Rattle.cf_words.specs.Lines.{BeginsLine, IsLine, IsRefused, IsUsage}
use Rattle.cf_words.specs.Reading.{Goes, IsUsageAt, final}
use Rattle.cf_words.proofs.Onward.{IsMet, Rest, alive, ends, goes_back, goes_met, goes_on, goes_one, is_end, with_step}

-- the words have been read as this, with these numbers: what makes one a line makes the other
pub record HasRead (words : List (List ℕ)) (s : Reading) (zs : List ℤ) : Type 0 where
  pub met : IsMet s zs
  pub here : (more : List (List ℕ)) (k : Command) → Rest s zs more k → IsLine (words ++ more) k
  pub back : (more : List (List ℕ)) (k : Command) → IsLine (words ++ more) k → Rest s zs more k

pub starts : HasRead [] Start []
starts = record { met = refl; here = λ more k r. r.1; back = λ more k r. (refl, r) }

one_more : (words more : List (List ℕ)) (w : List ℕ) → (words ++ w ∷ []) ++ more ≡ words ++ w ∷ more
one_more words more w = append_assoc words (w ∷ []) more

pub reads_more : (words : List (List ℕ)) (s : Reading) (zs : List ℤ) (t : Step) (w : List ℕ) → HasRead words s zs → Goes s w t → HasRead (words ++ w ∷ []) t.after (with_step zs t)
reads_more words s zs t w r g = record {
  met = goes_met s zs t w g;
  here = λ more k q. subst (λ ws. IsLine ws k) (sym (one_more words more w)) (r.here (w ∷ more) k (goes_back s zs t w more k r.met g q));
  back = λ more k q.
      let p = goes_on s zs w more k (r.back (w ∷ more) k (subst (λ ws. IsLine ws k) (one_more words more w) q)) in
      subst (λ (t : Step). Rest t.after (with_step zs t) more k) (goes_one s p.0 t w p.1 g) p.2;
}

begins : (words : List (List ℕ)) (s : Reading) (zs : List ℤ) → HasRead words s zs → BeginsLine words
begins words s zs r = let a = alive s zs r.met in (a.0, a.1, r.here a.0 a.1 a.2)

-- ---- where no word goes on

take_front : (words more : List (List ℕ)) → take (length words) (words ++ more) ≡ words
take_front words more = take_at words more (length words) refl

take_one : (words more : List (List ℕ)) (w : List ℕ) → take (suc (length words)) (words ++ w ∷ more) ≡ words ++ w ∷ []
take_one words more w =
    ap (take (suc (length words))) (sym (one_more words more w)) ∙ take_at (words ++ w ∷ []) more (suc (length words)) (let l = length-append words (w ∷ []) in omega (arith, l))

pub stops_at : (words more : List (List ℕ)) (s : Reading) (zs : List ℤ) (w : List ℕ) → HasRead words s zs → ((t : Step) → Goes s w t → ⊥) → IsUsage (words ++ w ∷ more) (length words)
stops_at words more s zs w r none =
    let no : (rest : List (List ℕ)) (k : Command) → IsLine (words ++ w ∷ rest) k → ⊥ = λ rest k l. (let p = goes_on s zs w rest k (r.back (w ∷ rest) k l) in none p.0 p.1) in
    record {
      no_line = λ k l. no more k l;
      within = (let l = length-append words (w ∷ more) in omega (arith, l));
      before = subst BeginsLine (sym (take_front words (w ∷ more))) (begins words s zs r);
      here = λ lt b. (
          let l = subst (λ ws. IsLine (ws ++ b.0) b.1) (take_one words more w) b.2 in
          no b.0 b.1 (subst (λ ws. IsLine ws b.1) (one_more words b.0 w) l));
    }

pub stops_behind : (words : List (List ℕ)) (s : Reading) (zs : List ℤ) → HasRead words s zs → final s zs ≡ None → IsUsage words (length words)
stops_behind words s zs r none = record {
  no_line = λ k l. (let e : Some k ≡ None = sym (is_end s zs k (r.back [] k (subst (λ ws. IsLine ws k) (sym (append-nil words)) l))) ∙ none in cc);
  within = omega arith;
  before = subst BeginsLine (sym (take_all (length words) words (omega arith))) (begins words s zs r);
  here = λ lt b. absurd (omega (arith, lt));
}

pub is_line : (words : List (List ℕ)) (s : Reading) (zs : List ℤ) (k : Command) → HasRead words s zs → final s zs ≡ Some k → IsLine words k
is_line words s zs k r e = subst (λ ws. IsLine ws k) (append-nil words) (r.here [] k (ends s zs k e))

-- ---- words as a slice has them

pub reads_next : {A : Type 0} (f : A → List ℕ) (xs : List A) (i : ℕ) (x : A) (s : Reading) (zs : List ℤ) (t : Step) → i < length xs → x ≡ get_or xs i x → HasRead (map f (take i xs)) s zs → Goes s (f x) t → HasRead (map f (take (i + 1) xs)) t.after (with_step zs t)
reads_next f xs i x s zs t lt e r g =
    subst (λ ws. HasRead ws t.after (with_step zs t)) (sym (map_more f xs i x lt ∙ ap (λ y. map f (take i xs) ++ f y ∷ []) (sym e))) (reads_more (map f (take i xs)) s zs t (f x) r g)

splits : {A : Type 0} (f : A → List ℕ) (xs : List A) (i : ℕ) (x : A) → i < length xs → x ≡ get_or xs i x → map f (take i xs) ++ f x ∷ map f (drop (suc i) xs) ≡ map f xs
splits f xs i x lt e =
    ap (λ y. map f (take i xs) ++ f y ∷ map f (drop (suc i) xs)) e
    ∙ sym (map-append f (take i xs) (get_or xs i x ∷ drop (suc i) xs))
    ∙ ap (λ ys. map f (take i xs ++ ys)) (sym (drop-cons xs i x lt))
    ∙ ap (map f) (take-append-drop i xs)

-- this end is told at the number of words where they are no line
at_usage : (words : List (List ℕ)) (i : ℕ) (end : WordsEnd) → IsUsage words i → IsUsageAt i end → IsRefused words end
at_usage words i (Usage n) u e = subst (IsUsage words) (sym e) u
at_usage words i NoMemory u e = tt

pub stops_in : {A : Type 0} (f : A → List ℕ) (xs : List A) (i : ℕ) (x : A) (s : Reading) (zs : List ℤ) (end : WordsEnd) → i < length xs → x ≡ get_or xs i x → HasRead (map f (take i xs)) s zs → ((t : Step) → Goes s (f x) t → ⊥) → IsUsageAt i end → IsRefused (map f xs) end
stops_in f xs i x s zs end lt e r none at =
    let u = stops_at (map f (take i xs)) (map f (drop (suc i) xs)) s zs (f x) r none in
    let n : length (map f (take i xs)) ≡ i = length-map (take i xs) f ∙ length-take-le i xs (omega (arith, lt)) in
    at_usage (map f xs) i end (subst (λ ws. IsUsage ws i) (splits f xs i x lt e) (subst (IsUsage (map f (take i xs) ++ f x ∷ map f (drop (suc i) xs))) n u)) at

read_all : {A : Type 0} (f : A → List ℕ) (xs : List A) (i : ℕ) (s : Reading) (zs : List ℤ) → length xs ≤ i → HasRead (map f (take i xs)) s zs → HasRead (map f xs) s zs
read_all f xs i s zs le r = subst (λ ys. HasRead (map f ys) s zs) (take_all i xs le) r

pub ends_in : {A : Type 0} (f : A → List ℕ) (xs : List A) (i : ℕ) (s : Reading) (zs : List ℤ) (end : WordsEnd) → length xs ≤ i → HasRead (map f (take i xs)) s zs → final s zs ≡ None → IsUsageAt (length xs) end → IsRefused (map f xs) end
ends_in f xs i s zs end le r e at = at_usage (map f xs) (length xs) end (subst (IsUsage (map f xs)) (length-map xs f) (stops_behind (map f xs) s zs (read_all f xs i s zs le r) e)) at

pub line_in : {A : Type 0} (f : A → List ℕ) (xs : List A) (i : ℕ) (s : Reading) (zs : List ℤ) (k : Command) → length xs ≤ i → HasRead (map f (take i xs)) s zs → final s zs ≡ Some k → IsLine (map f xs) k
line_in f xs i s zs k le r e = is_line (map f xs) s zs k (read_all f xs i s zs le r) e
