-- The combinators of grammars keep the law that reading and spelling agree.
use Rattle.std.proofs.Common.{◌≡◌, ℕ, zero, suc, ◌≤◌, refl, sym, ap, ◌∙◌, subst, arith}
use Rattle.std.specs.Prelude.{Bool, true, false, ◌==◌, nat_le, List, [], ◌∷◌, ◌++◌, length, take, drop}
use Rattle.std.proofs.lemmas.List.{append_assoc, append-nil, length-append, length-take-le, take-append-drop}
use lib.Seq.{take-append_seam, drop-append_seam}
use Rattle.std.proofs.lemmas.Bool.{le-leb, leb-true}
use Rattle.wb_syntax.specs.Grammar.{Fault, Malformed, Read, Reads, Stops, Grammar, go_on, exact, refused, followed, mapped, by_first, by_byte, Case, case, among, one_of, behind, times, at_end, exactly, begins, placed, at_start}
use Rattle.wb_syntax.specs.Laws.{IsLawful}

pub reads_value : {A : Type 0} (x y : A) (l k : List ℕ) → Reads x l ≡ Reads y k → x ≡ y
reads_value x y l k e = cc

pub reads_left : {A : Type 0} (x y : A) (l k : List ℕ) → Reads x l ≡ Reads y k → l ≡ k
reads_left x y l k e = cc

pub stops_not : {A : Type 0} (x : A) (l k : List ℕ) (f : Fault) → Stops l f ≡ Reads x k → ⊥
stops_not x l k f e = cc

pub exact_lawful : {A : Type 0} (x : A) → IsLawful (exact x)
exact_lawful x = record {
  finds = λ y front back h. cc;
  only = λ y bytes left h. ([], (sym (reads_value x y bytes left h), refl), reads_left x y bytes left h);
}

pub refused_lawful : {A : Type 0} (f : Fault) → IsLawful (refused {A = A} f)
refused_lawful f = record {
  finds = λ y front back h. absurd h;
  only = λ y bytes left h. absurd (stops_not y bytes left f h);
}

-- what was read before
pub went_on : {A B : Type 0} (r : Read A) (next : A → List ℕ → Read B) (y : B) (left : List ℕ) → go_on r next ≡ Reads y left → (x : A) × (mid : List ℕ) × (r ≡ Reads x mid) × (next x mid ≡ Reads y left)
went_on (Reads x mid) next y left h = (x, mid, refl, h)
went_on (Stops l f) next y left h = absurd (stops_not y l left f h)

pub followed_lawful : {A B : Type 0} (g : Grammar A) (next : A → Grammar B) → IsLawful g → ((x : A) → IsLawful (next x)) → IsLawful (followed g next)
followed_lawful {A = A} {B = B} g next lg ln = record {
  finds = λ y bytes back h.
      let x = h.0 in let s = h.1 in
      ap (λ bs. go_on (g.read bs) (λ x left. (next x).read left)) (ap (λ l. l ++ back) s.4 ∙ append_assoc s.0 s.1 back)
      ∙ ap (λ r. go_on r (λ x left. (next x).read left)) (lg.finds x s.0 (s.1 ++ back) s.2)
      ∙ (ln x).finds y s.1 back s.3;
  only = λ y bytes left h.
      let w = went_on (g.read bytes) (λ x left. (next x).read left) y left h in
      let a = lg.only w.0 bytes w.1 w.2 in
      let b = (ln w.0).only y w.1 left w.3 in
      (a.0 ++ b.0, (w.0, (a.0, b.0, a.1, b.1, refl)), a.2 ∙ ap (λ l. a.0 ++ l) b.2 ∙ sym (append_assoc a.0 b.0 left));
}

pub mapped_lawful : {A B : Type 0} (f : A → B) (g : Grammar A) → IsLawful g → IsLawful (mapped f g)
mapped_lawful f g lg = followed_lawful g (λ x. exact (f x)) lg (λ x. exact_lawful (f x))

by_byte_only : {A : Type 0} (next : ℕ → Grammar A) → ((b : ℕ) → IsLawful (next b)) → (x : A) (bytes left : List ℕ) → by_first next bytes ≡ Reads x left → (front : List ℕ) × (by_byte next).Is x front × (bytes ≡ front ++ left)
by_byte_only next ln x [] left h = absurd (stops_not x [] left Malformed h)
by_byte_only next ln x (b ∷ bs) left h = let o = (ln b).only x bs left h in (b ∷ o.0, (b, o.0, refl, o.1), ap (λ l. b ∷ l) o.2)

pub by_byte_lawful : {A : Type 0} (next : ℕ → Grammar A) → ((b : ℕ) → IsLawful (next b)) → IsLawful (by_byte next)
by_byte_lawful next ln = record {
  finds = λ x front back h. ap (λ l. by_first next (l ++ back)) h.2 ∙ (ln h.0).finds x h.1 back h.3;
  only = by_byte_only next ln;
}

-- by cases on a test
pub choice_lawful : {A : Type 0} (t : Bool) (g h : Grammar A) → IsLawful g → IsLawful h → IsLawful (elim t [ true ↦ g | false ↦ h ])
choice_lawful true g h lg lh = lg
choice_lawful false g h lg lh = lh

abbrev pub AreLawful : {A : Type 0} → List (Case A) → Type 0
AreLawful [] = Unit {0}
AreLawful (c ∷ cs) = IsLawful c.follows × AreLawful cs

pub among_lawful : {A : Type 0} (cs : List (Case A)) → AreLawful cs → (b : ℕ) → IsLawful (among cs b)
among_lawful [] l b = refused_lawful Malformed
among_lawful (c ∷ cs) l b = choice_lawful (b == c.byte) c.follows (among cs b) l.0 (among_lawful cs l.1 b)

pub one_of_lawful : {A : Type 0} (cs : List (Case A)) → AreLawful cs → IsLawful (one_of cs)
one_of_lawful cs l = by_byte_lawful (among cs) (among_lawful cs l)

pub behind_lawful : {A : Type 0} (b : ℕ) (g : Grammar A) → IsLawful g → IsLawful (behind b g)
behind_lawful b g lg = one_of_lawful (case b g ∷ []) (lg, tt)

pub times_lawful : {A : Type 0} (n : ℕ) (g : Grammar A) → IsLawful g → IsLawful (times n g)
times_lawful zero g lg = exact_lawful []
times_lawful (suc n) g lg = followed_lawful g (λ x. mapped (λ xs. x ∷ xs) (times n g)) lg (λ x. mapped_lawful (λ xs. x ∷ xs) (times n g) (times_lawful n g lg))

-- a part of known length
ends_reads : {A : Type 0} (r : Read A) (rest left : List ℕ) (x : A) → at_end r rest ≡ Reads x left → (r ≡ Reads x []) × (rest ≡ left)
ends_reads (Reads y []) rest left x h = (ap (λ z. Reads z []) (reads_value y x rest left h), reads_left y x rest left h)
ends_reads (Reads y (b ∷ bs)) rest left x h = absurd (stops_not x rest left Malformed h)
ends_reads (Stops l f) rest left x h = absurd (stops_not x l left f h)

length_fits : (front back : List ℕ) (n : ℕ) → length front ≡ n → n ≤ length (front ++ back)
length_fits front back n e = omega (arith, length-append front back)

take_front : (front back : List ℕ) (n : ℕ) → length front ≡ n → take n (front ++ back) ≡ front
take_front front back n e = ap (λ k. take k (front ++ back)) (sym e) ∙ take-append_seam front back

drop_front : (front back : List ℕ) (n : ℕ) → length front ≡ n → drop n (front ++ back) ≡ back
drop_front front back n e = ap (λ k. drop k (front ++ back)) (sym e) ∙ drop-append_seam front back

exactly_only : {A : Type 0} (n : ℕ) (g : Grammar A) → IsLawful g → (x : A) (bytes left : List ℕ) (t : Bool) → nat_le n (length bytes) ≡ t → elim t [ true ↦ at_end (g.read (take n bytes)) (drop n bytes) | false ↦ Stops bytes Malformed ] ≡ Reads x left → (front : List ℕ) × (exactly n g).Is x front × (bytes ≡ front ++ left)
exactly_only n g lg x bytes left true e h =
    let r = ends_reads (g.read (take n bytes)) (drop n bytes) left x h in
    let o = lg.only x (take n bytes) [] r.0 in
    let s : take n bytes ≡ o.0 = o.2 ∙ append-nil o.0 in
    (o.0, (sym (ap length s) ∙ length-take-le n bytes (leb-true n (length bytes) e), o.1), sym (take-append-drop n bytes) ∙ ap (λ l. l ++ drop n bytes) s ∙ ap (λ l. o.0 ++ l) r.1)
exactly_only n g lg x bytes left false e h = absurd (stops_not x bytes left Malformed h)

pub exactly_lawful : {A : Type 0} (n : ℕ) (g : Grammar A) → IsLawful g → IsLawful (exactly n g)
exactly_lawful n g lg = record {
  finds = λ x front back h.
      let whole = front ++ back in
      ap (λ t. elim t [ true ↦ at_end (g.read (take n whole)) (drop n whole) | false ↦ Stops whole Malformed ]) (le-leb n (length whole) (length_fits front back n h.0))
      ∙ ap (λ l. at_end (g.read l) (drop n whole)) (take_front front back n h.0 ∙ sym (append-nil front))
      ∙ ap (λ r. at_end r (drop n whole)) (lg.finds x front [] h.1)
      ∙ ap (λ l. Reads x l) (drop_front front back n h.0);
  only = λ x bytes left h. exactly_only n g lg x bytes left (nat_le n (length bytes)) refl h;
}

begins_only : {A : Type 0} (n : ℕ) (g : Grammar A) → IsLawful g → (x : A) (bytes left : List ℕ) (t : Bool) → nat_le n (length bytes) ≡ t → elim t [ true ↦ go_on (g.read (take n bytes)) (λ x left. Reads x (drop n bytes)) | false ↦ Stops bytes Malformed ] ≡ Reads x left → (front : List ℕ) × (begins n g).Is x front × (bytes ≡ front ++ left)
begins_only {A = A} n g lg x bytes left true e h =
    let w = went_on (g.read (take n bytes)) (λ x left. Reads x (drop n bytes)) x left h in
    let o = lg.only w.0 (take n bytes) w.1 w.2 in
    let same : w.0 ≡ x = reads_value w.0 x (drop n bytes) left w.3 in
    let rest : drop n bytes ≡ left = reads_left w.0 x (drop n bytes) left w.3 in
    (take n bytes, (length-take-le n bytes (leb-true n (length bytes) e), (o.0, w.1, subst (λ y. g.Is y o.0) same o.1, tt, o.2)), sym (take-append-drop n bytes) ∙ ap (λ l. take n bytes ++ l) rest)
begins_only n g lg x bytes left false e h = absurd (stops_not x bytes left Malformed h)

pub begins_lawful : {A : Type 0} (n : ℕ) (g : Grammar A) → IsLawful g → IsLawful (begins n g)
begins_lawful n g lg = record {
  finds = λ x front back h.
      let whole = front ++ back in
      let s = h.1 in
      ap (λ t. elim t [ true ↦ go_on (g.read (take n whole)) (λ x left. Reads x (drop n whole)) | false ↦ Stops whole Malformed ]) (le-leb n (length whole) (length_fits front back n h.0))
      ∙ ap (λ l. go_on (g.read l) (λ x left. Reads x (drop n whole))) (take_front front back n h.0 ∙ s.4)
      ∙ ap (λ r. go_on r (λ x left. Reads x (drop n whole))) (lg.finds x s.0 s.1 s.2)
      ∙ ap (λ l. Reads x l) (drop_front front back n h.0);
  only = λ x bytes left h. begins_only n g lg x bytes left (nat_le n (length bytes)) refl h;
}

placed_reads : {A : Type 0} (bytes left : List ℕ) (r : Read A) (x : A) → placed bytes r ≡ Reads x left → r ≡ Reads x left
placed_reads bytes left (Reads y k) x h = h
placed_reads bytes left (Stops k f) x h = absurd (stops_not x bytes left f h)

pub at_start_lawful : {A : Type 0} (g : Grammar A) → IsLawful g → IsLawful (at_start g)
at_start_lawful g lg = record {
  finds = λ x front back h. ap (placed (front ++ back)) (lg.finds x front back h);
  only = λ x bytes left h. lg.only x bytes left (placed_reads bytes left (g.read bytes) x h);
}
