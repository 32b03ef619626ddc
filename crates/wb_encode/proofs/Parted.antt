-- Each spelling by the grammars' combinators consists of the spellings of the parts: Spelled the other way round.
use Rattle.std.proofs.Common.{◌≡◌, ℕ, zero, suc, ◌≤◌, ◌<◌, Bool, true, false, List, [], ◌∷◌, ◌++◌, length, Some, refl, sym, ap, ◌∙◌, append-nil, subst, arith, ◌⊎◌, inl, inr}
use Rattle.std.specs.Prelude.{◌==◌}
use Rattle.std.proofs.lemmas.Bool.{eqb-true}
use Rattle.std.proofs.lemmas.List.{length-append}
use Rattle.wb_syntax.specs.Grammar.{Grammar, Case, mapped, times, vec, sized, among, index}
use Rattle.wb_encode.specs.Appended.{EachSpelled, VecSpelled, SizedSpelled, SectionSpelled}
use Rattle.wb_encode.specs.Shortest.{IsShortest}
use Rattle.wb_encode.proofs.Shorter.{IsOrIsLonger, no_longer}
use Rattle.wb_encode.proofs.Appending.{Behind}
use Rattle.wb_encode.proofs.Leb.{no_longer_below}

pub some_is : {A : Type 0} (x y : A) → Some x ≡ Some y → x ≡ y
some_is x y e = cc

pub mapped_parts : {A B : Type 0} (f : A → B) (g : Grammar A) (y : B) (bytes : List ℕ) → (mapped f g).Is y bytes → (x : A) × (y ≡ f x) × g.Is x bytes
mapped_parts f g y bytes h =
    let s = h.1 in
    let same : bytes ≡ s.0 = s.4 ∙ ap (λ back. s.0 ++ back) s.3.1 ∙ append-nil s.0 in
    (h.0, s.3.0, subst (λ (bs : List ℕ). g.Is h.0 bs) (sym same) s.2)

-- a mapping that forgets nothing
pub mapped_back : {A B : Type 0} (f : A → B) (back : B → A) (g : Grammar A) (x : A) (bytes : List ℕ) → ((z : A) → back (f z) ≡ z) → (mapped f g).Is (f x) bytes → g.Is x bytes
mapped_back f back g x bytes again h =
    let m = mapped_parts f g (f x) bytes h in
    subst (λ z. g.Is z bytes) (sym (again m.0) ∙ sym (ap back m.1) ∙ again x) m.2

pub times_parts : {A : Type 0} (g : Grammar A) (n : ℕ) (xs : List A) (bytes : List ℕ) → (times n g).Is xs bytes → (n ≡ length xs) × EachSpelled g.Is xs bytes
times_parts g zero xs bytes h = (sym (ap length h.0), subst (λ ys. EachSpelled g.Is ys bytes) (sym h.0) h.1)
times_parts g (suc n) xs bytes h =
    let s = h.1 in
    let m = mapped_parts (λ ys. h.0 ∷ ys) (times n g) xs s.1 s.3 in
    let r = times_parts g n m.0 s.1 m.2 in
    (ap suc r.0 ∙ sym (ap length m.1), subst (λ zs. EachSpelled g.Is zs bytes) (sym m.1) (s.0, s.1, s.2, r.1, s.4))

pub vec_parts : {A : Type 0} (g : Grammar A) (xs : List A) (bytes : List ℕ) → (vec g).Is xs bytes → VecSpelled g.Is xs bytes
vec_parts g xs bytes h =
    let s = h.1 in
    let r = times_parts g h.0 xs s.1 s.3 in
    (s.0, s.1, subst (λ (n : ℕ). index.Is n s.0) r.0 s.2, r.1, s.4)

pub sized_parts : {A : Type 0} (g : Grammar A) (x : A) (bytes : List ℕ) → (sized g).Is x bytes → SizedSpelled (g.Is x) bytes
sized_parts g x bytes h =
    let s = h.1 in
    (s.1, (s.0, s.1, subst (λ (n : ℕ). index.Is n s.0) (sym s.3.0) s.2, refl, s.4), s.3.1)

-- it is spelled by one of the cases
abbrev pub IsOneOf : {A : Type 0} → List (Case A) → ℕ → A → List ℕ → Type 0
IsOneOf [] b x rest = ⊥
IsOneOf (c ∷ cs) b x rest = ((b ≡ c.byte) × c.follows.Is x rest) ⊎ IsOneOf cs b x rest

abbrev choice : {A : Type 0} → Bool → Grammar A → Grammar A → Grammar A
choice t g h = elim t [ true ↦ g | false ↦ h ]

this_or_other : {A : Type 0} (c : Case A) (cs : List (Case A)) (b : ℕ) (x : A) (rest : List ℕ) (t : Bool) → (b == c.byte) ≡ t → ((among cs b).Is x rest → IsOneOf cs b x rest) → (choice t c.follows (among cs b)).Is x rest → IsOneOf (c ∷ cs) b x rest
this_or_other c cs b x rest true e ih h = inl (eqb-true b c.byte e, h)
this_or_other c cs b x rest false e ih h = inr (ih h)

pub one_of_these : {A : Type 0} (cs : List (Case A)) (b : ℕ) (x : A) (rest : List ℕ) → (among cs b).Is x rest → IsOneOf cs b x rest
one_of_these [] b x rest h = absurd h
one_of_these (c ∷ cs) b x rest h = this_or_other c cs b x rest (b == c.byte) refl (one_of_these cs b x rest) h

-- ---- contents behind their size: a size grows with what it counts

smaller_whole : (c inner bytes short front : List ℕ) → IsOrIsLonger bytes (short ++ c) → length short ≤ length front → length c < length inner → length bytes < length (front ++ inner)
smaller_whole c inner bytes short front h l k = omega (arith, no_longer bytes (short ++ c) h, length-append short c, length-append front inner, l, k)

sized_others : {P : List ℕ → Type 0} (c bytes : List ℕ) → IsShortest (λ bs. SizedSpelled (λ inner. inner ≡ c) bs) bytes → (other : List ℕ) (s : SizedSpelled P other) → IsOrIsLonger c s.0 → IsOrIsLonger bytes other
sized_others c bytes w other s (inl e) = w.others other (s.0, s.1, e)
sized_others c bytes w other s (inr l) =
    let t = s.1 in
    let short = no_longer_below 32 (length c) (length s.0) t.0 t.2 (omega (arith, l)) in
    let whole = w.others (short.0 ++ c) (c, (short.0, c, short.1, refl, refl), refl) in
    let same : t.0 ++ s.0 ≡ other = ap (λ back. t.0 ++ back) (sym t.3) ∙ sym t.4 in
    inr (subst (λ (bs : List ℕ). length bytes < length bs) same (smaller_whole c s.0 bytes short.0 t.0 whole short.2 l))

pub sized_shortest : {P : List ℕ → Type 0} (c bytes : List ℕ) → IsShortest P c → IsShortest (λ bs. SizedSpelled (λ inner. inner ≡ c) bs) bytes → IsShortest (SizedSpelled P) bytes
sized_shortest {P = P} c bytes i w = record {
  spells = (w.spells.0, w.spells.1, subst P (sym w.spells.2) i.spells);
  others = λ other s. sized_others c bytes w other s (i.others s.0 s.2);
}

-- a section with elements
pub section_parts : {A : Type 0} (Spells : A → List ℕ → Type 0) (id : ℕ) (xs : List A) (bytes : List ℕ) → 0 < length xs → SectionSpelled id Spells xs bytes → Behind id (SizedSpelled (VecSpelled Spells xs)) bytes
section_parts Spells id [] bytes lt h = absurd (omega arith)
section_parts Spells id (x ∷ xs) bytes lt h = h
