-- What the grammars' combinators spell.
use Rattle.std.proofs.Common.{ℕ, List, [], ◌∷◌, length, refl, sym, ap, append-nil, subst, ◌<◌, arith}
use Rattle.wb_syntax.specs.Grammar.{Grammar, mapped, times, vec, sized}
use Rattle.wb_encode.specs.Appended.{EachSpelled, VecSpelled, SizedSpelled, SectionSpelled}

pub mapped_is : {A B : Type 0} (f : A → B) (g : Grammar A) (x : A) (bytes : List ℕ) → g.Is x bytes → (mapped f g).Is (f x) bytes
mapped_is f g x bytes h = (x, (bytes, [], h, (refl, refl), sym (append-nil bytes)))

pub each_times : {A : Type 0} (g : Grammar A) (xs : List A) (bytes : List ℕ) → EachSpelled g.Is xs bytes → (times (length xs) g).Is xs bytes
each_times g [] bytes h = (refl, h)
each_times g (x ∷ xs) bytes h = (x, (h.0, h.1, h.2, mapped_is (λ ys. x ∷ ys) (times (length xs) g) xs h.1 (each_times g xs h.1 h.3), h.4))

pub vec_is : {A : Type 0} (g : Grammar A) (xs : List A) (bytes : List ℕ) → VecSpelled g.Is xs bytes → (vec g).Is xs bytes
vec_is g xs bytes h = (length xs, (h.0, h.1, h.2, each_times g xs h.1 h.3, h.4))

pub sized_is : {A : Type 0} (g : Grammar A) (x : A) (P : List ℕ → Type 0) (bytes : List ℕ) → SizedSpelled P bytes → ((inner : List ℕ) → P inner → g.Is x inner) → (sized g).Is x bytes
sized_is g x P bytes h f = (length h.0, (h.1.0, h.1.1, h.1.2, (ap length h.1.3, subst (λ (bs : List ℕ). g.Is x bs) (sym h.1.3) (f h.0 h.2)), h.1.4))

-- a section with elements
pub section_is : {A : Type 0} (Spells : A → List ℕ → Type 0) (id : ℕ) (xs : List A) (rest : List ℕ) → 0 < length xs → SizedSpelled (VecSpelled Spells xs) rest → SectionSpelled id Spells xs (id ∷ rest)
section_is Spells id [] rest lt h = absurd (omega arith)
section_is Spells id (x ∷ xs) rest lt h = (rest, refl, h)
