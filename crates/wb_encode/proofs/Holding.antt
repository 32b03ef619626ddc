-- What holds of all that a grammar spells.
use Rattle.std.proofs.Common.{ℕ, zero, suc, List, [], ◌∷◌, true, false, sym, subst}
use Rattle.std.specs.Prelude.{◌==◌}
use Rattle.wb_syntax.specs.Grammar.{Fault, Malformed, Grammar, exact, refused, followed, mapped, by_byte, Case, among, index, times, vec, exactly, sized}
use Rattle.wb_syntax.specs.Binary.{Each}
use Rattle.wb_encode.specs.Appended.{Every}

-- it holds of each value that the grammar spells
abbrev pub Holds : {A : Type 0} → Grammar A → (A → Type 0) → Type 0
Holds {A = A} g P = (x : A) (bytes : List ℕ) → g.Is x bytes → P x

pub exact_holds : {A : Type 0} (P : A → Type 0) (x : A) → P x → Holds (exact x) P
exact_holds P x p y bytes h = subst P (sym h.0) p

pub refused_holds : {A : Type 0} (P : A → Type 0) (fault : Fault) → Holds (refused fault) P
refused_holds P fault x bytes h = absurd h

pub followed_holds : {A B : Type 0} (Q : A → Type 0) (P : B → Type 0) (g : Grammar A) (next : A → Grammar B) → Holds g Q → ((x : A) → Q x → Holds (next x) P) → Holds (followed g next) P
followed_holds Q P g next hg hn y bytes h = hn h.0 (hg h.0 h.1.0 h.1.2) y h.1.1 h.1.3

pub mapped_holds : {A B : Type 0} (Q : A → Type 0) (P : B → Type 0) (f : A → B) (g : Grammar A) → Holds g Q → ((x : A) → Q x → P (f x)) → Holds (mapped f g) P
mapped_holds Q P f g hg hf = followed_holds Q P g (λ x. exact (f x)) hg (λ x q. exact_holds P (f x) (hf x q))

pub by_byte_holds : {A : Type 0} (P : A → Type 0) (next : ℕ → Grammar A) → ((b : ℕ) → Holds (next b) P) → Holds (by_byte next) P
by_byte_holds P next hn x bytes h = hn h.0 x h.1 h.3

-- of each case
abbrev pub AllHold : {A : Type 0} → (A → Type 0) → List (Case A) → Type 0
AllHold P [] = Unit {0}
AllHold P (c ∷ cs) = Holds c.follows P × AllHold P cs

pub among_holds : {A : Type 0} (P : A → Type 0) (cs : List (Case A)) → AllHold P cs → (b : ℕ) → Holds (among cs b) P
among_holds P [] hs b = refused_holds P Malformed
among_holds P (c ∷ cs) hs b =
    elim (b == c.byte) as (λ t. Holds (elim t [ true ↦ c.follows | false ↦ among cs b ]) P) [ true ↦ hs.0 | false ↦ among_holds P cs hs.1 b ]

pub times_holds : {A : Type 0} (P : A → Type 0) (g : Grammar A) → Holds g P → (n : ℕ) → Holds (times n g) (Every P)
times_holds P g hg zero = exact_holds (Every P) [] tt
times_holds P g hg (suc n) = followed_holds P (Every P) g (λ x. mapped (λ xs. x ∷ xs) (times n g)) hg (λ x p. mapped_holds (Every P) (Every P) (λ xs. x ∷ xs) (times n g) (times_holds P g hg n) (λ xs ps. (p, ps)))

-- nothing is said
abbrev pub Any : {A : Type 0} → A → Type 0
Any x = Unit {0}

pub any_holds : {A : Type 0} (g : Grammar A) → Holds g Any
any_holds g x bytes h = tt

pub vec_holds : {A : Type 0} (P : A → Type 0) (g : Grammar A) → Holds g P → Holds (vec g) (Every P)
vec_holds P g hg = followed_holds Any (Every P) index (λ n. times n g) (any_holds index) (λ n q. times_holds P g hg n)

pub sized_holds : {A : Type 0} (P : A → Type 0) (g : Grammar A) → Holds g P → Holds (sized g) P
sized_holds P g hg = followed_holds Any P index (λ n. exactly n g) (any_holds index) (λ n q x bytes h. hg x bytes h.1)

pub each_holds : {A : Type 0} (P : A → Type 0) (g : Grammar A) → Holds g P → (xs : List A) (bytes : List ℕ) → Each g xs bytes → Every P xs
each_holds P g hg [] bytes h = tt
each_holds P g hg (x ∷ xs) bytes h = (hg x h.0 h.2, each_holds P g hg xs h.1 h.3)
