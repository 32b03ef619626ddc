-- Reading one value after another.
use Rattle.std.proofs.Common.{◌≡◌, ℕ, zero, suc, ◌-◌, ◌<◌, refl, sym, ap, ◌∙◌, arith, append_assoc}
use Rattle.std.specs.Prelude.{Bool, true, false, nat_le, List, [], ◌∷◌, ◌++◌, length, take, drop}
use Rattle.wb_decode.specs.Reading.{what_of, Faulty, whatever}
use Rattle.wb_decode.specs.declared.ends.Fault as program
use Rattle.wb_decode.specs.declared.ends.Fault.TheVariants as fault
use Rattle.std.proofs.lemmas.Bool.Decides.{nat_tests}
use Rattle.wb_syntax.specs.Grammar.{Fault, Malformed, Outside, Read, Reads, Stops, Grammar, go_on, times, sized, index, at_end, exactly}

-- these values before what was read
abbrev pub prepend : {A : Type 0} → List A → Read (List A) → Read (List A)
prepend xs (Reads ys left) = Reads (xs ++ ys) left
prepend xs (Stops left fault) = Stops left fault

pub prepend_none : {A : Type 0} (r : Read (List A)) → prepend [] r ≡ r
prepend_none (Reads ys left) = refl
prepend_none (Stops left fault) = refl

pub prepend_more : {A : Type 0} (xs : List A) (x : A) (r : Read (List A)) → prepend xs (go_on r (λ ys left. Reads (x ∷ ys) left)) ≡ prepend (xs ++ x ∷ []) r
prepend_more xs x (Reads ys left) = ap (λ zs. Reads zs left) (sym (append_assoc xs (x ∷ []) ys))
prepend_more xs x (Stops left fault) = refl

times_more : {A : Type 0} (n : ℕ) (g : Grammar A) (bytes : List ℕ) → 0 < n → (times n g).read bytes ≡ go_on (g.read bytes) (λ x left. go_on ((times (n - 1) g).read left) (λ xs rest. Reads (x ∷ xs) rest))
times_more zero g bytes h = absurd (omega (arith, h))
times_more (suc n) g bytes h = let e : suc n - 1 ≡ n = omega arith in rw e refl

-- one more value is read
pub value_read : {A : Type 0} (n : ℕ) (g : Grammar A) (xs : List A) (x : A) (bytes rest : List ℕ) → 0 < n → g.read bytes ≡ Reads x rest → prepend xs ((times n g).read bytes) ≡ prepend (xs ++ x ∷ []) ((times (n - 1) g).read rest)
value_read n g xs x bytes rest h e = ap (prepend xs) (times_more n g bytes h ∙ ap (λ r. go_on r (λ x left. go_on ((times (n - 1) g).read left) (λ xs rest. Reads (x ∷ xs) rest))) e) ∙ prepend_more xs x ((times (n - 1) g).read rest)

value_stops : {A : Type 0} (n : ℕ) (g : Grammar A) (xs : List A) (bytes left : List ℕ) (f : Fault) → 0 < n → g.read bytes ≡ Stops left f → prepend xs ((times n g).read bytes) ≡ Stops left f
value_stops n g xs bytes left f h e = ap (prepend xs) (times_more n g bytes h ∙ ap (λ r. go_on r (λ x left. go_on ((times (n - 1) g).read left) (λ xs rest. Reads (x ∷ xs) rest))) e)

-- a fault stays the same fault where reading goes on in a way that keeps faults
pub still_faulty : {A B : Type 0} (f : program.Fault) (r : Read A) (s : Read B) → ((left : List ℕ) (g : Fault) → r ≡ Stops left g → s ≡ Stops left g) → Faulty f r → Faulty f s
still_faulty fault.Malformed r s keeps h = (h.0, keeps h.0 Malformed h.1)
still_faulty (fault.Outside what) r s keeps h = (h.0, keeps h.0 (Outside (what_of what)) h.1)
still_faulty fault.NoMemory r s keeps h = tt

-- the next value is not read
pub value_faulty : {A : Type 0} (f : program.Fault) (n : ℕ) (g : Grammar A) (xs : List A) (bytes : List ℕ) (whole : Read (List A)) → 0 < n → prepend xs ((times n g).read bytes) ≡ whole → Faulty f (g.read bytes) → Faulty f whole
value_faulty f n g xs bytes whole h e = still_faulty f (g.read bytes) whole (λ left k s. sym e ∙ value_stops n g xs bytes left k h s)

-- ---- contents behind their size

-- what becomes of the bytes that a size gives
abbrev pub inside : {A : Type 0} → Grammar A → Read (List ℕ) → Read A
inside g (Reads contents rest) = at_end (g.read contents) rest
inside g (Stops left f) = Stops left f

exactly_inside : {A : Type 0} (n : ℕ) (g : Grammar A) (bytes : List ℕ) (t : Bool) → elim t [ true ↦ at_end (g.read (take n bytes)) (drop n bytes) | false ↦ Stops bytes Malformed ] ≡ inside g (elim t [ true ↦ Reads (take n bytes) (drop n bytes) | false ↦ Stops bytes Malformed ])
exactly_inside n g bytes true = refl
exactly_inside n g bytes false = refl

sized_after : {A : Type 0} (g : Grammar A) (r : Read ℕ) → go_on r (λ n left. (exactly n g).read left) ≡ inside g (go_on r (λ n left. (exactly n whatever).read left))
sized_after g (Reads n left) = exactly_inside n g left (nat_le n (length left))
sized_after g (Stops left f) = refl

pub sized_inside : {A : Type 0} (g : Grammar A) (bytes : List ℕ) → (sized g).read bytes ≡ inside g ((sized whatever).read bytes)
sized_inside g bytes = sized_after g (index.read bytes)

-- the size is wrong
pub size_faulty : {A : Type 0} (f : program.Fault) (g : Grammar A) (bytes : List ℕ) → Faulty f ((sized whatever).read bytes) → Faulty f ((sized g).read bytes)
size_faulty f g bytes = still_faulty f ((sized whatever).read bytes) ((sized g).read bytes) (λ left k s. sized_inside g bytes ∙ ap (inside g) s)

-- the contents are wrong
pub contents_faulty : {A : Type 0} (f : program.Fault) (g : Grammar A) (bytes contents rest : List ℕ) → (sized whatever).read bytes ≡ Reads contents rest → Faulty f (g.read contents) → Faulty f ((sized g).read bytes)
contents_faulty f g bytes contents rest e = still_faulty f (g.read contents) ((sized g).read bytes) (λ left k s. sized_inside g bytes ∙ ap (inside g) e ∙ ap (λ r. at_end r rest) s)

-- the contents are read to their end
pub contents_read : {A : Type 0} (g : Grammar A) (x : A) (bytes contents more rest : List ℕ) → (sized whatever).read bytes ≡ Reads contents rest → g.read contents ≡ Reads x more → more ≡ [] → (sized g).read bytes ≡ Reads x rest
contents_read g x bytes contents more rest e s n = sized_inside g bytes ∙ ap (inside g) e ∙ ap (λ r. at_end r rest) (s ∙ ap (Reads x) n)

has_more : {A : Type 0} (x : A) (more rest : List ℕ) → 0 < length more → at_end (Reads x more) rest ≡ Stops rest Malformed
has_more x [] rest h = absurd (omega (arith, h))
has_more x (b ∷ bytes) rest h = refl

-- the contents end too early
pub contents_short : {A : Type 0} (g : Grammar A) (x : A) (bytes contents more rest : List ℕ) → (sized whatever).read bytes ≡ Reads contents rest → g.read contents ≡ Reads x more → 0 < length more → (left : List ℕ) × ((sized g).read bytes ≡ Stops left Malformed)
contents_short g x bytes contents more rest e s n = (rest, sized_inside g bytes ∙ ap (inside g) e ∙ ap (λ r. at_end r rest) s ∙ has_more x more rest n)

past : (n : ℕ) (rest : List ℕ) → length rest < n → (exactly n whatever).read rest ≡ Stops rest Malformed
past n rest h = let e : nat_le n (length rest) ≡ false = grind (arith, nat_tests) in ap (λ t. elim t [ true ↦ Reads (take n rest) (drop n rest) | false ↦ Stops rest Malformed ]) e

-- the size is greater than what is left
pub size_past : (n : ℕ) (bytes rest : List ℕ) → index.read bytes ≡ Reads n rest → length rest < n → (left : List ℕ) × ((sized whatever).read bytes ≡ Stops left Malformed)
size_past n bytes rest e h = (rest, ap (λ r. go_on r (λ n left. (exactly n whatever).read left)) e ∙ past n rest h)
