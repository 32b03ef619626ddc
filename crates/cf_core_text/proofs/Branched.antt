-- Branches, one at a time.
use Rattle.std.proofs.Common.{◌≡◌, ℕ, zero, suc, ◌+◌, ◌-◌, ◌<◌, ◌≤◌, ◌++◌, max, length, get_or, drop, List, [], ◌∷◌, refl, sym, ap, arith, add-one, append_assoc}
use Rattle.std.proofs.lemmas.List.{append-nil, drop_all}
use Rattle.cf_lex.specs.declared.marks.Mark.TheVariants as sign
use Rattle.cf_term.specs.Core.{Branch, depth, depth_all, branch_parts}
use Rattle.cf_term.specs.View.{heads, bodies}
use Rattle.cf_term.specs.declared.forms.Branch as branch
use Rattle.cf_core_text.specs.declared.pieces.Piece.{Piece}
use Rattle.cf_core_text.specs.declared.pieces.Piece.TheVariants as piece
use Rattle.cf_core_text.specs.Pieces.{Printed, printed, printed_all, under, variable, names, arm, arms, more_arms}
use Rattle.cf_core_text.proofs.Steps.{next_of}

pub names_at : (g d n k m : ℕ) (v : Piece) → k < n → v ≡ variable g m → m ≡ under d k → names g (under d k) (n - k) [] ≡ (v ∷ []) ++ names g (under d (k + 1)) (n - (k + 1)) []
names_at g d n k m v h a b =
    let e : n - k ≡ suc (n - (k + 1)) = omega arith in
    rw (a, b, e) (rw (add-one k) refl)

pub names_end : (g d n k : ℕ) → n ≤ k → names g d (n - k) [] ≡ []
names_end g d n k h =
    let e : n - k ≡ 0 = omega arith in
    rw e refl

pub names_more : (g d n : ℕ) (more : List Piece) → names g d n [] ++ more ≡ names g d n more
names_more g d zero more = refl
names_more g d (suc n) more = ap (λ ps. variable g d ∷ ps) (names_more g (suc d) n more)

pub arm_joined : (g d : ℕ) (b : Branch) (t : Printed)
    → piece.Ctor b.type b.ctor ∷ (names g d b.names [] ++ piece.Mark sign.Dot ∷ (t.pieces ++ [])) ≡ arm g d b t []
arm_joined g d b t = ap (λ ps. piece.Ctor b.type b.ctor ∷ ps) (names_more g d b.names (piece.Mark sign.Dot ∷ (t.pieces ++ [])))

arm_more : (g d : ℕ) (b : Branch) (t : Printed) (more : List Piece) → arm g d b t more ≡ arm g d b t [] ++ more
arm_more g d b t more =
    rw (← names_more g d b.names (piece.Mark sign.Dot ∷ (t.pieces ++ more)), ← names_more g d b.names (piece.Mark sign.Dot ∷ (t.pieces ++ [])))
    (simp (append-nil, append_assoc))

abbrev pub head : branch.Branch → Branch
head b = record { type = b.data_type; ctor = b.ctor; names = b.names }

abbrev pub body : (g d : ℕ) → branch.Branch → Printed
body g d b = printed g (under d b.names) b.body.value

abbrev pub further_arms : (g d : ℕ) → List (branch.Branch) → List Piece
further_arms g d bs = more_arms g d (heads bs) (printed_all g d (branch_parts (heads bs)) (bodies bs))

abbrev pub all_arms : (g d : ℕ) → List (branch.Branch) → List Piece
all_arms g d bs = arms g d (heads bs) (printed_all g d (branch_parts (heads bs)) (bodies bs))

pub arms_next : (g d : ℕ) (bs : List (branch.Branch)) (k : ℕ) (b : branch.Branch) → k < length bs → b ≡ get_or bs k b
    → further_arms g d (drop k bs) ≡ (piece.Mark sign.Bar ∷ arm g d (head b) (body g d b) []) ++ further_arms g d (drop (k + 1) bs)
arms_next g d bs k b h e = rw (next_of bs k b h e) (ap (λ ps. piece.Mark sign.Bar ∷ ps) (arm_more g d (head b) (body g d b) (further_arms g d (drop (k + 1) bs))))

pub arms_end : (g d : ℕ) (bs : List (branch.Branch)) (k : ℕ) → length bs ≤ k → piece.Mark sign.CloseBrace ∷ [] ≡ further_arms g d (drop k bs)
arms_end g d bs k h = rw (drop_all k bs h) refl

pub bodies_next : (bs : List (branch.Branch)) (k : ℕ) (b : branch.Branch) → k < length bs → b ≡ get_or bs k b
    → depth_all (bodies (drop k bs)) ≡ max (max 0 (depth b.body.value)) (depth_all (bodies (drop (k + 1) bs)))
bodies_next bs k b h e = rw (next_of bs k b h e) (omega arith)

pub bodies_end : (bs : List (branch.Branch)) (k : ℕ) → length bs ≤ k → 0 ≡ depth_all (bodies (drop k bs))
bodies_end bs k h = rw (drop_all k bs h) refl

pub arms_first : (g d : ℕ) (bs rest : List (branch.Branch)) (b : branch.Branch) → 1 ≤ length bs → b ≡ get_or bs 0 b → rest ≡ drop 1 bs
    → arm g d (head b) (body g d b) [] ++ further_arms g d rest ≡ all_arms g d bs
arms_first g d [] rest b h e r = absurd (omega arith)
arms_first g d (x ∷ xs) rest b h e r = rw (r, e) (sym (arm_more g d (head x) (body g d x) (further_arms g d xs)))

pub bodies_first : (bs rest : List (branch.Branch)) (b : branch.Branch) → 1 ≤ length bs → b ≡ get_or bs 0 b → rest ≡ drop 1 bs
    → max (depth b.body.value) (depth_all (bodies rest)) ≡ depth_all (bodies bs)
bodies_first [] rest b h e r = absurd (omega arith)
bodies_first (x ∷ xs) rest b h e r = rw (r, e) refl

pub arms_none : (g d : ℕ) (bs : List (branch.Branch)) → length bs ≡ 0 → piece.Mark sign.CloseBrace ∷ [] ≡ all_arms g d bs
arms_none g d [] h = refl
arms_none g d (x ∷ xs) h = absurd (omega (arith, h))

pub bodies_none : (bs : List (branch.Branch)) → length bs ≡ 0 → 0 ≡ depth_all (bodies bs)
bodies_none [] h = refl
bodies_none (x ∷ xs) h = absurd (omega (arith, h))
