-- Two terms side by side: what is the same of the whole is the same of the pieces.
use Rattle.std.proofs.Common.{◌≡◌, ℕ, ◌+◌, ◌≤◌, ◌<◌, List, [], ◌∷◌, Bool, true, false, Some, get_or, drop, length, refl, ap, sym, ◌∙◌, arith}
use Rattle.std.specs.Prelude.{◌↔◌, IsTrue}
use mathlib.Core.Path.{ap₂}
use Rattle.cf_term.specs.Core.{Tm, var, node, Tms, nil, cons, Part, Branch, MarkH}
use Rattle.cf_term.specs.View.{heads, marked, tm_of}
use Rattle.cf_term.specs.Numbered.{part_at, length_of, terms, with_terms, IsPart}
use Rattle.cf_term.specs.Same.{plain, plain_all, root}
use Rattle.cf_term.specs.Roots.{form_of, own_of, branches_of}
use Rattle.cf_term.proofs.Rooted.{root_branches, root_whole}
use Rattle.cf_term.proofs.Measured.{weight_of, weight_one}
use Rattle.cf_term.proofs.Rebuilt.{head, heads_next, heads_end}
use Rattle.cf_term.proofs.Walked.{after, seen_next, after_end}
use Rattle.cf_term.specs.declared.parts.Part as seen
use Rattle.cf_term.specs.declared.forms.Branch as branch
use Rattle.cf_term.specs.declared.forms.TermNode.{TermNode}

pub false_true : false ≡ true → ⊥
false_true e = cc

pub never : {P : Type 0} → (P → ⊥) → IsTrue false ↔ P
never n = (λ e. absurd (false_true e), λ p. absurd (n p))

pub always : {P : Type 0} → P → IsTrue true ↔ P
always p = (λ e. p, λ q. refl)

-- branches from number i on
abbrev pub SameHeads : (bs cs : List (branch.Branch)) (i : ℕ) → Type 0
SameHeads bs cs i = (heads (drop i bs) ≡ heads (drop i cs)) ↔ (heads bs ≡ heads cs)

abbrev first_head : Branch → List Branch → Branch
first_head d [] = d
first_head d (h ∷ hs) = h

abbrev rest_heads : List Branch → List Branch
rest_heads [] = []
rest_heads (h ∷ hs) = hs

pub heads_length : (bs : List (branch.Branch)) → length (heads bs) ≡ length bs
heads_length [] = refl
heads_length (b ∷ bs) = omega (arith, heads_length bs)

pub heads_unequal : (bs cs : List (branch.Branch)) → heads bs ≡ heads cs → length bs ≡ length cs
heads_unequal bs cs e = sym (heads_length bs) ∙ ap length e ∙ heads_length cs

pub heads_step : (bs cs : List (branch.Branch)) (i : ℕ) (x y : branch.Branch)
    → i < length bs → i < length cs → x ≡ get_or bs i x → y ≡ get_or cs i y → head x ≡ head y → SameHeads bs cs i → SameHeads bs cs (i + 1)
heads_step bs cs i x y hb hc ex ey e w =
    let b = heads_next bs bs i x refl hb ex in
    let c = heads_next cs cs i y refl hc ey in
    (λ r. w.0 (b ∙ ap₂ (λ h hs. h ∷ hs) e r ∙ sym c), λ a. ap rest_heads (sym b ∙ w.1 a ∙ c))

pub heads_differ : (bs cs : List (branch.Branch)) (i : ℕ) (x y : branch.Branch)
    → i < length bs → i < length cs → x ≡ get_or bs i x → y ≡ get_or cs i y → (head x ≡ head y → ⊥) → SameHeads bs cs i → heads bs ≡ heads cs → ⊥
heads_differ bs cs i x y hb hc ex ey n w a = n (ap (first_head (head x)) (sym (heads_next bs bs i x refl hb ex) ∙ w.1 a ∙ heads_next cs cs i y refl hc ey))

pub heads_all : (bs cs : List (branch.Branch)) (i : ℕ) → length bs ≤ i → length cs ≤ i → SameHeads bs cs i → heads bs ≡ heads cs
heads_all bs cs i hb hc w = w.0 (heads_end bs i hb ∙ sym (heads_end cs i hc))

-- parts from number i on
abbrev pub SameParts : (ts us : Tms) (i : ℕ) → Type 0
SameParts ts us i = (plain_all (after i ts) ≡ plain_all (after i us)) ↔ (plain_all ts ≡ plain_all us)

abbrev first_term : Tm → Tms → Tm
first_term d nil = d
first_term d (cons t ts) = t

abbrev rest_terms : Tms → Tms
rest_terms nil = nil
rest_terms (cons t ts) = ts

plain_length : (ts : Tms) → length_of (plain_all ts) ≡ length_of ts
plain_length nil = refl
plain_length (cons t ts) = omega (arith, plain_length ts)

pub parts_unequal : (ts us : Tms) → plain_all ts ≡ plain_all us → length_of ts ≡ length_of us
parts_unequal ts us e = sym (plain_length ts) ∙ ap length_of e ∙ plain_length us

pub parts_step : (ps qs : List Part) (ts us : Tms) (i : ℕ) (p q : seen.Part)
    → IsPart (Some p) (part_at ps ts i) → IsPart (Some q) (part_at qs us i) → plain p.term.now.value ≡ plain q.term.now.value → SameParts ts us i → SameParts ts us (i + 1)
parts_step ps qs ts us i p q hp hq e w =
    let b = ap plain_all (seen_next ps ts i p hp) in
    let c = ap plain_all (seen_next qs us i q hq) in
    (λ r. w.0 (b ∙ ap₂ cons e r ∙ sym c), λ a. ap rest_terms (sym b ∙ w.1 a ∙ c))

pub parts_differ : (ps qs : List Part) (ts us : Tms) (i : ℕ) (p q : seen.Part)
    → IsPart (Some p) (part_at ps ts i) → IsPart (Some q) (part_at qs us i) → (plain p.term.now.value ≡ plain q.term.now.value → ⊥) → SameParts ts us i → plain_all ts ≡ plain_all us → ⊥
parts_differ ps qs ts us i p q hp hq n w a =
    n (ap (first_term (plain p.term.now.value)) (sym (ap plain_all (seen_next ps ts i p hp)) ∙ w.1 a ∙ ap plain_all (seen_next qs us i q hq)))

pub parts_all : (ts us : Tms) (i : ℕ) → length_of ts ≤ i → length_of us ≤ i → SameParts ts us i → plain_all ts ≡ plain_all us
parts_all ts us i ht hu w = w.0 (ap plain_all (after_end ts i ht) ∙ sym (ap plain_all (after_end us i hu)))

-- a term without marks is its root with its parts
plain_marked : (m : Bool) (t : Tm) → plain (marked m t) ≡ plain t
plain_marked m (var i) = refl
plain_marked false (node h ts) = refl
plain_marked true (node h ts) = refl

abbrev top : Tm → Tm
top (var i) = var i
top (node h ts) = node h nil

plain_top : (t : Tm) → weight_of t ≡ 1 → top (plain t) ≡ root t
plain_top (var i) e = refl
plain_top (node MarkH ts) e = absurd (omega (arith, e))
plain_top (node h ts) e = refl

plain_terms : (t : Tm) → weight_of t ≡ 1 → terms (plain t) ≡ plain_all (terms t)
plain_terms (var i) e = refl
plain_terms (node MarkH ts) e = absurd (omega (arith, e))
plain_terms (node h ts) e = refl

whole : (t : Tm) → with_terms (top t) (terms t) ≡ t
whole (var i) = refl
whole (node h ts) = refl

pub plain_root : (m n : Bool) (t u : Tm) → weight_of t ≡ 1 → weight_of u ≡ 1 → plain (marked m t) ≡ plain (marked n u) → root t ≡ root u
plain_root m n t u wt wu e = sym (plain_top t wt) ∙ ap top (sym (plain_marked m t) ∙ e ∙ plain_marked n u) ∙ plain_top u wu

pub plain_parts : (m n : Bool) (t u : Tm) → weight_of t ≡ 1 → weight_of u ≡ 1 → plain (marked m t) ≡ plain (marked n u) → plain_all (terms t) ≡ plain_all (terms u)
plain_parts m n t u wt wu e = sym (plain_terms t wt) ∙ ap terms (sym (plain_marked m t) ∙ e ∙ plain_marked n u) ∙ plain_terms u wu

pub plain_whole : (m n : Bool) (t u : Tm) → weight_of t ≡ 1 → weight_of u ≡ 1 → root t ≡ root u → plain_all (terms t) ≡ plain_all (terms u) → plain (marked m t) ≡ plain (marked n u)
plain_whole m n t u wt wu r e =
    let same : plain t ≡ plain u =
    sym (whole (plain t)) ∙ ap₂ with_terms (plain_top t wt ∙ r ∙ sym (plain_top u wu)) (plain_terms t wt ∙ e ∙ sym (plain_terms u wu)) ∙ whole (plain u) in
    plain_marked m t ∙ same ∙ sym (plain_marked n u)

-- tests one after another, each only where those before hold
pub root_then : {P : Type 0} (x y : TermNode)
    → form_of (tm_of x) ≡ form_of (tm_of y) → own_of (tm_of x) ≡ own_of (tm_of y) → P ↔ (branches_of (tm_of x) ≡ branches_of (tm_of y)) → P ↔ (root (tm_of x) ≡ root (tm_of y))
root_then x y f o w = (λ p. root_whole (tm_of x) (tm_of y) (weight_one x) (weight_one y) f o (w.0 p), λ r. w.1 (root_branches (tm_of x) (tm_of y) r))

pub same_then : {P : Type 0} (m n : Bool) (x y : TermNode)
    → root (tm_of x) ≡ root (tm_of y) → P ↔ (plain_all (terms (tm_of x)) ≡ plain_all (terms (tm_of y))) → P ↔ (plain (marked m (tm_of x)) ≡ plain (marked n (tm_of y)))
same_then m n x y r w =
    (λ p. plain_whole m n (tm_of x) (tm_of y) (weight_one x) (weight_one y) r (w.0 p), λ e. w.1 (plain_parts m n (tm_of x) (tm_of y) (weight_one x) (weight_one y) e))

pub same_else : (b : Bool) (m n : Bool) (x y : TermNode) → b ≡ false → IsTrue b ↔ (root (tm_of x) ≡ root (tm_of y)) → IsTrue b ↔ (plain (marked m (tm_of x)) ≡ plain (marked n (tm_of y)))
same_else b m n x y f w = (λ e. absurd (false_true (sym f ∙ e)), λ e. w.1 (plain_root m n (tm_of x) (tm_of y) (weight_one x) (weight_one y) e))
