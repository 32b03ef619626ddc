-- What has been built of a list of parts, and the parts that are left.
use Rattle.std.proofs.Common.{◌≡◌, ℕ, zero, suc, ◌+◌, ◌*◌, ◌≤◌, ◌<◌, List, [], ◌∷◌, ◌++◌, get_or, take, drop, length, refl, ap, arith, add-one, append-nil}
use Rattle.std.proofs.Math.Seq.{drop-cons}
use Rattle.std.proofs.lemmas.List.{length-take-le, take-append-drop}
use mathlib.Core.Path.{ap₂, sym, ◌∙◌}
use Rattle.std.specs.declared.rc.Rc.{Rc}
use Rattle.cf_term.specs.Core.{Tm, Tms, nil, cons, node, Branch, CaseH, ConH}
use Rattle.cf_term.specs.View.{listed, definitions, heads, bodies}
use Rattle.cf_term.specs.declared.forms.Branch as branch
use Rattle.cf_term.specs.declared.forms.Definition.{Definition}
use Rattle.cf_term.specs.Numbered.{length_of}
use Rattle.std.proofs.Common.{Result, Ok, Err, IfOk}
use Rattle.cf_base.specs.declared.errors.NoMemory.{NoMemory}
use Rattle.cf_value.specs.Heads.{branches, head_of, Fits}
use Rattle.cf_value.specs.declared.shapes.Shape.{Shape}
use Rattle.cf_value.specs.declared.shapes.Arm.{Arm}

pub definitions_grown : (ds : List Definition) (d : Definition) (us : Tms) → definitions (ds ++ d ∷ []) us ≡ definitions ds (cons d.ty.value (cons d.value.value us))
definitions_grown [] d us = refl
definitions_grown (x ∷ xs) d us = ap (λ vs. cons x.ty.value (cons x.value.value vs)) (definitions_grown xs d us)

module _ {Z : Type 0} where
  listed_append : (ts us : List (Rc Tm Z)) (vs : Tms) → listed (ts ++ us) vs ≡ listed ts (listed us vs)
  listed_append [] us vs = refl
  listed_append (x ∷ xs) us vs = ap (λ ws. cons x.value ws) (listed_append xs us vs)

-- the first k terms are parameters, the others fields
pub con_split : {Z : Type 0} (d c k : ℕ) (ts ps fs : List (Rc Tm Z))
    → k ≤ length ts → ps ≡ take k ts → fs ≡ drop k ts → node (ConH d c (length ps)) (listed ps (listed fs nil)) ≡ node (ConH d c k) (listed ts nil)
con_split d c k ts ps fs h e f =
    let n : length ps ≡ k = ap length e ∙ length-take-le k ts h in
    let all : ps ++ fs ≡ ts = ap₂ (λ xs ys. xs ++ ys) e f ∙ take-append-drop k ts in
    ap₂ (λ m us. node (ConH d c m) us) n (sym (listed_append ps fs nil) ∙ ap (λ xs. listed xs nil) all)

-- the branches of arms

abbrev branch_of : Arm → Branch
branch_of a = record { type = a.data_type; ctor = a.ctor; names = a.names }

pub branches_grown : (more : List Arm) (a : Arm) → branches (more ++ a ∷ []) ≡ branches more ++ branch_of a ∷ []
branches_grown [] a = refl
branches_grown (x ∷ xs) a = ap (λ bs. branch_of x ∷ bs) (branches_grown xs a)

-- the next arm of the list more, which is read as ys
pub branches_next : (more ys : List Arm) (i : ℕ) → ys ≡ more → i < length ys → branches (drop i more) ≡ branch_of (get_or ys i (record { data_type = 0; ctor = 0; names = 0 })) ∷ branches (drop (i + 1) more)
branches_next more ys i same h = rw (← same, drop-cons ys i (record { data_type = 0; ctor = 0; names = 0 }), add-one) refl

branches_end : (more : List Arm) (i : ℕ) → length more ≤ i → branches (drop i more) ≡ []
branches_end [] zero h = refl
branches_end [] (suc i) h = refl
branches_end (x ∷ xs) zero h = absurd (omega arith)
branches_end (x ∷ xs) (suc i) h = branches_end xs i (omega arith)

-- the heads of branches

pub heads_grown : (bs : List (branch.Branch)) (b : branch.Branch) → heads (bs ++ b ∷ []) ≡ heads bs ++ record { type = b.data_type; ctor = b.ctor; names = b.names } ∷ []
heads_grown [] b = refl
heads_grown (x ∷ xs) b = ap (λ hs. record { type = x.data_type; ctor = x.ctor; names = x.names } ∷ hs) (heads_grown xs b)

pub heads_next : (bs ys : List (branch.Branch)) (i : ℕ) (b : branch.Branch) → ys ≡ bs → i < length ys → b ≡ get_or ys i b → heads (drop i bs) ≡ record { type = b.data_type; ctor = b.ctor; names = b.names } ∷ heads (drop (i + 1) bs)
heads_next bs ys i b same h e = rw (← same, drop-cons ys i b, ← e, add-one) refl

heads_end : (bs : List (branch.Branch)) (i : ℕ) → length bs ≤ i → heads (drop i bs) ≡ []
heads_end [] zero h = refl
heads_end [] (suc i) h = refl
heads_end (x ∷ xs) zero h = absurd (omega arith)
heads_end (x ∷ xs) (suc i) h = heads_end xs i (omega arith)

-- all branches have become arms
pub arms_all : (bs : List (branch.Branch)) (made : List Arm) (i : ℕ) → length bs ≤ i → branches made ++ heads (drop i bs) ≡ heads bs → branches made ≡ heads bs
arms_all bs made i h e = sym (append-nil (branches made)) ∙ ap (λ hs. branches made ++ hs) (sym (heads_end bs i h)) ∙ e

-- the bodies of these branches before other terms
abbrev pub bodies_before : List (branch.Branch) → Tms → Tms
bodies_before [] us = us
bodies_before (b ∷ bs) us = cons b.body.value (bodies_before bs us)

pub bodies_grown : (bs : List (branch.Branch)) (b : branch.Branch) (us : Tms) → bodies_before (bs ++ b ∷ []) us ≡ bodies_before bs (cons b.body.value us)
bodies_grown [] b us = refl
bodies_grown (x ∷ xs) b us = ap (λ vs. cons x.body.value vs) (bodies_grown xs b us)

bodies_all : (bs : List (branch.Branch)) → bodies_before bs nil ≡ bodies bs
bodies_all [] = refl
bodies_all (x ∷ xs) = ap (λ vs. cons x.body.value vs) (bodies_all xs)

pub case_made : {Z : Type 0} (more : List Arm) (made : List (branch.Branch)) (i : ℕ) (rest : List (Rc Tm Z)) (s t : Tm) (us : Tms)
    → length more ≤ i → length rest ≡ 0 → heads made ++ branches (drop i more) ≡ branches more → cons s (cons t (bodies_before made (listed rest nil))) ≡ us
    → node (CaseH (heads made)) (cons s (cons t (bodies made))) ≡ node (CaseH (branches more)) us
case_made more made i (r ∷ rs) s t us h e f g = absurd (omega (arith, e))
case_made more made i [] s t us h e f g =
    let hs : heads made ≡ branches more = sym (append-nil (heads made)) ∙ ap (λ xs. heads made ++ xs) (sym (branches_end more i h)) ∙ f in
    ap₂ (λ xs ws. node (CaseH xs) ws) hs (ap (λ ws. cons s (cons t ws)) (sym (bodies_all made)) ∙ g)

-- how many parts there are

pub definitions_count : (ds : List Definition) (us : Tms) → length_of (definitions ds us) ≡ 2 * length ds + length_of us
definitions_count [] us = omega arith
definitions_count (d ∷ ds) us = omega (arith, definitions_count ds us)

pub listed_count : {Z : Type 0} (ts : List (Rc Tm Z)) (us : Tms) → length_of (listed ts us) ≡ length ts + length_of us
listed_count [] us = omega arith
listed_count (t ∷ ts) us = omega (arith, listed_count ts us)

pub bodies_count : (bs : List (branch.Branch)) → length_of (bodies bs) ≡ length (heads bs)
bodies_count [] = refl
bodies_count (b ∷ bs) = omega (arith, bodies_count bs)

pub branches_count : (more : List Arm) → length (branches more) ≡ length more
branches_count [] = refl
branches_count (a ∷ more) = omega (arith, branches_count more)

pub case_fits : (bs : List (branch.Branch)) (t u : Tm) (r : Result Shape NoMemory) → IfOk r (λ s. head_of s ≡ CaseH (heads bs))
    → IfOk r (λ s. Fits (head_of s) (length_of (cons t (cons u (bodies bs)))))
case_fits bs t u (Err e) h = tt
case_fits bs t u (Ok s) h = rw h (omega (arith, bodies_count bs))
