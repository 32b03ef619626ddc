-- What has been built of a list of parts, and the parts that are left.
use Rattle.std.proofs.Common.{◌≡◌, ℕ, zero, suc, ◌+◌, ◌≤◌, ◌<◌, List, [], ◌∷◌, ◌++◌, get_or, take, drop, length, refl, ap, arith, add-one, append-nil}
use Rattle.std.proofs.Math.Seq.{drop-cons}
use Rattle.std.proofs.lemmas.List.{length-take-le, take-append-drop}
use mathlib.Core.Path.{ap₂, sym, ◌∙◌}
use Rattle.std.specs.declared.rc.Rc.{Rc}
use Rattle.cf_term.specs.Core.{Tm, Tms, nil, cons, node, Branch, CaseH, ConH}
use Rattle.cf_term.specs.View.{listed, definitions, heads, bodies}
use Rattle.cf_term.specs.declared.forms.Branch as branch
use Rattle.cf_term.specs.declared.forms.Definition.{Definition}

pub definitions_more : (ds : List Definition) (d : Definition) (us : Tms) → definitions (ds ++ d ∷ []) us ≡ definitions ds (cons d.ty.value (cons d.value.value us))
definitions_more [] d us = refl
definitions_more (x ∷ xs) d us = ap (λ vs. cons x.ty.value (cons x.value.value vs)) (definitions_more xs d us)

module _ {Z : Type 0} where
  pub listed_more : (ts : List (Rc Tm Z)) (t : Rc Tm Z) (us : Tms) → listed (ts ++ t ∷ []) us ≡ listed ts (cons t.value us)
  listed_more [] t us = refl
  listed_more (x ∷ xs) t us = ap (λ vs. cons x.value vs) (listed_more xs t us)

  pub listed_append : (ts us : List (Rc Tm Z)) (vs : Tms) → listed (ts ++ us) vs ≡ listed ts (listed us vs)
  listed_append [] us vs = refl
  listed_append (x ∷ xs) us vs = ap (λ ws. cons x.value ws) (listed_append xs us vs)

-- the bodies of these branches before other terms
abbrev pub bodies_then : List (branch.Branch) → Tms → Tms
bodies_then [] us = us
bodies_then (b ∷ bs) us = cons b.body.value (bodies_then bs us)

pub bodies_more : (bs : List (branch.Branch)) (b : branch.Branch) (us : Tms) → bodies_then (bs ++ b ∷ []) us ≡ bodies_then bs (cons b.body.value us)
bodies_more [] b us = refl
bodies_more (x ∷ xs) b us = ap (λ vs. cons x.body.value vs) (bodies_more xs b us)

pub bodies_end : (bs : List (branch.Branch)) → bodies_then bs nil ≡ bodies bs
bodies_end [] = refl
bodies_end (x ∷ xs) = ap (λ vs. cons x.body.value vs) (bodies_end xs)

-- the heads of these branches before others
abbrev pub head : branch.Branch → Branch
head b = record { type = b.data_type; ctor = b.ctor; names = b.names }

pub heads_more : (bs : List (branch.Branch)) (b : branch.Branch) → heads (bs ++ b ∷ []) ≡ heads bs ++ head b ∷ []
heads_more [] b = refl
heads_more (x ∷ xs) b = ap (λ hs. head x ∷ hs) (heads_more xs b)

-- of the list bs, which is read as ys, the i-th branch is b
pub heads_next : (bs ys : List (branch.Branch)) (i : ℕ) (b : branch.Branch) → ys ≡ bs → i < length ys → b ≡ get_or ys i b → heads (drop i bs) ≡ head b ∷ heads (drop (i + 1) bs)
heads_next bs ys i b same h e = rw (← same, drop-cons ys i b, ← e, add-one) refl

pub heads_end : (bs : List (branch.Branch)) (i : ℕ) → length bs ≤ i → heads (drop i bs) ≡ []
heads_end [] zero h = refl
heads_end [] (suc i) h = refl
heads_end (x ∷ xs) zero h = absurd (omega arith)
heads_end (x ∷ xs) (suc i) h = heads_end xs i (omega arith)

pub case_built : {Z : Type 0} (bs made : List (branch.Branch)) (i : ℕ) (rest : List (Rc Tm Z)) (s t : Tm) (us : Tms)
    → length bs ≤ i → length rest ≡ 0 → heads made ++ heads (drop i bs) ≡ heads bs → cons s (cons t (bodies_then made (listed rest nil))) ≡ us
    → node (CaseH (heads made)) (cons s (cons t (bodies made))) ≡ node (CaseH (heads bs)) us
case_built bs made i (r ∷ rs) s t us h e f g = absurd (omega (arith, e))
case_built bs made i [] s t us h e f g =
    let hs : heads made ≡ heads bs = sym (append-nil (heads made)) ∙ ap (λ xs. heads made ++ xs) (sym (heads_end bs i h)) ∙ f in
    ap₂ (λ xs ws. node (CaseH xs) ws) hs (ap (λ ws. cons s (cons t ws)) (sym (bodies_end made)) ∙ g)

-- the first k terms are parameters, the others fields
pub con_parts : {Z : Type 0} (d c k : ℕ) (ts ps fs : List (Rc Tm Z))
    → k ≤ length ts → ps ≡ take k ts → fs ≡ drop k ts → node (ConH d c (length ps)) (listed ps (listed fs nil)) ≡ node (ConH d c k) (listed ts nil)
con_parts d c k ts ps fs h e f =
    let n : length ps ≡ k = ap length e ∙ length-take-le k ts h in
    let all : ps ++ fs ≡ ts = ap₂ (λ xs ys. xs ++ ys) e f ∙ take-append-drop k ts in
    ap₂ (λ m us. node (ConH d c m) us) n (sym (listed_append ps fs nil) ∙ ap (λ xs. listed xs nil) all)
