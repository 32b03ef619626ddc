-- The names of exports so far, each with its number: one more.
use Rattle.std.proofs.Common.{◌≡◌, ◌≢◌, ℕ, ◌+◌, ◌<◌, ◌≤◌, arith, refl, sym, ap, ◌∙◌, subst, length, get_or, ◌⊎◌, inl, inr, cond}
use Rattle.std.specs.Prelude.{Bool, true, false, List, Option, Some, None, slice_get, IfSome, is_some}
use Rattle.std.specs.Str.{bytes_eq}
use Rattle.std.proofs.lemmas.Slice.Eq.{bytes_eq-Decides}
use Rattle.std.proofs.lemmas.Option.{slice_get_read, slice_get_past}
use Rattle.std.proofs.lemmas.Bool.{cases_lt}
use Rattle.wb_valid.specs.Syntax.{Export, Module}
use Rattle.wb_syntax.specs.Typing.{ExportOf, IsValid, IsThere, IsNewName}
use Rattle.wb_valid.proofs.Scanning.{passed, stopped}

-- the name that is kept for a number is that of the export with this number, which is one of the first so many
abbrev pub IsKept : List Export → ℕ → List ℕ → ℕ → Type 0
IsKept exports count name e = (x : Export) × (e < count) × (slice_get exports e ≡ Some x) × (x.name ≡ name)

some_same : (x y : ℕ) → Some x ≡ Some y → x ≡ y
some_same x y e = cc

some_none : (x : ℕ) → Some x ≡ None → ⊥
some_none x e = cc

later : (exports : List Export) (at : ℕ) (name : List ℕ) (e : ℕ) → IsKept exports at name e → IsKept exports (at + 1) name e
later exports at name e k = (k.0, omega (arith, k.1), k.2, k.3)

kept_at : (exports : List Export) (at : ℕ) (x : Export) (old : Option ℕ) (name : List ℕ) (e : ℕ) → slice_get exports at ≡ Some x → (old ≡ Some e → IsKept exports at name e) → (b : Bool) → (b ≡ true → x.name ≡ name) → cond b (Some at) old ≡ Some e → IsKept exports (at + 1) name e
kept_at exports at x old name e s kept true same h =
    let i : at ≡ e = some_same at e h in
    (x, omega (arith, i), ap (slice_get exports) (sym i) ∙ s, same refl)
kept_at exports at x old name e s kept false same h = later exports at name e (kept h)

pub kept_more : (exports : List Export) (at : ℕ) (x : Export) (old new : List ℕ → Option ℕ) → at < length exports → x ≡ get_or exports at x → ((q : List ℕ) → new q ≡ cond (bytes_eq x.name q) (Some at) (old q)) → ((name : List ℕ) (e : ℕ) → old name ≡ Some e → IsKept exports at name e) → (name : List ℕ) (e : ℕ) → new name ≡ Some e → IsKept exports (at + 1) name e
kept_more exports at x old new l g updates kept name e h =
    kept_at exports at x (old name) name e (slice_get_read exports (length exports) at x refl l g) (kept name e) (bytes_eq x.name name) (λ t. (bytes_eq-Decides x.name name).0 t) (sym (updates name) ∙ h)

new_at : (exports : List Export) (at : ℕ) (x : Export) (old : Option ℕ) (name : List ℕ) → at < length exports → x ≡ get_or exports at x → (old ≡ None → (d : ℕ) → d < at → IfSome (slice_get exports d) (λ (y : Export). y.name ≢ name)) → (b : Bool) → (x.name ≡ name → b ≡ true) → cond b (Some at) old ≡ None → (d : ℕ) → d < at + 1 → IfSome (slice_get exports d) (λ (y : Export). y.name ≢ name)
new_at exports at x old name l g others true same h d m = absurd (some_none at h)
new_at exports at x old name l g others false same h d m =
    passed (λ (y : Export). y.name ≢ name) exports at x l g (λ e. let f : false ≡ true = same e in let never : ⊥ = cc in never) (others h) d m

pub new_more : (exports : List Export) (at : ℕ) (x : Export) (old new : List ℕ → Option ℕ) → at < length exports → x ≡ get_or exports at x → ((q : List ℕ) → new q ≡ cond (bytes_eq x.name q) (Some at) (old q)) → ((name : List ℕ) → old name ≡ None → (d : ℕ) → d < at → IfSome (slice_get exports d) (λ (y : Export). y.name ≢ name)) → (name : List ℕ) → new name ≡ None → (d : ℕ) → d < at + 1 → IfSome (slice_get exports d) (λ (y : Export). y.name ≢ name)
new_more exports at x old new l g updates others name h d m =
    new_at exports at x (old name) name l g (others name) (bytes_eq x.name name) (λ e. (bytes_eq-Decides x.name name).1 e) (sym (updates name) ∙ h) d m

-- an earlier export has the name
pub name_is_taken : (exports : List Export) (at : ℕ) (name : List ℕ) (e : ℕ) → IsKept exports at name e → ((d : ℕ) → d < at → IfSome (slice_get exports d) (λ (y : Export). y.name ≢ name)) → ⊥
name_is_taken exports at name e k others = subst (λ o. IfSome o (λ (y : Export). y.name ≢ name)) k.2 (others e k.1) k.3

-- ---- the scan over exports

is_there_some : (o : Option ℕ) → is_some o ≡ true → (e : ℕ) × (o ≡ Some e)
is_there_some None h = cc
is_there_some (Some e) h = (e, refl)

is_none : (o : Option ℕ) → is_some o ≡ false → o ≡ None
is_none None h = refl
is_none (Some e) h = cc

-- an export whose name is kept already is not valid
pub taken_stops : (m : Module) (xs : List Export) (at : ℕ) (x : Export) (key : List ℕ) (o : Option ℕ) (old : List ℕ → Option ℕ) → xs ≡ m.exports → at < length xs → x ≡ get_or xs at x → key ≡ x.name → o ≡ old key → is_some o ≡ true → ((name : List ℕ) (e : ℕ) → old name ≡ Some e → IsKept m.exports at name e) → IsValid m (ExportOf at) → ⊥
taken_stops m xs at x key o old s l g k f t kept =
    let e = is_there_some o t in
    let found : old x.name ≡ Some e.0 = ap old (sym k) ∙ sym f ∙ e.1 in
    stopped (λ (y : Export). IsThere m y.what × IsNewName m at y.name) m.exports at x (subst (λ ys. at < length ys) s l) (subst (λ ys. x ≡ get_or ys at x) s g) (λ p. name_is_taken m.exports at x.name e.0 (kept x.name e.0 found) p.1)

export_at : (m : Module) (at k : ℕ) (x : Export) → slice_get m.exports at ≡ Some x → IsThere m x.what → IsNewName m at x.name → ((j : ℕ) → j < at → IsValid m (ExportOf j)) → k < at + 1 → ((k < at) ⊎ (at ≤ k)) → IsValid m (ExportOf k)
export_at m at k x e there fresh before l (inl less) = before k less
export_at m at k x e there fresh before l (inr more) =
    let same : at ≡ k = omega arith in
    let here : IsValid m (ExportOf at) = subst (λ o. IfSome o (λ (y : Export). IsThere m y.what × IsNewName m at y.name)) (sym e) (there, fresh) in
    subst (λ j. IsValid m (ExportOf j)) same here

-- an export whose object is there and whose name is new is valid
pub valid_more : (m : Module) (xs : List Export) (at : ℕ) (x : Export) (key : List ℕ) (o : Option ℕ) (old : List ℕ → Option ℕ) → xs ≡ m.exports → at < length xs → x ≡ get_or xs at x → key ≡ x.name → o ≡ old key → is_some o ≡ false → IsThere m x.what → ((name : List ℕ) → old name ≡ None → (d : ℕ) → d < at → IfSome (slice_get m.exports d) (λ (y : Export). y.name ≢ name)) → ((j : ℕ) → j < at → IsValid m (ExportOf j)) → (k : ℕ) → k < at + 1 → IsValid m (ExportOf k)
valid_more m xs at x key o old s l g n f t there fresh before k less =
    export_at m at k x (slice_get_read m.exports (length m.exports) at x refl (subst (λ ys. at < length ys) s l) (subst (λ ys. x ≡ get_or ys at x) s g)) there (fresh x.name (ap old (sym n) ∙ sym f ∙ is_none o t)) before less (cases_lt k at)

export_or_past : (m : Module) (n : ℕ) → ((k : ℕ) → k < length m.exports → IsValid m (ExportOf k)) → ((n < length m.exports) ⊎ (length m.exports ≤ n)) → IsValid m (ExportOf n)
export_or_past m n all (inl l) = all n l
export_or_past m n all (inr l) = subst (λ o. IfSome o (λ (y : Export). IsThere m y.what × IsNewName m n y.name)) (sym (slice_get_past m.exports n l)) tt

-- all exports were passed
pub all_exports : (m : Module) (xs : List Export) (at : ℕ) → xs ≡ m.exports → length xs ≤ at → ((k : ℕ) → k < at → IsValid m (ExportOf k)) → (n : ℕ) → IsValid m (ExportOf n)
all_exports m xs at s l all n = export_or_past m n (λ k less. all k (omega (arith, ap length s, less, l))) (cases_lt n (length m.exports))
