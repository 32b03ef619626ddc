-- A stack of meanings whose topmost ones are taken and make way for that of their phrase.
use Rattle.std.proofs.Common.{◌≡◌, ◌∙◌, refl, ap, sym, ℕ, Bool, List, [], ◌∷◌, drop, map, Option, Some, None}
use Rattle.std.specs.Prelude.{Box}
use Rattle.std.specs.declared.alloc.Global.{Global}
use Rattle.cf_base.specs.declared.at.At.{At}
use Rattle.cf_tree.specs.declared.forms.Branch.{Branch}
use Rattle.cf_tree.specs.declared.heads.Head.TheVariants as head
use Rattle.cf_tree.specs.Tree.{Plain, Tree, branch, part, tree}
use Rattle.cf_tree.specs.View.{Text, binder_of, binders_of, branches}
use Rattle.cf_parse.proofs.Taken.{eight, five, four, made, name_class, one, retold, seven, three, two}
use Rattle.cf_parse.specs.Evaluation.{first_token, firsts}
use Rattle.cf_parse.specs.Kinds as kind
use Rattle.cf_parse.specs.Kinds.{Kind, Fits, AllFit}
use Rattle.cf_syntax.specs.Places.{IsName}
use Rattle.cf_parse.specs.Meaning.{Action, Sem, arms_in, binders_in, or_missing, type_or}
use Rattle.cf_parse.specs.Meaning as meant
use Rattle.cf_syntax.specs.Tokens.{Token}
use Rattle.cf_parse.specs.Values.{Taken, arm_of, binder_sem, listed, optional_term, term_of, tree_in}

-- so many values were taken, one after the other, and what an action makes of their meanings takes their place
pub of_one : (f : Action) (p : At) {j1 : Kind} {a0 a1 m : List Sem} {v1 x1 z : Sem} → AllFit (j1 ∷ []) a0 → Taken j1 a0 v1 a1 → (Fits j1 v1 → v1 ≡ x1) → m ≡ z ∷ a1 → z ≡ f p (x1 ∷ []) → m ≡ f p (firsts 1 a0) ∷ drop 1 a0
of_one f p h s1 g1 e is = made (λ l. f p (firsts 1 l) ∷ drop 1 l) e is (one h (retold s1 g1)).0 refl

pub of_two : (f : Action) (p : At) {j1 j2 : Kind} {a0 a1 a2 m : List Sem} {v1 v2 x1 x2 z : Sem} → AllFit (j1 ∷ j2 ∷ []) a0 → Taken j1 a0 v1 a1 → Taken j2 a1 v2 a2 → (Fits j1 v1 → v1 ≡ x1) → (Fits j2 v2 → v2 ≡ x2) → m ≡ z ∷ a2 → z ≡ f p (x1 ∷ x2 ∷ []) → m ≡ f p (firsts 2 a0) ∷ drop 2 a0
of_two f p h s1 s2 g1 g2 e is = made (λ l. f p (firsts 2 l) ∷ drop 2 l) e is (two h (retold s1 g1) (retold s2 g2)).0 refl

pub of_three : (f : Action) (p : At) {j1 j2 j3 : Kind} {a0 a1 a2 a3 m : List Sem} {v1 v2 v3 x1 x2 x3 z : Sem} → AllFit (j1 ∷ j2 ∷ j3 ∷ []) a0 → Taken j1 a0 v1 a1 → Taken j2 a1 v2 a2 → Taken j3 a2 v3 a3 → (Fits j1 v1 → v1 ≡ x1) → (Fits j2 v2 → v2 ≡ x2) → (Fits j3 v3 → v3 ≡ x3) → m ≡ z ∷ a3 → z ≡ f p (x1 ∷ x2 ∷ x3 ∷ []) → m ≡ f p (firsts 3 a0) ∷ drop 3 a0
of_three f p h s1 s2 s3 g1 g2 g3 e is = made (λ l. f p (firsts 3 l) ∷ drop 3 l) e is (three h (retold s1 g1) (retold s2 g2) (retold s3 g3)).0 refl

pub of_four : (f : Action) (p : At) {j1 j2 j3 j4 : Kind} {a0 a1 a2 a3 a4 m : List Sem} {v1 v2 v3 v4 x1 x2 x3 x4 z : Sem} → AllFit (j1 ∷ j2 ∷ j3 ∷ j4 ∷ []) a0 → Taken j1 a0 v1 a1 → Taken j2 a1 v2 a2 → Taken j3 a2 v3 a3 → Taken j4 a3 v4 a4 → (Fits j1 v1 → v1 ≡ x1) → (Fits j2 v2 → v2 ≡ x2) → (Fits j3 v3 → v3 ≡ x3) → (Fits j4 v4 → v4 ≡ x4) → m ≡ z ∷ a4 → z ≡ f p (x1 ∷ x2 ∷ x3 ∷ x4 ∷ []) → m ≡ f p (firsts 4 a0) ∷ drop 4 a0
of_four f p h s1 s2 s3 s4 g1 g2 g3 g4 e is = made (λ l. f p (firsts 4 l) ∷ drop 4 l) e is (four h (retold s1 g1) (retold s2 g2) (retold s3 g3) (retold s4 g4)).0 refl

pub of_five : (f : Action) (p : At) {j1 j2 j3 j4 j5 : Kind} {a0 a1 a2 a3 a4 a5 m : List Sem} {v1 v2 v3 v4 v5 x1 x2 x3 x4 x5 z : Sem} → AllFit (j1 ∷ j2 ∷ j3 ∷ j4 ∷ j5 ∷ []) a0 → Taken j1 a0 v1 a1 → Taken j2 a1 v2 a2 → Taken j3 a2 v3 a3 → Taken j4 a3 v4 a4 → Taken j5 a4 v5 a5 → (Fits j1 v1 → v1 ≡ x1) → (Fits j2 v2 → v2 ≡ x2) → (Fits j3 v3 → v3 ≡ x3) → (Fits j4 v4 → v4 ≡ x4) → (Fits j5 v5 → v5 ≡ x5) → m ≡ z ∷ a5 → z ≡ f p (x1 ∷ x2 ∷ x3 ∷ x4 ∷ x5 ∷ []) → m ≡ f p (firsts 5 a0) ∷ drop 5 a0
of_five f p h s1 s2 s3 s4 s5 g1 g2 g3 g4 g5 e is = made (λ l. f p (firsts 5 l) ∷ drop 5 l) e is (five h (retold s1 g1) (retold s2 g2) (retold s3 g3) (retold s4 g4) (retold s5 g5)).0 refl

pub of_seven : (f : Action) (p : At) {j1 j2 j3 j4 j5 j6 j7 : Kind} {a0 a1 a2 a3 a4 a5 a6 a7 m : List Sem} {v1 v2 v3 v4 v5 v6 v7 x1 x2 x3 x4 x5 x6 x7 z : Sem} → AllFit (j1 ∷ j2 ∷ j3 ∷ j4 ∷ j5 ∷ j6 ∷ j7 ∷ []) a0 → Taken j1 a0 v1 a1 → Taken j2 a1 v2 a2 → Taken j3 a2 v3 a3 → Taken j4 a3 v4 a4 → Taken j5 a4 v5 a5 → Taken j6 a5 v6 a6 → Taken j7 a6 v7 a7 → (Fits j1 v1 → v1 ≡ x1) → (Fits j2 v2 → v2 ≡ x2) → (Fits j3 v3 → v3 ≡ x3) → (Fits j4 v4 → v4 ≡ x4) → (Fits j5 v5 → v5 ≡ x5) → (Fits j6 v6 → v6 ≡ x6) → (Fits j7 v7 → v7 ≡ x7) → m ≡ z ∷ a7 → z ≡ f p (x1 ∷ x2 ∷ x3 ∷ x4 ∷ x5 ∷ x6 ∷ x7 ∷ []) → m ≡ f p (firsts 7 a0) ∷ drop 7 a0
of_seven f p h s1 s2 s3 s4 s5 s6 s7 g1 g2 g3 g4 g5 g6 g7 e is = made (λ l. f p (firsts 7 l) ∷ drop 7 l) e is (seven h (retold s1 g1) (retold s2 g2) (retold s3 g3) (retold s4 g4) (retold s5 g5) (retold s6 g6) (retold s7 g7)) refl

pub of_eight : (f : Action) (p : At) {j1 j2 j3 j4 j5 j6 j7 j8 : Kind} {a0 a1 a2 a3 a4 a5 a6 a7 a8 m : List Sem} {v1 v2 v3 v4 v5 v6 v7 v8 x1 x2 x3 x4 x5 x6 x7 x8 z : Sem} → AllFit (j1 ∷ j2 ∷ j3 ∷ j4 ∷ j5 ∷ j6 ∷ j7 ∷ j8 ∷ []) a0 → Taken j1 a0 v1 a1 → Taken j2 a1 v2 a2 → Taken j3 a2 v3 a3 → Taken j4 a3 v4 a4 → Taken j5 a4 v5 a5 → Taken j6 a5 v6 a6 → Taken j7 a6 v7 a7 → Taken j8 a7 v8 a8 → (Fits j1 v1 → v1 ≡ x1) → (Fits j2 v2 → v2 ≡ x2) → (Fits j3 v3 → v3 ≡ x3) → (Fits j4 v4 → v4 ≡ x4) → (Fits j5 v5 → v5 ≡ x5) → (Fits j6 v6 → v6 ≡ x6) → (Fits j7 v7 → v7 ≡ x7) → (Fits j8 v8 → v8 ≡ x8) → m ≡ z ∷ a8 → z ≡ f p (x1 ∷ x2 ∷ x3 ∷ x4 ∷ x5 ∷ x6 ∷ x7 ∷ x8 ∷ []) → m ≡ f p (firsts 8 a0) ∷ drop 8 a0
of_eight f p h s1 s2 s3 s4 s5 s6 s7 s8 g1 g2 g3 g4 g5 g6 g7 g8 e is = made (λ l. f p (firsts 8 l) ∷ drop 8 l) e is (eight h (retold s1 g1) (retold s2 g2) (retold s3 g3) (retold s4 g4) (retold s5 g5) (retold s6 g6) (retold s7 g7) (retold s8 g8)) refl

-- the items of a list of meanings
pub binders_listed : (bs : List (Option Text)) → binders_in (listed (map binder_sem bs)) ≡ binders_of bs
binders_listed [] = refl
binders_listed (b ∷ bs) = ap (λ l. binder_of b ∷ l) (binders_listed bs)

pub arms_listed : (bs : List Branch) → arms_in (listed (map arm_of bs)) ≡ branches bs
arms_listed [] = refl
arms_listed (b ∷ bs) = ap (λ l. branch b.ctor (binders_of b.names.items) b.body.value l) (arms_listed bs)

pub type_given : (p : At) (t : Option (Box Tree Global)) → type_or p (optional_term t) ≡ or_missing p (tree_in t)
type_given p None = refl
type_given p (Some t) = refl

-- a case with its type and its arms
pub cases_made : (p : At) (t u : Tree) (ty : Option (Box Tree Global)) (bs : List Branch) (k l m n : Sem) → u ≡ tree p (Plain head.Case) (part [] t (part [] (or_missing p (tree_in ty)) (branches bs))) → term_of u ≡ meant.cases p (k ∷ term_of t ∷ optional_term ty ∷ l ∷ m ∷ listed (map arm_of bs) ∷ n ∷ [])
cases_made p t u ty bs k l m n e = ap term_of e ∙ sym (λ i. meant.term (tree p (Plain head.Case) (part [] t (part [] (type_given p ty i) (arms_listed bs i)))))

-- what a name token binds
pub name_binds : (b : Bool) (ks : List Token) (p : At) (x : List ℕ) → Fits kind.Name (first_token b ks) → IsName ks x → meant.binder (Some x) ≡ meant.named p (first_token b ks ∷ [])
name_binds b [] p x h r = elim h [ ]
name_binds b (k ∷ ks) p x h r =
    let c = name_class h in
    ap (λ y. meant.binder (Some y)) (r k ks c.0 refl c.1)
