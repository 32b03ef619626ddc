-- Reading parts one after the other.
use Rattle.std.proofs.Common.{◌≡◌, refl, ap, sym, ◌∙◌, subst, ℕ, zero, suc, ◌+◌, ◌≤◌, ◌<◌, max, List, [], ◌∷◌, ◌++◌, Option, length, drop, get_or, arith}
use Rattle.std.proofs.lemmas.List.{drop_more, drop_all, drop-drop}
use Rattle.std.specs.declared.rc.Rc.{Rc}
use Rattle.cf_term.specs.Core.{Tm, Tms, nil, cons}
use Rattle.cf_term.specs.Forms.{Hole}
use Rattle.cf_term.specs.View.{listed, heads, bodies, definitions as core_definitions}
use Rattle.cf_term.specs.declared.forms.Branch as core
use Rattle.cf_term.specs.declared.forms.Definition as core_definition
use Rattle.cf_elab.specs.Resolving.{Resolved, As, Unknown, Twice, Resolving, pure, and_then, with_holes}
use Rattle.cf_tree.specs.Tree.{Binder, Tree, Trees, none, part, depth, depth_all}
use Rattle.cf_tree.specs.View.{Text, one_each, definitions, branches, variables, binders_of}
use Rattle.cf_tree.specs.declared.forms.Branch.{Branch}
use Rattle.cf_tree.specs.declared.forms.Definition.{Definition}
use Rattle.cf_elab.specs.declared.ends.NameEnd.{NameEnd}
use Rattle.cf_elab.specs.declared.ends.NameEnd.TheVariants as end
use Rattle.cf_elab.specs.Scope.{Globals, under}
use Rattle.cf_elab.specs.Forms as forms
use Rattle.cf_elab.specs.Core.{resolve, resolve_all}
use Rattle.cf_elab.specs.Refusals.{Refuses}
use Rattle.cf_elab.specs.Steps.{MakesHoles, Leads, Read, bodies_before}

pub assoc : {A B C : Type 0} (r : Resolved A) (f : A → Resolving B) (h : B → Resolving C) → and_then (and_then r f) h ≡ and_then r (λ a k. and_then (f a k) h)
assoc (As a k) f h = refl
assoc (Unknown p) f h = refl
assoc (Twice p) f h = refl

pub listed_push : {Z : Type 0} (ts : List (Rc Tm Z)) (t : Rc Tm Z) (us : Tms) → listed (ts ++ t ∷ []) us ≡ listed ts (cons t.value us)
listed_push [] t us = refl
listed_push (x ∷ xs) t us = ap (cons x.value) (listed_push xs t us)

last_hole : (n : ℕ) (m : Resolving Tms) (k : ℕ) → with_holes (suc n) m k ≡ with_holes n (with_holes 1 m) k
last_hole zero m k = refl
last_hole (suc n) m k = ap (λ r. and_then r (λ ts. pure (cons (Hole k) ts))) (last_hole n m (suc k))

-- one more hole, behind the others
pub more_holes : {Z : Type 0} (n k k' : ℕ) (hs : List (Rc Tm Z)) (h : Rc Tm Z)
    → MakesHoles n k (listed hs) k' → h.value ≡ Hole k' → MakesHoles (n + 1) k (listed (hs ++ h ∷ [])) (k' + 1)
more_holes n k k' hs h made e m =
    let one : n + 1 ≡ suc n = omega arith in
    let next : k' + 1 ≡ suc k' = omega arith in
    ap (λ i. with_holes i m k) one ∙ last_hole n m k ∙ made (with_holes 1 m) ∙ assoc (m (suc k')) (λ ts. pure (cons (Hole k') ts)) (λ ts. pure (listed hs ts))
    ∙ (λ i. and_then (m (sym next i)) (λ ts. pure ((ap (λ t. listed hs (cons t ts)) (sym e) ∙ sym (listed_push hs h ts)) i)))

pub pure_right : {A : Type 0} (r : Resolved A) → r ≡ and_then r (λ a. pure a)
pure_right (As a k) = refl
pure_right (Unknown p) = refl
pure_right (Twice p) = refl

-- what refuses the first step refuses the whole
pub refuses_first : {A B : Type 0} (r : Resolved A) (f : A → Resolving B) (e : NameEnd) → Refuses r e → Refuses (and_then r f) e
refuses_first r f (end.Unknown p) h = ap (λ r. and_then r f) h
refuses_first r f (end.Twice p) h = ap (λ r. and_then r f) h
refuses_first r f end.NoMemory h = tt

module _ (g : Globals) (ls : List Binder) where
  pub leads_child : (bs : List Binder) (x : Tree) (us : Trees) (k : ℕ) (u : Tm) (k' : ℕ) → resolve g (under bs ls) x k ≡ As u k' → Leads g ls (part bs x us) k (λ r. (r.0, cons u r.1)) us k'
  leads_child bs x us k u k' e = ap (λ r. and_then r (λ u n. and_then (resolve_all g ls us n) (λ r. pure (r.0, cons u r.1)))) e

  -- one more of the elements that stand in front
  pub more : {X : Type 0} (F : List X → Trees) (xs : List X) (i : ℕ) (x : X) (a : Trees) (k k' k'' : ℕ) (put put' put'' : Read → Read)
      → i < length xs → x ≡ get_or xs i x → ((r : Read) → put (put' r) ≡ put'' r)
      → Leads g ls a k put (F (drop i xs)) k' → Leads g ls (F (x ∷ drop (i + 1) xs)) k' put' (F (drop (i + 1) xs)) k'' → Leads g ls a k put'' (F (drop (i + 1) xs)) k''
  more F xs i x a k k' k'' put put' put'' h e same before one =
      let next : drop i xs ≡ x ∷ drop (i + 1) xs = drop_more xs i x h ∙ ap (λ y. y ∷ drop (i + 1) xs) (sym e) in
      before ∙ ap (λ zs. and_then (resolve_all g ls (F zs) k') (λ r. pure (put r))) next ∙ ap (λ r. and_then r (λ r. pure (put r))) one
      ∙ assoc (resolve_all g ls (F (drop (i + 1) xs)) k'') (λ r. pure (put' r)) (λ r. pure (put r)) ∙ (λ j. and_then (resolve_all g ls (F (drop (i + 1) xs)) k'') (λ r. pure (same r j)))

  -- all of them
  pub none_left : {X : Type 0} (F : List X → Trees) (xs : List X) (i : ℕ) (a : Trees) (k k' : ℕ) (put : Read → Read) → length xs ≤ i → Leads g ls a k put (F (drop i xs)) k' → Leads g ls a k put (F []) k'
  none_left F xs i a k k' put h before = before ∙ ap (λ zs. and_then (resolve_all g ls (F zs) k') (λ r. pure (put r))) (drop_all i xs h)

  -- the next one is refused
  pub stuck : {X : Type 0} (F : List X → Trees) (xs : List X) (i : ℕ) (x : X) (a : Trees) (k k' : ℕ) (put : Read → Read) (e : NameEnd)
      → i < length xs → x ≡ get_or xs i x → Leads g ls a k put (F (drop i xs)) k' → Refuses (resolve_all g ls (F (x ∷ drop (i + 1) xs)) k') e → Refuses (resolve_all g ls a k) e
  stuck F xs i x a k k' put e h here before wrong =
      let next : drop i xs ≡ x ∷ drop (i + 1) xs = drop_more xs i x h ∙ ap (λ y. y ∷ drop (i + 1) xs) (sym here) in
      subst (λ r. Refuses r e) (sym (before ∙ ap (λ zs. and_then (resolve_all g ls (F zs) k') (λ r. pure (put r))) next))
      (refuses_first (resolve_all g ls (F (x ∷ drop (i + 1) xs)) k') (λ r. pure (put r)) e wrong)

pub definitions_push : (ds : List core_definition.Definition) (d : core_definition.Definition) (us : Tms)
    → core_definitions ds (cons d.ty.value (cons d.value.value us)) ≡ core_definitions (ds ++ d ∷ []) us
definitions_push [] d us = refl
definitions_push (x ∷ xs) d us = ap (λ ts. cons x.ty.value (cons x.value.value ts)) (definitions_push xs d us)

-- how many definitions there are
pub definitions_count : (ds : List core_definition.Definition) (u : Tm) → forms.definitions (core_definitions ds (cons u nil)) ≡ length ds
definitions_count [] u = refl
definitions_count (d ∷ ds) u = ap suc (definitions_count ds u)

pub heads_push : (bs : List (core.Branch)) (b : core.Branch) → heads (bs ++ b ∷ []) ≡ heads bs ++ record { type = b.data_type; ctor = b.ctor; names = b.names } ∷ []
heads_push [] b = refl
heads_push (x ∷ xs) b = ap (λ hs. record { type = x.data_type; ctor = x.ctor; names = x.names } ∷ hs) (heads_push xs b)

pub bodies_push : (bs : List (core.Branch)) (b : core.Branch) (us : Tms) → bodies_before bs (cons b.body.value us) ≡ bodies_before (bs ++ b ∷ []) us
bodies_push [] b us = refl
bodies_push (x ∷ xs) b us = ap (cons x.body.value) (bodies_push xs b us)

pub bodies_all : (bs : List (core.Branch)) → bodies_before bs nil ≡ bodies bs
bodies_all [] = refl
bodies_all (b ∷ bs) = ap (cons b.body.value) (bodies_all bs)

-- leaving the binders that were gone under
pub left : (bs ls : List Binder) → drop (length bs) (under bs ls) ≡ ls
left [] ls = refl
left (b ∷ bs) ls =
    let n : suc (length bs) ≡ length bs + 1 = omega arith in
    ap (λ i. drop i (under bs (b ∷ ls))) n ∙ sym (drop-drop 1 (length bs) (under bs (b ∷ ls))) ∙ ap (drop 1) (left bs (b ∷ ls))

pub binders_count : (xs : List (Option Text)) → length (binders_of xs) ≡ length xs
binders_count [] = refl
binders_count (x ∷ xs) = ap suc (binders_count xs)

pub variables_count : (ds : List Definition) → length (variables ds) ≡ length ds
variables_count [] = refl
variables_count (d ∷ ds) = ap suc (variables_count ds)

-- an element is no deeper than all of them
pub each_deep : (ts : List Tree) (i : ℕ) (t : Tree) → i < length ts → t ≡ get_or ts i t → depth t ≤ depth_all (one_each ts none)
each_deep [] i t h e = absurd (omega arith)
each_deep (x ∷ xs) zero t h e = let d : depth t ≡ depth x = ap depth e in omega (arith, d)
each_deep (x ∷ xs) (suc i) t h e = omega (arith, each_deep xs i t (omega arith) e)

pub definition_deep : (ds : List Definition) (i : ℕ) (d : Definition)
    → i < length ds → d ≡ get_or ds i d → max (depth d.ty.value) (depth d.value.value) ≤ depth_all (definitions [] ds none)
definition_deep [] i d h e = absurd (omega arith)
definition_deep (x ∷ xs) zero d h e =
    let a : depth d.ty.value ≡ depth x.ty.value = ap (λ y. depth y.ty.value) e in
    let b : depth d.value.value ≡ depth x.value.value = ap (λ y. depth y.value.value) e in
    omega (arith, a, b)
definition_deep (x ∷ xs) (suc i) d h e = omega (arith, definition_deep xs i d (omega arith) e)

pub branch_deep : (bs : List Branch) (i : ℕ) (b : Branch) → i < length bs → b ≡ get_or bs i b → depth b.body.value ≤ depth_all (branches bs)
branch_deep [] i b h e = absurd (omega arith)
branch_deep (x ∷ xs) zero b h e = let d : depth b.body.value ≡ depth x.body.value = ap (λ y. depth y.body.value) e in omega (arith, d)
branch_deep (x ∷ xs) (suc i) b h e = omega (arith, branch_deep xs i b (omega arith) e)

pub each_split : (ts : List Tree) (us : Trees) → max (depth_all (one_each ts none)) (depth_all us) ≤ depth_all (one_each ts us)
each_split [] us = omega arith
each_split (t ∷ ts) us = omega (arith, each_split ts us)

pub definitions_split : (bs cs : List Binder) (ds : List Definition) (us : Trees) → max (depth_all (definitions cs ds none)) (depth_all us) ≤ depth_all (definitions bs ds us)
definitions_split bs cs [] us = omega arith
definitions_split bs cs (d ∷ ds) us = omega (arith, definitions_split bs cs ds us)
