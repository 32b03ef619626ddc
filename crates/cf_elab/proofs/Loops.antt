-- The steps of the loops over parts, definitions and branches, and the forms that are made of them.
use Rattle.std.proofs.Common.{◌≡◌, refl, ap, sym, ◌∙◌, subst, ℕ, ◌+◌, ◌≤◌, ◌<◌, List, [], ◌∷◌, ◌++◌, Some, None, Ok, Err, length, drop, get_or, append_assoc}
use Rattle.std.specs.Prelude.{Result, IfErr}
use Rattle.std.specs.Result.{IsErrAnd}
use Rattle.std.specs.declared.rc.Rc.{Rc}
use Rattle.cf_base.specs.declared.at.At.{At}
use Rattle.cf_term.specs.Core.{Tm, node, Tms, nil, cons, LetRecH, DataH}
use Rattle.cf_term.specs.View.{listed, heads, bodies, definitions as core_definitions}
use Rattle.cf_term.specs.declared.forms.Branch as core
use Rattle.cf_term.specs.declared.forms.Definition as core_definition
use Rattle.cf_tree.specs.declared.heads.Head.TheVariants as head
use Rattle.cf_tree.specs.Tree.{Named, Binder, Tree, Trees, tree, none, part, branch, DataAt, ConAt}
use Rattle.cf_tree.specs.View.{one_each, definitions, branches, variables, binders_of}
use Rattle.cf_tree.specs.declared.forms.Branch.{Branch}
use Rattle.cf_tree.specs.declared.forms.Definition.{Definition}
use Rattle.cf_elab.specs.declared.ends.NameEnd.{NameEnd}
use Rattle.cf_elab.specs.declared.numbers.CtorNumber.{CtorNumber}
use Rattle.cf_elab.specs.Scope.{Globals, under, type_of, ctor_of}
use Rattle.cf_elab.specs.Resolving.{Resolved, As, Resolving, pure, and_then, or_unknown, with_holes}
use Rattle.cf_elab.specs.Forms as forms
use Rattle.cf_elab.specs.Core.{resolve, resolve_all, constructed}
use Rattle.cf_elab.specs.Refusals.{Refuses}
use Rattle.cf_elab.specs.Steps.{MakesHoles, Leads, ReadsFront, RefusesFront, ReadsForm, RefusesForm, Read, bodies_before}
use Rattle.cf_elab.proofs.Fronts.{listed_push, pure_right, refuses_first, leads_child, more, none_left, stuck, definitions_push, definitions_count, heads_push, bodies_push, bodies_all}

-- an answer that passes an error on
pub err_is : {A E : Type 0} (r : Result A E) (P : E → Type 0) (e : E) → IsErrAnd r (λ x. x ≡ e) → P e → IfErr r P
err_is (Ok a) P e h p = tt
err_is (Err x) P e h p = subst P (sym h) p

module _ (g : Globals) (ls : List Binder) where
  pub refuses_child : (bs : List Binder) (x : Tree) (us : Trees) (k : ℕ) (e : NameEnd) → Refuses (resolve g (under bs ls) x k) e → Refuses (resolve_all g ls (part bs x us) k) e
  refuses_child bs x us k e h = refuses_first (resolve g (under bs ls) x k) (λ u n. and_then (resolve_all g ls us n) (λ r. pure (r.0, cons u r.1))) e h

  -- some parts
  abbrev pub EachSoFar : {Z : Type 0} → List Tree → (k : ℕ) → List (Rc Tm Z) → (i k' : ℕ) → Type 0
  EachSoFar ts k rs i k' = (us : Trees) → Leads g ls (one_each ts us) k (λ p. (p.0, listed rs p.1)) (one_each (drop i ts) us) k'

  pub each_init : {Z : Type 0} (ts : List Tree) (k : ℕ) (rs : List (Rc Tm Z)) → rs ≡ [] → EachSoFar ts k rs 0 k
  each_init ts k rs e us =
      pure_right (resolve_all g ls (one_each ts us) k) ∙ (λ i. and_then (resolve_all g ls (one_each ts us) k) (λ r. pure (r.0, listed (sym e i) r.1)))

  pub each_more : {Z : Type 0} (ls' : List Binder) (ts ys : List Tree) (i : ℕ) (x : Tree) (k k' k'' : ℕ) (rs rs' : List (Rc Tm Z)) (r : Rc Tm Z)
      → ys ≡ ts → i < length ys → x ≡ get_or ys i x → ls' ≡ ls → rs' ≡ rs ++ r ∷ [] → EachSoFar ts k rs i k' → resolve g ls' x k' ≡ As r.value k'' → EachSoFar ts k rs' (i + 1) k''
  each_more ls' ts ys i x k k' k'' rs rs' r same h here e e' before read us =
      let put : Read → Read = λ p. (p.0, listed rs p.1) in
      let put' : Read → Read = λ p. (p.0, cons r.value p.1) in
      let put'' : Read → Read = λ p. (p.0, listed rs' p.1) in
      let F : List Tree → Trees = λ zs. one_each zs us in
      let h' : i < length ts = subst (λ zs. i < length zs) same h in
      let here' : x ≡ get_or ts i x = here ∙ ap (λ zs. get_or zs i x) same in
      let read' : resolve g ls x k' ≡ As r.value k'' = ap (λ l. resolve g l x k') (sym e) ∙ read in
      more g ls F ts i x (one_each ts us) k k' k'' put put' put'' h' here' (λ p j. (p.0, (sym (listed_push rs r p.1) ∙ ap (λ zs. listed zs p.1) (sym e')) j)) (before us)
      (leads_child g ls [] x (one_each (drop (i + 1) ts) us) k' r.value k'' read')

  pub each_stuck : {Z : Type 0} (ls' : List Binder) (ts ys : List Tree) (i : ℕ) (x : Tree) (k k' : ℕ) (rs : List (Rc Tm Z)) (e : NameEnd)
      → ys ≡ ts → i < length ys → x ≡ get_or ys i x → ls' ≡ ls → EachSoFar ts k rs i k' → Refuses (resolve g ls' x k') e → RefusesFront g ls (one_each ts) k e
  each_stuck ls' ts ys i x k k' rs e same h here same' before wrong us =
      stuck g ls (λ zs. one_each zs us) ts i x (one_each ts us) k k' (λ p. (p.0, listed rs p.1)) e (subst (λ zs. i < length zs) same h) (here ∙ ap (λ zs. get_or zs i x) same) (before us)
      (refuses_child [] x (one_each (drop (i + 1) ts) us) k' e (subst (λ l. Refuses (resolve g l x k') e) same' wrong))

  pub each_done : {Z : Type 0} (ts ys : List Tree) (i k k' : ℕ) (rs : List (Rc Tm Z)) → ys ≡ ts → length ys ≤ i → EachSoFar ts k rs i k' → ReadsFront g ls (one_each ts) k (λ p. (p.0, listed rs p.1)) k'
  each_done ts ys i k k' rs same h before us =
      none_left g ls (λ zs. one_each zs us) ts i (one_each ts us) k k' (λ p. (p.0, listed rs p.1)) (subst (λ zs. length zs ≤ i) same h) (before us)

  -- the definitions of a `letrec`
  abbrev pub DefinedSoFar : List Definition → (k : ℕ) → List core_definition.Definition → (i k' : ℕ) → Type 0
  DefinedSoFar ds k rs i k' =
      (us : Trees) → Leads g ls (definitions (variables ds) ds us) k (λ p. (p.0, core_definitions rs p.1)) (definitions (variables ds) (drop i ds) us) k'

  pub defined_init : (ds : List Definition) (k : ℕ) (rs : List core_definition.Definition) → rs ≡ [] → DefinedSoFar ds k rs 0 k
  defined_init ds k rs e us =
      pure_right (resolve_all g ls (definitions (variables ds) ds us) k)
      ∙ (λ i. and_then (resolve_all g ls (definitions (variables ds) ds us) k) (λ r. pure (r.0, core_definitions (sym e i) r.1)))

  pub defined_more : (ls' : List Binder) (ds ys : List Definition) (i : ℕ) (d : Definition) (k k' k'' : ℕ) (rs rs' : List core_definition.Definition) (r : core_definition.Definition)
      → ys ≡ ds → i < length ys → d ≡ get_or ys i d → ls' ≡ ls → rs' ≡ rs ++ r ∷ [] → DefinedSoFar ds k rs i k'
      → ReadsFront g ls' (λ us. part [] d.ty.value (part (variables ds) d.value.value us)) k' (λ p. (p.0, cons r.ty.value (cons r.value.value p.1))) k'' → DefinedSoFar ds k rs' (i + 1) k''
  defined_more ls' ds ys i d k k' k'' rs rs' r same h here e e' before read us =
      let bs = variables ds in
      let put : Read → Read = λ p. (p.0, core_definitions rs p.1) in
      let put' : Read → Read = λ p. (p.0, cons r.ty.value (cons r.value.value p.1)) in
      let put'' : Read → Read = λ p. (p.0, core_definitions rs' p.1) in
      let F : List Definition → Trees = λ zs. definitions bs zs us in
      let read' : ReadsFront g ls (λ us. part [] d.ty.value (part bs d.value.value us)) k' put' k'' = subst (λ l. ReadsFront g l (λ us. part [] d.ty.value (part bs d.value.value us)) k' put' k'') e read in
      more g ls F ds i d (definitions bs ds us) k k' k'' put put' put'' (subst (λ zs. i < length zs) same h) (here ∙ ap (λ zs. get_or zs i d) same)
      (λ p j. (p.0, (definitions_push rs r p.1 ∙ ap (λ zs. core_definitions zs p.1) (sym e')) j)) (before us) (read' (definitions bs (drop (i + 1) ds) us))

  pub defined_stuck : (ls' : List Binder) (ds ys : List Definition) (i : ℕ) (d : Definition) (k k' : ℕ) (rs : List core_definition.Definition) (e : NameEnd)
      → ys ≡ ds → i < length ys → d ≡ get_or ys i d → ls' ≡ ls → DefinedSoFar ds k rs i k' → RefusesFront g ls' (λ us. part [] d.ty.value (part (variables ds) d.value.value us)) k' e
      → RefusesFront g ls (definitions (variables ds) ds) k e
  defined_stuck ls' ds ys i d k k' rs e same h here same' before wrong us =
      let bs = variables ds in
      stuck g ls (λ zs. definitions bs zs us) ds i d (definitions bs ds us) k k' (λ p. (p.0, core_definitions rs p.1)) e (subst (λ zs. i < length zs) same h) (here ∙ ap (λ zs. get_or zs i d) same) (before us)
      (subst (λ l. RefusesFront g l (λ us. part [] d.ty.value (part bs d.value.value us)) k' e) same' wrong (definitions bs (drop (i + 1) ds) us))

  pub defined_done : (ds ys : List Definition) (i k k' : ℕ) (rs : List core_definition.Definition)
      → ys ≡ ds → length ys ≤ i → DefinedSoFar ds k rs i k' → ReadsFront g ls (definitions (variables ds) ds) k (λ p. (p.0, core_definitions rs p.1)) k'
  defined_done ds ys i k k' rs same h before us =
      none_left g ls (λ zs. definitions (variables ds) zs us) ds i (definitions (variables ds) ds us) k k' (λ p. (p.0, core_definitions rs p.1)) (subst (λ zs. length zs ≤ i) same h) (before us)

  pub letrec_read : (ls' : List Binder) (ds : List Definition) (t : Tree) (k k' k'' : ℕ) (rs : List core_definition.Definition) (u : Tm)
      → ls' ≡ ls → ReadsFront g ls (definitions (variables ds) ds) k (λ p. (p.0, core_definitions rs p.1)) k' → resolve g (under (variables ds) ls') t k' ≡ As u k''
      → ReadsForm g ls head.LetRec (definitions (variables ds) ds (part (variables ds) t none)) k (node (LetRecH (length rs)) (core_definitions rs (cons u nil))) k''
  letrec_read ls' ds t k k' k'' rs u e front last =
      let bs = variables ds in
      let last' = leads_child g ls bs t none k' u k'' (ap (λ l. resolve g (under bs l) t k') (sym e) ∙ last) in
      ap (λ r. and_then r (λ r. forms.formed head.LetRec r.0 r.1)) (front (part bs t none) ∙ ap (λ r. and_then r (λ r. pure (r.0, core_definitions rs r.1))) last')
      ∙ ap (λ n. As (node (LetRecH n) (core_definitions rs (cons u nil))) k'') (definitions_count rs u)

  pub letrec_refused : (ds : List Definition) (us : Trees) (k : ℕ) (e : NameEnd)
      → RefusesFront g ls (definitions (variables ds) ds) k e → RefusesForm g ls head.LetRec (definitions (variables ds) ds us) k e
  letrec_refused ds us k e h = refuses_first (resolve_all g ls (definitions (variables ds) ds us) k) (λ r. forms.formed head.LetRec r.0 r.1) e (h us)

  -- the branches of a `case`
  abbrev pub BranchesSoFar : List Branch → (k : ℕ) → List (core.Branch) → (i k' : ℕ) → Type 0
  BranchesSoFar bs k rs i k' = Leads g ls (branches bs) k (λ p. (heads rs ++ p.0, bodies_before rs p.1)) (branches (drop i bs)) k'

  pub branches_init : (bs : List Branch) (k : ℕ) (rs : List (core.Branch)) → rs ≡ [] → BranchesSoFar bs k rs 0 k
  branches_init bs k rs e =
      pure_right (resolve_all g ls (branches bs) k) ∙ (λ i. and_then (resolve_all g ls (branches bs) k) (λ p. pure (heads (sym e i) ++ p.0, bodies_before (sym e i) p.1)))

  pub branches_more : (ls' : List Binder) (bs ys : List Branch) (i : ℕ) (b : Branch) (k k' k'' : ℕ) (rs rs' : List (core.Branch)) (r : core.Branch)
      → ys ≡ bs → i < length ys → b ≡ get_or ys i b → ls' ≡ ls → rs' ≡ rs ++ r ∷ [] → BranchesSoFar bs k rs i k'
      → ReadsFront g ls' (branch b.ctor (binders_of b.names.items) b.body.value) k' (λ p. (record { type = r.data_type; ctor = r.ctor; names = r.names } ∷ p.0, cons r.body.value p.1)) k''
      → BranchesSoFar bs k rs' (i + 1) k''
  branches_more ls' bs ys i b k k' k'' rs rs' r same h here e e' before read =
      let put : Read → Read = λ p. (heads rs ++ p.0, bodies_before rs p.1) in
      let put' : Read → Read = λ p. (record { type = r.data_type; ctor = r.ctor; names = r.names } ∷ p.0, cons r.body.value p.1) in
      let put'' : Read → Read = λ p. (heads rs' ++ p.0, bodies_before rs' p.1) in
      let read' = subst (λ l. ReadsFront g l (branch b.ctor (binders_of b.names.items) b.body.value) k' put' k'') e read in
      more g ls branches bs i b (branches bs) k k' k'' put put' put'' (subst (λ zs. i < length zs) same h) (here ∙ ap (λ zs. get_or zs i b) same)
      (λ p j. (
        (sym (append_assoc (heads rs) (record { type = r.data_type; ctor = r.ctor; names = r.names } ∷ []) p.0) ∙ ap (λ hs. hs ++ p.0) (sym (heads_push rs r) ∙ ap heads (sym e'))) j,
        (bodies_push rs r p.1 ∙ ap (λ zs. bodies_before zs p.1) (sym e')) j,
      )) before (read' (branches (drop (i + 1) bs)))

  pub branches_stuck : (ls' : List Binder) (bs ys : List Branch) (i : ℕ) (b : Branch) (k k' : ℕ) (rs : List (core.Branch)) (e : NameEnd)
      → ys ≡ bs → i < length ys → b ≡ get_or ys i b → ls' ≡ ls → BranchesSoFar bs k rs i k' → RefusesFront g ls' (branch b.ctor (binders_of b.names.items) b.body.value) k' e
      → Refuses (resolve_all g ls (branches bs) k) e
  branches_stuck ls' bs ys i b k k' rs e same h here same' before wrong =
      stuck g ls branches bs i b (branches bs) k k' (λ p. (heads rs ++ p.0, bodies_before rs p.1)) e (subst (λ zs. i < length zs) same h) (here ∙ ap (λ zs. get_or zs i b) same) before
      (subst (λ l. RefusesFront g l (branch b.ctor (binders_of b.names.items) b.body.value) k' e) same' wrong (branches (drop (i + 1) bs)))

  pub branches_done : (bs ys : List Branch) (i k k' : ℕ) (rs : List (core.Branch)) → ys ≡ bs → length ys ≤ i → BranchesSoFar bs k rs i k' → resolve_all g ls (branches bs) k ≡ As (heads rs, bodies rs) k'
  branches_done bs ys i k k' rs same h before =
      none_left g ls branches bs i (branches bs) k k' (λ p. (heads rs ++ p.0, bodies_before rs p.1)) (subst (λ zs. length zs ≤ i) same h) before
      ∙ (λ j. As (append_nil (heads rs) j, bodies_all rs j) k')
    where
      append_nil : {A : Type 0} (xs : List A) → xs ++ [] ≡ xs
      append_nil [] = refl
      append_nil (x ∷ xs) = ap (λ ys. x ∷ ys) (append_nil xs)

  pub branch_read : (ls' : List Binder) (c : Named) (bs : List Binder) (t t' : Tree) (k k' : ℕ) (n : CtorNumber) (m : ℕ) (u : Tm)
      → ctor_of g c.name ≡ Some n → ls' ≡ under bs ls → t' ≡ t → m ≡ length bs → resolve g ls' t' k ≡ As u k'
      → ReadsFront g ls (branch c bs t) k (λ p. (record { type = n.data_type; ctor = n.ctor; names = m } ∷ p.0, cons u p.1)) k'
  branch_read ls' c bs t t' k k' n m u e same same' count read us =
      let last : CtorNumber → ℕ → Tm → ℕ → Resolved Read =
      λ n m u j. and_then (resolve_all g ls us j) (λ r. pure (record { type = n.data_type; ctor = n.ctor; names = m } ∷ r.0, cons u r.1)) in
      let G : Resolved Tm → Resolved Read = λ o. and_then o (last n (length bs)) in
      let F : Resolved CtorNumber → Resolved Read = λ o. and_then o (λ n j. and_then (resolve g (under bs ls) t j) (last n (length bs))) in
      ap (λ o. F (or_unknown c.at o k)) e ∙ ap G ((λ i. resolve g (sym same i) (sym same' i) k) ∙ read) ∙ ap (λ j. last n j u k') (sym count)

  -- a data type and a constructor where a part is refused
  pub data_refused : (p : At) (d : Named) (ts : Trees) (k n : ℕ) (e : NameEnd) → type_of g d.name ≡ Some n → Refuses (resolve_all g ls ts k) e → Refuses (resolve g ls (tree p (DataAt d) ts) k) e
  data_refused p d ts k n e h wrong =
      let F = λ (o : Resolved ℕ). and_then o (λ n j. and_then (resolve_all g ls ts j) (λ r. pure (node (DataH n) r.1))) in
      subst (λ r. Refuses r e) (sym (ap (λ o. F (or_unknown d.at o k)) h)) (refuses_first (resolve_all g ls ts k) (λ r. pure (node (DataH n) r.1)) e wrong)

  pub con_refused : (p : At) (c : Named) (m : ℕ) (ts : Trees) (k : ℕ) (n : CtorNumber) (e : NameEnd)
      → ctor_of g c.name ≡ Some n → Refuses (resolve_all g ls ts k) e → Refuses (resolve g ls (tree p (ConAt c (Some m)) ts) k) e
  con_refused p c m ts k n e h wrong =
      let F = λ (o : Resolved CtorNumber). and_then o (λ n j. and_then (resolve_all g ls ts j) (λ r. pure (constructed n m r.1))) in
      subst (λ r. Refuses r e) (sym (ap (λ o. F (or_unknown c.at o k)) h)) (refuses_first (resolve_all g ls ts k) (λ r. pure (constructed n m r.1)) e wrong)

  pub fields_refused : (ls' : List Binder) (p : At) (c : Named) (m : ℕ) (ts : List Tree) (us : Trees) (k k' : ℕ) (n : CtorNumber) (put : Read → Read) (e : NameEnd)
      → ctor_of g c.name ≡ Some n → ReadsFront g ls (one_each ts) k put k' → ls' ≡ ls → Refuses (resolve_all g ls' us k') e → Refuses (resolve g ls (tree p (ConAt c (Some m)) (one_each ts us)) k) e
  fields_refused ls' p c m ts us k k' n put e h front same wrong =
      con_refused p c m (one_each ts us) k n e h
      (subst (λ r. Refuses r e) (sym (front us)) (refuses_first (resolve_all g ls us k') (λ r. pure (put r)) e (subst (λ l. Refuses (resolve_all g l us k') e) same wrong)))

  pub holes_refused : (p : At) (c : Named) (ts : Trees) (k k' : ℕ) (n : CtorNumber) (put : Tms → Tms) (e : NameEnd)
      → ctor_of g c.name ≡ Some n → MakesHoles n.params k put k' → Refuses (resolve_all g ls ts k') e → Refuses (resolve g ls (tree p (ConAt c None) ts) k) e
  holes_refused p c ts k k' n put e h made wrong =
      let m : Resolving Tms = λ j. and_then (resolve_all g ls ts j) (λ r. pure r.1) in
      let F = λ (o : Resolved CtorNumber). and_then o (λ n j. and_then (with_holes n.params m j) (λ us. pure (constructed n n.params us))) in
      subst (λ r. Refuses r e) (sym (ap (λ o. F (or_unknown c.at o k)) h ∙ ap (λ r. and_then r (λ us. pure (constructed n n.params us))) (made m)))
      (refuses_first (and_then (m k') (λ ts. pure (put ts))) (λ us. pure (constructed n n.params us)) e
      (refuses_first (m k') (λ ts. pure (put ts)) e (refuses_first (resolve_all g ls ts k') (λ r. pure r.1) e wrong)))
