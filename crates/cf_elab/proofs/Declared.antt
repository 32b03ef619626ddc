-- The steps of the loops over terms, constructors and declarations.
use Rattle.std.proofs.Common.{◌≡◌, refl, ap, sym, ◌∙◌, subst, ℕ, suc, ◌+◌, ◌≤◌, ◌<◌, Bool, true, false, List, [], ◌∷◌, ◌++◌, length, drop, get_or, map, Some, append_assoc}
use Rattle.std.proofs.lemmas.List.{drop_more, drop_all}
use Rattle.cf_tree.specs.Tree.{Name, Named, Tree, CtorTree, DataD}
use Rattle.cf_tree.specs.View.{Text, ctor_of, ctors_of, decl_of, decls_of, names_of}
use Rattle.cf_tree.specs.declared.decls.CtorTree as ctor
use Rattle.cf_tree.specs.declared.decls.Decl.{Decl}
use Rattle.cf_term.specs.Core.{Tm}
use Rattle.cf_rules.specs.Programs.{Constructor, Declaration, DataC}
use Rattle.cf_rules.specs.View.{declaration, declarations}
use Rattle.cf_rules.specs.declared.programs.CoreDecl.{CoreDecl}
use Rattle.cf_elab.specs.declared.ends.NameEnd.{NameEnd}
use Rattle.cf_elab.specs.declared.ends.NameEnd.TheVariants as end
use Rattle.cf_elab.specs.Scope.{Globals, is_taken, settled, under, with_own, with_type, with_variable}
use Rattle.cf_elab.specs.Resolving.{Resolved, As, Twice, Resolving, pure, and_then, each}
use Rattle.cf_elab.specs.Core.{resolve, new_name, declare, declare_ctors, declare_all}
use Rattle.cf_elab.specs.Refusals.{Refuses, IsTwice}
use Rattle.cf_elab.specs.Declaring.{DeclaresCtor, RefusesCtor}
use Rattle.cf_elab.proofs.Fronts.{assoc, pure_right, refuses_first}

pub append_nil : {A : Type 0} (xs : List A) → xs ++ [] ≡ xs
append_nil [] = refl
append_nil (x ∷ xs) = ap (λ ys. x ∷ ys) (append_nil xs)

-- an element of a list, with those behind it
pub next : {X : Type 0} (xs ys : List X) (i : ℕ) (x : X) → ys ≡ xs → i < length ys → x ≡ get_or ys i x → drop i xs ≡ x ∷ drop (i + 1) xs
next xs ys i x e h here = sym (ap (drop i) e) ∙ drop_more ys i x h ∙ (λ j. sym here j ∷ drop (i + 1) (e j))

-- terms
module _ {X Y : Type 0} (f : X → Resolving Y) where
  abbrev pub EachRead : List X → (k : ℕ) → List Y → (i k' : ℕ) → Type 0
  EachRead xs k ys i k' = each f xs k ≡ and_then (each f (drop i xs) k') (λ zs. pure (ys ++ zs))

  pub read_init : (xs : List X) (k : ℕ) (ys : List Y) → ys ≡ [] → EachRead xs k ys 0 k
  read_init xs k ys e = pure_right (each f xs k) ∙ (λ j. and_then (each f xs k) (λ zs. pure (sym e j ++ zs)))

  pub read_more : (xs zs : List X) (i : ℕ) (x : X) (k k' k'' : ℕ) (ys ys' : List Y) (y : Y)
      → zs ≡ xs → i < length zs → x ≡ get_or zs i x → ys' ≡ ys ++ y ∷ [] → EachRead xs k ys i k' → f x k' ≡ As y k'' → EachRead xs k ys' (i + 1) k''
  read_more xs zs i x k k' k'' ys ys' y e h here e' before read =
      let F : Resolved Y → Resolved (List Y) = λ r. and_then r (λ y j. and_then (each f (drop (i + 1) xs) j) (λ us. pure (y ∷ us))) in
      before ∙ ap (λ us. and_then (each f us k') (λ us. pure (ys ++ us))) (next xs zs i x e h here) ∙ ap (λ r. and_then (F r) (λ us. pure (ys ++ us))) read
      ∙ assoc (each f (drop (i + 1) xs) k'') (λ us. pure (y ∷ us)) (λ us. pure (ys ++ us))
      ∙ (λ j. and_then (each f (drop (i + 1) xs) k'') (λ us. pure ((sym (append_assoc ys (y ∷ []) us) ∙ ap (λ vs. vs ++ us) (sym e')) j)))

  pub read_stuck : (xs zs : List X) (i : ℕ) (x : X) (k k' : ℕ) (ys : List Y) (e : NameEnd)
      → zs ≡ xs → i < length zs → x ≡ get_or zs i x → EachRead xs k ys i k' → Refuses (f x k') e → Refuses (each f xs k) e
  read_stuck xs zs i x k k' ys e same h here before wrong =
      let F : Y → Resolving (List Y) = λ y j. and_then (each f (drop (i + 1) xs) j) (λ us. pure (y ∷ us)) in
      subst (λ r. Refuses r e) (sym (before ∙ ap (λ us. and_then (each f us k') (λ us. pure (ys ++ us))) (next xs zs i x same h here)))
      (refuses_first (and_then (f x k') F) (λ us. pure (ys ++ us)) e (refuses_first (f x k') F e wrong))

  pub read_done : (xs zs : List X) (i k k' : ℕ) (ys : List Y) → zs ≡ xs → length zs ≤ i → EachRead xs k ys i k' → each f xs k ≡ As ys k'
  read_done xs zs i k k' ys e h before =
      before ∙ ap (λ us. and_then (each f us k') (λ us. pure (ys ++ us))) (sym (ap (drop i) e) ∙ drop_all i zs h) ∙ ap (λ us. As us k') (append_nil ys)

-- constructors
module _ (d : ℕ) (ps : List Name) where
  abbrev pub CtorsRead : Globals → List (ctor.CtorTree) → (k : ℕ) → List Constructor → (i : ℕ) → Globals → (k' : ℕ) → Type 0
  CtorsRead g xs k ys i g' k' = declare_ctors d ps g (ctors_of xs) k ≡ and_then (declare_ctors d ps g' (ctors_of (drop i xs)) k') (λ r. pure (ys ++ r.0, r.1))

  pub ctors_init : (g : Globals) (xs : List (ctor.CtorTree)) (k : ℕ) (ys : List Constructor) → ys ≡ [] → CtorsRead g xs k ys 0 g k
  ctors_init g xs k ys e =
      pure_right (declare_ctors d ps g (ctors_of xs) k) ∙ (λ j. and_then (declare_ctors d ps g (ctors_of xs) k) (λ r. pure (sym e j ++ r.0, r.1)))

  pub ctors_more : (g : Globals) (xs zs : List (ctor.CtorTree)) (i : ℕ) (x : ctor.CtorTree) (k k' k'' : ℕ) (g' g'' : Globals) (ys ys' : List Constructor) (y : Constructor)
      → zs ≡ xs → i < length zs → x ≡ get_or zs i x → ys' ≡ ys ++ y ∷ [] → CtorsRead g xs k ys i g' k' → DeclaresCtor d ps g' (ctor_of x) k' y g'' k'' → CtorsRead g xs k ys' (i + 1) g'' k''
  ctors_more g xs zs i x k k' k'' g' g'' ys ys' y e h here e' before read =
      let rest = declare_ctors d ps g'' (ctors_of (drop (i + 1) xs)) k'' in
      let P : (List Constructor × Globals) → Resolving (List Constructor × Globals) = λ r. pure (ys ++ r.0, r.1) in
      before ∙ ap (λ us. and_then (declare_ctors d ps g' (ctors_of us) k') P) (next xs zs i x e h here) ∙ ap (λ r. and_then r P) (read (ctors_of (drop (i + 1) xs)))
      ∙ assoc rest (λ r. pure (y ∷ r.0, r.1)) P ∙ (λ j. and_then rest (λ r. pure ((sym (append_assoc ys (y ∷ []) r.0) ∙ ap (λ vs. vs ++ r.0) (sym e')) j, r.1)))

  pub ctors_stuck : (g : Globals) (xs zs : List (ctor.CtorTree)) (i : ℕ) (x : ctor.CtorTree) (k k' : ℕ) (g' : Globals) (ys : List Constructor) (e : NameEnd)
      → zs ≡ xs → i < length zs → x ≡ get_or zs i x → CtorsRead g xs k ys i g' k' → RefusesCtor d ps g' (ctor_of x) k' e → Refuses (declare_ctors d ps g (ctors_of xs) k) e
  ctors_stuck g xs zs i x k k' g' ys e same h here before wrong =
      let P : (List Constructor × Globals) → Resolving (List Constructor × Globals) = λ r. pure (ys ++ r.0, r.1) in
      subst (λ r. Refuses r e) (sym (before ∙ ap (λ us. and_then (declare_ctors d ps g' (ctors_of us) k') P) (next xs zs i x same h here)))
      (refuses_first (declare_ctors d ps g' (ctor_of x ∷ ctors_of (drop (i + 1) xs)) k') P e (wrong (ctors_of (drop (i + 1) xs))))

  pub ctors_done : (g : Globals) (xs zs : List (ctor.CtorTree)) (i k k' : ℕ) (g' : Globals) (ys : List Constructor)
      → zs ≡ xs → length zs ≤ i → CtorsRead g xs k ys i g' k' → declare_ctors d ps g (ctors_of xs) k ≡ As (ys, g') k'
  ctors_done g xs zs i k k' g' ys e h before =
      let P : (List Constructor × Globals) → Resolving (List Constructor × Globals) = λ r. pure (ys ++ r.0, r.1) in
      before ∙ ap (λ us. and_then (declare_ctors d ps g' (ctors_of us) k') P) (sym (ap (drop i) e) ∙ drop_all i zs h) ∙ ap (λ us. As (us, g') k') (append_nil ys)

-- declarations
pub declarations_push : (cs : List CoreDecl) (c : CoreDecl) → declarations (cs ++ c ∷ []) ≡ declarations cs ++ declaration c ∷ []
declarations_push [] c = refl
declarations_push (x ∷ xs) c = ap (λ ds. declaration x ∷ ds) (declarations_push xs c)

abbrev pub DeclsRead : Globals → List Decl → (k : ℕ) → List CoreDecl → (i : ℕ) → Globals → (k' : ℕ) → Type 0
DeclsRead g xs k cs i g' k' = declare_all g (decls_of xs) k ≡ and_then (declare_all g' (decls_of (drop i xs)) k') (λ ds. pure (declarations cs ++ ds))

pub decls_init : (g g' : Globals) (xs : List Decl) (k : ℕ) (cs : List CoreDecl) → g' ≡ g → cs ≡ [] → DeclsRead g xs k cs 0 g' k
decls_init g g' xs k cs e e' =
    pure_right (declare_all g (decls_of xs) k) ∙ (λ j. and_then (declare_all (sym e j) (decls_of xs) k) (λ ds. pure (declarations (sym e' j) ++ ds)))

pub decls_more : (g : Globals) (xs zs : List Decl) (i : ℕ) (x : Decl) (k k' k'' : ℕ) (g' g'' : Globals) (cs cs' : List CoreDecl) (c : CoreDecl)
    → zs ≡ xs → i < length zs → x ≡ get_or zs i x → cs' ≡ cs ++ c ∷ [] → DeclsRead g xs k cs i g' k' → declare g' (decl_of x) k' ≡ As (declaration c, g'') k'' → DeclsRead g xs k cs' (i + 1) g'' k''
decls_more g xs zs i x k k' k'' g' g'' cs cs' c e h here e' before read =
    let F : Resolved (Declaration × Globals) → Resolved (List Declaration) = λ r. and_then r (λ p j. and_then (declare_all p.1 (decls_of (drop (i + 1) xs)) j) (λ us. pure (p.0 ∷ us))) in
    let P : List Declaration → Resolving (List Declaration) = λ us. pure (declarations cs ++ us) in
    let rest = declare_all g'' (decls_of (drop (i + 1) xs)) k'' in
    before ∙ ap (λ us. and_then (declare_all g' (decls_of us) k') P) (next xs zs i x e h here) ∙ ap (λ r. and_then (F r) P) read ∙ assoc rest (λ us. pure (declaration c ∷ us)) P
    ∙ (λ j. and_then rest (λ us. pure ((sym (append_assoc (declarations cs) (declaration c ∷ []) us) ∙ ap (λ vs. vs ++ us) (sym (declarations_push cs c) ∙ ap declarations (sym e'))) j)))

pub decls_stuck : (g : Globals) (xs zs : List Decl) (i : ℕ) (x : Decl) (k k' : ℕ) (g' : Globals) (cs : List CoreDecl) (e : NameEnd)
    → zs ≡ xs → i < length zs → x ≡ get_or zs i x → DeclsRead g xs k cs i g' k' → Refuses (declare g' (decl_of x) k') e → Refuses (declare_all g (decls_of xs) k) e
decls_stuck g xs zs i x k k' g' cs e same h here before wrong =
    let F : (Declaration × Globals) → Resolving (List Declaration) = λ p j. and_then (declare_all p.1 (decls_of (drop (i + 1) xs)) j) (λ us. pure (p.0 ∷ us)) in
    let P : List Declaration → Resolving (List Declaration) = λ us. pure (declarations cs ++ us) in
    subst (λ r. Refuses r e) (sym (before ∙ ap (λ us. and_then (declare_all g' (decls_of us) k') P) (next xs zs i x same h here)))
    (refuses_first (and_then (declare g' (decl_of x) k') F) P e (refuses_first (declare g' (decl_of x) k') F e wrong))

pub decls_done : (g : Globals) (xs zs : List Decl) (i k k' : ℕ) (g' : Globals) (cs : List CoreDecl)
    → zs ≡ xs → length zs ≤ i → DeclsRead g xs k cs i g' k' → declare_all g (decls_of xs) k ≡ As (declarations cs) k'
decls_done g xs zs i k k' g' cs e h before =
    before ∙ ap (λ us. and_then (declare_all g' (decls_of us) k') (λ us. pure (declarations cs ++ us))) (sym (ap (drop i) e) ∙ drop_all i zs h) ∙ ap (λ us. As us k') (append_nil (declarations cs))

-- a name that is new, and one that is not
abbrev chosen : Named → Bool → Resolving Name
chosen x b = elim b [ true ↦ (λ n. Twice x.at) | false ↦ pure x.name ]

pub name_is : (g : Globals) (x : Named) (k : ℕ) → is_taken g x.name ≡ false → new_name g x k ≡ As x.name k
name_is g x k h = by (is_taken g x.name) h
  where
    by : (b : Bool) → b ≡ false → chosen x b k ≡ As x.name k
    by false h = refl
    by true h = absurd (cc)

pub name_refused : (g : Globals) (x : Named) (k : ℕ) (e : NameEnd) → IsTwice x.at (is_taken g x.name) e → Refuses (new_name g x k) e
name_refused g x k e h = by (is_taken g x.name) e h
  where
    by : (b : Bool) (e : NameEnd) → IsTwice x.at b e → Refuses (chosen x b k) e
    by b (end.Unknown q) h = absurd h
    by true (end.Twice q) h = ap Twice (sym h.1)
    by false (end.Twice q) h = absurd (cc)
    by b end.NoMemory h = tt

-- a constructor
module _ (d : ℕ) (ps : List Name) (g : Globals) (c : CtorTree) (k : ℕ) where
  abbrev behind : List CtorTree → Name → List Tm → Resolving (List Constructor × Globals)
  behind cs x fs j =
      and_then (declare_ctors d ps (with_own x (record { data_type = d; ctor = length g.own; params = length ps }) g) cs j) (λ r. pure (record { name = x; fields = fs } ∷ r.0, r.1))

  abbrev from_name : List CtorTree → Name → Resolving (List Constructor × Globals)
  from_name cs x j = and_then (each (resolve g (under (map Some ps) [])) c.fields j) (behind cs x)

  pub ctor_made : (g' : Globals) (k' : ℕ) (x y : Name) (fs : List Tm) (n m : ℕ)
      → is_taken g c.ctor.name ≡ false → x ≡ c.ctor.name → y ≡ c.ctor.name → each (resolve g (under (map Some ps) [])) c.fields k ≡ As fs k' → n ≡ length g.own → m ≡ length ps
      → g' ≡ with_own y (record { data_type = d; ctor = n; params = m }) g → DeclaresCtor d ps g c k (record { name = x; fields = fs }) g' k'
  ctor_made g' k' x y fs n m new e e' read own params there cs =
      let made : Globals → Name → Resolved (List Constructor × Globals) = λ g x. and_then (declare_ctors d ps g cs k') (λ r. pure (record { name = x; fields = fs } ∷ r.0, r.1)) in
      let last : with_own c.ctor.name (record { data_type = d; ctor = length g.own; params = length ps }) g ≡ g' =
      (λ i. with_own (sym e' i) (record { data_type = d; ctor = sym own i; params = sym params i }) g) ∙ sym there in
      ap (λ r. and_then r (from_name cs)) (name_is g c.ctor k new) ∙ ap (λ r. and_then r (behind cs c.ctor.name)) read ∙ (λ i. made (last i) (sym e i))

  pub ctor_name_refused : (e : NameEnd) → IsTwice c.ctor.at (is_taken g c.ctor.name) e → RefusesCtor d ps g c k e
  ctor_name_refused e h cs = refuses_first (new_name g c.ctor k) (from_name cs) e (name_refused g c.ctor k e h)

  pub ctor_fields_refused : (e : NameEnd) → is_taken g c.ctor.name ≡ false → Refuses (each (resolve g (under (map Some ps) [])) c.fields k) e → RefusesCtor d ps g c k e
  ctor_fields_refused e new h cs =
      subst (λ r. Refuses r e) (sym (ap (λ r. and_then r (from_name cs)) (name_is g c.ctor k new)))
      (refuses_first (each (resolve g (under (map Some ps) [])) c.fields k) (behind cs c.ctor.name) e h)

-- a data type
module _ (g : Globals) (d : Named) (ps : List Name) (cs : List CtorTree) (k : ℕ) where
  abbrev data_end : Name → (List Constructor × Globals) → Resolving (Declaration × Globals)
  data_end x r = pure (DataC (record { name = x; params = length ps; ctors = r.0 }), settled r.1)

  abbrev data_from : Name → Resolving (Declaration × Globals)
  data_from x j = and_then (declare_ctors (length g.types) ps (with_type x g) cs j) (data_end x)

  pub data_made : (g' g'' g''' : Globals) (k' : ℕ) (x y : Name) (ks : List Constructor) (n m : ℕ)
      → is_taken g d.name ≡ false → x ≡ d.name → y ≡ d.name → n ≡ length g.types → m ≡ length ps → g' ≡ with_type y g → declare_ctors n ps g' cs k ≡ As (ks, g'') k' → g''' ≡ settled g''
      → declare g (DataD d ps cs) k ≡ As (DataC (record { name = x; params = m; ctors = ks }), g''') k'
  data_made g' g'' g''' k' x y ks n m new e e' number params there read end =
      let read' : declare_ctors (length g.types) ps (with_type d.name g) cs k ≡ As (ks, g'') k' =
      (λ i. declare_ctors (sym number i) ps ((ap (λ z. with_type z g) (sym e') ∙ sym there) i) cs k) ∙ read in
      ap (λ r. and_then r data_from) (name_is g d k new) ∙ ap (λ r. and_then r (data_end d.name)) read'
      ∙ (λ i. As (DataC (record { name = sym e i; params = sym params i; ctors = ks }), sym end i) k')

  pub data_name_refused : (e : NameEnd) → IsTwice d.at (is_taken g d.name) e → Refuses (declare g (DataD d ps cs) k) e
  data_name_refused e h = refuses_first (new_name g d k) data_from e (name_refused g d k e h)

  pub data_ctors_refused : (g' : Globals) (y : Name) (n : ℕ) (e : NameEnd)
      → is_taken g d.name ≡ false → y ≡ d.name → n ≡ length g.types → g' ≡ with_type y g → Refuses (declare_ctors n ps g' cs k) e → Refuses (declare g (DataD d ps cs) k) e
  data_ctors_refused g' y n e new e' number there h =
      let same : declare_ctors n ps g' cs k ≡ declare_ctors (length g.types) ps (with_type d.name g) cs k =
      (λ i. declare_ctors (number i) ps ((there ∙ ap (λ z. with_type z g) e') i) cs k) in
      subst (λ r. Refuses r e) (sym (ap (λ r. and_then r data_from) (name_is g d k new)))
      (refuses_first (declare_ctors (length g.types) ps (with_type d.name g) cs k) (data_end d.name) e (subst (λ r. Refuses r e) same h))

-- a meta definition or an object declaration
module _ (make : Name → Tm → Tm → Declaration) (g : Globals) (d : Named) (a t : Tree) (k : ℕ) where
  abbrev made_of : Name → Tm → Tm → Resolving (Declaration × Globals)
  made_of x b u = pure (make x b u, with_variable x g)

  abbrev from_type : Name → Tm → Resolving (Declaration × Globals)
  from_type x b j = and_then (resolve g [] t j) (made_of x b)

  abbrev from_its_name : Name → Resolving (Declaration × Globals)
  from_its_name x j = and_then (resolve g [] a j) (from_type x)

  abbrev pub defined : Resolved (Declaration × Globals)
  defined = and_then (new_name g d k) from_its_name

  pub defined_made : (g' : Globals) (k' k'' : ℕ) (x y : Name) (b u : Tm)
      → is_taken g d.name ≡ false → x ≡ d.name → y ≡ d.name → resolve g [] a k ≡ As b k' → resolve g [] t k' ≡ As u k'' → g' ≡ with_variable y g → defined ≡ As (make x b u, g') k''
  defined_made g' k' k'' x y b u new e e' read read' there =
      ap (λ r. and_then r from_its_name) (name_is g d k new) ∙ ap (λ r. and_then r (from_type d.name)) read ∙ ap (λ r. and_then r (made_of d.name b)) read'
      ∙ (λ i. As (make (sym e i) b u, (ap (λ z. with_variable z g) (sym e') ∙ sym there) i) k'')

  pub defined_name_refused : (e : NameEnd) → IsTwice d.at (is_taken g d.name) e → Refuses defined e
  defined_name_refused e h = refuses_first (new_name g d k) from_its_name e (name_refused g d k e h)

  pub defined_type_refused : (e : NameEnd) → is_taken g d.name ≡ false → Refuses (resolve g [] a k) e → Refuses defined e
  defined_type_refused e new h = subst (λ r. Refuses r e) (sym (ap (λ r. and_then r from_its_name) (name_is g d k new))) (refuses_first (resolve g [] a k) (from_type d.name) e h)

  pub defined_body_refused : (k' : ℕ) (b : Tm) (e : NameEnd) → is_taken g d.name ≡ false → resolve g [] a k ≡ As b k' → Refuses (resolve g [] t k') e → Refuses defined e
  defined_body_refused k' b e new read h =
      subst (λ r. Refuses r e) (sym (ap (λ r. and_then r from_its_name) (name_is g d k new) ∙ ap (λ r. and_then r (from_type d.name)) read)) (refuses_first (resolve g [] t k') (made_of d.name b) e h)

-- as many parameters as names
pub names_count : (ps : List Text) → length (names_of ps) ≡ length ps
names_count [] = refl
names_count (p ∷ ps) = ap suc (names_count ps)
