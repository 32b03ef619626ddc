-- The branches of a `case`, as printed tokens that derive them.
use Rattle.std.proofs.Common.{◌≡◌, refl, sym, ap, ◌∙◌, subst, arith, append_assoc, ℕ, zero, suc, ◌+◌, true, false, List, [], ◌∷◌, ◌++◌, length, Some}
use Rattle.cf_lex.specs.declared.keywords.Keyword.TheVariants as keyword
use Rattle.cf_lex.specs.declared.marks.Mark.TheVariants as sign
use Rattle.cf_grammar.specs.Grammar.{Takes}
use Rattle.cf_grammar.specs.declared.phrases.Phrase.TheVariants as phrase
use Rattle.cf_grammar.specs.declared.phrases.Symbol.TheVariants.{Phrase as a}
use Rattle.cf_tree.specs.declared.heads.Head.TheVariants as head
use Rattle.cf_tree.specs.Tree as trees
use Rattle.cf_tree.specs.Tree.{Binder, Named, Plain, Tree, Trees, tree}
use Rattle.cf_term.specs.Core.{Tm, Tms, cons, nil, node, Branch, CaseH}
use Rattle.cf_syntax.specs.Places.{place}
use Rattle.cf_parse.specs.Meaning.{Sem, arms_in, binders_in}
use Rattle.cf_parse.specs.Meaning as meant
use Rattle.cf_elab.specs.Scope.{Globals, ctor_of, under}
use Rattle.cf_core_text.specs.Names.{Names, ctor_name}
use Rattle.cf_core_text.specs.Pieces.{Printed, arm, arms, more_arms, names, variable}
use Rattle.cf_core_text.specs.Pieces as pieces
use Rattle.cf_core_text.specs.declared.pieces.Piece.{Piece}
use Rattle.cf_core_text.specs.declared.pieces.Piece.TheVariants as piece
use Rattle.cf_printed.specs.Scoped.{IsCtor}
use Rattle.cf_printed.proofs.Deriving.{Gives, g_both, g_last, g_map, g_none, g_phrase, g_same, g_token}
use Rattle.cf_printed.proofs.Forms.{Finds, binder_g}
use Rattle.cf_printed.proofs.Placed.{AsTerm}
use Rattle.cf_printed.proofs.Resolving.{AreAll, Is, are_branch, are_none, are_part, is_form}
use Rattle.cf_printed.proofs.Found.{local_name, locals}

-- the names that a branch binds, without what follows them
abbrev bound_names : (g d n : ℕ) → List Piece
bound_names g d zero = []
bound_names g d (suc n) = variable g d ∷ bound_names g (suc d) n

names_split : (g d n : ℕ) (more : List Piece) → names g d n more ≡ bound_names g d n ++ more
names_split g d zero more = refl
names_split g d (suc n) more = ap (λ l. variable g d ∷ l) (names_split g (suc d) n more)

-- a branch, and the branches behind a first one, without what follows them
abbrev arm_body : (g d : ℕ) → Branch → Printed → List Piece
arm_body g d b f = piece.Ctor b.type b.ctor ∷ (bound_names g d b.names ++ piece.Mark sign.Dot ∷ f.pieces)

abbrev more_body : (g d : ℕ) → List Branch → List Printed → List Piece
more_body g d (b ∷ bs) (f ∷ fs) = piece.Mark sign.Bar ∷ (arm_body g d b f ++ more_body g d bs fs)
more_body g d bs fs = []

abbrev arms_body : (g d : ℕ) → List Branch → List Printed → List Piece
arms_body g d (b ∷ bs) (f ∷ fs) = arm_body g d b f ++ more_body g d bs fs
arms_body g d bs fs = []

arm_split : (g d : ℕ) (b : Branch) (f : Printed) (more : List Piece) → arm g d b f more ≡ arm_body g d b f ++ more
arm_split g d b f more = ap (λ l. piece.Ctor b.type b.ctor ∷ l)
    (names_split g d b.names (piece.Mark sign.Dot ∷ (f.pieces ++ more)) ∙ sym (append_assoc (bound_names g d b.names) (piece.Mark sign.Dot ∷ f.pieces) more))

more_split : (g d : ℕ) (bs : List Branch) (fs : List Printed) → more_arms g d bs fs ≡ more_body g d bs fs ++ piece.Mark sign.CloseBrace ∷ []
more_split g d [] fs = refl
more_split g d (b ∷ bs) [] = refl
more_split g d (b ∷ bs) (f ∷ fs) = ap (λ l. piece.Mark sign.Bar ∷ l)
    (arm_split g d b f (more_arms g d bs fs) ∙ ap (λ l. arm_body g d b f ++ l) (more_split g d bs fs) ∙ sym (append_assoc (arm_body g d b f) (more_body g d bs fs) (piece.Mark sign.CloseBrace ∷ [])))

arms_split : (g d : ℕ) (bs : List Branch) (fs : List Printed) → arms g d bs fs ≡ arms_body g d bs fs ++ piece.Mark sign.CloseBrace ∷ []
arms_split g d [] fs = refl
arms_split g d (b ∷ bs) [] = refl
arms_split g d (b ∷ bs) (f ∷ fs) =
    arm_split g d b f (more_arms g d bs fs) ∙ ap (λ l. arm_body g d b f ++ l) (more_split g d bs fs) ∙ sym (append_assoc (arm_body g d b f) (more_body g d bs fs) (piece.Mark sign.CloseBrace ∷ []))

-- n local variables more
abbrev pub names_from : (m n : ℕ) → List Binder
names_from m zero = []
names_from m (suc n) = Some (local_name m) ∷ names_from (suc m) n

more_first : (m n : ℕ) → pieces.under (suc m) n ≡ suc (pieces.under m n)
more_first m zero = refl
more_first m (suc n) = ap suc (more_first m n)

pub under_names : (m n : ℕ) → under (names_from m n) (locals m) ≡ locals (pieces.under m n)
under_names m zero = refl
under_names m (suc n) = under_names (suc m) n ∙ ap locals (more_first m n)

pub names_length : (m n : ℕ) → length (names_from m n) ≡ n
names_length m zero = refl
names_length m (suc n) = ap suc (names_length (suc m) n)

module _ (N : Names) (g : Globals) (finds : Finds N g) where
  abbrev G : ℕ
  G = length g.variables

  binders_form : (n m d : ℕ) → d ≡ G + m → Gives N (a phrase.Binders) (bound_names G d n) {A = (v : Sem) × (binders_in v ≡ names_from m n)} (λ x. x.0)
  binders_form zero m d q = g_map N (g_phrase N phrase.Binders 0 refl (g_none N)) (λ x. (meant.nothing, refl)) (λ x. refl)
  binders_form (suc n) m d q = g_map N
      (g_phrase N phrase.Binders 1 refl (g_both N (variable G d ∷ []) (bound_names G (suc d) n) (binder_g N g m d q) (g_last N (bound_names G (suc d) n) (binders_form n (suc m) (suc d) (omega (arith, q))))))
      (λ x. (meant.also (meant.binder (Some (local_name m))) x.1.1.0, ap (λ l. Some (local_name m) ∷ l) x.1.1.1))
      (λ x. refl)

  -- what a branch is
  abbrev Arm_of : (m : ℕ) → Branch → Tm → Type 0
  Arm_of m b u = (c : Named) × (bs : List Binder) × (t : Tree) × (c.name ≡ ctor_name N b.type b.ctor) × (bs ≡ names_from m b.names) × Is g (locals (pieces.under m b.names)) t u

  arm_form : (m d : ℕ) → d ≡ G + m → (b : Branch) (f : Printed) (u : Tm) → AsTerm N g f.pieces (locals (pieces.under m b.names)) u → (e : ℕ) → Gives N (a (phrase.Branch true e)) (arm_body G d b f) {A = Arm_of m b u} (λ x. meant.arm x.0 x.1 x.2)
  arm_form m d q b f u h e = g_map N
      (g_phrase N (phrase.Branch true e) 0 refl
      (g_token N (piece.Ctor b.type b.ctor) _ Takes.any_name
      (g_both N (bound_names G d b.names) (piece.Mark sign.Dot ∷ f.pieces) (binders_form b.names m d q)
      (g_token N (piece.Mark sign.Dot) f.pieces Takes.exact (g_last N f.pieces (h (suc e)))))))
      (λ x. (record { at = place false x.1.0; name = ctor_name N b.type b.ctor }, binders_in x.1.1.0.0, x.1.1.1.1.0, refl, x.1.1.0.1, x.1.1.1.1.1))
      (λ x. refl)

  -- each printed body is the term beside it, and its constructor may be used
  abbrev pub EachArm : (m : ℕ) → List Branch → List Printed → Tms → Type 0
  EachArm m [] [] nil = Unit {0}
  EachArm m (b ∷ bs) (f ∷ fs) (cons u us) = AsTerm N g f.pieces (locals (pieces.under m b.names)) u × IsCtor g b.type b.ctor × EachArm m bs fs us
  EachArm m _ _ _ = ⊥

  -- a meaning that is these branches
  abbrev Arms_of : (m : ℕ) → List Branch → Tms → Type 0
  Arms_of m bs us = (v : Sem) × AreAll g (locals m) (arms_in v) bs us

  also_arm : (m : ℕ) (b : Branch) (bs : List Branch) (u : Tm) (us : Tms) → IsCtor g b.type b.ctor → (x : Arm_of m b u) (y : Arms_of m bs us) → AreAll g (locals m) (trees.branch x.0 x.1 x.2 (arms_in y.0)) (b ∷ bs) (cons u us)
  also_arm m b bs u us i x y =
      let k = finds.ctors b.type b.ctor i in
      are_branch g (locals m) x.1 x.0 x.2 (arms_in y.0) k.0 b bs u us (ap (ctor_of g) x.3 ∙ k.1) k.2 k.3 (ap length x.4 ∙ names_length m b.names)
      (subst (λ l. Is g l x.2 u) (sym (ap (λ l. under l (locals m)) x.4 ∙ under_names m b.names)) x.5) y.1

  more_form : (m d : ℕ) → d ≡ G + m → (bs : List Branch) (fs : List Printed) (us : Tms) → EachArm m bs fs us → (e : ℕ) → Gives N (a (phrase.MoreBranches true e)) (more_body G d bs fs) {A = Arms_of m bs us} (λ x. x.0)
  more_form m d q [] [] nil h e = g_map N (g_phrase N (phrase.MoreBranches true e) 0 refl (g_none N)) (λ x. (meant.nothing, are_none g (locals m))) (λ x. refl)
  more_form m d q (b ∷ bs) (f ∷ fs) (cons u us) h e = g_map N
      (g_phrase N (phrase.MoreBranches true e) 1 refl
      (g_token N (piece.Mark sign.Bar) _ Takes.exact (g_both N (arm_body G d b f) (more_body G d bs fs) (arm_form m d q b f u h.0 e) (g_last N (more_body G d bs fs) (more_form m d q bs fs us h.2 e)))))
      (λ x. (meant.also (meant.arm x.1.1.0.0 x.1.1.0.1 x.1.1.0.2) x.1.1.1.0, also_arm m b bs u us h.1 x.1.1.0 x.1.1.1))
      (λ x. refl)
  more_form m d q bs fs us h e = absurd h

  branches_form : (m d : ℕ) → d ≡ G + m → (bs : List Branch) (fs : List Printed) (us : Tms) → EachArm m bs fs us → (e : ℕ) → Gives N (a (phrase.Branches true e)) (arms_body G d bs fs) {A = Arms_of m bs us} (λ x. x.0)
  branches_form m d q [] [] nil h e = g_map N (g_phrase N (phrase.Branches true e) 0 refl (g_none N)) (λ x. (meant.nothing, are_none g (locals m))) (λ x. refl)
  branches_form m d q (b ∷ bs) (f ∷ fs) (cons u us) h e = g_map N
      (g_phrase N (phrase.Branches true e) 1 refl (g_both N (arm_body G d b f) (more_body G d bs fs) (arm_form m d q b f u h.0 e) (g_last N (more_body G d bs fs) (more_form m d q bs fs us h.2 e))))
      (λ x. (meant.also (meant.arm x.1.0.0 x.1.0.1 x.1.0.2) x.1.1.0, also_arm m b bs u us h.1 x.1.0 x.1.1))
      (λ x. refl)
  branches_form m d q bs fs us h e = absurd h

  -- case t : s of { .. }
  pub case_form : (m d : ℕ) → d ≡ G + m → (ps qs : List Piece) (t s : Tm) → AsTerm N g ps (locals m) t → AsTerm N g qs (locals m) s → (bs : List Branch) (fs : List Printed) (us : Tms) → EachArm m bs fs us →
      AsTerm N g (piece.Word keyword.Case ∷ (ps ++ piece.Mark sign.Colon ∷ (qs ++ piece.Word keyword.Of ∷ piece.Mark sign.OpenBrace ∷ arms G d bs fs))) (locals m) (node (CaseH bs) (cons t (cons s us)))
  case_form m d q ps qs t s h i bs fs us k e = g_same N
      (ap (λ l. piece.Word keyword.Case ∷ (ps ++ piece.Mark sign.Colon ∷ (qs ++ piece.Word keyword.Of ∷ piece.Mark sign.OpenBrace ∷ l))) (sym (arms_split G d bs fs)))
      (g_map N
      (g_phrase N (phrase.Term true e) 7 refl
      (g_token N (piece.Word keyword.Case) _ Takes.exact
      (g_both N ps _ (h (suc e))
      (g_both N (piece.Mark sign.Colon ∷ qs) _ (g_phrase N (phrase.CaseType true e) 0 refl (g_token N (piece.Mark sign.Colon) qs Takes.exact (g_last N qs (i (suc e)))))
      (g_token N (piece.Word keyword.Of) _ Takes.exact
      (g_token N (piece.Mark sign.OpenBrace) _ Takes.exact
      (g_both N (arms_body G d bs fs) (piece.Mark sign.CloseBrace ∷ []) (branches_form m d q bs fs us k e) (g_token N (piece.Mark sign.CloseBrace) [] Takes.exact (g_none N)))))))))
      (λ x.
      let y : Tree = x.1.1.0.0 in
      let z : Tree = x.1.1.1.0.1.1.0 in
      let v : Sem = x.1.1.1.1.1.1.0.0 in
      let ts : Trees = trees.part [] y (trees.part [] z (arms_in v)) in (
        tree x.0 (Plain head.Case) ts,
        is_form g (locals m) x.0 head.Case ts bs (cons t (cons s us)) (node (CaseH bs) (cons t (cons s us)))
            (are_part g (locals m) [] y (trees.part [] z (arms_in v)) bs t (cons s us) x.1.1.0.1 (are_part g (locals m) [] z (arms_in v) bs s us x.1.1.1.0.1.1.1 x.1.1.1.1.1.1.0.1)) (λ n. refl),
      ))
      (λ x. refl))
