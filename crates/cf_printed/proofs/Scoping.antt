-- The core of written declarations can be printed.
use Rattle.std.proofs.Common.{◌≡◌, refl, sym, ap, ◌∙◌, subst, arith, ℕ, ◌+◌, ◌^◌, ◌<◌, Bool, true, false, List, [], ◌∷◌, length, map, Some}
use Rattle.cf_tree.specs.Tree.{Name, Named, Binder, Tree, CtorTree, DeclTree, DataD, MetaD, ObjectD}
use Rattle.cf_term.specs.Core.{Tm}
use Rattle.cf_rules.specs.Programs.{Constructor, Declaration, DataC, MetaC, ObjectC}
use Rattle.cf_elab.specs.Core.{declare, declare_all, declare_ctors, new_name, resolve}
use Rattle.cf_elab.specs.Resolving.{Resolving, Twice, and_then, each, pure}
use Rattle.cf_elab.specs.Scope.{Globals, is_taken, settled, with_own, with_type, with_variable}
use Rattle.cf_elab.specs.Scope as scope
use Rattle.cf_core_text.specs.Pieces.{under}
use Rattle.cf_printed.specs.Scoped.{AllScoped, CtorsScoped, DeclScoped, EachScoped, IsName, IsNew, IsScoped, below, below_ctors, next_ctor}
use Rattle.cf_printed.proofs.Heads.{Fine, Holds}
use Rattle.cf_printed.proofs.Inside.{deeper, fine, holds_then, length_map, length_under}
use Rattle.cf_printed.proofs.Written.{AreCtorTrees, AreDecls, AreTerms, IsDecl, IsTerm, size}

-- a name that is declared is a new one
abbrev IsFresh : Globals → Named → Name → Type 0
IsFresh g x y = (y ≡ x.name) × (is_taken g x.name ≡ false)

abbrev named : Named → Bool → Resolving Name
named x b = elim b [ true ↦ (λ n. Twice x.at) | false ↦ pure x.name ]

name_fine : (g : Globals) (x : Named) (n : ℕ) → Holds (IsFresh g x) (new_name g x n)
name_fine g x n = by_test (is_taken g x.name) refl
  where
    by_test : (b : Bool) → is_taken g x.name ≡ b → Holds (IsFresh g x) (named x b n)
    by_test true e = tt
    by_test false e = (refl, e)

is_new : (g : Globals) (x : Named) (y : Name) → IsName x.name → IsFresh g x y → IsNew g y
is_new g x y h k = subst (IsNew g) (sym k.0) (h, k.1)

-- a term, and terms, under some local variables
term_fine : (g : Globals) (ls : List Binder) (d : ℕ) → d ≡ length ls + length g.variables → (w : ℕ) → length ls + w < 2 ^ 64 → (t : Tree) → IsTerm w t → (n : ℕ) → Holds (Fine g d (size t)) (resolve g ls t n)
term_fine g ls d e w l t h n = let k = h.1 in fine g ls d e t h.0 (omega (arith, l, k)) n

each_fine : (g : Globals) (ls : List Binder) (d : ℕ) → d ≡ length ls + length g.variables → (w : ℕ) → length ls + w < 2 ^ 64 → (ts : List Tree) → AreTerms w ts → (n : ℕ) → Holds (EachScoped g d) (each (resolve g ls) ts n)
each_fine g ls d e w l [] h n = tt
each_fine g ls d e w l (t ∷ ts) h n =
    holds_then (Fine g d (size t)) (EachScoped g d) (resolve g ls t n) (λ u. λ i. and_then (each (resolve g ls) ts i) (λ us. pure (u ∷ us)))
    (term_fine g ls d e w l t h.0 n)
    (λ u i s. holds_then (EachScoped g d) (EachScoped g d) (each (resolve g ls) ts i) (λ us. pure (u ∷ us)) (each_fine g ls d e w l ts h.1 i) (λ us j o. (s.0, o)))

-- constructors
abbrev CtorsFine : (t p : ℕ) → Globals → List Constructor × Globals → Type 0
CtorsFine t p g r = CtorsScoped g t p r.0 × (r.1 ≡ below_ctors g t p r.0)

ctors_fine : (t v : ℕ) (ps : List Name) → length ps + v < 2 ^ 64 → (g : Globals) (cs : List CtorTree) → AreCtorTrees v cs → (n : ℕ) → Holds (CtorsFine t (length ps) g) (declare_ctors t ps g cs n)
ctors_fine t v ps l g [] h n = (tt, refl)
ctors_fine t v ps l g (c ∷ cs) h n =
    let p : ℕ = length ps in
    let ls : List Binder = scope.under (map Some ps) [] in
    let d : ℕ = under (length g.variables) p in
    let q : length (map {A = Name} {B = Binder} Some ps) ≡ p = length_map Some ps in
    let k : length ls ≡ p = length_under (map Some ps) [] ∙ omega (arith, q) in
    let e : d ≡ length ls + length g.variables = ap (under (length g.variables)) (sym q) ∙ deeper g [] (map Some ps) (length g.variables) (omega arith) in
    let P : List Constructor × Globals → Type 0 = CtorsFine t p g in
    holds_then (IsFresh g c.ctor) P (new_name g c.ctor n)
    (λ x. λ i. and_then (each (resolve g ls) c.fields i) (λ fs. λ j. and_then (declare_ctors t ps (with_own x (next_ctor g t p) g) cs j) (λ r. pure (record { name = x; fields = fs } ∷ r.0, r.1))))
    (name_fine g c.ctor n)
    (λ x i a. holds_then (EachScoped g d) P (each (resolve g ls) c.fields i)
    (λ fs. λ j. and_then (declare_ctors t ps (with_own x (next_ctor g t p) g) cs j) (λ r. pure (record { name = x; fields = fs } ∷ r.0, r.1)))
    (each_fine g ls d e v (omega (arith, k, l)) c.fields h.1 i)
    (λ fs j b. holds_then (CtorsFine t p (with_own x (next_ctor g t p) g)) P (declare_ctors t ps (with_own x (next_ctor g t p) g) cs j) (λ r. pure (record { name = x; fields = fs } ∷ r.0, r.1))
    (ctors_fine t v ps l (with_own x (next_ctor g t p) g) cs h.2 j)
    (λ r m o. ((is_new g c.ctor x h.0 a, b, o.0), o.1))))

-- declarations
abbrev DeclFine : Globals → Declaration × Globals → Type 0
DeclFine g r = DeclScoped g r.0 × (r.1 ≡ below g r.0)

-- a name, and two terms
two_fine : (g : Globals) (x : Named) (a t : Tree) (make : Name → Tm → Tm → Declaration × Globals) → ((y : Name) (b u : Tm) → IsNew g y → IsScoped g (length g.variables) b → IsScoped g (length g.variables) u → DeclFine g (make y b u)) → (w : ℕ) → w < 2 ^ 64 → IsName x.name → IsTerm w a → IsTerm w t → (n : ℕ) →
    Holds (DeclFine g) (and_then (new_name g x n) (λ y. λ i. and_then (resolve g [] a i) (λ b. λ j. and_then (resolve g [] t j) (λ u. pure (make y b u)))))
two_fine g x a t make f w l h k o n =
    let d : ℕ = length g.variables in
    let e : d ≡ length {A = Binder} [] + d = omega arith in
    holds_then (IsFresh g x) (DeclFine g) (new_name g x n) (λ y. λ i. and_then (resolve g [] a i) (λ b. λ j. and_then (resolve g [] t j) (λ u. pure (make y b u))))
    (name_fine g x n)
    (λ y i p. holds_then (Fine g d (size a)) (DeclFine g) (resolve g [] a i) (λ b. λ j. and_then (resolve g [] t j) (λ u. pure (make y b u)))
    (term_fine g [] d e w (omega (arith, l)) a k i)
    (λ b j q. holds_then (Fine g d (size t)) (DeclFine g) (resolve g [] t j) (λ u. pure (make y b u))
    (term_fine g [] d e w (omega (arith, l)) t o j)
    (λ u m r. f y b u (is_new g x y h p) q.0 r.0)))

decl_fine : (w : ℕ) → w < 2 ^ 64 → (g : Globals) (d : DeclTree) → IsDecl w d → (n : ℕ) → Holds (DeclFine g) (declare g d n)
decl_fine w l g (DataD x ps cs) h n =
    let v : ℕ = h.1.0 in
    let k = h.1.1 in
    holds_then (IsFresh g x) (DeclFine g) (new_name g x n)
    (λ y. λ i. and_then (declare_ctors (length g.types) ps (with_type y g) cs i) (λ r. pure (DataC (record { name = y; params = length ps; ctors = r.0 }), settled r.1)))
    (name_fine g x n)
    (λ y i a. holds_then (CtorsFine (length g.types) (length ps) (with_type y g)) (DeclFine g) (declare_ctors (length g.types) ps (with_type y g) cs i) (λ r. pure (DataC (record { name = y; params = length ps; ctors = r.0 }), settled r.1))
    (ctors_fine (length g.types) v ps (omega (arith, l, k)) (with_type y g) cs h.1.2 i)
    (λ r j o. ((is_new g x y h.0 a, omega (arith, l, k), o.0), ap settled o.1)))
decl_fine w l g (MetaD x a t) h n = two_fine g x a t (λ y b u. (MetaC y b u, with_variable y g)) (λ y b u p q r. ((p, q, r), refl)) w l h.0 h.1 h.2 n
decl_fine w l g (ObjectD x a t) h n = two_fine g x a t (λ y b u. (ObjectC y b u, with_variable y g)) (λ y b u p q r. ((p, q, r), refl)) w l h.0 h.1 h.2 n

pub all_scoped : (w : ℕ) → w < 2 ^ 64 → (g : Globals) (ds : List DeclTree) → AreDecls w ds → (n : ℕ) → Holds (AllScoped g) (declare_all g ds n)
all_scoped w l g [] h n = tt
all_scoped w l g (d ∷ ds) h n =
    holds_then (DeclFine g) (AllScoped g) (declare g d n) (λ r. λ i. and_then (declare_all r.1 ds i) (λ cs. pure (r.0 ∷ cs)))
    (decl_fine w l g d h.0 n)
    (λ r i a. holds_then (AllScoped r.1) (AllScoped g) (declare_all r.1 ds i) (λ cs. pure (r.0 ∷ cs)) (all_scoped w l r.1 ds h.1 i)
    (λ cs j b. (a.0, subst (λ o. AllScoped o cs) a.1 b)))
