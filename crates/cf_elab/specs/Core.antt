-- The core of a program: names become indices and numbers, and holes get numbers; nothing else changes.
use Rattle.std.specs.Prelude.{ℕ, ◌≡◌, true, false, List, [], ◌∷◌, length, map, Some, None}
use Rattle.cf_tree.specs.Tree.{Name, Named, Binder, Plain, Variable, DataAt, ConAt, Tree, tree, Trees, none, part, branch, CtorTree, DeclTree, DataD, MetaD, ObjectD, Program}
use Rattle.cf_term.specs.Core.{Tm, var, node, Tms, nil, cons, Branch, DataH, ConH}
use Rattle.cf_rules.specs.Programs.{Constructor, Declaration, DataC, MetaC, ObjectC}
use Rattle.cf_elab.specs.Scope.{Globals, start, under, variable_of, type_of, ctor_of, is_taken, with_variable, with_type, with_own, settled}
use Rattle.cf_elab.specs.declared.numbers.CtorNumber.{CtorNumber}
use Rattle.cf_elab.specs.Resolving.{Resolved, As, Twice, Resolving, pure, ◌>>=◌, or_unknown, with_holes, each}
use Rattle.cf_elab.specs.Forms.{formed}

-- a constructor at its parameters and fields, and how many of these are parameters
abbrev pub constructed : CtorNumber → ℕ → Tms → Tm
constructed c k ts = node (ConH c.data_type c.ctor k) ts

-- the term that a tree is, under these local variables; and its parts, with the branches of a `case` beside them
abbrev mutual
  pub resolve : Globals → List Binder → Tree → Resolving Tm
  resolve g ls (tree p (Plain h) ts) = resolve_all g ls ts >>= (λ r. formed h r.0 r.1)
  resolve g ls (tree p (Variable x) ts) = or_unknown p (variable_of g ls x) >>= (λ i. pure (var i))
  resolve g ls (tree p (DataAt d) ts) = or_unknown d.at (type_of g d.name) >>= (λ n. resolve_all g ls ts >>= (λ r. pure (node (DataH n) r.1)))
  resolve g ls (tree p (ConAt c (Some k)) ts) = or_unknown c.at (ctor_of g c.name) >>= (λ n. resolve_all g ls ts >>= (λ r. pure (constructed n k r.1)))
  -- brackets that are left out stand for a hole for each parameter
  resolve g ls (tree p (ConAt c None) ts) =
      or_unknown c.at (ctor_of g c.name) >>= (λ n. with_holes n.params (resolve_all g ls ts >>= (λ r. pure r.1)) >>= (λ us. pure (constructed n n.params us)))

  pub resolve_all : Globals → List Binder → Trees → Resolving (List Branch × Tms)
  resolve_all g ls none = pure ([], nil)
  resolve_all g ls (part bs t ts) = resolve g (under bs ls) t >>= (λ u. resolve_all g ls ts >>= (λ r. pure (r.0, cons u r.1)))
  resolve_all g ls (branch c bs t ts) =
      or_unknown c.at (ctor_of g c.name) >>= (λ n. resolve g (under bs ls) t >>= (λ u. resolve_all g ls ts >>= (λ r.
      pure (record { type = n.data_type; ctor = n.ctor; names = length bs } ∷ r.0, cons u r.1))))

-- a name that is declared is a new one
abbrev pub new_name : Globals → Named → Resolving Name
new_name g x = elim (is_taken g x.name) [ true ↦ (λ n. Twice x.at) | false ↦ pure x.name ]

-- the constructors of the data type with this number, in order: each name, and then its fields under the parameters
abbrev pub declare_ctors : (type : ℕ) → (params : List Name) → Globals → List CtorTree → Resolving (List Constructor × Globals)
declare_ctors d ps g [] = pure ([], g)
declare_ctors d ps g (c ∷ cs) =
    new_name g c.ctor >>= (λ x. each (resolve g (under (map Some ps) [])) c.fields >>= (λ fs.
    declare_ctors d ps (with_own x (record { data_type = d; ctor = length g.own; params = length ps }) g) cs >>= (λ r.
    pure (record { name = x; fields = fs } ∷ r.0, r.1))))

-- a declaration, and what is declared once it ends
abbrev pub declare : Globals → DeclTree → Resolving (Declaration × Globals)
declare g (DataD d ps cs) =
    new_name g d >>= (λ x. declare_ctors (length g.types) ps (with_type x g) cs >>= (λ r.
    pure (DataC (record { name = x; params = length ps; ctors = r.0 }), settled r.1)))
declare g (MetaD d a t) = new_name g d >>= (λ x. resolve g [] a >>= (λ b. resolve g [] t >>= (λ u. pure (MetaC x b u, with_variable x g))))
declare g (ObjectD d a t) = new_name g d >>= (λ x. resolve g [] a >>= (λ b. resolve g [] t >>= (λ u. pure (ObjectC x b u, with_variable x g))))

-- the declarations in order, each below those in front of it
abbrev pub declare_all : Globals → List DeclTree → Resolving (List Declaration)
declare_all g [] = pure []
declare_all g (d ∷ ds) = declare g d >>= (λ r. declare_all r.1 ds >>= (λ cs. pure (r.0 ∷ cs)))

-- the core of a program, or its first name that is wrong
abbrev pub core_of : Program → Resolved (List Declaration)
core_of p = declare_all start p.decls 0

-- this is the core of the program
abbrev pub IsCoreOf : Program → List Declaration → Type 0
IsCoreOf p c = (holes : ℕ) × (core_of p ≡ As c holes)
