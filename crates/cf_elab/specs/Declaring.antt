-- What the reading of one constructor does, whatever follows it.
use Rattle.std.specs.Prelude.{ℕ, ◌≡◌, List, ◌∷◌}
use Rattle.cf_tree.specs.Tree.{Name, CtorTree}
use Rattle.cf_rules.specs.Programs.{Constructor}
use Rattle.cf_elab.specs.declared.ends.NameEnd.{NameEnd}
use Rattle.cf_elab.specs.Scope.{Globals}
use Rattle.cf_elab.specs.Resolving.{and_then, pure}
use Rattle.cf_elab.specs.Core.{declare_ctors}
use Rattle.cf_elab.specs.Refusals.{Refuses}

-- the constructor in front is declared so, and others stand behind it
abbrev pub DeclaresCtor : (type : ℕ) → (params : List Name) → Globals → CtorTree → (k : ℕ) → Constructor → Globals → (k' : ℕ) → Type 0
DeclaresCtor d ps g c k made g' k' = (cs : List CtorTree) → declare_ctors d ps g (c ∷ cs) k ≡ and_then (declare_ctors d ps g' cs k') (λ r. pure (made ∷ r.0, r.1))

-- a name in the constructor in front is refused
abbrev pub RefusesCtor : (type : ℕ) → (params : List Name) → Globals → CtorTree → (k : ℕ) → NameEnd → Type 0
RefusesCtor d ps g c k e = (cs : List CtorTree) → Refuses (declare_ctors d ps g (c ∷ cs) k) e
