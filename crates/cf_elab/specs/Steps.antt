-- What one step of the reading does, whatever follows it.
use Rattle.std.specs.Prelude.{ℕ, ◌≡◌, List, [], ◌∷◌}
use Rattle.std.specs.declared.rc.Rc.{Rc}
use Rattle.cf_tree.specs.declared.heads.Head.{Head}
use Rattle.cf_tree.specs.Tree.{Binder, Tree, Trees}
use Rattle.cf_tree.specs.View.{one_each}
use Rattle.cf_term.specs.Core.{Tm, Tms, cons, Branch}
use Rattle.cf_term.specs.declared.forms.Branch as core
use Rattle.cf_term.specs.View.{listed}
use Rattle.cf_elab.specs.declared.ends.NameEnd.{NameEnd}
use Rattle.cf_elab.specs.Scope.{Globals}
use Rattle.cf_elab.specs.Resolving.{As, Resolving, and_then, pure, with_holes}
use Rattle.cf_elab.specs.Forms.{formed}
use Rattle.cf_elab.specs.Core.{resolve_all}
use Rattle.cf_elab.specs.Refusals.{Refuses}

-- so many holes, from k on, stand before the parts that follow
abbrev pub MakesHoles : (count k : ℕ) → (Tms → Tms) → (k' : ℕ) → Type 0
MakesHoles count k put k' = (m : Resolving Tms) → with_holes count m k ≡ and_then (m k') (λ ts. pure (put ts))

-- the branches of a `case`, and the parts
abbrev pub Read : Type 0
Read = List Branch × Tms

-- reading some parts from k on is reading others from k' on, with something put before what these are
abbrev pub Leads : Globals → List Binder → Trees → (k : ℕ) → (Read → Read) → Trees → (k' : ℕ) → Type 0
Leads g ls ts k put us k' = resolve_all g ls ts k ≡ and_then (resolve_all g ls us k') (λ r. pure (put r))

-- the parts in front are read, and stand before those that follow
abbrev pub ReadsFront : Globals → List Binder → (Trees → Trees) → (k : ℕ) → (Read → Read) → (k' : ℕ) → Type 0
ReadsFront g ls front k put k' = (us : Trees) → Leads g ls (front us) k put us k'

-- a name among the parts in front is refused
abbrev pub RefusesFront : Globals → List Binder → (Trees → Trees) → (k : ℕ) → NameEnd → Type 0
RefusesFront g ls front k e = (us : Trees) → Refuses (resolve_all g ls (front us) k) e

-- these parts, no branch of a `case` among them, are read so
abbrev pub ReadsParts : Globals → List Binder → Trees → (k : ℕ) → Tms → (k' : ℕ) → Type 0
ReadsParts g ls ts k us k' = resolve_all g ls ts k ≡ As ([], us) k'

-- a name among these parts is refused
abbrev pub RefusesParts : Globals → List Binder → Trees → (k : ℕ) → NameEnd → Type 0
RefusesParts g ls ts k e = Refuses (resolve_all g ls ts k) e

-- the form over these parts is read so
abbrev pub ReadsForm : Globals → List Binder → Head → Trees → (k : ℕ) → Tm → (k' : ℕ) → Type 0
ReadsForm g ls h ts k t k' = and_then (resolve_all g ls ts k) (λ r. formed h r.0 r.1) ≡ As t k'

-- a name in the form over these parts is refused
abbrev pub RefusesForm : Globals → List Binder → Head → Trees → (k : ℕ) → NameEnd → Type 0
RefusesForm g ls h ts k e = Refuses (and_then (resolve_all g ls ts k) (λ r. formed h r.0 r.1)) e

-- each of these parts is read, under no variable
abbrev pub ReadsEach : {Z : Type 0} → Globals → List Binder → List Tree → (k : ℕ) → List (Rc Tm Z) → (k' : ℕ) → Type 0
ReadsEach g ls ts k us k' = ReadsFront g ls (one_each ts) k (λ r. (r.0, listed us r.1)) k'

-- these branches, before other parts
abbrev pub bodies_before : List (core.Branch) → Tms → Tms
bodies_before [] us = us
bodies_before (b ∷ bs) us = cons b.body.value (bodies_before bs us)
