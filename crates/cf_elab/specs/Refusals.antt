-- Why a program has no core.
use Rattle.std.specs.Prelude.{◌≡◌, Bool, true, Option, None}
use Rattle.cf_base.specs.declared.at.At.{At}
use Rattle.cf_tree.specs.Tree.{Program}
use Rattle.cf_elab.specs.declared.ends.NameEnd.{NameEnd}
use Rattle.cf_elab.specs.declared.ends.NameEnd.TheVariants as end
use Rattle.cf_elab.specs.Resolving.{Resolved, Unknown, Twice}
use Rattle.cf_elab.specs.Core.{core_of}

-- reading ends with this name; want of memory may come at any time
abbrev pub Refuses : {A : Type 0} → Resolved A → NameEnd → Type 0
Refuses r (end.Unknown p) = r ≡ Unknown p
Refuses r (end.Twice p) = r ≡ Twice p
Refuses r end.NoMemory = Unit {0}

-- the program is refused so
abbrev pub IsRefused : Program → NameEnd → Type 0
IsRefused p e = Refuses (core_of p) e

-- a name at this place stands for nothing
abbrev pub IsUnbound : {A : Type 0} → At → Option A → NameEnd → Type 0
IsUnbound p o (end.Unknown q) = (o ≡ None) × (q ≡ p)
IsUnbound p o (end.Twice q) = ⊥
IsUnbound p o end.NoMemory = Unit {0}

-- a name that is declared at this place stands above already
abbrev pub IsTwice : At → Bool → NameEnd → Type 0
IsTwice p b (end.Unknown q) = ⊥
IsTwice p b (end.Twice q) = (b ≡ true) × (q ≡ p)
IsTwice p b end.NoMemory = Unit {0}
