-- What building a source answers.
use Rattle.std.specs.Prelude.{ℕ, List}
use Rattle.cf_diag.specs.declared.refusal.Refusal.{Refusal}
use Rattle.cf_diag.specs.declared.refusal.Refusal.TheVariants.{Later}
use Rattle.cf_tree.specs.Tree.{Program}
use Rattle.wb_syntax.specs.declared.syntax.Module.{Module}
use Rattle.wb_syntax.specs.Binary.{Encodes}
use Rattle.wb_syntax.specs.Typing.{Valid}
use Rattle.cf_agreement.specs.Agreement.{EndsAlike}
use Rattle.cf_driver.specs.Lowering.{program_of}
use Rattle.cf_driver.specs.Sources.{ReadsAs, IsUnread}
use Rattle.cf_driver.specs.Sums.{Sum, IsSum}

-- the bytes are those of a valid module that ends as the program of this sum does, whatever the size of the region
pub record IsModuleOf (s : Sum) (bytes : List ℕ) : Type 0 where
  pub the_module : Module
  pub encoded : Encodes the_module bytes
  pub valid : Valid the_module
  pub same : (region : ℕ) → EndsAlike (program_of s) 0 region the_module

-- the source reads as a program that is a sum, and the bytes are those of a module for it
pub record BuiltFrom (source bytes : List ℕ) : Type 0 where
  pub program : Program
  pub read : ReadsAs source program
  pub sum : Sum
  pub is_sum : IsSum program sum
  pub built : IsModuleOf sum bytes

-- the source reads as a program that is no sum
pub record IsNoSum (source : List ℕ) : Type 0 where
  pub program : Program
  pub read : ReadsAs source program
  pub no_sum : (s : Sum) → IsSum program s → ⊥

-- why nothing is built from a source: it is no program of the language, or it is one that is no sum
abbrev pub IsNotBuilt : List ℕ → Refusal → Type 0
IsNotBuilt source Later = IsNoSum source
IsNotBuilt source r = IsUnread source r
