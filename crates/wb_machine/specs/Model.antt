-- A machine as its callers see it.
use Rattle.std.specs.Prelude.{ℕ}
use Rattle.wb_syntax.specs.declared.syntax.Module.{Module}
use Rattle.wb_syntax.specs.Execute.{TheStore}

-- the module, the number of words that a run may have, memory and globals
pub record Machine-model : Type 0 where
  pub module_ : Module
  pub words : ℕ
  pub store : TheStore
