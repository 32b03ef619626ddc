-- Modules that are written again.
use Rattle.std.specs.Prelude.{ℕ, List}
use Rattle.wb_syntax.specs.declared.syntax.Module.{Module}
use Rattle.wb_syntax.specs.Binary.{Encodes}

-- the two lists of bytes are one module
pub record AreSameModule (bytes out : List ℕ) : Type 0 where
  pub the_module : Module
  pub read : Encodes the_module bytes
  pub written : Encodes the_module out
