-- The function main, by its index.
use Rattle.std.specs.Prelude.{◌≡◌, Option, Some, None, slice_get}
use Rattle.wb_syntax.specs.declared.syntax.Module.{Module}
use Rattle.wb_syntax.specs.Execute.{type_of}
use Rattle.wb_syntax.specs.Runs.{main_of}
pub use Rattle.wb_machine.specs.declared.entry.Entry.{Entry}

-- this function with this type is main
pub record IsMain (m : Module) (e : Entry) : Type 0 where
  pub func : slice_get m.funcs e.index ≡ Some e.func.now
  pub type : type_of m e.func.now ≡ Some e.ty.now
  pub main : main_of m ≡ Some (record { func = e.func.now; type = e.ty.now })

-- main was found, or there is none
abbrev pub FindsMain : Module → Option Entry → Type 0
FindsMain m None = main_of m ≡ None
FindsMain m (Some e) = IsMain m e
