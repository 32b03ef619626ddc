-- The module of a sum is valid.
use Rattle.std.proofs.Common.{◌≡◌, ℕ, zero, suc, List, [], ◌∷◌, ◌++◌, refl, sym, ap, ◌∙◌, arith, append-nil}
use Rattle.std.specs.Prelude.{Some}
use Rattle.wb_syntax.specs.declared.syntax.NumType.{NumType}
use Rattle.wb_syntax.specs.declared.syntax.NumType.TheVariants.{I64}
use Rattle.wb_syntax.specs.declared.syntax.Instr.TheVariants.{Binary, End}
use Rattle.wb_syntax.specs.Syntax.{Plain, Code, Nothing, Then}
use Rattle.wb_syntax.specs.Table.{row_at}
use Rattle.wb_syntax.specs.Typing.{Context, Types, IsTypedBody, FuncTypeOf, Memories, MemoryLimits, GlobalInit, ExportOf, Body, Valid}
use Rattle.cf_driver.specs.Sums.{Sum, Number, Plus}
use Rattle.cf_driver.specs.Lowering.{instructions, func_of, module_of}
use Rattle.cf_driver.proofs.ModuleRuns.{code_of, flat_code}

types_add : (c : Context) (rest : Code) (a b : List NumType) → Types c rest (I64 ∷ a) b → Types c (Then (Plain (Binary 0x7C)) rest) (I64 ∷ I64 ∷ a) b
unfolding row_at
types_add c rest a b p = (I64 ∷ a, (a, refl, refl), p)

-- the code of a sum leaves one i64
types_code : (s : Sum) (c : Context) (rest : Code) (a b : List NumType) → Types c rest (I64 ∷ a) b → Types c (code_of s rest) a b
types_code (Number z) c rest a b p = (I64 ∷ a, (a, refl, refl), p)
types_code (Plus x y) c rest a b p =
    let add = Then (Plain (Binary 0x7C)) rest in
    types_code x c (code_of y add) a b (types_code y c add (I64 ∷ a) b (types_add c rest a b p))

typed_body : (s : Sum) → IsTypedBody (module_of s) (func_of s)
typed_body s = record {
  type = record { params = []; result = Some I64 };
  code = code_of s Nothing;
  named = refl;
  nests = ap (λ is. is ++ End ∷ []) (sym (flat_code s Nothing ∙ append-nil (instructions s)));
  typed = types_code s _ Nothing [] (I64 ∷ []) refl;
}

pub valid : (s : Sum) → Valid (module_of s)
valid s (FuncTypeOf zero) = omega arith
valid s (FuncTypeOf (suc f)) = tt
valid s Memories = omega arith
valid s MemoryLimits = λ i. tt
valid s (GlobalInit g) = tt
valid s (ExportOf zero) = (omega arith, λ d l. absurd (omega (arith, l)))
valid s (ExportOf (suc e)) = tt
valid s (Body zero) = typed_body s
valid s (Body (suc f)) = tt
