use Rattle.std.proofs.Common.{◌∷◌, arith, refl, sym, subst}
use Rattle.wb_syntax.specs.declared.syntax.Exported.{Exported}
use Rattle.wb_syntax.specs.declared.syntax.Exported.TheVariants.{Func as AFunc, Memory as AMemory, Global as AGlobal}
use Rattle.wb_syntax.specs.Grammar.{index}
use Rattle.wb_syntax.specs.Binary.{exported}
use Rattle.wb_encode.proofs.Appending.{after_byte, pushed}
use Rattle.wb_encode.proofs.Spelled.{mapped_is}
use Rattle.wb_encode.proofs.ItemsParted.{func_parts, memory_parts, number_parts}
use Rattle.wb_encode.proofs.parts.push_exported.Goals as goal

pub returns-in_ok-push_unsigned-in-Func : goal.returns-in_ok-push_unsigned-in-Func
returns-in_ok-push_unsigned-in-Func c =
    after_byte (pushed c.in_ok-push-in-Func.ensures.items) (c.in_ok-push_unsigned-in-Func.ensures 32 (omega arith))
    (λ rest h. subst (λ (w : Exported). exported.Is w (0 ∷ rest)) (sym c.in-Func.is) (0, rest, refl, mapped_is AFunc index c.in-Func.f rest h))
    (λ bytes. func_parts c.in-Func.f c.args.what bytes c.in-Func.is)

pub returns-in_ok-push_unsigned-in-Memory : goal.returns-in_ok-push_unsigned-in-Memory
returns-in_ok-push_unsigned-in-Memory c =
    after_byte (pushed c.in_ok-push-in-Memory.ensures.items) (c.in_ok-push_unsigned-in-Memory.ensures 32 (omega arith))
    (λ rest h. subst (λ (w : Exported). exported.Is w (2 ∷ rest)) (sym c.in-Memory.is) (2, rest, refl, mapped_is AMemory index c.in-Memory.x rest h))
    (λ bytes. memory_parts c.in-Memory.x c.args.what bytes c.in-Memory.is)

pub returns-in_ok-push_unsigned-in-Global : goal.returns-in_ok-push_unsigned-in-Global
returns-in_ok-push_unsigned-in-Global c =
    after_byte (pushed c.in_ok-push-in-Global.ensures.items) (c.in_ok-push_unsigned-in-Global.ensures 32 (omega arith))
    (λ rest h. subst (λ (w : Exported). exported.Is w (3 ∷ rest)) (sym c.in-Global.is) (3, rest, refl, mapped_is AGlobal index c.in-Global.x rest h))
    (λ bytes. number_parts c.in-Global.x c.args.what bytes c.in-Global.is)
