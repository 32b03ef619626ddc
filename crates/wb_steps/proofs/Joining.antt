-- One piece of code behind another.
use Rattle.std.proofs.Common.{◌∷◌, ◌++◌, refl, sym, ap, ◌∙◌, subst, append_assoc}
use Rattle.wb_syntax.specs.declared.syntax.NumType.TheVariants.{I32, I64}
use Rattle.wb_syntax.specs.declared.syntax.Instr.TheVariants.{I32Const, I64Const}
use Rattle.wb_syntax.specs.Syntax.{Plain, InBlock, InLoop, InIf, InIfElse, Nothing, Then}
use Rattle.wb_syntax.specs.Nesting.{flat, flat_one}
use Rattle.wb_syntax.specs.Numbers.{unsigned}
use Rattle.wb_syntax.specs.Typing.{Types}
use Rattle.wb_syntax.specs.Execute.{word}
use Rattle.wb_steps.specs.Joined.{FlatJoined, ProperJoined, TypesJoined, SettledJoined}

pub flat_joined : FlatJoined
flat_joined Nothing d = refl
flat_joined (Then i c) d = ap (λ is. flat_one i ++ is) (flat_joined c d) ∙ sym (append_assoc (flat_one i) (flat c) (flat d))

pub proper_joined : ProperJoined
proper_joined Nothing d p q = q
proper_joined (Then i c) d p q = (p.0, proper_joined c d p.1 q)

pub types_joined : TypesJoined
types_joined x Nothing d a b e p q = subst (λ s. Types x d s e) (sym p) q
types_joined x (Then i c) d a b e p q = (p.0, p.1, types_joined x c d p.0 b e p.2 q)

pub settled_joined : SettledJoined
settled_joined ws Nothing d = refl
settled_joined ws (Then (Plain (I32Const z)) c) d = settled_joined (word I32 (unsigned I32 z) ∷ ws) c d
settled_joined ws (Then (Plain (I64Const z)) c) d = settled_joined (word I64 (unsigned I64 z) ∷ ws) c d
settled_joined ws (Then (Plain i) c) d = refl
settled_joined ws (Then (InBlock t b) c) d = refl
settled_joined ws (Then (InLoop t b) c) d = refl
settled_joined ws (Then (InIf t b) c) d = refl
settled_joined ws (Then (InIfElse t b e) c) d = refl
