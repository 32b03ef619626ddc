-- A valid module, and one whose body is the first part that is not valid.
use Rattle.std.proofs.Common.{◌≡◌, zero, suc, refl, sym, ap, ◌∙◌, subst, arith}
use Rattle.std.specs.Prelude.{pos, List, [], ◌∷◌, Some}
use mathlib.Core.Logic.{inl, inr}
use Rattle.wb_syntax.specs.Syntax.{NumType, I32, I64, Instr, Unreachable, I32Const, I64Const, End, Plain, Code, Nothing, Then, FuncType, Func, list_of}
use Rattle.wb_syntax.specs.Typing.{Context, Types, IsTypedBody, Part, FuncTypeOf, Memories, MemoryLimits, GlobalInit, ExportOf, Body, IsValid, Valid, IsBefore, IsFirstInvalid, context_of}
use Rattle.wb_syntax.proofs.Typed.{typed_nested}
use Rattle.wb_syntax.proofs.Samples.{main_with, seven, invalid}

-- all parts but the body of a module of this form are valid
parts : (body : List Instr) → IsTypedBody (main_with body) (record { ty = 0; locals = []; body = body }) → Valid (main_with body)
parts body t (FuncTypeOf zero) = omega arith
parts body t (FuncTypeOf (suc f)) = tt
parts body t Memories = omega arith
parts body t MemoryLimits = λ i. tt
parts body t (GlobalInit g) = tt
parts body t (ExportOf zero) = (omega arith, λ d l. absurd (omega (arith, l)))
parts body t (ExportOf (suc e)) = tt
parts body t (Body zero) = t
parts body t (Body (suc f)) = tt

seven_is_valid : Valid seven
seven_is_valid = parts (I64Const (pos 7) ∷ End ∷ []) record {
  type = record { params = []; result = Some I64 };
  code = Then (Plain (I64Const (pos 7))) Nothing;
  named = refl;
  nests = refl;
  typed = (I64 ∷ [], ([], refl, refl), refl);
}

some_same : {A : Type 0} (x y : A) → Some x ≡ Some y → x ≡ y
some_same x y e = cc

cons_head : (t s : NumType) (ts ss : List NumType) → t ∷ ts ≡ s ∷ ss → t ≡ s
cons_head t s ts ss e = cc

differ : I32 ≡ I64 → ⊥
differ e = cc

-- unreachable, then an i32: nothing can make it an i64
not_an_i64 : (c : Context) (b : List NumType) → Types c (Then (Plain Unreachable) (Then (Plain (I32Const (pos 0))) Nothing)) [] b → b ≡ I64 ∷ [] → ⊥
not_an_i64 c b h e =
    let last = h.2 in
    let gives = last.1 in
    differ (cons_head I32 I64 gives.0 [] (sym gives.2 ∙ last.2 ∙ e))

result_is : (t : IsTypedBody invalid (record { ty = 0; locals = []; body = Unreachable ∷ I32Const (pos 0) ∷ End ∷ [] })) → list_of t.type.result ≡ I64 ∷ []
result_is t = ap (λ (f : FuncType). list_of f.result) (sym (some_same (record { params = []; result = Some I64 }) t.type t.named))

body_is_not_typed : IsTypedBody invalid (record { ty = 0; locals = []; body = Unreachable ∷ I32Const (pos 0) ∷ End ∷ [] }) → ⊥
body_is_not_typed t =
    let f : Func = record { ty = 0; locals = []; body = Unreachable ∷ I32Const (pos 0) ∷ End ∷ [] } in
    let is : Code = Then (Plain Unreachable) (Then (Plain (I32Const (pos 0))) Nothing) in
    let same : is ≡ t.code = some_same is t.code (typed_nested invalid f t) in
    let c = context_of invalid f t.type in
    not_an_i64 c (list_of t.type.result) (subst (λ x. Types c x [] (list_of t.type.result)) (sym same) t.typed) (result_is t)

before_the_body : (q : Part) → IsBefore q (Body 0) → IsValid invalid q
before_the_body (FuncTypeOf zero) l = omega arith
before_the_body (FuncTypeOf (suc f)) l = tt
before_the_body Memories l = omega arith
before_the_body MemoryLimits l = λ i. tt
before_the_body (GlobalInit g) l = tt
before_the_body (ExportOf zero) l = (omega arith, λ d k. absurd (omega (arith, k)))
before_the_body (ExportOf (suc e)) l = tt
before_the_body (Body f) (inl l) = absurd (omega (arith, l))
before_the_body (Body f) (inr l) = absurd (omega (arith, l.1))

-- the first part that is not valid is the body of function 0
the_body_is_invalid : IsFirstInvalid invalid (Body 0)
the_body_is_invalid = (body_is_not_typed, before_the_body)
