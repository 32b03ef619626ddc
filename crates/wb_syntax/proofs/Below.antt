-- Typed code leaves what is below its operands.
use Rattle.std.proofs.Common.{ℕ, ap, ◌∙◌}
use Rattle.std.specs.Prelude.{List, [], ◌∷◌, ◌++◌, reverse}
use Rattle.std.proofs.lemmas.List.{append_assoc}
use Rattle.wb_syntax.specs.Syntax.{NumType, I32, I64, Instr, Unreachable, Nop, Br, BrIf, BrTable, Return, Call, Drop, Select, LocalGet, LocalSet, LocalTee, GlobalGet, GlobalSet, Load, Store, MemorySize, MemoryGrow, I32Const, I64Const, Unary, Binary, Nested, Plain, InBlock, InLoop, InIf, InIfElse, Code, Nothing, Then, list_of}
use Rattle.wb_syntax.specs.Table.{Row, Loads, Stores, Takes1, Takes2, row_at}
use Rattle.wb_syntax.specs.Typing.{Context, Takes, Jumps, IsLoad, IsStore, IsUnary, IsBinary, IsPlain, Types, TypesOne}
use Rattle.wb_syntax.specs.Laws.{StandsOnAny}

takes_below : (ts gs a b x : List NumType) → Takes ts gs a b → Takes ts gs (a ++ x) (b ++ x)
takes_below ts gs a b x h = (h.0 ++ x, ap (λ l. l ++ x) h.1 ∙ append_assoc ts h.0 x, ap (λ l. l ++ x) h.2 ∙ append_assoc gs h.0 x)

jumps_below : (ts a x : List NumType) → Jumps ts a → Jumps ts (a ++ x)
jumps_below ts a x h = (h.0 ++ x, ap (λ l. l ++ x) h.1 ∙ append_assoc ts h.0 x)

-- ---- by the row of an opcode

unary_below : (row : Row) (a b x : List NumType) → IsUnary row a b → IsUnary row (a ++ x) (b ++ x)
unary_below (Takes1 t r op) a b x h = takes_below (t ∷ []) (r ∷ []) a b x h
unary_below _ a b x h = absurd h

binary_below : (row : Row) (a b x : List NumType) → IsBinary row a b → IsBinary row (a ++ x) (b ++ x)
binary_below (Takes2 t r op) a b x h = takes_below (t ∷ t ∷ []) (r ∷ []) a b x h
binary_below _ a b x h = absurd h

load_below : (c : Context) (row : Row) (align : ℕ) (a b x : List NumType) → IsLoad c row align a b → IsLoad c row align (a ++ x) (b ++ x)
load_below c (Loads t bytes e) align a b x h = (h.0, takes_below (I32 ∷ []) (t ∷ []) a b x h.1)
load_below c _ align a b x h = absurd h

store_below : (c : Context) (row : Row) (align : ℕ) (a b x : List NumType) → IsStore c row align a b → IsStore c row align (a ++ x) (b ++ x)
store_below c (Stores t bytes) align a b x h = (h.0, takes_below (t ∷ I32 ∷ []) [] a b x h.1)
store_below c _ align a b x h = absurd h

-- ---- instructions and code

plain_below : (c : Context) (i : Instr) (a b x : List NumType) → IsPlain c i a b → IsPlain c i (a ++ x) (b ++ x)
plain_below c (I32Const z) a b x h = takes_below [] (I32 ∷ []) a b x h
plain_below c (I64Const z) a b x h = takes_below [] (I64 ∷ []) a b x h
plain_below c (Unary op) a b x h = unary_below (row_at op) a b x h
plain_below c (Binary op) a b x h = binary_below (row_at op) a b x h
plain_below c Drop a b x h = (h.0, takes_below (h.0 ∷ []) [] a b x h.1)
plain_below c Select a b x h = (h.0, takes_below (I32 ∷ h.0 ∷ h.0 ∷ []) (h.0 ∷ []) a b x h.1)
plain_below c (LocalGet y) a b x h = (h.0, h.1, takes_below [] (h.0 ∷ []) a b x h.2)
plain_below c (LocalSet y) a b x h = (h.0, h.1, takes_below (h.0 ∷ []) [] a b x h.2)
plain_below c (LocalTee y) a b x h = (h.0, h.1, takes_below (h.0 ∷ []) (h.0 ∷ []) a b x h.2)
plain_below c (GlobalGet y) a b x h = (h.0, h.1, takes_below [] (h.0.ty ∷ []) a b x h.2)
plain_below c (GlobalSet y) a b x h = (h.0, h.1, h.2, takes_below (h.0.ty ∷ []) [] a b x h.3)
plain_below c (Load op align offset) a b x h = load_below c (row_at op) align a b x h
plain_below c (Store op align offset) a b x h = store_below c (row_at op) align a b x h
plain_below c MemorySize a b x h = (h.0, takes_below [] (I32 ∷ []) a b x h.1)
plain_below c MemoryGrow a b x h = (h.0, takes_below (I32 ∷ []) (I32 ∷ []) a b x h.1)
plain_below c Nop a b x h = ap (λ l. l ++ x) h
plain_below c Unreachable a b x h = tt
plain_below c (Br l) a b x h = (h.0, h.1, jumps_below (list_of h.0) a x h.2)
plain_below c (BrIf l) a b x h = (h.0, h.1, takes_below (I32 ∷ list_of h.0) (list_of h.0) a b x h.2)
plain_below c (BrTable ls l) a b x h = (h.0, h.1, jumps_below (I32 ∷ list_of h.0) a x h.2)
plain_below c Return a b x h = jumps_below (list_of c.result) a x h
plain_below c (Call f) a b x h = (h.0, h.1, h.2, h.3, takes_below (reverse h.1.params) (list_of h.1.result) a b x h.4)
plain_below c _ a b x h = absurd h

mutual
  types_below : (c : Context) (is : Code) (a b x : List NumType) → Types c is a b → Types c is (a ++ x) (b ++ x)
  types_below c Nothing a b x h = ap (λ l. l ++ x) h
  types_below c (Then i is) a b x h = (h.0 ++ x, one_below c i a h.0 x h.1, types_below c is h.0 b x h.2)

  one_below : (c : Context) (i : Nested) (a b x : List NumType) → TypesOne c i a b → TypesOne c i (a ++ x) (b ++ x)
  one_below c (Plain i) a b x h = plain_below c i a b x h
  one_below c (InBlock t is) a b x h = (h.0, takes_below [] (list_of t) a b x h.1)
  one_below c (InLoop t is) a b x h = (h.0, takes_below [] (list_of t) a b x h.1)
  one_below c (InIf t is) a b x h = (h.0, h.1, takes_below (I32 ∷ []) [] a b x h.2)
  one_below c (InIfElse t is js) a b x h = (h.0, h.1, takes_below (I32 ∷ []) (list_of t) a b x h.2)

pub stands_on_any : StandsOnAny
stands_on_any c is a b x h = types_below c is a b x h
