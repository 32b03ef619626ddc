-- Typed code has no block, loop, if, else or end among its instructions, so a typed body has one code.
use Rattle.std.proofs.Common.{◌≡◌}
use Rattle.std.specs.Prelude.{List, [], Some, None}
use Rattle.wb_syntax.specs.Syntax.{NumType, Instr, Block, Loop, If, Else, End, Nested, Plain, InBlock, InLoop, InIf, InIfElse, Code, Nothing, Then, Module, Func, list_of}
use Rattle.wb_syntax.specs.Nesting.{IsSimple, IsProperOne, IsProper, nested}
use Rattle.wb_syntax.specs.Typing.{Context, inside, Types, TypesOne, IsPlain, IsTypedBody, context_of}
use Rattle.wb_syntax.specs.Laws.{TypedIsProper}
use Rattle.wb_syntax.proofs.Nests.{nested_exactly}

plain_simple : (c : Context) (i : Instr) (a b : List NumType) → IsPlain c i a b → IsSimple i
plain_simple c (Block t) a b h = h
plain_simple c (Loop t) a b h = h
plain_simple c (If t) a b h = h
plain_simple c Else a b h = h
plain_simple c End a b h = h
plain_simple c i a b h = tt

mutual
  pub typed_proper : (c : Context) (is : Code) (a b : List NumType) → Types c is a b → IsProper is
  typed_proper c Nothing a b h = tt
  typed_proper c (Then i is) a b h = (one_proper c i a h.0 h.1, typed_proper c is h.0 b h.2)

  one_proper : (c : Context) (i : Nested) (a b : List NumType) → TypesOne c i a b → IsProperOne i
  one_proper c (Plain i) a b h = plain_simple c i a b h
  one_proper c (InBlock t is) a b h = typed_proper (inside c t) is [] (list_of t) h.0
  one_proper c (InLoop t is) a b h = typed_proper (inside c None) is [] (list_of t) h.0
  one_proper c (InIf t is) a b h = typed_proper (inside c None) is [] [] h.1
  one_proper c (InIfElse t is js) a b h = (typed_proper (inside c t) is [] (list_of t) h.0, typed_proper (inside c t) js [] (list_of t) h.1)

-- the code of a typed body is its nested code
pub typed_nested : (m : Module) (f : Func) (t : IsTypedBody m f) → nested f.body ≡ Some t.code
typed_nested m f t = (nested_exactly f.body t.code).1 (typed_proper (context_of m f t.type) t.code [] (list_of t.type.result) t.typed, t.nests)

pub typed_is_proper : TypedIsProper
typed_is_proper m f t = (typed_proper (context_of m f t.type) t.code [] (list_of t.type.result) t.typed, typed_nested m f t)
