-- A valid module meets what the encoder asks: its bodies are the nested code that is typed, and its initial values are constants.
use Rattle.std.proofs.Common.{ℕ, suc, List, [], ◌∷◌, ◌++◌, refl, sym, subst}
use Rattle.std.specs.Prelude.{IsTrue, Option, Some, None, IfSome, slice_get}
use Rattle.wb_syntax.specs.declared.syntax.NumType.{NumType}
use Rattle.wb_syntax.specs.declared.syntax.NumType.TheVariants.{I32, I64}
use Rattle.wb_syntax.specs.declared.syntax.Instr.{Instr}
use Rattle.wb_syntax.specs.declared.syntax.Instr.TheVariants.{Else, End, Load, Store, Unary, Binary}
use Rattle.wb_syntax.specs.declared.syntax.Func.{Func}
use Rattle.wb_syntax.specs.declared.syntax.Global.{Global}
use Rattle.wb_syntax.specs.declared.syntax.Module.{Module}
use Rattle.wb_syntax.specs.Syntax.{Code, Nothing, Then, Nested, Plain, InBlock, InLoop, InIf, InIfElse, list_of}
use Rattle.wb_syntax.specs.Table.{Row, Loads, Stores, Takes1, Takes2, row_at}
use Rattle.wb_syntax.specs.Nesting.{flat, flat_one, IsWellNested}
use Rattle.wb_syntax.specs.Typing.{Context, inside, IsLoad, IsStore, IsUnary, IsBinary, IsPlain, Types, TypesOne, IsTypedBody, IsConstant, Valid, Body, GlobalInit, context_of}
use Rattle.wb_syntax.specs.Laws.{WellNestedExactly, TypedIsProper}
use Rattle.wb_encode.specs.Appended.{Every}
use Rattle.wb_encode.specs.Encodable.{IsOfTable, loads, stores, takes_one, takes_two, IsExpression, AreLocalsFew}
use Rattle.wb_encode.specs.Laws.{IsEncodable}

-- ---- lists

some_by : {A : Type 0} (P Q : A → Type 0) → ((x : A) → P x → Q x) → (o : Option A) → IfSome o P → IfSome o Q
some_by P Q f None h = tt
some_by P Q f (Some x) h = f x h

-- what holds at each index holds of each element
every_by : {A : Type 0} (P : A → Type 0) (xs : List A) → ((i : ℕ) → IfSome (slice_get xs i) P) → Every P xs
every_by P [] h = tt
every_by P (x ∷ xs) h = (h 0, every_by P xs (λ i. h (suc i)))

every_append : {A : Type 0} (P : A → Type 0) (xs ys : List A) → Every P xs → Every P ys → Every P (xs ++ ys)
every_append P [] ys h k = k
every_append P (x ∷ xs) ys h k = (h.0, every_append P xs ys h.1 k)

-- ---- typed code is of the table

load_row : (c : Context) (row : Row) (align : ℕ) (a b : List NumType) → IsLoad c row align a b → IsTrue (loads row)
load_row c (Loads t n e) align a b h = refl
load_row c _ align a b h = absurd h

store_row : (c : Context) (row : Row) (align : ℕ) (a b : List NumType) → IsStore c row align a b → IsTrue (stores row)
store_row c (Stores t n) align a b h = refl
store_row c _ align a b h = absurd h

unary_row : (row : Row) (a b : List NumType) → IsUnary row a b → IsTrue (takes_one row)
unary_row (Takes1 t r op) a b h = refl
unary_row _ a b h = absurd h

binary_row : (row : Row) (a b : List NumType) → IsBinary row a b → IsTrue (takes_two row)
binary_row (Takes2 t r op) a b h = refl
binary_row _ a b h = absurd h

plain_of : (c : Context) (i : Instr) (a b : List NumType) → IsPlain c i a b → IsOfTable i
plain_of c (Load op align offset) a b h = load_row c (row_at op) align a b h
plain_of c (Store op align offset) a b h = store_row c (row_at op) align a b h
plain_of c (Unary op) a b h = unary_row (row_at op) a b h
plain_of c (Binary op) a b h = binary_row (row_at op) a b h
plain_of c _ a b h = tt

mutual
  code_of : (c : Context) (is : Code) (a b : List NumType) → Types c is a b → Every IsOfTable (flat is)
  code_of c Nothing a b h = tt
  code_of c (Then i is) a b h = every_append IsOfTable (flat_one i) (flat is) (one_of c i a h.0 h.1) (code_of c is h.0 b h.2)

  one_of : (c : Context) (i : Nested) (a b : List NumType) → TypesOne c i a b → Every IsOfTable (flat_one i)
  one_of c (Plain i) a b h = (plain_of c i a b h, tt)
  one_of c (InBlock t is) a b h = (tt, every_append IsOfTable (flat is) (End ∷ []) (code_of (inside c t) is [] (list_of t) h.0) (tt, tt))
  one_of c (InLoop t is) a b h = (tt, every_append IsOfTable (flat is) (End ∷ []) (code_of (inside c None) is [] (list_of t) h.0) (tt, tt))
  one_of c (InIf t is) a b h = (tt, every_append IsOfTable (flat is) (End ∷ []) (code_of (inside c None) is [] [] h.1) (tt, tt))
  one_of c (InIfElse t is js) a b h =
      let last = every_append IsOfTable (flat js) (End ∷ []) (code_of (inside c t) js [] (list_of t) h.1) (tt, tt) in
      (tt, every_append IsOfTable (flat is) (Else ∷ (flat js ++ End ∷ [])) (code_of (inside c t) is [] (list_of t) h.0) (tt, last))

-- ---- the parts of a module

body_is : TypedIsProper → WellNestedExactly → (m : Module) (f : Func) → IsTypedBody m f → IsExpression f.body
body_is proper nests m f t =
    let instrs = every_append IsOfTable (flat t.code) (End ∷ []) (code_of (context_of m f t.type) t.code [] (list_of t.type.result) t.typed) (tt, tt) in
    ((nests f.body).1 (t.code, (proper m f t).1), subst (Every IsOfTable) (sym t.nests) instrs)

constant_is : (ty : NumType) (init : List Instr) → IsConstant ty init → IsExpression init
constant_is I32 init h = subst IsExpression (sym h.1) (refl, (tt, (tt, tt)))
constant_is I64 init h = subst IsExpression (sym h.1) (refl, (tt, (tt, tt)))

pub valid_is_encodable : TypedIsProper → WellNestedExactly → (m : Module) → Valid m → AreLocalsFew m → IsEncodable m
valid_is_encodable proper nests m valid few =
    let body : (i : ℕ) → IfSome (slice_get m.funcs i) (λ (f : Func). IsExpression f.body) =
    λ i. some_by (IsTypedBody m) (λ (f : Func). IsExpression f.body) (body_is proper nests m) (slice_get m.funcs i) (valid (Body i)) in
    let init : (i : ℕ) → IfSome (slice_get m.globals i) (λ (g : Global). IsExpression g.init) =
    λ i. some_by (λ (g : Global). IsConstant g.ty g.init) (λ (g : Global). IsExpression g.init) (λ g h. constant_is g.ty g.init h) (slice_get m.globals i) (valid (GlobalInit i)) in
    let nested_body = λ (i : ℕ). some_by (λ (f : Func). IsExpression f.body) (λ (f : Func). IsWellNested f.body) (λ f h. h.0) (slice_get m.funcs i) (body i) in
    let nested_init = λ (i : ℕ). some_by (λ (g : Global). IsExpression g.init) (λ (g : Global). IsWellNested g.init) (λ g h. h.0) (slice_get m.globals i) (init i) in
    let table_body = λ (i : ℕ). some_by (λ (f : Func). IsExpression f.body) (λ (f : Func). Every IsOfTable f.body) (λ f h. h.1) (slice_get m.funcs i) (body i) in
    let table_init = λ (i : ℕ). some_by (λ (g : Global). IsExpression g.init) (λ (g : Global). Every IsOfTable g.init) (λ g h. h.1) (slice_get m.globals i) (init i) in
    record {
      bodies = every_by (λ (f : Func). IsWellNested f.body) m.funcs nested_body;
      initial_values = every_by (λ (g : Global). IsWellNested g.init) m.globals nested_init;
      instructions = (every_by (λ (f : Func). Every IsOfTable f.body) m.funcs table_body, every_by (λ (g : Global). Every IsOfTable g.init) m.globals table_init);
      locals = few;
    }
