-- The grammars of types, limits, globals, exports and bodies.
use Rattle.std.proofs.Common.{◌≡◌, ℕ, ◌+◌, ◌<◌, ◌^◌, true, false, List, [], ◌∷◌, ◌++◌, length, Some, None, refl, sym, ap, ◌∙◌, append-nil, append_assoc, arith, IsUtf8}
use Rattle.std.proofs.lemmas.Bool.{lt-ltb}
use Rattle.std.specs.Prelude.{Bool, nat_lt}
use Rattle.std.specs.Int.{from_bool}
use Rattle.wb_syntax.specs.declared.syntax.NumType.{NumType}
use Rattle.wb_syntax.specs.declared.syntax.Instr.{Instr}
use Rattle.wb_syntax.specs.declared.syntax.FuncType.{FuncType}
use Rattle.wb_syntax.specs.declared.syntax.LocalRun.{LocalRun}
use Rattle.wb_syntax.specs.declared.syntax.Func.{Func}
use Rattle.wb_syntax.specs.declared.syntax.Limits.{Limits}
use Rattle.wb_syntax.specs.declared.syntax.Global.{Global}
use Rattle.wb_syntax.specs.declared.syntax.Export.{Export}
use Rattle.wb_syntax.specs.Grammar.{Grammar, Splits, Malformed, index, followed, mapped, refused}
use Rattle.wb_syntax.specs.Nesting.{IsWellNested}
use Rattle.wb_syntax.specs.Binary.{value_type, results, func_type, limits, mutability, global, any_byte, name, exported, export, instr, Each, expression, local_runs, Coded, code}
use Rattle.wb_encode.specs.Appended.{EachSpelled, VecSpelled, SizedSpelled}
use Rattle.wb_encode.specs.Encodable.{count_locals, SpellsRun}
use Rattle.wb_encode.proofs.Spelled.{mapped_is, vec_is, sized_is}

pub func_type_is : (t : FuncType) (rest : List ℕ) → Splits rest (VecSpelled value_type.Is t.params) ((followed index results).Is t.result) → func_type.Is t (0x60 ∷ rest)
func_type_is t rest s =
    (0x60, rest, refl, (t.params, (s.0, s.1, vec_is value_type t.params s.0 s.2, mapped_is (λ r. record { params = t.params; result = r }) (followed index results) t.result s.1 s.3, s.4)))

pub no_result : (front : List ℕ) → index.Is 0 front → (followed index results).Is None front
no_result front h = (0, (front, [], h, (refl, refl), sym (append-nil front)))

pub one_result : (t : NumType) (bytes : List ℕ) → Splits bytes (index.Is 1) (value_type.Is t) → (followed index results).Is (Some t) bytes
one_result t bytes h = (1, (h.0, h.1, h.2, mapped_is Some value_type t h.1 h.3, h.4))

pub least_is : (l : Limits) (rest : List ℕ) → l.max ≡ None → index.Is l.min rest → limits.Is l (0 ∷ rest)
least_is l rest e h =
    let same : l ≡ record { min = l.min; max = None } = λ i. record { min = l.min; max = e i } in
    (0, rest, refl, (l.min, (rest, [], h, (same, refl), sym (append-nil rest))))

pub both_are : (l : Limits) (k : ℕ) (rest : List ℕ) → l.max ≡ Some k → Splits rest (index.Is l.min) (index.Is k) → limits.Is l (1 ∷ rest)
both_are l k rest e s =
    let same : l ≡ record { min = l.min; max = Some k } = λ i. record { min = l.min; max = e i } in
    (1, rest, refl, (l.min, (s.0, s.1, s.2, (k, (s.1, [], s.3, (same, refl), sym (append-nil s.1))), s.4)))

each_instr : (is : List Instr) (bytes : List ℕ) → EachSpelled instr.Is is bytes → Each instr is bytes
each_instr [] bytes h = h
each_instr (i ∷ is) bytes h = (h.0, h.1, h.2, each_instr is h.1 h.3, h.4)

pub expression_is : (is : List Instr) (bytes : List ℕ) → IsWellNested is → EachSpelled instr.Is is bytes → expression.Is is bytes
expression_is is bytes n h = (n, each_instr is bytes h)

pub flag_is : (b : Bool) → mutability.Is b (from_bool b ∷ [])
flag_is true = (1, [], refl, (refl, refl))
flag_is false = (0, [], refl, (refl, refl))

abbrev pub GlobalParts : Global → List ℕ → Type 0
GlobalParts g bytes = Splits bytes (value_type.Is g.ty) (λ back. Splits back (mutability.Is g.mutable) (EachSpelled instr.Is g.init))

pub global_is : (g : Global) (bytes : List ℕ) → IsWellNested g.init → GlobalParts g bytes → global.Is g bytes
global_is g bytes n h =
    let s = h.3 in
    (g.ty, (h.0, h.1, h.2, (g.mutable, (s.0, s.1, s.2, mapped_is (λ init. record { ty = g.ty; mutable = g.mutable; init = init }) expression g.init s.1 (expression_is g.init s.1 n s.3), s.4)), h.4))

each_byte : (bs : List ℕ) → EachSpelled any_byte.Is bs bs
each_byte [] = refl
each_byte (b ∷ bs) = (b ∷ [], bs, (b, [], refl, (refl, refl)), each_byte bs, refl)

pub name_is : (bs bytes : List ℕ) → IsUtf8 bs → Splits bytes (index.Is (length bs)) (λ back. back ≡ bs) → name.Is bs bytes
name_is bs bytes u h =
    let all : VecSpelled any_byte.Is bs bytes = (h.0, bs, h.2, each_byte bs, h.4 ∙ ap (λ xs. h.0 ++ xs) h.3) in
    (bs, (bytes, [], vec_is any_byte bs bytes all, (u, refl, refl), sym (append-nil bytes)))

pub export_is : (e : Export) (bytes : List ℕ) → Splits bytes (name.Is e.name) (exported.Is e.what) → export.Is e bytes
export_is e bytes h = (e.name, (h.0, h.1, h.2, mapped_is (λ w. record { name = e.name; what = w }) exported e.what h.1 h.3, h.4))

abbrev pub tested : Bool → Grammar (List LocalRun) → Grammar (List LocalRun)
tested t g = elim t [ true ↦ g | false ↦ refused Malformed ]

few_runs : (t : Bool) (x : List LocalRun) (g : Grammar (List LocalRun)) (bytes : List ℕ) → t ≡ true → g.Is x bytes → (tested t g).Is x bytes
few_runs true x g bytes e h = h
few_runs false x g bytes e h = cc

-- runs one after another, with few enough locals in all
pub runs_are : (rs : List LocalRun) (before : ℕ) (bytes : List ℕ) → before + count_locals rs < 2 ^ 32 → EachSpelled SpellsRun rs bytes → (local_runs (length rs) before).Is rs bytes
runs_are [] before bytes few h = (refl, h)
runs_are (r ∷ rs) before bytes few h =
    let run = h.2 in
    let behind : Grammar (List LocalRun) = local_runs (length rs) (before + r.count) in
    let fewer : before + r.count < 2 ^ 32 = omega arith in
    let later : (before + r.count) + count_locals rs < 2 ^ 32 = omega arith in
    let others : behind.Is rs h.1 = runs_are rs (before + r.count) h.1 later h.3 in (
      r.count,
      (
        run.0,
        run.1 ++ h.1,
        run.2,
        few_runs (nat_lt (before + r.count) (2 ^ 32)) (r ∷ rs) (followed value_type (λ t. mapped (λ ss. record { count = r.count; ty = t } ∷ ss) behind)) (run.1 ++ h.1) (lt-ltb (before + r.count) (2 ^ 32) fewer)
            (r.ty, (run.1, h.1, run.3, mapped_is (λ ss. record { count = r.count; ty = r.ty } ∷ ss) behind rs h.1 others, refl)),
        h.4 ∙ ap (λ xs. xs ++ h.1) run.4 ∙ append_assoc run.0 run.1 h.1,
      ),
    )

-- the contents of an entry of the code section
abbrev pub contents : Grammar Coded
contents = followed index (λ n. followed (local_runs n 0) (λ rs. mapped (λ body. (rs, body)) expression))

contents_are : (f : Func) (bytes : List ℕ) → IsWellNested f.body → count_locals f.locals < 2 ^ 32 → Splits bytes (VecSpelled SpellsRun f.locals) (EachSpelled instr.Is f.body) → contents.Is (f.locals, f.body) bytes
contents_are f bytes n few h =
    let vector = h.2 in (
      length f.locals,
      (
        vector.0,
        vector.1 ++ h.1,
        vector.2,
        (f.locals, (vector.1, h.1, runs_are f.locals 0 vector.1 (omega arith) vector.3, mapped_is (λ body. (f.locals, body)) expression f.body h.1 (expression_is f.body h.1 n h.3), refl)),
        h.4 ∙ ap (λ xs. xs ++ h.1) vector.4 ∙ append_assoc vector.0 vector.1 h.1,
      ),
    )

pub code_is : (f : Func) (bytes : List ℕ) → IsWellNested f.body → count_locals f.locals < 2 ^ 32 → SizedSpelled (λ inner. Splits inner (VecSpelled SpellsRun f.locals) (EachSpelled instr.Is f.body)) bytes → code.Is (f.locals, f.body) bytes
code_is f bytes n few s = sized_is contents (f.locals, f.body) (λ inner. Splits inner (VecSpelled SpellsRun f.locals) (EachSpelled instr.Is f.body)) bytes s (λ inner h. contents_are f inner n few h)
