-- The function main, found one part after the other.
use Rattle.std.proofs.Common.{◌≡◌, ℕ, zero, suc, ◌+◌, ◌<◌, List, [], ◌∷◌, length, drop, get_or, arith, sym, ap, ◌∙◌}
use Rattle.std.specs.Str.{bytes_eq}
use Rattle.wb_syntax.specs.declared.syntax.NumType.{NumType}
use Rattle.wb_syntax.specs.declared.syntax.NumType.TheVariants.{I64}
use Rattle.wb_syntax.specs.declared.syntax.Export.{Export}
use Rattle.std.specs.Prelude.{Bool, true, false, ◌&&◌, Option, Some, None, slice_get}
use Rattle.wb_syntax.specs.declared.syntax.FuncType.{FuncType}
use Rattle.wb_syntax.specs.declared.syntax.Func.{Func}
use Rattle.wb_syntax.specs.declared.syntax.Module.{Module}
use Rattle.wb_syntax.specs.Execute.{type_of, same_type}
use Rattle.wb_syntax.specs.Runs.{Main, main_name, func_of, exported_func, then_some, all_i64, gives_i64, main_of, main_arity}

abbrev typed : Func → FuncType → Bool → Option Main
typed f ft b = elim b [ true ↦ Some (record { func = f; type = ft }) | false ↦ None ]

abbrev by_type : Func → Option FuncType → Option Main
by_type f o = then_some o (λ ft. typed f ft (all_i64 ft.params && gives_i64 ft.result))

abbrev by_func : Module → Option Func → Option Main
by_func m o = then_some o (λ f. by_type f (type_of m f))

abbrev by_index : Module → Option ℕ → Option Main
by_index m o = then_some o (λ x. by_func m (slice_get m.funcs x))

pub no_export : (m : Module) → exported_func main_name m.exports ≡ None → main_of m ≡ None
no_export m e = ap (by_index m) e

pub no_func : (m : Module) (x : ℕ) → exported_func main_name m.exports ≡ Some x → slice_get m.funcs x ≡ None → main_of m ≡ None
no_func m x e h = ap (by_index m) e ∙ ap (by_func m) h

func_at : (m : Module) (x : ℕ) (f : Func) → exported_func main_name m.exports ≡ Some x → slice_get m.funcs x ≡ Some f → main_of m ≡ by_type f (type_of m f)
func_at m x f e h = ap (by_index m) e ∙ ap (by_func m) h

pub no_type : (m : Module) (x : ℕ) (f : Func) → exported_func main_name m.exports ≡ Some x → slice_get m.funcs x ≡ Some f → type_of m f ≡ None → main_of m ≡ None
no_type m x f e h t = func_at m x f e h ∙ ap (by_type f) t

pub main_at : (m : Module) (x : ℕ) (f : Func) (ft : FuncType) (b : Bool) → exported_func main_name m.exports ≡ Some x → slice_get m.funcs x ≡ Some f → type_of m f ≡ Some ft → b ≡ (all_i64 ft.params && gives_i64 ft.result) → main_of m ≡ typed f ft b
main_at m x f ft b e h t k = func_at m x f e h ∙ ap (by_type f) t ∙ ap (typed f ft) (sym k)

pub arity_is : (m : Module) (f : Func) (ft : FuncType) → main_of m ≡ Some (record { func = f; type = ft }) → main_arity m ≡ Some (length ft.params)
arity_is m f ft e = ap (λ o. then_some o (λ main. Some (length main.type.params))) e

pub no_arity : (m : Module) → main_of m ≡ None → main_arity m ≡ None
no_arity m e = ap (λ o. then_some o (λ main. Some (length main.type.params))) e

-- ---- lists from a place on

pub export_at : (es : List Export) (i : ℕ) (e : Export) → i < length es → e ≡ get_or es i e → exported_func main_name (drop i es) ≡ elim (bytes_eq main_name e.name) [ true ↦ func_of e.what | false ↦ exported_func main_name (drop (i + 1) es) ]
export_at [] i e l h = absurd (omega (arith, l))
export_at (x ∷ es) zero e l h = ap (λ (y : Export). elim (bytes_eq main_name y.name) [ true ↦ func_of y.what | false ↦ exported_func main_name es ]) (sym h)
export_at (x ∷ es) (suc i) e l h =
    let k : suc i + 1 ≡ suc (i + 1) = omega arith in
    let F : List Export → Option ℕ = λ r. elim (bytes_eq main_name e.name) [ true ↦ func_of e.what | false ↦ exported_func main_name r ] in
    export_at es i e (omega (arith, l)) h ∙ ap (λ n. F (drop n (x ∷ es))) (sym k)

pub type_at : (ts : List NumType) (i : ℕ) (t d : NumType) → i < length ts → t ≡ get_or ts i d → all_i64 (drop i ts) ≡ (same_type I64 t && all_i64 (drop (i + 1) ts))
type_at [] i t d l h = absurd (omega (arith, l))
type_at (x ∷ ts) zero t d l h = ap (λ (y : NumType). same_type I64 y && all_i64 ts) (sym h)
type_at (x ∷ ts) (suc i) t d l h =
    let k : suc i + 1 ≡ suc (i + 1) = omega arith in
    type_at ts i t d (omega (arith, l)) h ∙ ap (λ n. same_type I64 t && all_i64 (drop n (x ∷ ts))) (sym k)
