-- A run that begins stands for the first configuration.
use Rattle.std.proofs.Common.{◌≡◌, ℕ, ◌+◌, ◌<◌, ◌≤◌, List, [], ◌∷◌, ◌++◌, length, arith, refl, sym, ap, subst, ◌∙◌, length-append}
use Rattle.std.specs.Prelude.{Bool, true, false, Some, None, slice_get, ℤ}
use Rattle.std.proofs.lemmas.List.{length-map}
use Rattle.wb_syntax.specs.declared.syntax.FuncType.{FuncType}
use Rattle.wb_syntax.specs.declared.syntax.Func.{Func}
use Rattle.wb_syntax.specs.declared.syntax.Module.{Module}
use Rattle.wb_syntax.specs.Syntax.{Code, Nothing, expanded}
use Rattle.wb_syntax.specs.Nesting.{levels, nested}
use Rattle.wb_syntax.specs.Execute.{Config, zeros, placed_at}
use Rattle.wb_syntax.specs.Runs.{first_config, words_of}
use Rattle.wb_plain.specs.Follows.{store_of}
use Rattle.wb_control.specs.Changes.{Run, IsRoomy, Fits, words_in}
use Rattle.wb_control.specs.Calls.{words_as, forgotten, begun, Opens}
use Rattle.wb_control.specs.Stands.{Stands}
use Rattle.wb_control.specs.Advances.{Begins, FitsFrom}
use Rattle.wb_control.proofs.Levels.{IsAt, in_func}
use Rattle.wb_control.proofs.Calling.{read_whole, count_there}
use Rattle.wb_control.proofs.Counting.{words_least}

pub begun_stands : (m : Module) (r : Run) (x : ℕ) (f : Func) (ft : FuncType) (args : List ℤ) (body : Code) → slice_get m.funcs x ≡ Some f → nested f.body ≡ Some body → Stands m (begun x f ft args r) (first_config m 0 (record { func = f; type = ft }) args (store_of r.state) body)
begun_stands m r x f ft args body named nests =
    let begin : IsAt f.body 0 [] body [] [] [] = record { there = record { code = body; other = None } ∷ []; here = read_whole (levels f.body) body nests; opens = (refl, refl, refl) } in
    let q = begun x f ft args r in
    let F : ℕ → Config = λ j. record {
      frame = placed_at (record { locals = words_as args ++ zeros (expanded f.locals); results = j; labels = []; stack = []; code = Nothing }) [] body;
      callers = [];
      store = store_of r.state;
    } in
    record {
      code = body;
      labels = [];
      own = [];
      rest = [];
      tail = [];
      callers = [];
      split = refl;
      mark = refl;
      inside = in_func m q.place f [] body [] [] [] named refl begin;
      waits = (refl, refl, refl);
      is = ap F (count_there ft.result);
    }

-- the words of the first configuration
pub begun_over : (m : Module) (r : Run) (x : ℕ) (f : Func) (ft : FuncType) (args : List ℤ) (body : Code) → slice_get m.funcs x ≡ Some f → nested f.body ≡ Some body → r.state.operands.room < words_in (begun x f ft args r) → r.state.operands.room < words_of (first_config m 0 (record { func = f; type = ft }) args (store_of r.state) body)
begun_over m r x f ft args body named nests h =
    let l = words_least m (begun x f ft args r) (first_config m 0 (record { func = f; type = ft }) args (store_of r.state) body) (begun_stands m r x f ft args body named nests) in
    omega (arith, l, h)

-- how many words the run has that begins
pub begun_words : (r : Run) (x : ℕ) (f : Func) (ft : FuncType) (args : List ℤ) → words_in (begun x f ft args r) ≡ length args + length (expanded f.locals) + 4
begun_words r x f ft args =
    let a = length-append (words_as args) (zeros (expanded f.locals)) in
    let b : length (words_as args) ≡ length args = length-map args _ in
    let d : length (zeros (expanded f.locals)) ≡ length (expanded f.locals) = length-map (expanded f.locals) _ in
    omega (arith, a, b, d)

-- it fits where there are as many
pub begun_fits : (r : Run) (x : ℕ) (f : Func) (ft : FuncType) (args : List ℤ) → IsRoomy r → length args + length (expanded f.locals) + 4 ≤ r.state.operands.room → Fits (begun x f ft args r)
begun_fits r x f ft args h l =
    let w = begun_words r x f ft args in
    record {
      words = omega (arith, w, l);
      labels = h.labels;
      locals = h.locals;
      callers = h.callers;
      small = h.small;
    }

-- what is begun as an answer
pub begins : (m : Module) (r q new : Run) (x : ℕ) (f : Func) (ft : FuncType) (args : List ℤ) (body : Code) (b : Bool) → q ≡ forgotten r → slice_get m.funcs x ≡ Some f → nested f.body ≡ Some body → Opens (begun x f ft args q) b q new → Begins m (first_config m 0 (record { func = f; type = ft }) args (store_of r.state) body) b r new
begins m r q new x f ft args body true e named nests h =
    let same : new ≡ begun x f ft args r = h.0 ∙ ap (begun x f ft args) e in
    subst (λ n. Stands m n (first_config m 0 (record { func = f; type = ft }) args (store_of r.state) body)) (sym same) (begun_stands m r x f ft args body named nests)
begins m r q new x f ft args body false e named nests h =
    begun_over m r x f ft args body named nests (subst (λ (p : Run). p.state.operands.room < words_in (begun x f ft args p)) e h)

pub fits_from : (q new : Run) (x : ℕ) (f : Func) (ft : FuncType) (args : List ℤ) (b : Bool) → Opens (begun x f ft args q) b q new → FitsFrom b new
fits_from q new x f ft args true h = h.1
fits_from q new x f ft args false h = tt
