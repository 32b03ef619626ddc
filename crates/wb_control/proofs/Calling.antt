-- A call is a step of the definition of execution.
use Rattle.std.proofs.Common.{◌≡◌, ℕ, suc, ◌-◌, ◌≤◌, List, [], ◌∷◌, ◌++◌, length, take, drop, reverse, arith, refl, sym, ap, subst, ◌∙◌, length-append, length-drop, take-append-drop, append_assoc}
use Rattle.std.specs.Prelude.{Bool, true, false, Option, Some, None, slice_get}
use Rattle.std.proofs.lemmas.Bool.{and_parts}
use Rattle.std.proofs.lemmas.List.{length-reverse, length-take}
use Rattle.wb_syntax.specs.declared.syntax.NumType.{NumType}
use Rattle.wb_syntax.specs.declared.syntax.FuncType.{FuncType}
use Rattle.wb_syntax.specs.declared.syntax.Func.{Func}
use Rattle.wb_syntax.specs.declared.syntax.Module.{Module}
use Rattle.wb_syntax.specs.Syntax.{Code, Nothing, list_of, expanded}
use Rattle.wb_syntax.specs.Nesting.{Level, levels, whole, nested}
use Rattle.wb_syntax.specs.Execute.{Word, Label as Opened, Frame, Config, Move, Goes, same_type, when, where_some, have_types, zeros, placed_at, frame_of, type_of, call}
use Rattle.wb_state.specs.Stack.{height_of, lowest}
use Rattle.wb_plain.specs.Follows.{store_of}
use Rattle.wb_control.specs.Piles.{Label, Place, Caller}
use Rattle.wb_control.specs.Changes.{Run, Leads, Fails, result_count}
use Rattle.wb_control.specs.Calls.{passes, is_there, opened, called_as, called_of, called}
use Rattle.wb_control.specs.Stands.{AllNested, IsInside, FrameWaits, Wait, Stands}
use Rattle.wb_control.proofs.Levels.{IsAt, in_func}
use Rattle.wb_control.proofs.Floors.{lowest_last}
use Rattle.wb_control.proofs.Leaving.{IsStep}
use Rattle.wb_control.proofs.Branching.{shaped}

none_some : {A : Type 0} (x : A) → None ≡ Some x → ⊥
none_some x e = cc

some_same : {A : Type 0} (x y : A) → Some x ≡ Some y → x ≡ y
some_same x y e = cc

-- words of these types are as many
have_length : (ts : List NumType) (ws : List Word) → have_types ts ws ≡ true → length ws ≡ length ts
have_length [] [] h = refl
have_length (t ∷ ts) (w ∷ ws) h = ap suc (have_length ts ws (and_parts (same_type t w.type) (have_types ts ws) h).1)
have_length [] (w ∷ ws) h = cc
have_length (t ∷ ts) [] h = cc

-- arguments that are there
pub there_are : (ts : List NumType) (ws : List Word) → have_types ts (reverse (take (length ts) ws)) ≡ true → length ts ≤ length ws
there_are ts ws h =
    let a = have_length ts (reverse (take (length ts) ws)) h in
    omega (arith, a, length-reverse (take (length ts) ws), length-take (length ts) ws)

-- a level without a second branch
whole_one : (d : Code) (o : Option Code) (c : Code) → whole (Some (record { code = d; other = o } ∷ [])) ≡ Some c → (let l : Level = record { code = d; other = o } in l ∷ []) ≡ record { code = c; other = None } ∷ []
whole_one d None c e = ap (λ x. record { code = x; other = None } ∷ []) (some_same d c e)
whole_one d (Some x) c e = absurd (none_some c e)

-- the levels at the beginning of a body
whole_is : (ls : List Level) (c : Code) → whole (Some ls) ≡ Some c → ls ≡ record { code = c; other = None } ∷ []
whole_is [] c e = absurd (none_some c e)
whole_is (l ∷ k ∷ ls) c e = absurd (none_some c e)
whole_is (l ∷ []) c e = whole_one l.code l.other c e

pub read_whole : (o : Option (List Level)) (c : Code) → whole o ≡ Some c → o ≡ Some (record { code = c; other = None } ∷ [])
read_whole None c e = absurd (none_some c e)
read_whole (Some ls) c e = ap Some (whole_is ls c e)

pub count_there : (t : Option NumType) → length (list_of t) ≡ result_count (is_there t)
count_there None = refl
count_there (Some t) = refl

-- the frame of a call is entered
opened_stands : (m : Module) (r : Run) (x next : ℕ) (g f : Func) (ft : FuncType) (body rest_code : Code) (own rest : List Label) (labels : List Opened) (tail : List Word) (fs : List Frame)
    → slice_get m.funcs r.place.func ≡ Some g → slice_get m.funcs x ≡ Some f → nested f.body ≡ Some body → length ft.params ≤ length r.state.operands.above
    → IsAt g.body next own rest_code labels r.state.operands.below tail
    → r.labels.items ≡ own ++ rest → r.place.labels ≡ length rest → r.place.bottom ≡ length tail → Wait m r.callers.items rest tail r.state.locals.outer fs
    → (let n = length ft.params in let ws = r.state.operands.above in
    let w : Frame = record { locals = r.state.locals.current; results = result_count r.place.results; labels = labels; stack = drop n ws; code = rest_code } in
    Stands m (opened x next f ft r) (record { frame = frame_of f ft (reverse (take n ws)) body; callers = w ∷ fs; store = store_of r.state }))
opened_stands m r x next g f ft body rest_code own rest labels tail fs named callee nests enough i split mark bottom waits =
    let s = r.state.operands in
    let n : ℕ = length ft.params in
    let ws : List Word = s.above in
    let h : ℕ = height_of s - n in
    let low : List Word = drop n ws ++ s.below in
    let w : Frame = record { locals = r.state.locals.current; results = result_count r.place.results; labels = labels; stack = drop n ws; code = rest_code } in
    let k : Caller = record { place = record r.place { at = next }; floor = length s.below; base = length r.state.locals.outer } in
    let hl : h ≡ length low = omega (arith, length-append (drop n ws) s.below, length-drop n ws, enough) in
    let pieces : ws ++ s.below ≡ take n ws ++ low = ap (λ xs. xs ++ s.below) (sym (take-append-drop n ws)) ∙ append_assoc (take n ws) (drop n ws) s.below in
    let kept : lowest h (ws ++ s.below) ≡ low = ap (lowest h) pieces ∙ lowest_last (take n ws) low h hl in
    let z : h - h ≡ 0 = omega arith in
    let none : take (h - h) (lowest h (ws ++ s.below)) ≡ [] = ap (λ j. take j (lowest h (ws ++ s.below))) z in
    let begin : IsAt f.body 0 [] body [] low low = record { there = record { code = body; other = None } ∷ []; here = read_whole (levels f.body) body nests; opens = (refl, refl, refl) } in
    let p : Place = record { func = x; at = 0; results = is_there ft.result; labels = length r.labels.items; bottom = h } in
    let waiting : FrameWaits m k w own rest r.labels.items s.below low tail r.state.locals.outer (r.state.locals.outer ++ r.state.locals.current) = record {
      labels = split;
      mark = mark;
      words = refl;
      floor = refl;
      locals = refl;
      base = refl;
      results = refl;
      inside = in_func m k.place g own rest_code labels s.below tail named bottom i;
    } in
    let F : ℕ → List Word → Config = λ j vs. record {
      frame = placed_at (record { locals = reverse (take n ws) ++ zeros (expanded f.locals); results = j; labels = []; stack = []; code = Nothing }) vs body;
      callers = w ∷ fs;
      store = store_of r.state;
    } in
    record {
      code = body;
      labels = [];
      own = [];
      rest = r.labels.items;
      tail = low;
      callers = w ∷ fs;
      split = refl;
      mark = refl;
      inside = subst (λ u. IsInside m p [] body [] u low) (sym kept) (in_func m p f [] body [] low low callee hl begin);
      waits = (own, rest, s.below, tail, r.state.locals.outer, waiting, waits);
      is = λ j. F (count_there ft.result j) (sym none j);
    }

-- a call of a function of this type, by its arguments
passed_step : (m : Module) (r : Run) (x next : ℕ) (g f : Func) (ft : FuncType) (body rest_code : Code) (own rest : List Label) (labels : List Opened) (tail : List Word) (fs : List Frame) (stack : List Word) (code : Code)
    → slice_get m.funcs r.place.func ≡ Some g → slice_get m.funcs x ≡ Some f → nested f.body ≡ Some body
    → IsAt g.body next own rest_code labels r.state.operands.below tail
    → r.labels.items ≡ own ++ rest → r.place.labels ≡ length rest → r.place.bottom ≡ length tail → Wait m r.callers.items rest tail r.state.locals.outer fs
    → (b : Bool) → b ≡ passes ft.params r.state.operands
    → (let c = shaped r labels fs stack code in let n = length ft.params in let ws = r.state.operands.above in
    IsStep m r (when b (Goes (record c { frame = frame_of f ft (reverse (take n ws)) body; callers = record c.frame { stack = drop n ws; code = rest_code } ∷ c.callers })))
    (elim b [ true ↦ Leads (opened x next f ft r) | false ↦ Fails ]))
passed_step m r x next g f ft body rest_code own rest labels tail fs stack code named callee nests i split mark bottom w true e =
    let n = length ft.params in
    let ws = r.state.operands.above in
    let enough = there_are ft.params ws (sym e) in
    let v : Frame = record { locals = r.state.locals.current; results = result_count r.place.results; labels = labels; stack = drop n ws; code = rest_code } in
    let d : Config = record { frame = frame_of f ft (reverse (take n ws)) body; callers = v ∷ fs; store = store_of r.state } in
    (d, refl, opened_stands m r x next g f ft body rest_code own rest labels tail fs named callee nests enough i split mark bottom w)
passed_step m r x next g f ft body rest_code own rest labels tail fs stack code named callee nests i split mark bottom w false e = refl

-- a call of a function, by its type
typed_step : (m : Module) (r : Run) (x next : ℕ) (g f : Func) (o : Option FuncType) (body rest_code : Code) (own rest : List Label) (labels : List Opened) (tail : List Word) (fs : List Frame) (stack : List Word) (code : Code)
    → slice_get m.funcs r.place.func ≡ Some g → slice_get m.funcs x ≡ Some f → nested f.body ≡ Some body
    → IsAt g.body next own rest_code labels r.state.operands.below tail
    → r.labels.items ≡ own ++ rest → r.place.labels ≡ length rest → r.place.bottom ≡ length tail → Wait m r.callers.items rest tail r.state.locals.outer fs
    → (let c = shaped r labels fs stack code in let ws = r.state.operands.above in
    IsStep m r (where_some o (λ ft. where_some (nested f.body) (λ b. let n = length ft.params in let arguments = reverse (take n ws) in when (have_types ft.params arguments)
    (Goes (record c { frame = frame_of f ft arguments b; callers = record c.frame { stack = drop n ws; code = rest_code } ∷ c.callers })))))
    (called_as x next r f o))
typed_step m r x next g f None body rest_code own rest labels tail fs stack code named callee nests i split mark bottom w = refl
typed_step m r x next g f (Some ft) body rest_code own rest labels tail fs stack code named callee nests i split mark bottom w =
    let c = shaped r labels fs stack code in
    let ws = r.state.operands.above in
    let M : Option Code → Move = λ o. where_some o (λ b. let n = length ft.params in let arguments = reverse (take n ws) in when (have_types ft.params arguments)
    (Goes (record c { frame = frame_of f ft arguments b; callers = record c.frame { stack = drop n ws; code = rest_code } ∷ c.callers }))) in
    subst (λ o. IsStep m r (M o) (called_as x next r f (Some ft))) (sym nests)
    (passed_step m r x next g f ft body rest_code own rest labels tail fs stack code named callee nests i split mark bottom w (passes ft.params r.state.operands) refl)

-- a call by an index
called_step : (m : Module) (r : Run) (x next : ℕ) (g : Func) (o : Option Func) (rest_code : Code) (own rest : List Label) (labels : List Opened) (tail : List Word) (fs : List Frame) (stack : List Word) (code : Code)
    → AllNested m → slice_get m.funcs r.place.func ≡ Some g → slice_get m.funcs x ≡ o
    → IsAt g.body next own rest_code labels r.state.operands.below tail
    → r.labels.items ≡ own ++ rest → r.place.labels ≡ length rest → r.place.bottom ≡ length tail → Wait m r.callers.items rest tail r.state.locals.outer fs
    → (let c = shaped r labels fs stack code in let ws = r.state.operands.above in
    IsStep m r (where_some o (λ f. where_some (type_of m f) (λ ft. where_some (nested f.body) (λ b. let n = length ft.params in let arguments = reverse (take n ws) in when (have_types ft.params arguments)
    (Goes (record c { frame = frame_of f ft arguments b; callers = record c.frame { stack = drop n ws; code = rest_code } ∷ c.callers }))))))
    (called_of m x next r o))
called_step m r x next g None rest_code own rest labels tail fs stack code nests named e i split mark bottom w = refl
called_step m r x next g (Some f) rest_code own rest labels tail fs stack code nests named e i split mark bottom w =
    let b = nests x f e in
    typed_step m r x next g f (type_of m f) b.0 rest_code own rest labels tail fs stack code named e b.1 i split mark bottom w

-- a call is a step of the definition
pub call_step : (m : Module) (r : Run) (x next : ℕ) (g : Func) (rest_code : Code) (own rest : List Label) (labels : List Opened) (tail : List Word) (fs : List Frame) (stack : List Word) (code : Code)
    → AllNested m → slice_get m.funcs r.place.func ≡ Some g
    → IsAt g.body next own rest_code labels r.state.operands.below tail
    → r.labels.items ≡ own ++ rest → r.place.labels ≡ length rest → r.place.bottom ≡ length tail → Wait m r.callers.items rest tail r.state.locals.outer fs
    → IsStep m r (call m (shaped r labels fs stack code) x r.state.operands.above rest_code) (called m x next r)
call_step m r x next g rest_code own rest labels tail fs stack code nests named i split mark bottom w =
    called_step m r x next g (slice_get m.funcs x) rest_code own rest labels tail fs stack code nests named refl i split mark bottom w
