-- Instructions close all that is open, with code that is typed, exactly where the steps over them lead to the end of the body.
use Rattle.std.proofs.Common.{◌≡◌, refl, sym, ap, ◌∙◌, subst, inl, inr}
use Rattle.std.specs.Prelude.{◌↔◌, ◌&&◌, Bool, true, false, List, [], ◌∷◌, ◌++◌, Option, Some, None, slice_get}
use Rattle.wb_syntax.specs.Nesting.{flat, IsSimple}
use Rattle.wb_syntax.specs.Typing.{Context, IsPlain, Types, context_of, IsTypedBody}
use Rattle.wb_valid.specs.Syntax.{NumType, I32, Instr, Block, Loop, If, Else, End, FuncType, Func, Module, list_of}
use Rattle.wb_valid.specs.Operands.{Operands, pop, put_result, is_finished}
use Rattle.wb_valid.specs.Effects.{effect, applied}
use Rattle.wb_valid.specs.Checking.{Kind, Whole, Repeated, FirstBranch, Frame, opened, delivered, may_end, ended, turned, going_on, branching, inner, step_in, closes}
use Rattle.wb_valid.proofs.Fitting.{both, same, Fits, FitsAt, pop_fits, put_result_fits, put_result_back, applied_fits, finished_fits}
use Rattle.wb_valid.proofs.Plain.{plain_does}
use Rattle.wb_valid.proofs.Levels.{Closing, Level, IsEmpty, Ending, Pushed, NotClosing, ending_not, map_level, simple_goes, simple_back, end_level, level_some, head_same, tail_same}
use Rattle.wb_valid.proofs.Constructs.{Below, if_needs, block_level, loop_level, if_level}

-- behind a construct with this result: the constructs around it are closed
abbrev pub Delivered : Context → Option NumType → List Frame → List Instr → Type 0
Delivered base r [] is = is ≡ []
Delivered base r (g ∷ gs) is = Level (inner base (g ∷ gs)) g.result (Ending g.kind (inner base (g ∷ gs)) g.result (λ rest. Delivered base g.result gs rest)) (Fits (put_result r g.operands)) is

-- these constructs are closed, and then the body
abbrev pub Rests : Context → List Frame → List Instr → Type 0
Rests base [] is = is ≡ []
Rests base (f ∷ fs) is = Level (inner base (f ∷ fs)) f.result (Ending f.kind (inner base (f ∷ fs)) f.result (λ rest. Delivered base f.result fs rest)) (Fits f.operands) is

abbrev pub RestsAt : Context → Option (List Frame) → List Instr → Type 0
RestsAt base None is = ⊥
RestsAt base (Some fs) is = Rests base fs is

delivered_rests : (base : Context) (r : Option NumType) (fs : List Frame) (is : List Instr) → Delivered base r fs is ↔ Rests base (delivered r fs) is
delivered_rests base r [] is = same
delivered_rests base r (g ∷ gs) is = same

false_true : false ≡ true → ⊥
false_true e = cc

guarded : (base : Context) (gs : List Frame) (is : List Instr) (b : Bool) → ((b ≡ true) × Rests base gs is) ↔ RestsAt base (elim b [ true ↦ Some gs | false ↦ None ]) is
guarded base gs is true = (λ h. h.1, λ h. (refl, h))
guarded base gs is false = (λ h. absurd (false_true h.0), λ h. absurd h)

-- what is open around an instruction of a frame, and what ends that frame
abbrev Ends : Context → Kind → Option NumType → Operands → List Frame → List Instr → Type 0
Ends base k r o fs is = Ending k (inner base (record { kind = k; result = r; operands = o } ∷ fs)) r (λ rest. Delivered base r fs rest) is

abbrev At : Context → Kind → Option NumType → Operands → List Frame → (List NumType → Type 0) → List Instr → Type 0
At base k r o fs S is = Level (inner base (record { kind = k; result = r; operands = o } ∷ fs)) r (Ends base k r o fs) S is

-- ---- instructions that are no constructs

going : (base : Context) (k : Kind) (r : Option NumType) (o : Operands) (fs : List Frame) (p : Option Operands) (is : List Instr) → At base k r o fs (FitsAt p) is ↔ RestsAt base (going_on (record { kind = k; result = r; operands = o }) fs p) is
going base k r o fs None is = (λ h. absurd h.4, λ h. absurd h)
going base k r o fs (Some q) is = same

simple_step : (base : Context) (k : Kind) (r : Option NumType) (o : Operands) (fs : List Frame) (i : Instr) (is : List Instr) → IsSimple i → NotClosing i → At base k r o fs (Fits o) (i ∷ is) ↔ RestsAt base (going_on (record { kind = k; result = r; operands = o }) fs (applied base.types (effect (inner base (record { kind = k; result = r; operands = o } ∷ fs)) i) o)) is
simple_step base k r o fs i is p n =
    let c : Context = inner base (record { kind = k; result = r; operands = o } ∷ fs) in
    let q : Option Operands = applied base.types (effect c i) o in
    let forward = λ (m : List NumType) (h : (a : List NumType) × Fits o a × IsPlain c i a m). (applied_fits base.types (effect c i) o m).0 (h.0, h.1, (plain_does c i h.0 m).0 h.2) in
    let back : (m : List NumType) → FitsAt q m → (a : List NumType) × Fits o a × IsPlain c i a m = λ m h. let b = (applied_fits base.types (effect c i) o m).1 h in (b.0, b.1, (plain_does c i b.0 m).1 b.2) in
    both (
      simple_goes c r (Ends base k r o fs) (Fits o) (FitsAt q) i is p (λ x. ending_not k c r (λ rest. Delivered base r fs rest) i is n x) forward,
      simple_back c r (Ends base k r o fs) (Fits o) (FitsAt q) i is back,
    )
    (going base k r o fs q is)

-- ---- constructs that begin

pushed_is : (base : Context) (k : Kind) (r : Option NumType) (o p : Operands) (fs : List Frame) (t : Option NumType) (S : List NumType → Type 0) → ((b : List NumType) → S b ↔ Fits p b) → (rest : List Instr) → At base k r o fs (Pushed t S) rest ↔ Delivered base t (record { kind = k; result = r; operands = p } ∷ fs) rest
pushed_is base k r o p fs t S iff rest =
    let c : Context = inner base (record { kind = k; result = r; operands = o } ∷ fs) in
    let there = λ (m : List NumType) (h : Pushed t S m). subst (λ a. Fits (put_result t p) a) (sym h.1) (put_result_fits t p h.0 ((iff h.0).0 h.2)) in
    let back : (m : List NumType) → Fits (put_result t p) m → Pushed t S m = λ m h. let b = put_result_back t p m h in (b.0, b.1, (iff b.0).1 b.2) in
    (map_level c r (Ends base k r o fs) (Pushed t S) (Fits (put_result t p)) rest there, map_level c r (Ends base k r o fs) (Fits (put_result t p)) (Pushed t S) rest back)

block_step : (base : Context) (k : Kind) (r : Option NumType) (o : Operands) (fs : List Frame) (t : Option NumType) (is : List Instr) → At base k r o fs (Fits o) (Block t ∷ is) ↔ Rests base (opened Whole t ∷ record { kind = k; result = r; operands = o } ∷ fs) is
block_step base k r o fs t is =
    let f : Frame = record { kind = k; result = r; operands = o } in
    block_level (inner base (f ∷ fs)) r (Ends base k r o fs) (Fits o) (λ rest. Delivered base t (f ∷ fs) rest) t is
    (λ x. ending_not k (inner base (f ∷ fs)) r (λ rest. Delivered base r fs rest) (Block t) is tt x)
    (λ rest. pushed_is base k r o o fs t (Fits o) (λ b. same) rest)

loop_step : (base : Context) (k : Kind) (r : Option NumType) (o : Operands) (fs : List Frame) (t : Option NumType) (is : List Instr) → At base k r o fs (Fits o) (Loop t ∷ is) ↔ Rests base (opened Repeated t ∷ record { kind = k; result = r; operands = o } ∷ fs) is
loop_step base k r o fs t is =
    let f : Frame = record { kind = k; result = r; operands = o } in
    loop_level (inner base (f ∷ fs)) r (Ends base k r o fs) (Fits o) (λ rest. Delivered base t (f ∷ fs) rest) t is
    (λ x. ending_not k (inner base (f ∷ fs)) r (λ rest. Delivered base r fs rest) (Loop t) is tt x)
    (λ rest. pushed_is base k r o o fs t (Fits o) (λ b. same) rest)

if_at : (base : Context) (k : Kind) (r : Option NumType) (o : Operands) (fs : List Frame) (t : Option NumType) (is : List Instr) (p : Option Operands) → ((b : List NumType) → Fits o (I32 ∷ b) ↔ FitsAt p b) → At base k r o fs (Fits o) (If t ∷ is) ↔ RestsAt base (branching t (record { kind = k; result = r; operands = o }) fs p) is
if_at base k r o fs t is None iff =
    let f : Frame = record { kind = k; result = r; operands = o } in
    let never = λ (x : Ends base k r o fs (If t ∷ is)). ending_not k (inner base (f ∷ fs)) r (λ rest. Delivered base r fs rest) (If t) is tt x in
    (λ h. let b = if_needs (inner base (f ∷ fs)) r (Ends base k r o fs) (Fits o) t is never h in absurd ((iff b.0).0 b.1), λ h. absurd h)
if_at base k r o fs t is (Some q) iff =
    let f : Frame = record { kind = k; result = r; operands = o } in
    let g : Frame = record { kind = k; result = r; operands = q } in
    if_level (inner base (f ∷ fs)) r (Ends base k r o fs) (Fits o) (λ rest. Delivered base t (g ∷ fs) rest) t is
    (λ x. ending_not k (inner base (f ∷ fs)) r (λ rest. Delivered base r fs rest) (If t) is tt x)
    (λ rest. pushed_is base k r o q fs t (Below (Fits o)) iff rest)

-- ---- else

else_end : (Next : List Instr → Type 0) (is : List Instr) → Closing Next (Else ∷ is) → ⊥
else_end Next is h = let e : Else ≡ End = head_same Else End is h.0 h.1 in let never : ⊥ = cc in never

end_else : (is js : List Instr) → End ∷ is ≡ Else ∷ js → ⊥
end_else is js h = let e : End ≡ Else = head_same End Else is js h in let never : ⊥ = cc in never

second_branch : (c : Context) (r : Option NumType) (Next : List Instr → Type 0) (is : List Instr) → Ending FirstBranch c r Next (Else ∷ is) → Level c r (Closing Next) IsEmpty is
second_branch c r Next is (inl h) = absurd (else_end Next is h.1)
second_branch c r Next is (inr h) = subst (λ l. Level c r (Closing Next) IsEmpty l) (sym (tail_same Else Else is h.0 h.1)) h.2

else_step : (base : Context) (k : Kind) (r : Option NumType) (o : Operands) (fs : List Frame) (is : List Instr) → At base k r o fs (Fits o) (Else ∷ is) ↔ RestsAt base (turned k (record { kind = k; result = r; operands = o }) fs) is
else_step base Whole r o fs is = (λ h. let e = (end_level (inner base (record { kind = Whole; result = r; operands = o } ∷ fs)) r (Ends base Whole r o fs) (Fits o) Else is tt).0 h in absurd (else_end (λ rest. Delivered base r fs rest) is e.0), λ h. absurd h)
else_step base Repeated r o fs is = (λ h. let e = (end_level (inner base (record { kind = Repeated; result = r; operands = o } ∷ fs)) r (Ends base Repeated r o fs) (Fits o) Else is tt).0 h in absurd (else_end (λ rest. Delivered base r fs rest) is e.0), λ h. absurd h)
else_step base FirstBranch r o fs is =
    let c : Context = inner base (record { kind = FirstBranch; result = r; operands = o } ∷ fs) in
    both (both (end_level c r (Ends base FirstBranch r o fs) (Fits o) Else is tt)
    (λ h. ((finished_fits r o).0 h.1, second_branch c r (λ rest. Delivered base r fs rest) is h.0), λ h. (inr (is, refl, h.1), (finished_fits r o).1 h.0)))
    (guarded base (opened Whole r ∷ fs) is (is_finished r o))

-- ---- end

closing_next : (Next : List Instr → Type 0) (is : List Instr) → Closing Next (End ∷ is) → Next is
closing_next Next is h = subst Next (sym (tail_same End End is h.0 h.1)) h.2

some_none : (t : NumType) → Some t ≡ None → ⊥
some_none t e = cc

true_and : (b c : Bool) → b ≡ true → c ≡ true → (b && c) ≡ true
true_and true c e f = f
true_and false c e f = cc

and_true : (b c : Bool) → (b && c) ≡ true → (b ≡ true) × (c ≡ true)
and_true true c e = (refl, e)
and_true false c e = cc

first_end : (c : Context) (r : Option NumType) (Next : List Instr → Type 0) (is : List Instr) → Ending FirstBranch c r Next (End ∷ is) → (may_end FirstBranch r ≡ true) × Next is
first_end c None Next is (inl h) = (refl, closing_next Next is h.1)
first_end c (Some t) Next is (inl h) = absurd (some_none t h.0)
first_end c r Next is (inr h) = absurd (end_else is h.0 h.1)

first_none : (r : Option NumType) → may_end FirstBranch r ≡ true → r ≡ None
first_none None h = refl
first_none (Some t) h = cc

ending_end : (k : Kind) (c : Context) (r : Option NumType) (Next : List Instr → Type 0) (is : List Instr) → Ending k c r Next (End ∷ is) ↔ ((may_end k r ≡ true) × Next is)
ending_end Whole c r Next is = (λ h. (refl, closing_next Next is h), λ h. (is, refl, h.1))
ending_end Repeated c r Next is = (λ h. (refl, closing_next Next is h), λ h. (is, refl, h.1))
ending_end FirstBranch c r Next is = (λ h. first_end c r Next is h, λ h. inl (first_none r h.0, (is, refl, h.1)))

end_step : (base : Context) (k : Kind) (r : Option NumType) (o : Operands) (fs : List Frame) (is : List Instr) → At base k r o fs (Fits o) (End ∷ is) ↔ RestsAt base (ended (record { kind = k; result = r; operands = o }) fs) is
end_step base k r o fs is =
    let c : Context = inner base (record { kind = k; result = r; operands = o } ∷ fs) in
    let ends = ending_end k c r (λ rest. Delivered base r fs rest) is in
    both (both (end_level c r (Ends base k r o fs) (Fits o) End is tt) (
      λ h. let e = ends.0 h.0 in (true_and (is_finished r o) (may_end k r) ((finished_fits r o).0 h.1) e.0, (delivered_rests base r fs is).0 e.1),
      λ h. let t = and_true (is_finished r o) (may_end k r) h.0 in (ends.1 (t.1, (delivered_rests base r fs is).1 h.1), (finished_fits r o).1 t.0),
    ))
    (guarded base (delivered r fs) is (is_finished r o && may_end k r))

-- ---- a step, and all steps

frame_step : (base : Context) (k : Kind) (r : Option NumType) (o : Operands) (fs : List Frame) (i : Instr) (is : List Instr) → At base k r o fs (Fits o) (i ∷ is) ↔ RestsAt base (step_in base (record { kind = k; result = r; operands = o }) fs i) is
frame_step base k r o fs (Block t) is = block_step base k r o fs t is
frame_step base k r o fs (Loop t) is = loop_step base k r o fs t is
frame_step base k r o fs (If t) is = if_at base k r o fs t is (pop I32 o) (λ b. pop_fits I32 o b)
frame_step base k r o fs Else is = else_step base k r o fs is
frame_step base k r o fs End is = end_step base k r o fs is
frame_step base k r o fs i is = simple_step base k r o fs i is tt tt

at_next : (base : Context) (is : List Instr) → ((fs : List Frame) → Rests base fs is ↔ (closes base fs is ≡ true)) → (o : Option (List Frame)) → RestsAt base o is ↔ (elim o [ None ↦ false | Some gs ↦ closes base gs is ] ≡ true)
at_next base is ih None = (λ h. absurd h, λ h. cc)
at_next base is ih (Some gs) = ih gs

some_empty : (i : Instr) (is : List Instr) → i ∷ is ≡ [] → ⊥
some_empty i is e = cc

pub closes_rests : (base : Context) (fs : List Frame) (is : List Instr) → Rests base fs is ↔ (closes base fs is ≡ true)
closes_rests base [] [] = (λ h. refl, λ h. refl)
closes_rests base (f ∷ fs) [] = (λ h. absurd (level_some f.kind (inner base (f ∷ fs)) (inner base (f ∷ fs)) f.result f.result (λ rest. Delivered base f.result fs rest) (Fits f.operands) h), λ h. absurd (false_true h))
closes_rests base [] (i ∷ is) = (λ h. absurd (some_empty i is h), λ h. absurd (false_true h))
closes_rests base (f ∷ fs) (i ∷ is) = both (frame_step base f.kind f.result f.operands fs i is) (at_next base is (λ gs. closes_rests base gs is) (step_in base f fs i))

-- ---- bodies

some_same : {A : Type 0} (x y : A) → Some x ≡ Some y → x ≡ y
some_same x y e = cc

none_some : {A : Type 0} (x : A) → None ≡ Some x → ⊥
none_some x e = cc

body_rests : (m : Module) (f : Func) (ft : FuncType) → slice_get m.types f.ty ≡ Some ft → IsTypedBody m f ↔ Rests (context_of m f ft) (opened Whole ft.result ∷ []) f.body
body_rests m f ft e = (
  λ t. let g : t.type ≡ ft = some_same t.type ft (sym t.named ∙ e) in
      (t.code, [], End ∷ [], t.nests, refl, subst (λ (u : FuncType). Types (context_of m f u) t.code [] (list_of u.result)) g t.typed, ([], refl, refl)),
  λ h. record {
    type = ft;
    code = h.0;
    named = e;
    nests = h.3 ∙ ap (λ l. flat h.0 ++ l) (h.6.1 ∙ ap (λ l. End ∷ l) h.6.2);
    typed = subst (λ a. Types (context_of m f ft) h.0 a (list_of ft.result)) h.4 h.5;
  },
)

-- a body is typed exactly where the steps over it lead to its end
pub body_closes : (m : Module) (f : Func) (ft : FuncType) → slice_get m.types f.ty ≡ Some ft → IsTypedBody m f ↔ (closes (context_of m f ft) (opened Whole ft.result ∷ []) f.body ≡ true)
body_closes m f ft e = both (body_rests m f ft e) (closes_rests (context_of m f ft) (opened Whole ft.result ∷ []) f.body)

-- a function whose type is not there has no typed body
pub body_untyped : (m : Module) (f : Func) → slice_get m.types f.ty ≡ None → IsTypedBody m f → ⊥
body_untyped m f e t = none_some t.type (sym e ∙ t.named)
