-- Which stacks fit what is known of the operands, and that taking and putting them is exact.
use Rattle.std.proofs.Common.{◌≡◌, refl, sym, ap, ◌∙◌, subst}
use Rattle.std.specs.Prelude.{◌↔◌, Bool, true, false, List, [], ◌∷◌, ◌++◌, reverse, Option, Some, None, slice_get}
use Rattle.wb_valid.specs.Syntax.{NumType, I32, I64, FuncType, list_of}
use Rattle.wb_syntax.specs.Typing.{Takes, Jumps}
use Rattle.wb_valid.specs.Operands.{Operands, same_type, may_be, operands, pop_from, pop, pops, Taken, take_from, take_any, put, put_result, put_result_on, joined, none_known, is_finished}
use Rattle.wb_valid.proofs.Meaning.{Does}
use Rattle.wb_valid.specs.Effects.{Effect, Moves, Jumping, Calls, Drops, Selects, Refused, list_of_takings, behind, call, left_of, put_on, select_second, select_first, select_by, applied}

-- the type may stand where this is known
abbrev pub Agrees : Option NumType → NumType → Type 0
Agrees None t = Unit {0}
Agrees (Some u) t = u ≡ t

abbrev pub FitsIn : List (Option NumType) → Bool → List NumType → Type 0
FitsIn [] true b = Unit {0}
FitsIn [] false b = b ≡ []
FitsIn (k ∷ ks) e [] = ⊥
FitsIn (k ∷ ks) e (t ∷ b) = Agrees k t × FitsIn ks e b

-- a stack is one of those of which so much is known
abbrev pub Fits : Operands → List NumType → Type 0
Fits o b = FitsIn o.known o.endless b

abbrev pub FitsAt : Option Operands → List NumType → Type 0
FitsAt None b = ⊥
FitsAt (Some o) b = Fits o b

pub both : {A B C : Type 0} → A ↔ B → B ↔ C → A ↔ C
both f g = (λ a. g.0 (f.0 a), λ c. f.1 (g.1 c))

pub same : {A : Type 0} → A ↔ A
same = (λ a. a, λ a. a)

pub neither : {A B : Type 0} → (A → ⊥) → (B → ⊥) → A ↔ B
neither f g = (λ a. absurd (f a), λ b. absurd (g b))

differ : I32 ≡ I64 → ⊥
differ e = cc

differ' : I64 ≡ I32 → ⊥
differ' e = cc

pub some_not : (t : NumType) (b : List NumType) → t ∷ b ≡ [] → ⊥
some_not t b e = cc

pub same_type_is : (t u : NumType) → same_type t u ≡ true → t ≡ u
same_type_is I32 I32 h = refl
same_type_is I64 I64 h = refl
same_type_is I32 I64 h = cc
same_type_is I64 I32 h = cc

pub same_type_of : (t : NumType) → same_type t t ≡ true
same_type_of I32 = refl
same_type_of I64 = refl

-- ---- one operand

agreeing : (k : Option NumType) (t : NumType) (ks : List (Option NumType)) (e : Bool) (b : List NumType) → (Agrees k t × FitsIn ks e b) ↔ FitsAt (elim (may_be k t) [ true ↦ Some (operands ks e) | false ↦ None ]) b
agreeing None t ks e b = (λ h. h.1, λ f. (tt, f))
agreeing (Some I32) I32 ks e b = (λ h. h.1, λ f. (refl, f))
agreeing (Some I64) I64 ks e b = (λ h. h.1, λ f. (refl, f))
agreeing (Some I32) I64 ks e b = (λ h. absurd (differ h.0), λ f. absurd f)
agreeing (Some I64) I32 ks e b = (λ h. absurd (differ' h.0), λ f. absurd f)

pop_in : (t : NumType) (ks : List (Option NumType)) (e : Bool) (b : List NumType) → FitsIn ks e (t ∷ b) ↔ FitsAt (pop_from t ks e) b
pop_in t [] true b = (λ h. tt, λ h. tt)
pop_in t [] false b = (λ h. some_not t b h, λ h. absurd h)
pop_in t (k ∷ ks) e b = agreeing k t ks e b

pub pop_fits : (t : NumType) (o : Operands) (b : List NumType) → Fits o (t ∷ b) ↔ FitsAt (pop t o) b
pop_fits t o b = pop_in t o.known o.endless b

pops_at : (ts : List NumType) → ((o : Operands) (b : List NumType) → Fits o (ts ++ b) ↔ FitsAt (pops ts o) b) → (p : Option Operands) (b : List NumType) → FitsAt p (ts ++ b) ↔ FitsAt (elim p [ None ↦ None | Some q ↦ pops ts q ]) b
pops_at ts ih None b = same
pops_at ts ih (Some q) b = ih q b

pub pops_fits : (ts : List NumType) (o : Operands) (b : List NumType) → Fits o (ts ++ b) ↔ FitsAt (pops ts o) b
pops_fits [] o b = same
pops_fits (t ∷ ts) o b = both (pop_fits t o (ts ++ b)) (pops_at ts (λ q c. pops_fits ts q c) (pop t o) b)

-- ---- every place has a stack

some_type : Option NumType → NumType
some_type None = I32
some_type (Some t) = t

some_agrees : (k : Option NumType) → Agrees k (some_type k)
unfolding some_type
some_agrees None = tt
some_agrees (Some t) = refl

a_stack_in : (ks : List (Option NumType)) (e : Bool) → (b : List NumType) × FitsIn ks e b
a_stack_in [] true = ([], tt)
a_stack_in [] false = ([], refl)
a_stack_in (k ∷ ks) e = let r = a_stack_in ks e in (some_type k ∷ r.0, (some_agrees k, r.1))

a_stack : (o : Operands) → (b : List NumType) × Fits o b
a_stack o = a_stack_in o.known o.endless

-- ---- results

result_fits : (r : Option NumType) (p : Option Operands) (b : List NumType) → FitsAt p b → FitsAt (put_result_on r p) (list_of r ++ b)
result_fits None None b h = h
result_fits (Some t) None b h = h
result_fits None (Some o) b h = h
result_fits (Some t) (Some o) b h = (refl, h)

put_back : (t : NumType) (o : Operands) (m : List NumType) → Fits (put (Some t) o) m → (b : List NumType) × (m ≡ t ∷ b) × Fits o b
put_back t o [] h = absurd h
put_back t o (u ∷ b) h = (b, ap (λ v. v ∷ b) (sym h.0), h.1)

result_back : (r : Option NumType) (p : Option Operands) (m : List NumType) → FitsAt (put_result_on r p) m → (b : List NumType) × (m ≡ list_of r ++ b) × FitsAt p b
result_back None None m h = absurd h
result_back (Some t) None m h = absurd h
result_back None (Some o) m h = (m, refl, h)
result_back (Some t) (Some o) m h = put_back t o m h

-- with a result put on a place: exactly the stacks below it, with the result on top
pub put_result_fits : (r : Option NumType) (o : Operands) (b : List NumType) → Fits o b → Fits (put_result r o) (list_of r ++ b)
put_result_fits None o b h = h
put_result_fits (Some t) o b h = (refl, h)

pub put_result_back : (r : Option NumType) (o : Operands) (m : List NumType) → Fits (put_result r o) m → (b : List NumType) × (m ≡ list_of r ++ b) × Fits o b
put_result_back None o m h = (m, refl, h)
put_result_back (Some t) o m h = put_back t o m h

-- ---- what moves

-- some stack that fits is taken to this one
abbrev pub Reaches : Operands → (List NumType → List NumType → Type 0) → List NumType → Type 0
Reaches o R m = (a : List NumType) × Fits o a × R a m

moving : (ts : List NumType) (r : Option NumType) (o : Operands) (m : List NumType) → Reaches o (λ a b. Takes ts (list_of r) a b) m ↔ FitsAt (put_result_on r (pops ts o)) m
moving ts r o m = (
  λ h. let taken = h.2 in
      let fits : Fits o (ts ++ taken.0) = subst (λ a. Fits o a) taken.1 h.1 in
      subst (λ b. FitsAt (put_result_on r (pops ts o)) b) (sym taken.2) (result_fits r (pops ts o) taken.0 ((pops_fits ts o taken.0).0 fits)),
  λ f. let back = result_back r (pops ts o) m f in
      (ts ++ back.0, (pops_fits ts o back.0).1 back.2, (back.0, refl, back.1)),
)

behind_fits : (p : Option Operands) (b m : List NumType) → FitsAt p b → FitsAt (behind p) m
behind_fits None b m h = h
behind_fits (Some o) b m h = tt

behind_back : (p : Option Operands) (m : List NumType) → FitsAt (behind p) m → (b : List NumType) × FitsAt p b
behind_back None m h = absurd h
behind_back (Some o) m h = a_stack o

jumping : (ts : List NumType) (o : Operands) (m : List NumType) → Reaches o (λ a b. Jumps ts a) m ↔ FitsAt (behind (pops ts o)) m
jumping ts o m = (
  λ h. let taken = h.2 in
      let fits : Fits o (ts ++ taken.0) = subst (λ a. Fits o a) taken.1 h.1 in
      behind_fits (pops ts o) taken.0 m ((pops_fits ts o taken.0).0 fits),
  λ f. let back = behind_back (pops ts o) m f in
      (ts ++ back.0, (pops_fits ts o back.0).1 back.1, (back.0, refl)),
)

some_same : {A : Type 0} (x y : A) → Some x ≡ Some y → x ≡ y
some_same x y e = cc

none_some : {A : Type 0} (x : A) → None ≡ Some x → ⊥
none_some x e = cc

calling : (found : Option FuncType) (o : Operands) (m : List NumType) → Reaches o (λ a b. (ft : FuncType) × (found ≡ Some ft) × Takes (reverse ft.params) (list_of ft.result) a b) m ↔ FitsAt (call found o) m
calling None o m = (λ h. absurd (none_some h.2.0 h.2.1), λ h. absurd h)
calling (Some ft) o m = (
  λ h. let e : h.2.0 ≡ ft = sym (some_same ft h.2.0 h.2.1) in
      let takes : Takes (reverse ft.params) (list_of ft.result) h.0 m = subst (λ (g : FuncType). Takes (reverse g.params) (list_of g.result) h.0 m) e h.2.2 in
      (moving (reverse ft.params) ft.result o m).0 (h.0, h.1, takes),
  λ f. let back = (moving (reverse ft.params) ft.result o m).1 f in
      (back.0, back.1, (ft, refl, back.2)),
)

-- ---- operands of any type

abbrev TakenFits : Option Taken → NumType → List NumType → Type 0
TakenFits None t b = ⊥
TakenFits (Some k) t b = Agrees k.operand t × Fits k.left b

take_in : (ks : List (Option NumType)) (e : Bool) (t : NumType) (b : List NumType) → FitsIn ks e (t ∷ b) ↔ TakenFits (take_from ks e) t b
take_in [] true t b = (λ h. (tt, tt), λ h. tt)
take_in [] false t b = (λ h. some_not t b h, λ h. absurd h)
take_in (k ∷ ks) e t b = same

take_fits : (o : Operands) (t : NumType) (b : List NumType) → Fits o (t ∷ b) ↔ TakenFits (take_any o) t b
take_fits o t b = take_in o.known o.endless t b

left_fits : (k : Option Taken) (t : NumType) (b : List NumType) → TakenFits k t b → FitsAt (left_of k) b
left_fits None t b h = h
left_fits (Some k) t b h = h.1

left_back : (k : Option Taken) (b : List NumType) → FitsAt (left_of k) b → (t : NumType) × TakenFits k t b
left_back None b h = absurd h
left_back (Some k) b h = (some_type k.operand, (some_agrees k.operand, h))

dropping : (o : Operands) (m : List NumType) → Reaches o (λ a b. (t : NumType) × Takes (t ∷ []) [] a b) m ↔ FitsAt (left_of (take_any o)) m
dropping o m = (
  λ h. let t = h.2.0 in let taken = h.2.1 in
      let fits : Fits o (t ∷ taken.0) = subst (λ a. Fits o a) taken.1 h.1 in
      subst (λ b. FitsAt (left_of (take_any o)) b) (sym taken.2) (left_fits (take_any o) t taken.0 ((take_fits o t taken.0).0 fits)),
  λ f. let back = left_back (take_any o) m f in
      (back.0 ∷ m, (take_fits o back.0 m).1 back.1, (back.0, (m, refl, refl))),
)

joining : (k l : Option NumType) (o : Operands) (t : NumType) (b : List NumType) → (Agrees k t × Agrees l t × Fits o b) ↔ FitsAt (put_on (joined k l) o) (t ∷ b)
joining None l o t b = (λ h. (h.1, h.2), λ h. (tt, h.0, h.1))
joining (Some u) None o t b = (λ h. (h.0, h.2), λ h. (h.0, tt, h.1))
joining (Some I32) (Some I32) o t b = (λ h. (h.0, h.2), λ h. (h.0, h.0, h.1))
joining (Some I64) (Some I64) o t b = (λ h. (h.0, h.2), λ h. (h.0, h.0, h.1))
joining (Some I32) (Some I64) o t b = (λ h. absurd (differ (h.0 ∙ sym h.1)), λ h. absurd h)
joining (Some I64) (Some I32) o t b = (λ h. absurd (differ' (h.0 ∙ sym h.1)), λ h. absurd h)

second : (k : Option NumType) (z : Option Taken) (t : NumType) (b : List NumType) → (Agrees k t × TakenFits z t b) ↔ FitsAt (select_second k z) (t ∷ b)
second k None t b = (λ h. absurd h.1, λ h. absurd h)
second k (Some w) t b = both (λ h. (h.0, h.1.0, h.1.1), λ h. (h.0, (h.1, h.2))) (joining k w.operand w.left t b)

first : (x : Option Taken) (t : NumType) (b : List NumType) → TakenFits x t (t ∷ b) ↔ FitsAt (select_first x) (t ∷ b)
first None t b = same
first (Some y) t b = both (λ h. (h.0, (take_fits y.left t b).0 h.1), λ h. (h.0, (take_fits y.left t b).1 h.1)) (second y.operand (take_any y.left) t b)

selected : (p : Option Operands) (t : NumType) (b : List NumType) → FitsAt p (t ∷ t ∷ b) ↔ FitsAt (select_by p) (t ∷ b)
selected None t b = same
selected (Some o) t b = both (take_fits o t (t ∷ b)) (first (take_any o) t b)

put_not_empty : (k : Option (Option NumType)) (o : Operands) → FitsAt (put_on k o) [] → ⊥
put_not_empty None o h = h
put_not_empty (Some k) o h = h

second_not_empty : (k : Option NumType) (z : Option Taken) → FitsAt (select_second k z) [] → ⊥
second_not_empty k None h = h
second_not_empty k (Some w) h = put_not_empty (joined k w.operand) w.left h

first_not_empty : (x : Option Taken) → FitsAt (select_first x) [] → ⊥
first_not_empty None h = h
first_not_empty (Some y) h = second_not_empty y.operand (take_any y.left) h

selected_not_empty : (p : Option Operands) → FitsAt (select_by p) [] → ⊥
selected_not_empty None h = h
selected_not_empty (Some o) h = first_not_empty (take_any o) h

selecting_back : (o : Operands) (m : List NumType) → FitsAt (select_by (pops (I32 ∷ []) o)) m → Reaches o (λ a b. (t : NumType) × Takes (I32 ∷ t ∷ t ∷ []) (t ∷ []) a b) m
selecting_back o [] h = absurd (selected_not_empty (pops (I32 ∷ []) o) h)
selecting_back o (t ∷ b) h = (I32 ∷ t ∷ t ∷ b, (pops_fits (I32 ∷ []) o (t ∷ t ∷ b)).1 ((selected (pops (I32 ∷ []) o) t b).1 h), (t, (b, refl, refl)))

selecting : (o : Operands) (m : List NumType) → Reaches o (λ a b. (t : NumType) × Takes (I32 ∷ t ∷ t ∷ []) (t ∷ []) a b) m ↔ FitsAt (select_by (pops (I32 ∷ []) o)) m
selecting o m = (
  λ h. let t = h.2.0 in let taken = h.2.1 in
      let fits : Fits o (I32 ∷ t ∷ t ∷ taken.0) = subst (λ a. Fits o a) taken.1 h.1 in
      subst (λ b. FitsAt (select_by (pops (I32 ∷ []) o)) b) (sym taken.2) ((selected (pops (I32 ∷ []) o) t taken.0).0 ((pops_fits (I32 ∷ []) o (t ∷ t ∷ taken.0)).0 fits)),
  λ f. selecting_back o m f,
)

-- an effect leaves exactly the stacks that it takes one that fits to
pub applied_fits : (types : List FuncType) (e : Effect) (o : Operands) (m : List NumType) → Reaches o (λ a b. Does types e a b) m ↔ FitsAt (applied types e o) m
applied_fits types (Moves k r) o m = moving (list_of_takings k) r o m
applied_fits types (Jumping k) o m = jumping (list_of_takings k) o m
applied_fits types (Calls i) o m = calling (slice_get types i) o m
applied_fits types Drops o m = dropping o m
applied_fits types Selects o m = selecting o m
applied_fits types Refused o m = (λ h. absurd h.2, λ h. absurd h)

-- ---- the result at the end of a construct

none_known_fits : (ks : List (Option NumType)) (e : Bool) → FitsIn ks e [] ↔ (none_known (operands ks e) ≡ true)
none_known_fits [] true = (λ h. refl, λ h. tt)
none_known_fits [] false = (λ h. refl, λ h. refl)
none_known_fits (k ∷ ks) e = (λ h. absurd h, λ h. cc)

finished_at : (p : Option Operands) → FitsAt p [] ↔ (elim p [ None ↦ false | Some q ↦ none_known q ] ≡ true)
finished_at None = (λ h. absurd h, λ h. cc)
finished_at (Some q) = none_known_fits q.known q.endless

pub finished_fits : (r : Option NumType) (o : Operands) → Fits o (list_of r) ↔ (is_finished r o ≡ true)
finished_fits None o = none_known_fits o.known o.endless
finished_fits (Some t) o = both (pop_fits t o []) (finished_at (pop t o))
