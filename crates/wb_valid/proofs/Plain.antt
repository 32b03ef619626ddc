-- The effect of an instruction is what its typing says.
use Rattle.std.proofs.Common.{◌≡◌, ℕ, refl, sym, ap, ◌∙◌, subst, ◌^◌}
use Rattle.std.specs.Prelude.{◌↔◌, ◌&&◌, nat_le, Bool, true, false, List, [], ◌∷◌, Option, Some, None, slice_get}
use Rattle.std.proofs.lemmas.Bool.{le-leb, leb-true}
use Rattle.wb_valid.specs.Syntax.{NumType, I32, Instr, Unreachable, Nop, Block, Loop, If, Else, End, Br, BrIf, BrTable, Return, Call, Drop, Select, LocalGet, LocalSet, LocalTee, GlobalGet, GlobalSet, Load, Store, MemorySize, MemoryGrow, I32Const, I64Const, Unary, Binary, FuncType, Global, list_of}
use Rattle.wb_syntax.specs.Table.{Row, Loads, Stores, Takes1, Takes2, row_at}
use Rattle.wb_syntax.specs.Typing.{Context, Takes, Jumps, AreLabels, IsAccess, IsLoad, IsStore, IsUnary, IsBinary, IsPlain}
use Rattle.wb_valid.proofs.Meaning.{Does}
use Rattle.wb_valid.specs.Effects.{Effect, Moves, Jumping, Calls, taking, gives, at_index, only_if, set_global, is_access, load_effect, store_effect, unary_effect, binary_effect, same_result, carries, all_carry, effect}
use Rattle.wb_valid.proofs.Fitting.{both, same, same_type_is, same_type_of}

some_same : {A : Type 0} (x y : A) → Some x ≡ Some y → x ≡ y
some_same x y e = cc

none_some : {A : Type 0} (x : A) → None ≡ Some x → ⊥
none_some x e = cc

false_true : false ≡ true → ⊥
false_true e = cc

-- what stands at an index
indexed : {A : Type 0} (types : List FuncType) (e : A → Effect) (P : A → Type 0) (a b : List NumType) → ((x : A) → P x ↔ Does types (e x) a b) → (found : Option A) → ((x : A) × (found ≡ Some x) × P x) ↔ Does types (at_index e found) a b
indexed types e P a b each None = (λ h. absurd (none_some h.0 h.1), λ h. absurd h)
indexed types e P a b each (Some x) = (λ h. (each x).0 (subst P (sym (some_same x h.0 h.1)) h.2), λ d. (x, refl, (each x).1 d))

-- what a test allows
tested : (types : List FuncType) (e : Effect) (P : Type 0) (a b : List NumType) → P ↔ Does types e a b → (t : Bool) → ((t ≡ true) × P) ↔ Does types (only_if t e) a b
tested types e P a b iff true = (λ h. iff.0 h.1, λ d. (refl, iff.1 d))
tested types e P a b iff false = (λ h. absurd (false_true h.0), λ d. absurd d)

and_left : (s t : Bool) → (s && t) ≡ true → s ≡ true
and_left true t h = refl
and_left false t h = cc

and_right : (s t : Bool) → (s && t) ≡ true → t ≡ true
and_right true t h = h
and_right false t h = cc

and_both : (s t : Bool) → s ≡ true → t ≡ true → (s && t) ≡ true
and_both true t e h = h
and_both false t e h = cc

access : (c : Context) (align bytes : ℕ) → IsAccess c align bytes ↔ (is_access c.has_memory align bytes ≡ true)
access c align bytes = (
  λ h. and_both c.has_memory (nat_le (2 ^ align) bytes) h.0 (le-leb (2 ^ align) bytes h.1),
  λ h. (and_left c.has_memory (nat_le (2 ^ align) bytes) h, leb-true (2 ^ align) bytes (and_right c.has_memory (nat_le (2 ^ align) bytes) h)),
)

with_access : (c : Context) (align bytes : ℕ) (P : Type 0) → (IsAccess c align bytes × P) ↔ ((is_access c.has_memory align bytes ≡ true) × P)
with_access c align bytes P = (λ h. ((access c align bytes).0 h.0, h.1), λ h. ((access c align bytes).1 h.0, h.1))

load : (c : Context) (r : Row) (align : ℕ) (a b : List NumType) → IsLoad c r align a b ↔ Does c.types (load_effect c.has_memory align r) a b
load c (Loads t bytes e) align a b = both (with_access c align bytes (Takes (I32 ∷ []) (t ∷ []) a b)) (tested c.types (Moves (taking (Some I32) None) (Some t)) (Takes (I32 ∷ []) (t ∷ []) a b) a b same (is_access c.has_memory align bytes))
load c _ align a b = same

store : (c : Context) (r : Row) (align : ℕ) (a b : List NumType) → IsStore c r align a b ↔ Does c.types (store_effect c.has_memory align r) a b
store c (Stores t bytes) align a b = both (with_access c align bytes (Takes (t ∷ I32 ∷ []) [] a b)) (tested c.types (Moves (taking (Some t) (Some I32)) None) (Takes (t ∷ I32 ∷ []) [] a b) a b same (is_access c.has_memory align bytes))
store c _ align a b = same

unary : (types : List FuncType) (r : Row) (a b : List NumType) → IsUnary r a b ↔ Does types (unary_effect r) a b
unary types (Takes1 t r op) a b = same
unary types _ a b = same

binary : (types : List FuncType) (r : Row) (a b : List NumType) → IsBinary r a b ↔ Does types (binary_effect r) a b
binary types (Takes2 t r op) a b = same
binary types _ a b = same

-- ---- labels

same_result_is : (t u : Option NumType) → same_result t u ≡ true → u ≡ t
same_result_is None None h = refl
same_result_is None (Some u) h = cc
same_result_is (Some t) None h = cc
same_result_is (Some t) (Some u) h = ap Some (sym (same_type_is t u h))

same_result_of : (t : Option NumType) → same_result t t ≡ true
same_result_of None = refl
same_result_of (Some t) = same_type_of t

carries_is : (t : Option NumType) (found : Option (Option NumType)) → carries t found ≡ true → found ≡ Some t
carries_is t None h = cc
carries_is t (Some u) h = ap Some (same_result_is t u h)

carries_of : (t : Option NumType) (found : Option (Option NumType)) → found ≡ Some t → carries t found ≡ true
carries_of t found e = ap (carries t) e ∙ same_result_of t

all_labels : (c : Context) (t : Option NumType) (ls : List ℕ) → AreLabels c t ls ↔ (all_carry c.labels t ls ≡ true)
all_labels c t [] = (λ h. refl, λ h. tt)
all_labels c t (l ∷ ls) = (
  λ h. and_both (carries t (slice_get c.labels l)) (all_carry c.labels t ls) (carries_of t (slice_get c.labels l) h.0) ((all_labels c t ls).0 h.1),
  λ h. (carries_is t (slice_get c.labels l) (and_left (carries t (slice_get c.labels l)) (all_carry c.labels t ls) h), (all_labels c t ls).1 (and_right (carries t (slice_get c.labels l)) (all_carry c.labels t ls) h)),
)

one_label : (c : Context) (l : ℕ) (P : Option NumType → Type 0) → ((t : Option NumType) × AreLabels c t (l ∷ []) × P t) ↔ ((t : Option NumType) × (slice_get c.labels l ≡ Some t) × P t)
one_label c l P = (λ h. (h.0, h.1.0, h.2), λ h. (h.0, (h.1, tt), h.2))

table_labels : (c : Context) (l : ℕ) (ls : List ℕ) (P : Option NumType → Type 0) → ((t : Option NumType) × AreLabels c t (l ∷ ls) × P t) ↔ ((t : Option NumType) × (slice_get c.labels l ≡ Some t) × ((all_carry c.labels t ls ≡ true) × P t))
table_labels c l ls P = (λ h. (h.0, h.1.0, ((all_labels c h.0 ls).0 h.1.1, h.2)), λ h. (h.0, (h.1, (all_labels c h.0 ls).1 h.2.0), h.2.1))

-- ---- each instruction

nothing_moves : (a b : List NumType) → (a ≡ b) ↔ Takes [] [] a b
nothing_moves a b = (λ e. (b, e, refl), λ h. h.1 ∙ sym h.2)

always_jumps : (a : List NumType) → Unit {0} ↔ Jumps [] a
always_jumps a = (λ h. (a, refl), λ h. tt)

calls : (c : Context) (f : ℕ) (a b : List NumType) → IsPlain c (Call f) a b ↔ ((i : ℕ) × (slice_get c.funcs f ≡ Some i) × Does c.types (Calls i) a b)
calls c f a b = (λ h. (h.0, h.2, (h.1, h.3, h.4)), λ h. (h.0, h.2.0, h.1, h.2.1, h.2.2))

global_set : (c : Context) (x : ℕ) (a b : List NumType) → IsPlain c (GlobalSet x) a b ↔ ((g : Global) × (slice_get c.globals x ≡ Some g) × ((g.mutable ≡ true) × Takes (g.ty ∷ []) [] a b))
global_set c x a b = (λ h. (h.0, h.1, (h.2, h.3)), λ h. (h.0, h.1, h.2.0, h.2.1))

pub plain_does : (c : Context) (i : Instr) (a b : List NumType) → IsPlain c i a b ↔ Does c.types (effect c i) a b
plain_does c (I32Const z) a b = same
plain_does c (I64Const z) a b = same
plain_does c (Unary op) a b = unary c.types (row_at op) a b
plain_does c (Binary op) a b = binary c.types (row_at op) a b
plain_does c Drop a b = same
plain_does c Select a b = same
plain_does c (LocalGet x) a b = indexed c.types gives (λ t. Takes [] (t ∷ []) a b) a b (λ t. same) (slice_get c.locals x)
plain_does c (LocalSet x) a b = indexed c.types (λ t. Moves (taking (Some t) None) None) (λ t. Takes (t ∷ []) [] a b) a b (λ t. same) (slice_get c.locals x)
plain_does c (LocalTee x) a b = indexed c.types (λ t. Moves (taking (Some t) None) (Some t)) (λ t. Takes (t ∷ []) (t ∷ []) a b) a b (λ t. same) (slice_get c.locals x)
plain_does c (GlobalGet x) a b = indexed c.types (λ (g : Global). gives g.ty) (λ (g : Global). Takes [] (g.ty ∷ []) a b) a b (λ g. same) (slice_get c.globals x)
plain_does c (GlobalSet x) a b = both (global_set c x a b) (indexed c.types set_global (λ (g : Global). (g.mutable ≡ true) × Takes (g.ty ∷ []) [] a b) a b (λ (g : Global). tested c.types (Moves (taking (Some g.ty) None) None) (Takes (g.ty ∷ []) [] a b) a b same g.mutable) (slice_get c.globals x))
plain_does c (Load op align offset) a b = load c (row_at op) align a b
plain_does c (Store op align offset) a b = store c (row_at op) align a b
plain_does c MemorySize a b = tested c.types (gives I32) (Takes [] (I32 ∷ []) a b) a b same c.has_memory
plain_does c MemoryGrow a b = tested c.types (Moves (taking (Some I32) None) (Some I32)) (Takes (I32 ∷ []) (I32 ∷ []) a b) a b same c.has_memory
plain_does c Nop a b = nothing_moves a b
plain_does c Unreachable a b = always_jumps a
plain_does c (Br l) a b = both (one_label c l (λ t. Jumps (list_of t) a)) (indexed c.types (λ t. Jumping (taking None t)) (λ t. Jumps (list_of t) a) a b (λ t. same) (slice_get c.labels l))
plain_does c (BrIf l) a b = both (one_label c l (λ t. Takes (I32 ∷ list_of t) (list_of t) a b)) (indexed c.types (λ t. Moves (taking (Some I32) t) t) (λ t. Takes (I32 ∷ list_of t) (list_of t) a b) a b (λ t. same) (slice_get c.labels l))
plain_does c (BrTable ls l) a b = both (table_labels c l ls (λ t. Jumps (I32 ∷ list_of t) a)) (indexed c.types (λ t. only_if (all_carry c.labels t ls) (Jumping (taking (Some I32) t))) (λ t. (all_carry c.labels t ls ≡ true) × Jumps (I32 ∷ list_of t) a) a b (λ t. tested c.types (Jumping (taking (Some I32) t)) (Jumps (I32 ∷ list_of t) a) a b same (all_carry c.labels t ls)) (slice_get c.labels l))
plain_does c Return a b = same
plain_does c (Call f) a b = both (calls c f a b) (indexed c.types Calls (λ i. Does c.types (Calls i) a b) a b (λ i. same) (slice_get c.funcs f))
plain_does c (Block t) a b = same
plain_does c (Loop t) a b = same
plain_does c (If t) a b = same
plain_does c Else a b = same
plain_does c End a b = same
