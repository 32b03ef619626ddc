-- The first part that is not valid, and validity from its parts; a module that cannot be invalid is valid, since each part can be decided.
use Rattle.std.proofs.Common.{◌≡◌, ◌≢◌, ℕ, ◌<◌, ◌≤◌, arith, refl, sym, subst, length, ◌⊎◌, inl, inr}
use Rattle.std.specs.Prelude.{Bool, true, false, [], ◌∷◌, Option, Some, None, slice_get, IfSome, ◌↔◌}
use Rattle.std.proofs.lemmas.Bool.{cases_lt}
use Rattle.wb_syntax.specs.Typing.{Part, FuncTypeOf, Memories, MemoryLimits, GlobalInit, ExportOf, Body, IsValid, Valid, kind, number, IsBefore, IsFirstInvalid, AreLimits, IsConstant, IsThere, IsNewName, IsTypedBody, context_of}
use Rattle.wb_valid.specs.Syntax.{FuncType, Func, Global, Exported, AFunc, AMemory, AGlobal, Export, Module}
use Rattle.wb_valid.specs.Checking.{Whole, opened, closes}
use Rattle.wb_valid.specs.Scans.{Finds, are_limits, is_constant}
use Rattle.wb_valid.proofs.Scanning.{limits_are, constant_back, constant_of}
use Rattle.wb_valid.proofs.Rests.{body_closes, body_untyped}

-- ---- the order of parts

first_of : (m : Module) (p : Part) → (IsValid m p → ⊥) → ((q : Part) → kind q < kind p → IsValid m q) → ((q : Part) → kind q ≡ kind p → number q < number p → IsValid m q) → IsFirstInvalid m p
first_of m p never lower same = (never, λ q l. before_it m p lower same q l)
  where
    before_it : (m : Module) (p : Part) → ((q : Part) → kind q < kind p → IsValid m q) → ((q : Part) → kind q ≡ kind p → number q < number p → IsValid m q) → (q : Part) → IsBefore q p → IsValid m q
    before_it m p lower same q (inl l) = lower q l
    before_it m p lower same q (inr l) = same q l.0 l.1

func_types_below : (m : Module) (n : ℕ) → ((k : ℕ) → k < n → IsValid m (FuncTypeOf k)) → (q : Part) → kind q ≡ 0 → number q < n → IsValid m q
func_types_below m n h (FuncTypeOf f) e l = h f l
func_types_below m n h Memories e l = absurd (omega (arith, e))
func_types_below m n h MemoryLimits e l = absurd (omega (arith, e))
func_types_below m n h (GlobalInit g) e l = absurd (omega (arith, e))
func_types_below m n h (ExportOf x) e l = absurd (omega (arith, e))
func_types_below m n h (Body f) e l = absurd (omega (arith, e))

globals_below : (m : Module) (n : ℕ) → ((k : ℕ) → k < n → IsValid m (GlobalInit k)) → (q : Part) → kind q ≡ 3 → number q < n → IsValid m q
globals_below m n h (GlobalInit g) e l = h g l
globals_below m n h (FuncTypeOf f) e l = absurd (omega (arith, e))
globals_below m n h Memories e l = absurd (omega (arith, e))
globals_below m n h MemoryLimits e l = absurd (omega (arith, e))
globals_below m n h (ExportOf x) e l = absurd (omega (arith, e))
globals_below m n h (Body f) e l = absurd (omega (arith, e))

exports_below : (m : Module) (n : ℕ) → ((k : ℕ) → k < n → IsValid m (ExportOf k)) → (q : Part) → kind q ≡ 4 → number q < n → IsValid m q
exports_below m n h (ExportOf x) e l = h x l
exports_below m n h (FuncTypeOf f) e l = absurd (omega (arith, e))
exports_below m n h Memories e l = absurd (omega (arith, e))
exports_below m n h MemoryLimits e l = absurd (omega (arith, e))
exports_below m n h (GlobalInit g) e l = absurd (omega (arith, e))
exports_below m n h (Body f) e l = absurd (omega (arith, e))

bodies_below : (m : Module) (n : ℕ) → ((k : ℕ) → k < n → IsValid m (Body k)) → (q : Part) → kind q ≡ 5 → number q < n → IsValid m q
bodies_below m n h (Body f) e l = h f l
bodies_below m n h (FuncTypeOf f) e l = absurd (omega (arith, e))
bodies_below m n h Memories e l = absurd (omega (arith, e))
bodies_below m n h MemoryLimits e l = absurd (omega (arith, e))
bodies_below m n h (GlobalInit g) e l = absurd (omega (arith, e))
bodies_below m n h (ExportOf x) e l = absurd (omega (arith, e))

-- parts of the kinds before these
lower_1 : (m : Module) → Finds m FuncTypeOf None → (q : Part) → kind q < 1 → IsValid m q
lower_1 m h (FuncTypeOf f) l = h f
lower_1 m h Memories l = absurd (omega (arith, l))
lower_1 m h MemoryLimits l = absurd (omega (arith, l))
lower_1 m h (GlobalInit g) l = absurd (omega (arith, l))
lower_1 m h (ExportOf x) l = absurd (omega (arith, l))
lower_1 m h (Body f) l = absurd (omega (arith, l))

lower_2 : (m : Module) → Finds m FuncTypeOf None → IsValid m Memories → (q : Part) → kind q < 2 → IsValid m q
lower_2 m h i (FuncTypeOf f) l = h f
lower_2 m h i Memories l = i
lower_2 m h i MemoryLimits l = absurd (omega (arith, l))
lower_2 m h i (GlobalInit g) l = absurd (omega (arith, l))
lower_2 m h i (ExportOf x) l = absurd (omega (arith, l))
lower_2 m h i (Body f) l = absurd (omega (arith, l))

lower_3 : (m : Module) → Finds m FuncTypeOf None → IsValid m Memories → IsValid m MemoryLimits → (q : Part) → kind q < 3 → IsValid m q
lower_3 m h i j (FuncTypeOf f) l = h f
lower_3 m h i j Memories l = i
lower_3 m h i j MemoryLimits l = j
lower_3 m h i j (GlobalInit g) l = absurd (omega (arith, l))
lower_3 m h i j (ExportOf x) l = absurd (omega (arith, l))
lower_3 m h i j (Body f) l = absurd (omega (arith, l))

lower_4 : (m : Module) → Finds m FuncTypeOf None → IsValid m Memories → IsValid m MemoryLimits → Finds m GlobalInit None → (q : Part) → kind q < 4 → IsValid m q
lower_4 m h i j k (FuncTypeOf f) l = h f
lower_4 m h i j k Memories l = i
lower_4 m h i j k MemoryLimits l = j
lower_4 m h i j k (GlobalInit g) l = k g
lower_4 m h i j k (ExportOf x) l = absurd (omega (arith, l))
lower_4 m h i j k (Body f) l = absurd (omega (arith, l))

lower_5 : (m : Module) → Finds m FuncTypeOf None → IsValid m Memories → IsValid m MemoryLimits → Finds m GlobalInit None → Finds m ExportOf None → (q : Part) → kind q < 5 → IsValid m q
lower_5 m h i j k x (FuncTypeOf f) l = h f
lower_5 m h i j k x Memories l = i
lower_5 m h i j k x MemoryLimits l = j
lower_5 m h i j k x (GlobalInit g) l = k g
lower_5 m h i j k x (ExportOf e) l = x e
lower_5 m h i j k x (Body f) l = absurd (omega (arith, l))

-- ---- what `validate` answers

pub first_func_type : (m : Module) (at n : ℕ) → n ≡ at → Finds m FuncTypeOf (Some at) → IsFirstInvalid m (FuncTypeOf n)
first_func_type m at n e h = subst (λ k. IsFirstInvalid m (FuncTypeOf k)) (sym e) (first_of m (FuncTypeOf at) h.0 (λ q l. absurd (omega (arith, l))) (func_types_below m at h.1))

pub first_memories : (m : Module) → Finds m FuncTypeOf None → (IsValid m Memories → ⊥) → IsFirstInvalid m Memories
first_memories m f never = first_of m Memories never (lower_1 m f) (λ q e l. absurd (omega (arith, l)))

pub first_limits : (m : Module) → Finds m FuncTypeOf None → IsValid m Memories → (IsValid m MemoryLimits → ⊥) → IsFirstInvalid m MemoryLimits
first_limits m f i never = first_of m MemoryLimits never (lower_2 m f i) (λ q e l. absurd (omega (arith, l)))

pub first_global : (m : Module) (at n : ℕ) → n ≡ at → Finds m FuncTypeOf None → IsValid m Memories → IsValid m MemoryLimits → Finds m GlobalInit (Some at) → IsFirstInvalid m (GlobalInit n)
first_global m at n e f i j h = subst (λ k. IsFirstInvalid m (GlobalInit k)) (sym e) (first_of m (GlobalInit at) h.0 (lower_3 m f i j) (globals_below m at h.1))

pub first_export : (m : Module) (at n : ℕ) → n ≡ at → Finds m FuncTypeOf None → IsValid m Memories → IsValid m MemoryLimits → Finds m GlobalInit None → Finds m ExportOf (Some at) → IsFirstInvalid m (ExportOf n)
first_export m at n e f i j g h = subst (λ k. IsFirstInvalid m (ExportOf k)) (sym e) (first_of m (ExportOf at) h.0 (lower_4 m f i j g) (exports_below m at h.1))

pub first_body : (m : Module) (at n : ℕ) → n ≡ at → Finds m FuncTypeOf None → IsValid m Memories → IsValid m MemoryLimits → Finds m GlobalInit None → Finds m ExportOf None → Finds m Body (Some at) → IsFirstInvalid m (Body n)
first_body m at n e f i j g x h = subst (λ k. IsFirstInvalid m (Body k)) (sym e) (first_of m (Body at) h.0 (lower_5 m f i j g x) (bodies_below m at h.1))

-- all parts are valid
pub all_parts : (m : Module) → Finds m FuncTypeOf None → IsValid m Memories → IsValid m MemoryLimits → Finds m GlobalInit None → Finds m ExportOf None → Finds m Body None → Valid m
all_parts m f i j g x b (FuncTypeOf n) = f n
all_parts m f i j g x b Memories = i
all_parts m f i j g x b MemoryLimits = j
all_parts m f i j g x b (GlobalInit n) = g n
all_parts m f i j g x b (ExportOf n) = x n
all_parts m f i j g x b (Body n) = b n

-- ---- each part can be decided

false_true : false ≡ true → ⊥
false_true e = cc

-- what is not impossible holds
abbrev Stable : Type 0 → Type 0
Stable P = ((P → ⊥) → ⊥) → P

by_test : (P : Type 0) (b : Bool) → P ↔ (b ≡ true) → Stable P
by_test P true iff h = iff.1 refl
by_test P false iff h = absurd (h (λ p. false_true (iff.0 p)))

by_element : {A : Type 0} (P : A → Type 0) (o : Option A) → ((x : A) → Stable (P x)) → Stable (IfSome o P)
by_element P None each h = tt
by_element P (Some x) each h = each x h

by_order : (a b : ℕ) → ((a < b) ⊎ (b ≤ a)) → Stable (a < b)
by_order a b (inl l) h = l
by_order a b (inr l) h = absurd (h (λ k. omega (arith, k, l)))

at_most : (a b : ℕ) → ((b < a) ⊎ (a ≤ b)) → Stable (a ≤ b)
at_most a b (inl l) h = absurd (h (λ k. omega (arith, k, l)))
at_most a b (inr l) h = l

there : (m : Module) (x : Exported) → Stable (IsThere m x)
there m (AFunc f) h = by_order f (length m.funcs) (cases_lt f (length m.funcs)) h
there m (AMemory x) h = by_order x (length m.memories) (cases_lt x (length m.memories)) h
there m (AGlobal g) h = by_order g (length m.globals) (cases_lt g (length m.globals)) h

body_at : (m : Module) (f : Func) (o : Option FuncType) → slice_get m.types f.ty ≡ o → Stable (IsTypedBody m f)
body_at m f None e h = absurd (h (body_untyped m f e))
body_at m f (Some ft) e h = by_test (IsTypedBody m f) (closes (context_of m f ft) (opened Whole ft.result ∷ []) f.body) (body_closes m f ft e) h

part_stable : (m : Module) (p : Part) → Stable (IsValid m p)
part_stable m (FuncTypeOf f) h = by_element (λ (x : Func). x.ty < length m.types) (slice_get m.funcs f) (λ (x : Func). by_order x.ty (length m.types) (cases_lt x.ty (length m.types))) h
part_stable m Memories h = at_most (length m.memories) 1 (cases_lt 1 (length m.memories)) h
part_stable m MemoryLimits h = λ i. by_element AreLimits (slice_get m.memories i) (λ l. by_test (AreLimits l) (are_limits l) (limits_are l)) (λ never. h (λ all. never (all i)))
part_stable m (GlobalInit g) h = by_element (λ (x : Global). IsConstant x.ty x.init) (slice_get m.globals g) (λ (x : Global). by_test (IsConstant x.ty x.init) (is_constant x.ty x.init) (constant_of x.ty x.init, constant_back x.ty x.init)) h
part_stable m (ExportOf e) h = by_element (λ (x : Export). IsThere m x.what × IsNewName m e x.name) (slice_get m.exports e) (λ (x : Export) g. (
  there m x.what (λ never. g (λ p. never p.0)),
  λ d l. by_element (λ (y : Export). y.name ≢ x.name) (slice_get m.exports d) (λ (y : Export) k same. k (λ other. other same)) (λ never. g (λ p. never (p.1 d l))),
)) h
part_stable m (Body f) h = by_element (IsTypedBody m) (slice_get m.funcs f) (λ (x : Func). body_at m x (slice_get m.types x.ty) refl) h

pub valid_stable : (m : Module) → ((Valid m → ⊥) → ⊥) → Valid m
valid_stable m h p = part_stable m p (λ never. h (λ v. never (v p)))
