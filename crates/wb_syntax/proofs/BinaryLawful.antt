-- Each grammar of the binary format keeps the law.
use Rattle.std.proofs.Common.{◌≡◌, ℕ, zero, suc, ◌+◌, ◌^◌, ◌≤◌, refl, sym, ap, ◌∙◌, subst, arith}
use Rattle.std.specs.Prelude.{Bool, true, false, ◌==◌, nat_lt, nat_le, List, [], ◌∷◌, ◌++◌, length, Option, Some, None}
use Rattle.std.specs.Str.{is_utf8}
use Rattle.std.proofs.lemmas.Str.{IsUtf8-from_is_utf8, is_utf8-from_IsUtf8}
use Rattle.std.proofs.lemmas.List.{append_assoc, length-append}
use Rattle.wb_syntax.specs.Syntax.{NumType, I32, I64, Instr, BrTable, Load, Store, Unary, Binary, FuncType, LocalRun, Global, AFunc, AMemory, AGlobal}
use Rattle.wb_syntax.specs.Table.{Row, Alone, WithResult, WithIndex, WithLabels, WithZero, Constant, Loads, Stores, Takes1, Takes2, Foreign, NoInstruction, row_at}
use Rattle.wb_syntax.specs.Nesting.{Open, Place, Inside, Closed, Misplaced, place_after, Closes, ClosesAt}
use Rattle.wb_syntax.specs.Grammar.{Malformed, Outside, Floating, Table, Import, Start, Element, DataPart, Reads, Stops, Grammar, go_on, exact, refused, followed, mapped, by_byte, among, signed_number, index, times, vec, exactly, sized, begins}
use Rattle.wb_syntax.specs.Binary.{value_types, block_types, limit_forms, mutabilities, export_kinds, value_type, block_type, results, func_type, limits, mutability, row_grammar, instr, Each, read_on, read_expression, expression, local_runs, Coded, code, global, any_byte, if_utf8, name, exported, export, Section, Custom, Types, FuncTypes, Memories, Globals, Exports, Codes, custom, by_id, in_order, section}
use Rattle.wb_syntax.specs.Laws.{IsLawful}
use Rattle.wb_syntax.proofs.Lawful.{reads_value, reads_left, stops_not, went_on, exact_lawful, refused_lawful, followed_lawful, mapped_lawful, by_byte_lawful, choice_lawful, AreLawful, among_lawful, one_of_lawful, behind_lawful, times_lawful, exactly_lawful, begins_lawful, at_start_lawful}
use Rattle.wb_syntax.proofs.NumbersLawful.{unsigned_lawful}
use Rattle.wb_syntax.proofs.SignedLawful.{signed_lawful}

pub index_lawful : IsLawful index
index_lawful = unsigned_lawful 32

pub vec_lawful : {A : Type 0} (g : Grammar A) → IsLawful g → IsLawful (vec g)
vec_lawful g lg = followed_lawful index (λ n. times n g) index_lawful (λ n. times_lawful n g lg)

pub sized_lawful : {A : Type 0} (g : Grammar A) → IsLawful g → IsLawful (sized g)
sized_lawful g lg = followed_lawful index (λ n. exactly n g) index_lawful (λ n. exactly_lawful n g lg)

float_lawful : {A : Type 0} → IsLawful (refused {A = A} (Outside Floating))
float_lawful = refused_lawful (Outside Floating)

pub value_type_lawful : IsLawful value_type
value_type_lawful = one_of_lawful value_types (exact_lawful I32, (exact_lawful I64, (float_lawful, (float_lawful, tt))))

pub block_type_lawful : IsLawful block_type
block_type_lawful = one_of_lawful block_types (exact_lawful None, (exact_lawful (Some I32), (exact_lawful (Some I64), (float_lawful, (float_lawful, tt)))))

results_lawful : (n : ℕ) → IsLawful (results n)
results_lawful zero = exact_lawful None
results_lawful (suc zero) = mapped_lawful Some value_type value_type_lawful
results_lawful (suc (suc n)) = refused_lawful Malformed

func_type_of : List NumType → Option NumType → FuncType
func_type_of ps r = record { params = ps; result = r }

pub func_type_lawful : IsLawful func_type
func_type_lawful =
    let all : Grammar (Option NumType) = followed index results in
    behind_lawful 0x60 (followed (vec value_type) (λ ps. mapped (λ r. record { params = ps; result = r }) all))
    (followed_lawful (vec value_type) (λ ps. mapped (λ r. record { params = ps; result = r }) all) (vec_lawful value_type value_type_lawful)
    (λ ps. mapped_lawful (λ r. record { params = ps; result = r }) all (followed_lawful index results index_lawful results_lawful)))

pub limits_lawful : IsLawful limits
limits_lawful = one_of_lawful limit_forms (
  mapped_lawful (λ n. record { min = n; max = None }) index index_lawful,
  (
    followed_lawful index (λ n. mapped (λ k. record { min = n; max = Some k }) index) index_lawful (λ n. mapped_lawful (λ k. record { min = n; max = Some k }) index index_lawful),
    tt,
  ),
)

mutability_lawful : IsLawful mutability
mutability_lawful = one_of_lawful mutabilities (exact_lawful false, (exact_lawful true, tt))

-- two indices
two_lawful : {A : Type 0} (f : ℕ → ℕ → A) → IsLawful (followed index (λ a. mapped (f a) index))
two_lawful f = followed_lawful index (λ a. mapped (f a) index) index_lawful (λ a. mapped_lawful (f a) index index_lawful)

row_lawful : (opcode : ℕ) (r : Row) → IsLawful (row_grammar opcode r)
row_lawful opcode (Alone i) = exact_lawful i
row_lawful opcode (WithResult make) = mapped_lawful make block_type block_type_lawful
row_lawful opcode (WithIndex make) = mapped_lawful make index index_lawful
row_lawful opcode WithLabels = followed_lawful (vec index) (λ ls. mapped (λ l. BrTable ls l) index) (vec_lawful index index_lawful) (λ ls. mapped_lawful (λ l. BrTable ls l) index index_lawful)
row_lawful opcode (WithZero i) = behind_lawful 0x00 (exact i) (exact_lawful i)
row_lawful opcode (Constant bits make) = mapped_lawful make (signed_number bits) (signed_lawful bits)
row_lawful opcode (Loads t n e) = two_lawful (λ align offset. Load opcode align offset)
row_lawful opcode (Stores t n) = two_lawful (λ align offset. Store opcode align offset)
row_lawful opcode (Takes1 t r op) = exact_lawful (Unary opcode)
row_lawful opcode (Takes2 t r op) = exact_lawful (Binary opcode)
row_lawful opcode (Foreign what) = refused_lawful (Outside what)
row_lawful opcode NoInstruction = refused_lawful Malformed

pub instr_lawful : IsLawful instr
instr_lawful = by_byte_lawful (λ b. row_grammar b (row_at b)) (λ b. row_lawful b (row_at b))

-- ---- expressions

-- an instruction has a byte
has_byte : (i : Instr) (bytes : List ℕ) → instr.Is i bytes → 1 ≤ length bytes
has_byte i bytes h = let e = ap length h.2 in omega (arith, e)

enough : (is : List Instr) (bytes : List ℕ) → Each instr is bytes → length is ≤ length bytes
enough [] bytes h = omega arith
enough (i ∷ is) bytes h =
    let e : length bytes ≡ length h.0 + length h.1 = ap length h.4 ∙ length-append h.0 h.1 in
    omega (arith, e, has_byte i h.0 h.2, enough is h.1 h.3)

-- read_expression n finds all bodies of at most n instructions
FindsAll : ℕ → Type 0
FindsAll n = (os : List Open) (is : List Instr) (front back : List ℕ) → length is ≤ n → Closes os is → Each instr is front → read_expression n os (front ++ back) ≡ Reads is back

finds_on : (n : ℕ) → FindsAll n → (p : Place) (i : Instr) (is : List Instr) (front back : List ℕ) → length is ≤ n → ClosesAt p (λ qs. Closes qs is) is → Each instr is front → read_on p i (λ qs. read_expression n qs (front ++ back)) (front ++ back) ≡ Reads (i ∷ is) back
unfolding FindsAll
finds_on n ih (Inside os) i is front back l c e = ap (λ r. go_on r (λ is rest. Reads (i ∷ is) rest)) (ih os is front back l c e)
finds_on n ih Closed i is front back l c e =
    let none : front ≡ [] = subst (λ js. Each instr js front) c e in
    ap (λ l. Reads (i ∷ []) (l ++ back)) none ∙ ap (λ js. Reads (i ∷ js) back) (sym c)
finds_on n ih Misplaced i is front back l c e = absurd c

finds_all : (n : ℕ) → FindsAll n
unfolding FindsAll
finds_all zero os [] front back l c e = absurd c
finds_all (suc n) os [] front back l c e = absurd c
finds_all zero os (i ∷ is) front back l c e = absurd (omega (arith, l))
finds_all (suc n) os (i ∷ is) front back l c e =
    ap (λ bs. go_on (instr.read bs) (λ i left. read_on (place_after os i) i (λ qs. read_expression n qs left) left)) (ap (λ l. l ++ back) e.4 ∙ append_assoc e.0 e.1 back)
    ∙ ap (λ r. go_on r (λ i left. read_on (place_after os i) i (λ qs. read_expression n qs left) left)) (instr_lawful.finds i e.0 (e.1 ++ back) e.2)
    ∙ finds_on n (finds_all n) (place_after os i) i is e.1 back (omega (arith, l)) c e.3

OnlyAll : List Open → List Instr → List ℕ → List ℕ → Type 0
OnlyAll os is bytes left = (front : List ℕ) × Closes os is × Each instr is front × (bytes ≡ front ++ left)

-- what follows an instruction at its place
OnlyOn : Place → Instr → List Instr → List ℕ → List ℕ → Type 0
OnlyOn p i js bytes left = (is : List Instr) × (front : List ℕ) × (js ≡ i ∷ is) × ClosesAt p (λ qs. Closes qs is) is × Each instr is front × (bytes ≡ front ++ left)

ReadsOnly : ℕ → Type 0
ReadsOnly n = (os : List Open) (is : List Instr) (bytes left : List ℕ) → read_expression n os bytes ≡ Reads is left → OnlyAll os is bytes left

only_on : (n : ℕ) → ReadsOnly n → (p : Place) (i : Instr) (js : List Instr) (bytes left : List ℕ) → read_on p i (λ qs. read_expression n qs bytes) bytes ≡ Reads js left → OnlyOn p i js bytes left
unfolding OnlyAll OnlyOn ReadsOnly
only_on n ih (Inside os) i js bytes left h =
    let w = went_on (read_expression n os bytes) (λ is rest. Reads (i ∷ is) rest) js left h in
    let o = ih os w.0 bytes w.1 w.2 in
    (w.0, o.0, sym (reads_value (i ∷ w.0) js w.1 left w.3), o.1, o.2, o.3 ∙ ap (λ l. o.0 ++ l) (reads_left (i ∷ w.0) js w.1 left w.3))
only_on n ih Closed i js bytes left h = ([], [], sym (reads_value (i ∷ []) js bytes left h), refl, refl, reads_left (i ∷ []) js bytes left h)
only_on n ih Misplaced i js bytes left h = absurd (stops_not js bytes left Malformed h)

only_all : (n : ℕ) → ReadsOnly n
unfolding OnlyAll OnlyOn ReadsOnly
only_all zero os is bytes left h = absurd (stops_not is bytes left Malformed h)
only_all (suc n) os is bytes left h =
    let w = went_on (instr.read bytes) (λ i left. read_on (place_after os i) i (λ qs. read_expression n qs left) left) is left h in
    let a = instr_lawful.only w.0 bytes w.1 w.2 in
    let b = only_on n (only_all n) (place_after os w.0) w.0 is w.1 left w.3 in
    let found : OnlyAll os (w.0 ∷ b.0) bytes left = (a.0 ++ b.1, b.3, (a.0, b.1, a.1, b.4, refl), a.2 ∙ ap (λ l. a.0 ++ l) b.5 ∙ sym (append_assoc a.0 b.1 left)) in
    subst (λ js. OnlyAll os js bytes left) (sym b.2) found

pub expression_lawful : IsLawful expression
unfolding FindsAll OnlyAll ReadsOnly
expression_lawful = record {
  finds = λ is front back h. finds_all (length (front ++ back)) [] is front back (omega (arith, length-append front back, enough is front h.1)) h.0 h.1;
  only = λ is bytes left h. let o = only_all (length bytes) [] is bytes left h in (o.0, (o.1, o.2), o.3);
}

-- ---- functions, globals, exports

local_runs_lawful : (n before : ℕ) → IsLawful (local_runs n before)
local_runs_lawful zero before = exact_lawful []
local_runs_lawful (suc n) before =
    let more : ℕ → Grammar (List LocalRun) = λ k. followed value_type (λ t. mapped (λ rs. record { count = k; ty = t } ∷ rs) (local_runs n (before + k))) in
    followed_lawful index (λ k. elim (nat_lt (before + k) (2 ^ 32)) [ true ↦ more k | false ↦ refused Malformed ]) index_lawful
    (λ k. choice_lawful (nat_lt (before + k) (2 ^ 32)) (more k) (refused Malformed)
    (followed_lawful value_type (λ t. mapped (λ rs. record { count = k; ty = t } ∷ rs) (local_runs n (before + k))) value_type_lawful
    (λ t. mapped_lawful (λ rs. record { count = k; ty = t } ∷ rs) (local_runs n (before + k)) (local_runs_lawful n (before + k))))
    (refused_lawful Malformed))

pub code_lawful : IsLawful code
code_lawful =
    let with_runs : List LocalRun → Grammar Coded = λ rs. mapped (λ body. (rs, body)) expression in
    let with_count : ℕ → Grammar Coded = λ n. followed (local_runs n 0) with_runs in
    sized_lawful (followed index with_count) (followed_lawful index with_count index_lawful
    (λ n. followed_lawful (local_runs n 0) with_runs (local_runs_lawful n 0) (λ rs. mapped_lawful (λ body. (rs, body)) expression expression_lawful)))

pub global_lawful : IsLawful global
global_lawful =
    let third : NumType → Bool → Grammar Global = λ t m. mapped (λ init. record { ty = t; mutable = m; init = init }) expression in
    followed_lawful value_type (λ t. followed mutability (third t)) value_type_lawful
    (λ t. followed_lawful mutability (third t) mutability_lawful (λ m. mapped_lawful (λ init. record { ty = t; mutable = m; init = init }) expression expression_lawful))

utf8_only : (named name bytes left : List ℕ) (t : Bool) → is_utf8 name ≡ t → elim t [ true ↦ Reads name bytes | false ↦ Stops bytes Malformed ] ≡ Reads named left → (front : List ℕ) × (if_utf8 name).Is named front × (bytes ≡ front ++ left)
utf8_only named given bytes left true e h = ([], (IsUtf8-from_is_utf8 given e, sym (reads_value given named bytes left h), refl), reads_left given named bytes left h)
utf8_only named given bytes left false e h = absurd (stops_not named bytes left Malformed h)

if_utf8_lawful : (name : List ℕ) → IsLawful (if_utf8 name)
if_utf8_lawful name = record {
  finds = λ named front back h.
      ap (λ t. elim t [ true ↦ Reads name (front ++ back) | false ↦ Stops (front ++ back) Malformed ]) (is_utf8-from_IsUtf8 name h.0)
      ∙ ap (λ l. Reads name (l ++ back)) h.2 ∙ ap (λ x. Reads x back) (sym h.1);
  only = λ named bytes left h. utf8_only named name bytes left (is_utf8 name) refl h;
}

pub name_lawful : IsLawful name
name_lawful = followed_lawful (vec any_byte) if_utf8 (vec_lawful any_byte (by_byte_lawful exact exact_lawful)) if_utf8_lawful

pub exported_lawful : IsLawful exported
exported_lawful = one_of_lawful export_kinds
    (mapped_lawful AFunc index index_lawful, (refused_lawful (Outside Table), (mapped_lawful AMemory index index_lawful, (mapped_lawful AGlobal index index_lawful, tt))))

pub export_lawful : IsLawful export
export_lawful = followed_lawful name (λ n. mapped (λ w. record { name = n; what = w }) exported) name_lawful (λ n. mapped_lawful (λ w. record { name = n; what = w }) exported exported_lawful)

-- ---- sections

custom_lawful : IsLawful custom
custom_lawful = followed_lawful index (λ n. mapped (λ name. Custom) (begins n name)) index_lawful (λ n. mapped_lawful (λ name. Custom) (begins n name) (begins_lawful n name name_lawful))

listed_lawful : {A : Type 0} (f : List A → Section) (g : Grammar A) → IsLawful g → IsLawful (mapped f (sized (vec g)))
listed_lawful f g lg = mapped_lawful f (sized (vec g)) (sized_lawful (vec g) (vec_lawful g lg))

by_id_lawful : AreLawful by_id
by_id_lawful = (
  listed_lawful Types func_type func_type_lawful,
  (
    refused_lawful (Outside Import),
    (
      listed_lawful FuncTypes index index_lawful,
      (
        refused_lawful (Outside Table),
        (
          listed_lawful Memories limits limits_lawful,
          (
            listed_lawful Globals global global_lawful,
            (
              listed_lawful Exports export export_lawful,
              (
                refused_lawful (Outside Start),
                (
                  refused_lawful (Outside Element),
                  (
                    listed_lawful Codes code code_lawful,
                    (
                      refused_lawful (Outside DataPart),
                      tt,
                    ),
                  ),
                ),
              ),
            ),
          ),
        ),
      ),
    ),
  ),
)

pub section_lawful : (last : ℕ) → IsLawful (section last)
section_lawful last = at_start_lawful (by_byte (in_order last)) (by_byte_lawful (in_order last) (λ id.
    choice_lawful (id == 0) custom (elim (nat_le id last) [ true ↦ refused Malformed | false ↦ among by_id id ]) custom_lawful
    (choice_lawful (nat_le id last) (refused Malformed) (among by_id id) (refused_lawful Malformed) (among_lawful by_id by_id_lawful id))))
