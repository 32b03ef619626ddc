-- A module that has bytes meets what the encoder asks.
use Rattle.std.proofs.Common.{◌≡◌, ℕ, zero, suc, ◌+◌, ◌^◌, ◌<◌, List, [], ◌∷◌, Bool, true, false, refl, ap, subst, arith, ℤ}
use Rattle.std.specs.Prelude.{◌==◌, nat_lt, nat_le, Option, Some, None}
use Rattle.std.proofs.lemmas.Bool.{ltb-true}
use Rattle.wb_syntax.specs.declared.syntax.NumType.{NumType}
use Rattle.wb_syntax.specs.declared.syntax.Instr.{Instr}
use Rattle.wb_syntax.specs.declared.syntax.Instr.TheVariants.{BrTable, Load, Store, Unary, Binary}
use Rattle.wb_syntax.specs.declared.syntax.LocalRun.{LocalRun}
use Rattle.wb_syntax.specs.declared.syntax.Func.{Func}
use Rattle.wb_syntax.specs.declared.syntax.Global.{Global}
use Rattle.wb_syntax.specs.declared.syntax.Module.{Module}
use Rattle.wb_syntax.specs.Table.{Row, Alone, WithResult, WithIndex, WithLabels, WithZero, Constant, Loads, Stores, Takes1, Takes2, Foreign, NoInstruction, control_rows, row_at}
use Rattle.wb_syntax.specs.Nesting.{IsWellNested}
use Rattle.wb_syntax.specs.Grammar.{Malformed, Outside, Import, Table, Start, Element, DataPart, Grammar, exact, case, followed, mapped, refused, behind, index, signed_number, sized, vec, among, begins}
use Rattle.wb_syntax.specs.Binary.{value_type, block_type, func_type, limits, name, export, mutability, row_grammar, instr, expression, local_runs, Coded, code, global, Section, Custom, Types, FuncTypes, Memories, Globals, Exports, Codes, custom, by_id, in_order, section, last_after, AreSections, Gathered, gather, gathered, joined}
use Rattle.wb_encode.specs.Appended.{Every}
use Rattle.wb_encode.specs.Encodable.{IsOfTable, loads, stores, takes_one, takes_two, count_locals, IsExpression, IsInitialized}
use Rattle.wb_encode.specs.Laws.{IsEncodable, EncodedIsEncodable}
use Rattle.wb_encode.proofs.Parted.{some_is}
use Rattle.wb_encode.proofs.Rows.{is_free, AllRows, row_has}
use Rattle.wb_encode.proofs.Holding.{Holds, exact_holds, refused_holds, followed_holds, mapped_holds, by_byte_holds, AllHold, among_holds, Any, any_holds, vec_holds, sized_holds, each_holds}

-- ---- instructions: what a row makes is of the table, where the row does not keep its opcode

abbrev pub IsFine : Row → Type 0
IsFine (Alone i) = IsOfTable i
IsFine (WithResult make) = (t : Option NumType) → IsOfTable (make t)
IsFine (WithIndex make) = (n : ℕ) → IsOfTable (make n)
IsFine (WithZero i) = IsOfTable i
IsFine (Constant bits make) = (z : ℤ) → IsOfTable (make z)
IsFine _ = Unit {0}

free_fine : (b : ℕ) (r : Row) → is_free r ≡ true → IsFine r
free_fine b (Loads t n e) h = tt
free_fine b (Stores t n) h = tt
free_fine b (Takes1 t r op) h = tt
free_fine b (Takes2 t r op) h = tt
free_fine b (Foreign what) h = tt
free_fine b NoInstruction h = tt
free_fine b _ h = cc

control_fine : AllRows (λ b r. IsFine r) control_rows
control_fine = (tt, (tt, (λ t. tt, (λ t. tt, (λ t. tt, (tt, (tt, (λ n. tt, (λ n. tt, (tt, (tt, (λ n. tt, (tt, (tt, (tt, (λ n. tt, (λ n. tt, (λ n. tt, (λ n. tt, (λ n. tt, tt))))))))))))))))))))

pub row_fine : (b : ℕ) → IsFine (row_at b)
row_fine b = row_has (λ b r. IsFine r) free_fine control_fine tt tt (λ z. tt) (λ z. tt) b

zero_sound : (i : Instr) → IsOfTable i → Holds (behind 0x00 (exact i)) IsOfTable
zero_sound i f = by_byte_holds IsOfTable (among (case 0x00 (exact i) ∷ [])) (among_holds IsOfTable (case 0x00 (exact i) ∷ []) (exact_holds IsOfTable i f, tt))

row_sound : (b : ℕ) (r : Row) → row_at b ≡ r → IsFine r → Holds (row_grammar b r) IsOfTable
row_sound b (Alone i) e f = exact_holds IsOfTable i f
row_sound b (WithResult make) e f = mapped_holds Any IsOfTable make block_type (any_holds block_type) (λ t q. f t)
row_sound b (WithIndex make) e f = mapped_holds Any IsOfTable make index (any_holds index) (λ n q. f n)
row_sound b WithLabels e f = followed_holds Any IsOfTable (vec index) (λ ls. mapped (λ l. BrTable ls l) index) (any_holds (vec index)) (λ ls q. mapped_holds Any IsOfTable (λ l. BrTable ls l) index (any_holds index) (λ l q. tt))
row_sound b (WithZero i) e f = zero_sound i f
row_sound b (Constant bits make) e f = mapped_holds Any IsOfTable make (signed_number bits) (any_holds (signed_number bits)) (λ z q. f z)
row_sound b (Loads t n x) e f = followed_holds Any IsOfTable index (λ align. mapped (λ offset. Load b align offset) index) (any_holds index) (λ align q. mapped_holds Any IsOfTable (λ offset. Load b align offset) index (any_holds index) (λ offset q. ap loads e))
row_sound b (Stores t n) e f = followed_holds Any IsOfTable index (λ align. mapped (λ offset. Store b align offset) index) (any_holds index) (λ align q. mapped_holds Any IsOfTable (λ offset. Store b align offset) index (any_holds index) (λ offset q. ap stores e))
row_sound b (Takes1 t r op) e f = exact_holds IsOfTable (Unary b) (ap takes_one e)
row_sound b (Takes2 t r op) e f = exact_holds IsOfTable (Binary b) (ap takes_two e)
row_sound b (Foreign what) e f = refused_holds IsOfTable (Outside what)
row_sound b NoInstruction e f = refused_holds IsOfTable Malformed

instr_sound : Holds instr IsOfTable
instr_sound = by_byte_holds IsOfTable (λ b. row_grammar b (row_at b)) (λ b. row_sound b (row_at b) refl (row_fine b))

expression_sound : Holds expression IsExpression
expression_sound is bytes h = (h.0, each_holds IsOfTable instr instr_sound is bytes h.1)

-- ---- locals, codes, globals

-- so many locals before leave room for these
abbrev HasRoom : ℕ → List LocalRun → Type 0
HasRoom before rs = before + count_locals rs < 2 ^ 32

-- a run of k locals and those behind it, where there is room
abbrev run_of : ℕ → (before k : ℕ) → Bool → Grammar (List LocalRun)
run_of n before k room = elim room [
  | true ↦ followed value_type (λ t. mapped (λ rs. record { count = k; ty = t } ∷ rs) (local_runs n (before + k)))
  | false ↦ refused Malformed
]

run_sound : (n before k : ℕ) → ((b : ℕ) → b < 2 ^ 32 → Holds (local_runs n b) (HasRoom b)) → (room : Bool) → nat_lt (before + k) (2 ^ 32) ≡ room → Holds (run_of n before k room) (HasRoom before)
run_sound n before k ih true e =
    followed_holds Any (HasRoom before) value_type (λ t. mapped (λ rs. record { count = k; ty = t } ∷ rs) (local_runs n (before + k))) (any_holds value_type)
    (λ t q. mapped_holds (HasRoom (before + k)) (HasRoom before) (λ rs. record { count = k; ty = t } ∷ rs) (local_runs n (before + k)) (ih (before + k) (ltb-true (before + k) (2 ^ 32) e)) (λ rs room. omega (arith, room)))
run_sound n before k ih false e = refused_holds (HasRoom before) Malformed

runs_sound : (n before : ℕ) → before < 2 ^ 32 → Holds (local_runs n before) (HasRoom before)
runs_sound zero before lt = exact_holds (HasRoom before) [] (omega arith)
runs_sound (suc n) before lt =
    followed_holds Any (HasRoom before) index (λ k. run_of n before k (nat_lt (before + k) (2 ^ 32))) (any_holds index) (λ k q. run_sound n before k (runs_sound n) (nat_lt (before + k) (2 ^ 32)) refl)

-- ---- sections

-- an entry of the code section
abbrev IsFineCode : Coded → Type 0
IsFineCode c = IsExpression c.1 × (count_locals c.0 < 2 ^ 32)

code_sound : Holds code IsFineCode
code_sound =
    sized_holds IsFineCode (followed index (λ n. followed (local_runs n 0) (λ rs. mapped (λ (is : List Instr). (rs, is)) expression))) (followed_holds Any IsFineCode index (λ n. followed (local_runs n 0) (λ rs. mapped (λ (is : List Instr). (rs, is)) expression)) (any_holds index)
    (λ n q. followed_holds (HasRoom 0) IsFineCode (local_runs n 0) (λ rs. mapped (λ (is : List Instr). (rs, is)) expression) (runs_sound n 0 (omega arith))
    (λ rs room. mapped_holds IsExpression IsFineCode (λ (is : List Instr). (rs, is)) expression expression_sound (λ is fine. (fine, omega (arith, room))))))

global_sound : Holds global IsInitialized
global_sound =
    followed_holds Any IsInitialized value_type (λ t. followed mutability (λ m. mapped (λ init. record { ty = t; mutable = m; init = init }) expression)) (any_holds value_type)
    (λ t q. followed_holds Any IsInitialized mutability (λ m. mapped (λ init. record { ty = t; mutable = m; init = init }) expression) (any_holds mutability)
    (λ m q. mapped_holds IsExpression IsInitialized (λ init. record { ty = t; mutable = m; init = init }) expression expression_sound (λ init fine. fine)))

abbrev IsFineSection : Section → Type 0
IsFineSection (Globals gs) = Every IsInitialized gs
IsFineSection (Codes cs) = Every IsFineCode cs
IsFineSection _ = Unit {0}

-- a section of which nothing is asked
free_section : {A : Type 0} (make : List A → Section) (g : Grammar (List A)) → ((xs : List A) → IsFineSection (make xs)) → Holds (mapped make g) IsFineSection
free_section make g f = mapped_holds Any IsFineSection make g (any_holds g) (λ xs q. f xs)

sections_hold : AllHold IsFineSection by_id
sections_hold = (
  free_section Types (sized (vec func_type)) (λ xs. tt),
  (
    refused_holds IsFineSection (Outside Import),
    (
      free_section FuncTypes (sized (vec index)) (λ xs. tt),
      (
        refused_holds IsFineSection (Outside Table),
        (
          free_section Memories (sized (vec limits)) (λ xs. tt),
          (
            mapped_holds (Every IsInitialized) IsFineSection Globals (sized (vec global)) (sized_holds (Every IsInitialized) (vec global) (vec_holds IsInitialized global global_sound)) (λ gs fine. fine),
            (
              free_section Exports (sized (vec export)) (λ xs. tt),
              (
                refused_holds IsFineSection (Outside Start),
                (
                  refused_holds IsFineSection (Outside Element),
                  (
                    mapped_holds (Every IsFineCode) IsFineSection Codes (sized (vec code)) (sized_holds (Every IsFineCode) (vec code) (vec_holds IsFineCode code code_sound)) (λ cs fine. fine),
                    (refused_holds IsFineSection (Outside DataPart), tt),
                  ),
                ),
              ),
            ),
          ),
        ),
      ),
    ),
  ),
)

custom_sound : Holds custom IsFineSection
custom_sound = followed_holds Any IsFineSection index (λ n. mapped (λ name. Custom) (begins n name)) (any_holds index) (λ n q. mapped_holds Any IsFineSection (λ name. Custom) (begins n name) (any_holds (begins n name)) (λ x q. tt))

in_order_sound : (last id : ℕ) → Holds (in_order last id) IsFineSection
in_order_sound last id =
    elim (id == 0) as (λ t. Holds (elim t [ true ↦ custom | false ↦ elim (nat_le id last) [ true ↦ refused Malformed | false ↦ among by_id id ] ]) IsFineSection) [
      | true ↦ custom_sound
      | false ↦ elim (nat_le id last) as (λ t. Holds (elim t [ true ↦ refused Malformed | false ↦ among by_id id ]) IsFineSection) [ true ↦ refused_holds IsFineSection Malformed | false ↦ among_holds IsFineSection by_id sections_hold id ]
    ]

section_sound : (last : ℕ) → Holds (section last) IsFineSection
section_sound last = by_byte_holds IsFineSection (in_order last) (in_order_sound last)

-- ---- modules

abbrev AllFineSections : List Section → Type 0
AllFineSections ss = Every IsFineSection ss

sections_sound : (last : ℕ) (ss : List Section) (bytes : List ℕ) → AreSections last ss bytes → AllFineSections ss
sections_sound last [] bytes h = tt
sections_sound last (s ∷ ss) bytes h = (section_sound last s h.0 h.2, sections_sound (last_after last s) ss h.1 h.3)

record IsFineGathered (g : Gathered) : Type 0 where
  codes : Every IsFineCode g.codes
  globals : Every IsInitialized g.globals

gather_fine : (s : Section) (g : Gathered) → IsFineSection s → IsFineGathered g → IsFineGathered (gather s g)
gather_fine Custom g f h = h
gather_fine (Types x) g f h = record { codes = h.codes; globals = h.globals }
gather_fine (FuncTypes x) g f h = record { codes = h.codes; globals = h.globals }
gather_fine (Memories x) g f h = record { codes = h.codes; globals = h.globals }
gather_fine (Globals x) g f h = record { codes = h.codes; globals = f }
gather_fine (Exports x) g f h = record { codes = h.codes; globals = h.globals }
gather_fine (Codes x) g f h = record { codes = f; globals = h.globals }

gathered_fine : (ss : List Section) → AllFineSections ss → IsFineGathered (gathered ss)
gathered_fine [] h = record { codes = tt; globals = tt }
gathered_fine (s ∷ ss) h = gather_fine s (gathered ss) h.0 (gathered_fine ss h.1)

-- functions with their codes
abbrev IsFineFunc : Func → Type 0
IsFineFunc f = IsExpression f.body × (count_locals f.locals < 2 ^ 32)

abbrev func_of : ℕ → Coded → Func
func_of t c = record { ty = t; locals = c.0; body = c.1 }

joined_on : (t : ℕ) (c : Coded) → IsFineCode c → (rest : Option (List Func)) → ((gs : List Func) → rest ≡ Some gs → Every IsFineFunc gs) → (fs : List Func) → elim rest [ None ↦ None | Some gs ↦ Some (func_of t c ∷ gs) ] ≡ Some fs → Every IsFineFunc fs
joined_on t c fine None ih fs e = cc
joined_on t c fine (Some gs) ih fs e = subst (Every IsFineFunc) (some_is (func_of t c ∷ gs) fs e) (fine, ih gs refl)

joined_fine : (ts : List ℕ) (cs : List Coded) → Every IsFineCode cs → (fs : List Func) → joined ts cs ≡ Some fs → Every IsFineFunc fs
joined_fine [] [] h fs e = subst (Every IsFineFunc) (some_is [] fs e) tt
joined_fine [] (c ∷ cs) h fs e = cc
joined_fine (t ∷ ts) [] h fs e = cc
joined_fine (t ∷ ts) (c ∷ cs) h fs e = joined_on t c h.0 (joined ts cs) (joined_fine ts cs h.1) fs e

-- what is asked of all of a list, part by part
every_map : {A : Type 0} (P Q : A → Type 0) → ((x : A) → P x → Q x) → (xs : List A) → Every P xs → Every Q xs
every_map P Q f [] h = tt
every_map P Q f (x ∷ xs) h = (f x h.0, every_map P Q f xs h.1)

abbrev with_funcs : Gathered → List Func → Module
with_funcs g fs = record { types = g.types; funcs = fs; memories = g.memories; globals = g.globals; exports = g.exports }

encodable : (g : Gathered) (fs : List Func) → Every IsFineFunc fs → Every IsInitialized g.globals → IsEncodable (with_funcs g fs)
encodable g fs funcs globals = record {
  bodies = every_map IsFineFunc (λ (f : Func). IsWellNested f.body) (λ f h. h.0.0) fs funcs;
  initial_values = every_map IsInitialized (λ (x : Global). IsWellNested x.init) (λ x h. h.0) g.globals globals;
  instructions = (every_map IsFineFunc (λ (f : Func). Every IsOfTable f.body) (λ f h. h.0.1) fs funcs, every_map IsInitialized (λ (x : Global). Every IsOfTable x.init) (λ x h. h.1) g.globals globals);
  locals = every_map IsFineFunc (λ (f : Func). count_locals f.locals < 2 ^ 32) (λ f h. h.1) fs funcs;
}

module_on : (g : Gathered) (m : Module) → Every IsInitialized g.globals → (funcs : Option (List Func)) → ((fs : List Func) → funcs ≡ Some fs → Every IsFineFunc fs) → elim funcs [ None ↦ None | Some fs ↦ Some (with_funcs g fs) ] ≡ Some m → IsEncodable m
module_on g m globals None h e = cc
module_on g m globals (Some fs) h e = subst IsEncodable (some_is (with_funcs g fs) m e) (encodable g fs (h fs refl) globals)

pub encoded_is_encodable_lem : EncodedIsEncodable
encoded_is_encodable_lem m bytes h =
    let g = gathered h.sections in
    let fine = gathered_fine h.sections (sections_sound 0 h.sections h.rest h.spelled) in
    module_on g m fine.globals (joined g.func_types g.codes) (joined_fine g.func_types g.codes fine.codes) h.makes
