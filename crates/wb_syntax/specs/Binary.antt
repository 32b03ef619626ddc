-- The binary format of modules (the standard, section 5): the grammar of each part, and which bytes are refused, and where.
use Rattle.std.specs.Prelude.{◌≡◌, ℕ, zero, suc, ◌+◌, ◌-◌, ◌^◌, Bool, true, false, ◌==◌, nat_lt, nat_le, List, [], ◌∷◌, ◌++◌, length, take, drop, Option, Some, None, IsUtf8}
use Rattle.std.specs.Str.{is_utf8, bytes_eq}
use Rattle.wb_syntax.specs.Syntax.{NumType, I32, I64, Instr, BrTable, Load, Store, Unary, Binary, FuncType, LocalRun, Func, Limits, Global, Exported, AFunc, AMemory, AGlobal, Export, Module}
use Rattle.wb_syntax.specs.Table.{Row, Alone, WithResult, WithIndex, WithLabels, WithZero, Constant, Loads, Stores, Takes1, Takes2, Foreign, NoInstruction, row_at}
use Rattle.wb_syntax.specs.Nesting.{Open, Place, Inside, Closed, Misplaced, place_after, IsWellNested}
use Rattle.wb_syntax.specs.Grammar.{What, Import, Table, Start, Element, DataPart, Floating, Fault, Malformed, Outside, Read, Reads, Stops, Grammar, go_on, Splits, exact, refused, followed, mapped, by_byte, Case, case, among, one_of, behind, signed_number, index, vec, sized, begins, at_start}

-- ---- types (5.3)

-- value types (5.3.1), by their byte
abbrev pub value_types : List (Case NumType)
value_types = case 0x7F (exact I32) ∷ case 0x7E (exact I64) ∷ case 0x7D (refused (Outside Floating)) ∷ case 0x7C (refused (Outside Floating)) ∷ []

-- one value type; those of floating point are outside the profile
abbrev pub value_type : Grammar NumType
value_type = one_of value_types

-- the types of blocks (5.3.2): 40 for no result, or a value type
abbrev pub block_types : List (Case (Option NumType))
block_types =
    case 0x40 (exact None)
    ∷ case 0x7F (exact (Some I32)) ∷ case 0x7E (exact (Some I64))
    ∷ case 0x7D (refused (Outside Floating)) ∷ case 0x7C (refused (Outside Floating)) ∷ []

-- the type of a block: at most one result
abbrev pub block_type : Grammar (Option NumType)
block_type = one_of block_types

-- the results of a function, their count read already: more than one is malformed
abbrev pub results : ℕ → Grammar (Option NumType)
results zero = exact None
results (suc zero) = mapped Some value_type
results (suc (suc n)) = refused Malformed

-- a function type (5.3.3): 60, the parameters, the results
abbrev pub func_type : Grammar FuncType
func_type = behind 0x60 (followed (vec value_type) (λ ps. mapped (λ r. record { params = ps; result = r }) (followed index results)))

-- limits (5.3.4): 00 and the least size, or 01, the least and the greatest
abbrev pub limit_forms : List (Case Limits)
limit_forms =
    case 0x00 (mapped (λ n. record { min = n; max = None }) index)
    ∷ case 0x01 (followed index (λ n. mapped (λ k. record { min = n; max = Some k }) index)) ∷ []

-- the limits of a memory (5.3.5)
abbrev pub limits : Grammar Limits
limits = one_of limit_forms

-- whether a global may be set (5.3.7)
abbrev pub mutabilities : List (Case Bool)
mutabilities = case 0x00 (exact false) ∷ case 0x01 (exact true) ∷ []

-- the byte of a global's mutability: 00 for constant, 01 for variable
abbrev pub mutability : Grammar Bool
mutability = one_of mutabilities

-- ---- instructions (5.4), by the table

-- what follows an opcode, by its row of the table
abbrev pub row_grammar : ℕ → Row → Grammar Instr
row_grammar opcode (Alone i) = exact i
row_grammar opcode (WithResult make) = mapped make block_type
row_grammar opcode (WithIndex make) = mapped make index
row_grammar opcode WithLabels = followed (vec index) (λ ls. mapped (λ l. BrTable ls l) index)
row_grammar opcode (WithZero i) = behind 0x00 (exact i)
row_grammar opcode (Constant bits make) = mapped make (signed_number bits)
row_grammar opcode (Loads t n e) = followed index (λ align. mapped (λ offset. Load opcode align offset) index)
row_grammar opcode (Stores t n) = followed index (λ align. mapped (λ offset. Store opcode align offset) index)
row_grammar opcode (Takes1 t r op) = exact (Unary opcode)
row_grammar opcode (Takes2 t r op) = exact (Binary opcode)
row_grammar opcode (Foreign what) = refused (Outside what)
row_grammar opcode NoInstruction = refused Malformed

-- an instruction (5.4): its opcode, and what the table lets follow it
abbrev pub instr : Grammar Instr
instr = by_byte (λ b. row_grammar b (row_at b))

-- the bytes spell these values, one after another
abbrev pub Each : {A : Type 0} → Grammar A → List A → List ℕ → Type 0
Each g [] bytes = bytes ≡ []
Each g (x ∷ xs) bytes = Splits bytes (g.Is x) (Each g xs)

-- the rest of an expression behind an instruction: what it leads to decides whether more is read
abbrev pub read_on : Place → Instr → (List Open → Read (List Instr)) → List ℕ → Read (List Instr)
read_on (Inside os) i more left = go_on (more os) (λ is rest. Reads (i ∷ is) rest)
read_on Closed i more left = Reads (i ∷ []) left
read_on Misplaced i more left = Stops left Malformed

-- an expression (5.4.6) is read up to the end that closes it; n is no less than the number of its instructions
abbrev pub read_expression : (n : ℕ) → List Open → List ℕ → Read (List Instr)
read_expression zero os bytes = Stops bytes Malformed
read_expression (suc n) os bytes = go_on (instr.read bytes) (λ i left. read_on (place_after os i) i (λ qs. read_expression n qs left) left)

-- an expression: well-nested instructions, spelled one after another
abbrev pub expression : Grammar (List Instr)
expression = record {
  Is = λ is bytes. IsWellNested is × Each instr is bytes;
  read = λ bytes. read_expression (length bytes) [] bytes;
}

-- ---- functions (5.5.13): runs of locals, fewer than 2 ^ 32 in all, then the body

-- so many runs of locals, with so many locals before them: the sum is tested before each value type
abbrev pub local_runs : (runs before : ℕ) → Grammar (List LocalRun)
local_runs zero before = exact []
local_runs (suc n) before = followed index (λ k. elim (nat_lt (before + k) (2 ^ 32)) [
  | true ↦ followed value_type (λ t. mapped (λ rs. record { count = k; ty = t } ∷ rs) (local_runs n (before + k)))
  | false ↦ refused Malformed
])

-- an entry of the code section: the runs of locals, and the body
abbrev pub Coded : Type 0
Coded = List LocalRun × List Instr

-- one entry of the code section: its size, the runs of locals, the body
abbrev pub code : Grammar Coded
code = sized (followed index (λ n. followed (local_runs n 0) (λ rs. mapped (λ body. (rs, body)) expression)))

-- ---- globals and exports (5.5.9, 5.5.10)

-- a global (5.5.9): its type, its mutability, its initial value
abbrev pub global : Grammar Global
global = followed value_type (λ t. followed mutability (λ m. mapped (λ init. record { ty = t; mutable = m; init = init }) expression))

-- any byte
abbrev pub any_byte : Grammar ℕ
any_byte = by_byte exact

-- a name, read already, has to be UTF-8
abbrev pub if_utf8 : List ℕ → Grammar (List ℕ)
if_utf8 name = record {
  Is = λ named bytes. IsUtf8 name × (named ≡ name) × (bytes ≡ []);
  read = λ bytes. elim (is_utf8 name) [ true ↦ Reads name bytes | false ↦ Stops bytes Malformed ];
}

-- a name (5.2.4): a vector of bytes that is UTF-8
abbrev pub name : Grammar (List ℕ)
name = followed (vec any_byte) if_utf8

-- what may be exported, by its kind: a table is outside the profile
abbrev pub export_kinds : List (Case Exported)
export_kinds = case 0x00 (mapped AFunc index) ∷ case 0x01 (refused (Outside Table)) ∷ case 0x02 (mapped AMemory index) ∷ case 0x03 (mapped AGlobal index) ∷ []

-- what is exported, by its kind and index
abbrev pub exported : Grammar Exported
exported = one_of export_kinds

-- an export (5.5.10): its name, and what is exported
abbrev pub export : Grammar Export
export = followed name (λ n. mapped (λ w. record { name = n; what = w }) exported)

-- ---- sections (5.5.2)

-- a section, as far as modules keep it: of a custom one nothing is kept
pub data Section : Type 0 where
  Custom : Section
  Types : List FuncType → Section
  FuncTypes : List ℕ → Section
  Memories : List Limits → Section
  Globals : List Global → Section
  Exports : List Export → Section
  Codes : List Coded → Section

-- a custom section (5.5.3): the name is read, the rest passed over
abbrev pub custom : Grammar Section
custom = followed index (λ n. mapped (λ name. Custom) (begins n name))

-- what follows an id (5.5.4 to 5.5.14): a section outside the profile is so whatever its size and contents
abbrev pub by_id : List (Case Section)
by_id =
    case 1 (mapped Types (sized (vec func_type)))
    ∷ case 2 (refused (Outside Import))
    ∷ case 3 (mapped FuncTypes (sized (vec index)))
    ∷ case 4 (refused (Outside Table))
    ∷ case 5 (mapped Memories (sized (vec limits)))
    ∷ case 6 (mapped Globals (sized (vec global)))
    ∷ case 7 (mapped Exports (sized (vec export)))
    ∷ case 8 (refused (Outside Start))
    ∷ case 9 (refused (Outside Element))
    ∷ case 10 (mapped Codes (sized (vec code)))
    ∷ case 11 (refused (Outside DataPart))
    ∷ []

-- custom sections stand anywhere; the ids of the others rise
abbrev pub in_order : (last id : ℕ) → Grammar Section
in_order last id = elim (id == 0) [ true ↦ custom | false ↦ elim (nat_le id last) [ true ↦ refused Malformed | false ↦ among by_id id ] ]

-- a section after the one with this id; its faults are at its id
abbrev pub section : (last : ℕ) → Grammar Section
section last = at_start (by_byte (in_order last))

-- the last id, this section counted
abbrev pub last_after : ℕ → Section → ℕ
last_after last Custom = last
last_after last (Types x) = 1
last_after last (FuncTypes x) = 3
last_after last (Memories x) = 5
last_after last (Globals x) = 6
last_after last (Exports x) = 7
last_after last (Codes x) = 10

-- sections up to the end of the bytes
abbrev pub AreSections : (last : ℕ) → List Section → List ℕ → Type 0
AreSections last [] bytes = bytes ≡ []
AreSections last (s ∷ ss) bytes = Splits bytes ((section last).Is s) (AreSections (last_after last s) ss)

-- sections are read up to the end of the bytes; n is no less than their number
abbrev pub read_sections : (n last : ℕ) → List ℕ → Read (List Section)
read_sections n last [] = Reads [] []
read_sections zero last (b ∷ bytes) = Stops (b ∷ bytes) Malformed
read_sections (suc n) last (b ∷ bytes) = go_on ((section last).read (b ∷ bytes)) (λ s left. go_on (read_sections n (last_after last s) left) (λ ss rest. Reads (s ∷ ss) rest))

-- ---- modules (5.5.15)

-- the contents of all sections: a module without a section has nothing of its kind
pub record Gathered : Type 0 where
  pub types : List FuncType
  pub func_types : List ℕ
  pub memories : List Limits
  pub globals : List Global
  pub exports : List Export
  pub codes : List Coded

-- the contents of one more section
abbrev pub gather : Section → Gathered → Gathered
gather Custom g = g
gather (Types x) g = record g { types = x }
gather (FuncTypes x) g = record g { func_types = x }
gather (Memories x) g = record g { memories = x }
gather (Globals x) g = record g { globals = x }
gather (Exports x) g = record g { exports = x }
gather (Codes x) g = record g { codes = x }

-- the contents of these sections
abbrev pub gathered : List Section → Gathered
gathered [] = record { types = []; func_types = []; memories = []; globals = []; exports = []; codes = [] }
gathered (s ∷ ss) = gather s (gathered ss)

-- each function with its code, where there are as many of both
abbrev pub joined : List ℕ → List Coded → Option (List Func)
joined [] [] = Some []
joined [] (c ∷ cs) = None
joined (t ∷ ts) [] = None
joined (t ∷ ts) (c ∷ cs) = elim (joined ts cs) [ None ↦ None | Some fs ↦ Some (record { ty = t; locals = c.0; body = c.1 } ∷ fs) ]

-- the module with these contents, where the numbers of functions and of bodies agree
abbrev pub module_of : Gathered → Option Module
module_of g = elim (joined g.func_types g.codes) [ None ↦ None | Some fs ↦ Some (record { types = g.types; funcs = fs; memories = g.memories; globals = g.globals; exports = g.exports }) ]

-- magic and version (5.5.15)
abbrev pub header : List ℕ
header = 0x00 ∷ 0x61 ∷ 0x73 ∷ 0x6D ∷ 0x01 ∷ 0x00 ∷ 0x00 ∷ 0x00 ∷ []

-- these bytes spell this module (5.5.15): the header, then sections that together make it
pub record Encodes (m : Module) (bytes : List ℕ) : Type 0 where
  pub rest : List ℕ
  pub sections : List Section
  pub begins : bytes ≡ header ++ rest
  pub spelled : AreSections 0 sections rest
  pub makes : module_of (gathered sections) ≡ Some m

-- ---- reading a module

-- what bytes are read as: a module, or the first fault with the offset of its section's id
pub data Decoded : Type 0 where
  IsModule : Module → Decoded
  MalformedAt : ℕ → Decoded
  OutsideAt : ℕ → What → Decoded

-- a fault as an answer, at this offset
abbrev pub fault_at : ℕ → Fault → Decoded
fault_at n Malformed = MalformedAt n
fault_at n (Outside what) = OutsideAt n what

-- the answer, its sections read: where the numbers of functions and of bodies differ, the fault is at the end
abbrev pub answer : (whole : ℕ) → Read (List Section) → Decoded
answer whole (Reads ss left) = elim (module_of (gathered ss)) [ None ↦ MalformedAt whole | Some m ↦ IsModule m ]
answer whole (Stops left fault) = fault_at (whole - length left) fault

-- the answer for these bytes: a wrong header is malformed at 0
abbrev pub decoded : List ℕ → Decoded
decoded bytes = elim (bytes_eq (take 8 bytes) header) [ true ↦ answer (length bytes) (read_sections (length bytes) 0 (drop 8 bytes)) | false ↦ MalformedAt 0 ]
