-- An instruction has one opcode, and each spelling of it consists of that and of what the row lets follow: Opcodes the other way round.
use Rattle.std.proofs.Common.{◌≡◌, ℕ, true, List, [], ◌∷◌, Option, None, refl, sym, ap, ◌∙◌, subst, ℤ, pos}
use Rattle.wb_syntax.specs.declared.syntax.NumType.{NumType}
use Rattle.wb_syntax.specs.declared.syntax.Instr.{Instr}
use Rattle.wb_syntax.specs.declared.syntax.Instr.TheVariants.{Unreachable, Nop, Block, Loop, If, Else, End, Br, BrIf, BrTable, Return, Call, Drop, Select, LocalGet, LocalSet, LocalTee, GlobalGet, GlobalSet, Load, Store, MemorySize, MemoryGrow, I32Const, I64Const, Unary, Binary}
use Rattle.wb_syntax.specs.Table.{Row, Alone, WithResult, WithIndex, WithLabels, WithZero, Constant, Loads, Stores, Takes1, Takes2, Foreign, NoInstruction, control_rows, row_at}
use Rattle.wb_syntax.specs.Grammar.{Splits, exact, mapped, index, signed_number, IsSigned}
use Rattle.wb_syntax.specs.Binary.{block_type, row_grammar, instr}
use Rattle.wb_encode.specs.Appended.{VecSpelled}
use Rattle.wb_encode.specs.Encodable.{loads, stores, takes_one, takes_two}
use Rattle.wb_encode.proofs.Appending.{Behind}
use Rattle.wb_encode.proofs.Parted.{mapped_parts, mapped_back, vec_parts}
use Rattle.wb_encode.proofs.ItemsParted.{behind_parts}
use Rattle.wb_encode.proofs.Rows.{is_free, AllRows, row_has}

-- ---- an instruction's opcode and operands

abbrev opcode_of : Instr → ℕ
opcode_of Unreachable = 0x00
opcode_of Nop = 0x01
opcode_of (Block t) = 0x02
opcode_of (Loop t) = 0x03
opcode_of (If t) = 0x04
opcode_of Else = 0x05
opcode_of End = 0x0B
opcode_of (Br n) = 0x0C
opcode_of (BrIf n) = 0x0D
opcode_of (BrTable ls n) = 0x0E
opcode_of Return = 0x0F
opcode_of (Call n) = 0x10
opcode_of Drop = 0x1A
opcode_of Select = 0x1B
opcode_of (LocalGet n) = 0x20
opcode_of (LocalSet n) = 0x21
opcode_of (LocalTee n) = 0x22
opcode_of (GlobalGet n) = 0x23
opcode_of (GlobalSet n) = 0x24
opcode_of (Load op a n) = op
opcode_of (Store op a n) = op
opcode_of MemorySize = 0x3F
opcode_of MemoryGrow = 0x40
opcode_of (I32Const z) = 0x41
opcode_of (I64Const z) = 0x42
opcode_of (Unary op) = op
opcode_of (Binary op) = op

-- the last index
abbrev number_in : Instr → ℕ
number_in (Br n) = n
number_in (BrIf n) = n
number_in (BrTable ls n) = n
number_in (Call n) = n
number_in (LocalGet n) = n
number_in (LocalSet n) = n
number_in (LocalTee n) = n
number_in (GlobalGet n) = n
number_in (GlobalSet n) = n
number_in (Load op a n) = n
number_in (Store op a n) = n
number_in _ = 0

abbrev align_in : Instr → ℕ
align_in (Load op a n) = a
align_in (Store op a n) = a
align_in _ = 0

abbrev labels_in : Instr → List ℕ
labels_in (BrTable ls n) = ls
labels_in _ = []

abbrev result_in : Instr → Option NumType
result_in (Block t) = t
result_in (Loop t) = t
result_in (If t) = t
result_in _ = None

abbrev constant_in : Instr → ℤ
constant_in (I32Const z) = z
constant_in (I64Const z) = z
constant_in _ = pos 0

-- ---- the row of an opcode makes instructions of this opcode alone, each from one operand

abbrev IsOwn : ℕ → Row → Type 0
IsOwn b (Alone i) = opcode_of i ≡ b
IsOwn b (WithResult make) = (t : Option NumType) → (opcode_of (make t) ≡ b) × (result_in (make t) ≡ t)
IsOwn b (WithIndex make) = (n : ℕ) → (opcode_of (make n) ≡ b) × (number_in (make n) ≡ n)
IsOwn b WithLabels = 0x0E ≡ b
IsOwn b (WithZero i) = opcode_of i ≡ b
IsOwn b (Constant bits make) = (z : ℤ) → (opcode_of (make z) ≡ b) × (constant_in (make z) ≡ z)
IsOwn b _ = Unit {0}

free_own : (b : ℕ) (r : Row) → is_free r ≡ true → IsOwn b r
free_own b (Loads t n e) h = tt
free_own b (Stores t n) h = tt
free_own b (Takes1 t r op) h = tt
free_own b (Takes2 t r op) h = tt
free_own b (Foreign what) h = tt
free_own b NoInstruction h = tt
free_own b _ h = cc

control_own : AllRows IsOwn control_rows
control_own = (refl, (refl, (λ t. (refl, refl), (λ t. (refl, refl), (λ t. (refl, refl), (refl, (refl, (λ n. (refl, refl), (λ n. (refl, refl), (refl, (refl, (λ n. (refl, refl), (tt, (refl, (refl, (λ n. (refl, refl), (λ n. (refl, refl), (λ n. (refl, refl), (λ n. (refl, refl), (λ n. (refl, refl), tt))))))))))))))))))))

own : (b : ℕ) → IsOwn b (row_at b)
own b = row_has IsOwn free_own control_own refl refl (λ z. (refl, refl)) (λ z. (refl, refl)) b

own_at : (op : ℕ) (r : Row) → row_at op ≡ r → IsOwn op r
own_at op r e = subst (IsOwn op) e (own op)

row_opcode : (b : ℕ) (r : Row) (i : Instr) (rest : List ℕ) → IsOwn b r → (row_grammar b r).Is i rest → opcode_of i ≡ b
row_opcode b (Alone j) i rest o h = ap opcode_of h.0 ∙ o
row_opcode b (WithResult make) i rest o h = let m = mapped_parts make block_type i rest h in ap opcode_of m.1 ∙ (o m.0).0
row_opcode b (WithIndex make) i rest o h = let m = mapped_parts make index i rest h in ap opcode_of m.1 ∙ (o m.0).0
row_opcode b WithLabels i rest o h = let ls : List ℕ = h.0 in let s = h.1 in let m = mapped_parts (λ (l : ℕ). BrTable ls l) index i s.1 s.3 in ap opcode_of m.1 ∙ o
row_opcode b (WithZero j) i rest o h = let z = behind_parts 0x00 (exact j) i rest h in ap opcode_of z.2.0 ∙ o
row_opcode b (Constant bits make) i rest o h = let m = mapped_parts make (signed_number bits) i rest h in ap opcode_of m.1 ∙ (o m.0).0
row_opcode b (Loads t n e) i rest o h = let a : ℕ = h.0 in let s = h.1 in let m = mapped_parts (λ (k : ℕ). Load b a k) index i s.1 s.3 in ap opcode_of m.1
row_opcode b (Stores t n) i rest o h = let a : ℕ = h.0 in let s = h.1 in let m = mapped_parts (λ (k : ℕ). Store b a k) index i s.1 s.3 in ap opcode_of m.1
row_opcode b (Takes1 t r op) i rest o h = ap opcode_of h.0
row_opcode b (Takes2 t r op) i rest o h = ap opcode_of h.0
row_opcode b (Foreign what) i rest o h = absurd h
row_opcode b NoInstruction i rest o h = absurd h

instr_parts : (op : ℕ) (r : Row) (i : Instr) (bytes : List ℕ) → row_at op ≡ r → opcode_of i ≡ op → instr.Is i bytes → Behind op ((row_grammar op r).Is i) bytes
instr_parts op r i bytes e code h =
    let same : h.0 ≡ op = sym (row_opcode h.0 (row_at h.0) i h.1 (own h.0) h.3) ∙ code in
    let here : (row_grammar op (row_at op)).Is i h.1 = subst (λ (k : ℕ). (row_grammar k (row_at k)).Is i h.1) same h.3 in
    (h.1, h.2 ∙ ap (λ k. k ∷ h.1) same, subst (λ (s : Row). (row_grammar op s).Is i h.1) e here)

-- ---- by kind of row

pub plain_parts : (op : ℕ) (i : Instr) (bytes : List ℕ) → row_at op ≡ Alone i → instr.Is i bytes → bytes ≡ op ∷ []
plain_parts op i bytes e h =
    let p = instr_parts op (Alone i) i bytes e (own_at op (Alone i) e) h in
    p.1 ∙ ap (λ back. op ∷ back) p.2.1

pub zero_parts : (op : ℕ) (i : Instr) (bytes : List ℕ) → row_at op ≡ WithZero i → instr.Is i bytes → Behind op (λ rest. rest ≡ 0x00 ∷ []) bytes
zero_parts op i bytes e h =
    let p = instr_parts op (WithZero i) i bytes e (own_at op (WithZero i) e) h in
    let z = behind_parts 0x00 (exact i) i p.0 p.2 in
    (p.0, p.1, z.1 ∙ ap (λ back. 0x00 ∷ back) z.2.1)

pub construct_parts : (op : ℕ) (make : Option NumType → Instr) (t : Option NumType) (i : Instr) (bytes : List ℕ) → row_at op ≡ WithResult make → i ≡ make t → instr.Is i bytes → Behind op (block_type.Is t) bytes
construct_parts op make t i bytes e same h =
    let o = own_at op (WithResult make) e in
    let p = instr_parts op (WithResult make) i bytes e (ap opcode_of same ∙ (o t).0) h in
    (p.0, p.1, mapped_back make result_in block_type t p.0 (λ u. (o u).1) (subst (λ (j : Instr). (mapped make block_type).Is j p.0) same p.2))

pub indexed_parts : (op : ℕ) (make : ℕ → Instr) (n : ℕ) (i : Instr) (bytes : List ℕ) → row_at op ≡ WithIndex make → i ≡ make n → instr.Is i bytes → Behind op (index.Is n) bytes
indexed_parts op make n i bytes e same h =
    let o = own_at op (WithIndex make) e in
    let p = instr_parts op (WithIndex make) i bytes e (ap opcode_of same ∙ (o n).0) h in
    (p.0, p.1, mapped_back make number_in index n p.0 (λ k. (o k).1) (subst (λ (j : Instr). (mapped make index).Is j p.0) same p.2))

pub constant_parts : (op bits : ℕ) (make : ℤ → Instr) (z : ℤ) (i : Instr) (bytes : List ℕ) → row_at op ≡ Constant bits make → i ≡ make z → instr.Is i bytes → Behind op (λ rest. IsSigned bits rest z) bytes
constant_parts op bits make z i bytes e same h =
    let o = own_at op (Constant bits make) e in
    let p = instr_parts op (Constant bits make) i bytes e (ap opcode_of same ∙ (o z).0) h in
    (p.0, p.1, mapped_back make constant_in (signed_number bits) z p.0 (λ k. (o k).1) (subst (λ (j : Instr). (mapped make (signed_number bits)).Is j p.0) same p.2))

pub labels_parts : (labels : List ℕ) (last : ℕ) (bytes : List ℕ) → instr.Is (BrTable labels last) bytes → Behind 0x0E (λ rest. Splits rest (VecSpelled index.Is labels) (index.Is last)) bytes
unfolding row_at
labels_parts labels last bytes h =
    let p = instr_parts 0x0E WithLabels (BrTable labels last) bytes refl refl h in
    let ls : List ℕ = p.2.0 in
    let s = p.2.1 in
    let m = mapped_parts (λ (l : ℕ). BrTable ls l) index (BrTable labels last) s.1 s.3 in
    let v = vec_parts index ls s.0 s.2 in
    (p.0, p.1, (s.0, s.1, subst (λ (xs : List ℕ). VecSpelled index.Is xs s.0) (sym (ap labels_in m.1)) v, subst (λ (n : ℕ). index.Is n s.1) (sym (ap number_in m.1)) m.2, s.4))

abbrev pub AccessParts : (align offset : ℕ) → List ℕ → Type 0
AccessParts align offset rest = Splits rest (index.Is align) (index.Is offset)

load_row : (op align offset : ℕ) (r : Row) (rest : List ℕ) → loads r ≡ true → (row_grammar op r).Is (Load op align offset) rest → AccessParts align offset rest
load_row op align offset (Loads t n e) rest h g =
    let a : ℕ = g.0 in
    let s = g.1 in
    let m = mapped_parts (λ (k : ℕ). Load op a k) index (Load op align offset) s.1 s.3 in
    (s.0, s.1, subst (λ (n : ℕ). index.Is n s.0) (sym (ap align_in m.1)) s.2, subst (λ (n : ℕ). index.Is n s.1) (sym (ap number_in m.1)) m.2, s.4)
load_row op align offset _ rest h g = cc

store_row : (op align offset : ℕ) (r : Row) (rest : List ℕ) → stores r ≡ true → (row_grammar op r).Is (Store op align offset) rest → AccessParts align offset rest
store_row op align offset (Stores t n) rest h g =
    let a : ℕ = g.0 in
    let s = g.1 in
    let m = mapped_parts (λ (k : ℕ). Store op a k) index (Store op align offset) s.1 s.3 in
    (s.0, s.1, subst (λ (n : ℕ). index.Is n s.0) (sym (ap align_in m.1)) s.2, subst (λ (n : ℕ). index.Is n s.1) (sym (ap number_in m.1)) m.2, s.4)
store_row op align offset _ rest h g = cc

pub load_parts : (op align offset : ℕ) (i : Instr) (bytes : List ℕ) → loads (row_at op) ≡ true → i ≡ Load op align offset → instr.Is i bytes → Behind op (AccessParts align offset) bytes
load_parts op align offset i bytes row same h =
    let p = instr_parts op (row_at op) i bytes refl (ap opcode_of same) h in
    (p.0, p.1, load_row op align offset (row_at op) p.0 row (subst (λ (j : Instr). (row_grammar op (row_at op)).Is j p.0) same p.2))

pub store_parts : (op align offset : ℕ) (i : Instr) (bytes : List ℕ) → stores (row_at op) ≡ true → i ≡ Store op align offset → instr.Is i bytes → Behind op (AccessParts align offset) bytes
store_parts op align offset i bytes row same h =
    let p = instr_parts op (row_at op) i bytes refl (ap opcode_of same) h in
    (p.0, p.1, store_row op align offset (row_at op) p.0 row (subst (λ (j : Instr). (row_grammar op (row_at op)).Is j p.0) same p.2))

one_row : (op : ℕ) (r : Row) (i : Instr) (rest : List ℕ) → takes_one r ≡ true → (row_grammar op r).Is i rest → rest ≡ []
one_row op (Takes1 t r o) i rest h g = g.1
one_row op _ i rest h g = cc

two_row : (op : ℕ) (r : Row) (i : Instr) (rest : List ℕ) → takes_two r ≡ true → (row_grammar op r).Is i rest → rest ≡ []
two_row op (Takes2 t r o) i rest h g = g.1
two_row op _ i rest h g = cc

pub one_parts : (op : ℕ) (i : Instr) (bytes : List ℕ) → takes_one (row_at op) ≡ true → i ≡ Unary op → instr.Is i bytes → bytes ≡ op ∷ []
one_parts op i bytes row same h =
    let p = instr_parts op (row_at op) i bytes refl (ap opcode_of same) h in
    p.1 ∙ ap (λ back. op ∷ back) (one_row op (row_at op) i p.0 row p.2)

pub two_parts : (op : ℕ) (i : Instr) (bytes : List ℕ) → takes_two (row_at op) ≡ true → i ≡ Binary op → instr.Is i bytes → bytes ≡ op ∷ []
two_parts op i bytes row same h =
    let p = instr_parts op (row_at op) i bytes refl (ap opcode_of same) h in
    p.1 ∙ ap (λ back. op ∷ back) (two_row op (row_at op) i p.0 row p.2)
