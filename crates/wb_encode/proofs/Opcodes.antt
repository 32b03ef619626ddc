-- Instructions by their rows.
use Rattle.std.proofs.Common.{◌≡◌, ℕ, true, List, [], ◌∷◌, ◌++◌, refl, sym, subst}
use Rattle.wb_syntax.specs.declared.syntax.Instr.{Instr}
use Rattle.wb_syntax.specs.declared.syntax.Instr.TheVariants.{Load, Store, BrTable, Unary, Binary}
use Rattle.wb_syntax.specs.Table.{Row, WithLabels, Loads, Stores, Takes1, Takes2, row_at}
use Rattle.wb_syntax.specs.Grammar.{Splits, index}
use Rattle.wb_syntax.specs.Binary.{row_grammar, instr}
use Rattle.wb_encode.specs.Appended.{VecSpelled}
use Rattle.wb_encode.specs.Encodable.{loads, stores, takes_one, takes_two}
use Rattle.wb_encode.proofs.Spelled.{mapped_is, vec_is}

-- the opcode, and what its row lets follow
pub instr_is : (op : ℕ) (r : Row) (i j : Instr) (rest : List ℕ) → row_at op ≡ r → i ≡ j → (row_grammar op r).Is j rest → instr.Is i (op ∷ rest)
instr_is op r i j rest e same h =
    let here : (row_grammar op r).Is i rest = subst (λ (k : Instr). (row_grammar op r).Is k rest) (sym same) h in
    (op, rest, refl, subst (λ (s : Row). (row_grammar op s).Is i rest) (sym e) here)

one_follows : (op : ℕ) (r : Row) → takes_one r ≡ true → (row_grammar op r).Is (Unary op) []
one_follows op (Takes1 t r o) h = (refl, refl)
one_follows op _ h = cc

two_follows : (op : ℕ) (r : Row) → takes_two r ≡ true → (row_grammar op r).Is (Binary op) []
two_follows op (Takes2 t r o) h = (refl, refl)
two_follows op _ h = cc

pub one_is : (op : ℕ) (i : Instr) → takes_one (row_at op) ≡ true → i ≡ Unary op → instr.Is i (op ∷ [])
one_is op i h e = instr_is op (row_at op) i (Unary op) [] refl e (one_follows op (row_at op) h)

pub two_is : (op : ℕ) (i : Instr) → takes_two (row_at op) ≡ true → i ≡ Binary op → instr.Is i (op ∷ [])
two_is op i h e = instr_is op (row_at op) i (Binary op) [] refl e (two_follows op (row_at op) h)

load_follows : (op align offset : ℕ) (r : Row) (front back : List ℕ) → loads r ≡ true → index.Is align front → index.Is offset back → (row_grammar op r).Is (Load op align offset) (front ++ back)
load_follows op align offset (Loads t n e) front back h a b = (align, (front, back, a, mapped_is (λ k. Load op align k) index offset back b, refl))
load_follows op align offset _ front back h a b = cc

store_follows : (op align offset : ℕ) (r : Row) (front back : List ℕ) → stores r ≡ true → index.Is align front → index.Is offset back → (row_grammar op r).Is (Store op align offset) (front ++ back)
store_follows op align offset (Stores t n) front back h a b = (align, (front, back, a, mapped_is (λ k. Store op align k) index offset back b, refl))
store_follows op align offset _ front back h a b = cc

pub load_is : (op align offset : ℕ) (i : Instr) (rest : List ℕ) → loads (row_at op) ≡ true → i ≡ Load op align offset → Splits rest (index.Is align) (index.Is offset) → instr.Is i (op ∷ rest)
load_is op align offset i rest h e s =
    instr_is op (row_at op) i (Load op align offset) rest refl e (subst (λ (bs : List ℕ). (row_grammar op (row_at op)).Is (Load op align offset) bs) (sym s.4) (load_follows op align offset (row_at op) s.0 s.1 h s.2 s.3))

pub store_is : (op align offset : ℕ) (i : Instr) (rest : List ℕ) → stores (row_at op) ≡ true → i ≡ Store op align offset → Splits rest (index.Is align) (index.Is offset) → instr.Is i (op ∷ rest)
store_is op align offset i rest h e s =
    instr_is op (row_at op) i (Store op align offset) rest refl e (subst (λ (bs : List ℕ). (row_grammar op (row_at op)).Is (Store op align offset) bs) (sym s.4) (store_follows op align offset (row_at op) s.0 s.1 h s.2 s.3))

pub labels_is : (labels : List ℕ) (last : ℕ) (rest : List ℕ) → Splits rest (VecSpelled index.Is labels) (index.Is last) → instr.Is (BrTable labels last) (0x0E ∷ rest)
unfolding row_at
labels_is labels last rest s =
    instr_is 0x0E WithLabels (BrTable labels last) (BrTable labels last) rest refl refl (labels, (s.0, s.1, vec_is index labels s.0 s.2, mapped_is (λ l. BrTable labels l) index last s.1 s.3, s.4))
