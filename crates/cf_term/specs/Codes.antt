-- A number for each head, its own numbers beside it, and the head that they stand for: so trees of forms can be stored and told apart.
use Rattle.std.specs.Prelude.{ℕ, zero, suc, ◌==◌, Bool, true, false, List, [], ◌∷◌, ℤ, pos, negsuc, ◌≡◌, refl, cond}
use Rattle.std.specs.Coded.{Coded, code_by, coded×, coded_ℕ, coded_list}
use base.Stored.{Gv, gnil, gnum, gcons}
use native.Mathlib.Nat.{suc-ne-zero}
use mathlib.Core.Path.{ap, sym}
use Rattle.cf_term.specs.declared.operations.Op.{Op}
use Rattle.cf_term.specs.declared.operations.Op.TheVariants as op
use Rattle.cf_term.specs.Core.{Tm, var, node, Tms, nil, cons, Head, Branch, MetaTyH, ValTyH, CompTyH, TyH, LetH, SigH, PairH, FstH, SndH, UnitTyH, UnitH, UnitRecH, BoolTyH, TrueH, FalseH, BoolRecH, NatTyH, ZeroH, SucH, NatRecH, ListTyH, NilH, ConsH, ListRecH, LiftH, QuoteH, VH, CH, IntTyH, ArrH, LetVH, OLamH, OAppH, FailH, SpliceH, MarkH, PiH, LamH, AppH, DataH, LitH, PrimH, LetRecH, ConH, CaseH, HoleH}

-- a number for each operation
abbrev pub op_number : Op → ℕ
op_number op.Add = 0
op_number op.Sub = 1
op_number op.Mul = 2
op_number op.Div = 3
op_number op.Rem = 4
op_number op.Eq = 5
op_number op.Lt = 6

-- the operation with a number
abbrev pub op_at : ℕ → Op
op_at n = cond (n == 0) op.Add (cond (n == 1) op.Sub (cond (n == 2) op.Mul (cond (n == 3) op.Div (cond (n == 4) op.Rem (cond (n == 5) op.Eq op.Lt)))))

pub op_back : (o : Op) → op_at (op_number o) ≡ o
op_back op.Add = refl
op_back op.Sub = refl
op_back op.Mul = refl
op_back op.Div = refl
op_back op.Rem = refl
op_back op.Eq = refl
op_back op.Lt = refl

-- 1 for true
abbrev pub bit : Bool → ℕ
bit false = 0
bit true = 1

-- whether a number is 1
abbrev pub bit_at : ℕ → Bool
bit_at n = n == 1

pub bit_back : (b : Bool) → bit_at (bit b) ≡ b
bit_back false = refl
bit_back true = refl

-- an integer as two numbers: whether it is below zero, and how far from 0 or from -1 it is
abbrev pub int_numbers : ℤ → List ℕ
int_numbers (pos n) = 0 ∷ n ∷ []
int_numbers (negsuc n) = 1 ∷ n ∷ []

-- the integer that two numbers stand for
abbrev pub int_at : List ℕ → ℤ
int_at [] = pos 0
int_at (s ∷ []) = pos 0
int_at (s ∷ n ∷ ns) = cond (s == 0) (pos n) (negsuc n)

pub int_back : (z : ℤ) → int_at (int_numbers z) ≡ z
int_back (pos n) = refl
int_back (negsuc n) = refl

-- three numbers for each branch
abbrev pub branch_numbers : List Branch → List ℕ
branch_numbers [] = []
branch_numbers (b ∷ bs) = b.type ∷ b.ctor ∷ b.names ∷ branch_numbers bs

-- the branches that the numbers stand for, three for each
abbrev pub branches_at : List ℕ → List Branch
branches_at [] = []
branches_at (d ∷ []) = []
branches_at (d ∷ c ∷ []) = []
branches_at (d ∷ c ∷ n ∷ ns) = record { type = d; ctor = c; names = n } ∷ branches_at ns

pub branches_back : (bs : List Branch) → branches_at (branch_numbers bs) ≡ bs
branches_back [] = refl
branches_back (b ∷ bs) = ap (λ cs. b ∷ cs) (branches_back bs)

-- a number for each head, apart from its own numbers
abbrev pub head_number : Head → ℕ
head_number MetaTyH = 0
head_number ValTyH = 1
head_number CompTyH = 2
head_number TyH = 3
head_number LetH = 4
head_number SigH = 5
head_number PairH = 6
head_number FstH = 7
head_number SndH = 8
head_number UnitTyH = 9
head_number UnitH = 10
head_number UnitRecH = 11
head_number BoolTyH = 12
head_number TrueH = 13
head_number FalseH = 14
head_number BoolRecH = 15
head_number NatTyH = 16
head_number ZeroH = 17
head_number SucH = 18
head_number NatRecH = 19
head_number ListTyH = 20
head_number NilH = 21
head_number ConsH = 22
head_number ListRecH = 23
head_number LiftH = 24
head_number QuoteH = 25
head_number VH = 26
head_number CH = 27
head_number IntTyH = 28
head_number ArrH = 29
head_number LetVH = 30
head_number OLamH = 31
head_number OAppH = 32
head_number FailH = 33
head_number SpliceH = 34
head_number MarkH = 35
head_number (PiH i) = 36
head_number (LamH i) = 37
head_number (AppH i) = 38
head_number (DataH d) = 39
head_number (LitH z) = 40
head_number (PrimH o) = 41
head_number (LetRecH n) = 42
head_number (ConH d c m) = 43
head_number (CaseH bs) = 44
head_number (HoleH k) = 45

-- its own numbers
abbrev pub numbers : Head → List ℕ
numbers (PiH i) = bit i ∷ []
numbers (LamH i) = bit i ∷ []
numbers (AppH i) = bit i ∷ []
numbers (DataH d) = d ∷ []
numbers (LitH z) = int_numbers z
numbers (PrimH o) = op_number o ∷ []
numbers (LetRecH n) = n ∷ []
numbers (ConH d c m) = d ∷ c ∷ m ∷ []
numbers (CaseH bs) = branch_numbers bs
numbers (HoleH k) = k ∷ []
numbers _ = []

-- the k-th number, or 0
abbrev pub at : List ℕ → ℕ → ℕ
at [] k = 0
at (n ∷ ns) zero = n
at (n ∷ ns) (suc k) = at ns k

-- the heads without numbers
abbrev pub bare_heads : List Head
bare_heads = MetaTyH ∷ ValTyH ∷ CompTyH ∷ TyH ∷ LetH ∷ SigH ∷ PairH ∷ FstH ∷ SndH ∷ UnitTyH ∷ UnitH ∷ UnitRecH ∷ BoolTyH ∷ TrueH ∷ FalseH ∷ BoolRecH ∷ NatTyH ∷ ZeroH ∷ SucH ∷ NatRecH ∷ ListTyH ∷ NilH ∷ ConsH ∷ ListRecH ∷ LiftH ∷ QuoteH ∷ VH ∷ CH ∷ IntTyH ∷ ArrH ∷ LetVH ∷ OLamH ∷ OAppH ∷ FailH ∷ SpliceH ∷ MarkH ∷ []

-- the head of a list with this number, counted from 0
abbrev pub bare_head : List Head → ℕ → Head
bare_head [] k = MetaTyH
bare_head (h ∷ hs) zero = h
bare_head (h ∷ hs) (suc k) = bare_head hs k

-- the head that a number stands for, with its own numbers
abbrev pub head_at : ℕ × List ℕ → Head
head_at p = cond (p.0 == 36) (PiH (bit_at (at p.1 0))) (cond (p.0 == 37) (LamH (bit_at (at p.1 0))) (cond (p.0 == 38) (AppH (bit_at (at p.1 0))) (cond (p.0 == 39) (DataH (at p.1 0)) (cond (p.0 == 40) (LitH (int_at p.1)) (cond (p.0 == 41) (PrimH (op_at (at p.1 0))) (cond (p.0 == 42) (LetRecH (at p.1 0)) (cond (p.0 == 43) (ConH (at p.1 0) (at p.1 1) (at p.1 2)) (cond (p.0 == 44) (CaseH (branches_at p.1)) (cond (p.0 == 45) (HoleH (at p.1 0)) (bare_head bare_heads p.0))))))))))

pub head_back : (h : Head) → head_at (head_number h, numbers h) ≡ h
head_back MetaTyH = refl
head_back ValTyH = refl
head_back CompTyH = refl
head_back TyH = refl
head_back LetH = refl
head_back SigH = refl
head_back PairH = refl
head_back FstH = refl
head_back SndH = refl
head_back UnitTyH = refl
head_back UnitH = refl
head_back UnitRecH = refl
head_back BoolTyH = refl
head_back TrueH = refl
head_back FalseH = refl
head_back BoolRecH = refl
head_back NatTyH = refl
head_back ZeroH = refl
head_back SucH = refl
head_back NatRecH = refl
head_back ListTyH = refl
head_back NilH = refl
head_back ConsH = refl
head_back ListRecH = refl
head_back LiftH = refl
head_back QuoteH = refl
head_back VH = refl
head_back CH = refl
head_back IntTyH = refl
head_back ArrH = refl
head_back LetVH = refl
head_back OLamH = refl
head_back OAppH = refl
head_back FailH = refl
head_back SpliceH = refl
head_back MarkH = refl
head_back (PiH i) = ap PiH (bit_back i)
head_back (LamH i) = ap LamH (bit_back i)
head_back (AppH i) = ap AppH (bit_back i)
head_back (DataH d) = refl
head_back (LitH z) = ap LitH (int_back z)
head_back (PrimH o) = ap PrimH (op_back o)
head_back (LetRecH n) = refl
head_back (ConH d c m) = refl
head_back (CaseH bs) = ap CaseH (branches_back bs)
head_back (HoleH k) = refl

-- heads as they are stored: each as its number with its own numbers
abbrev pub head_code : Coded Head
head_code = code_by (ℕ × List ℕ) (coded× coded_ℕ (coded_list coded_ℕ)) (λ h. (head_number h, numbers h)) head_at head_back

-- the number that is stored, 0 where there is none
abbrev pub number : Gv → ℕ
number gnil = 0
number (gnum n) = n
number (gcons a b) = 0

-- the first of the two that are stored
abbrev pub front : Gv → Gv
front gnil = gnil
front (gnum n) = gnil
front (gcons a b) = a

-- the second of the two that are stored
abbrev pub back : Gv → Gv
back gnil = gnil
back (gnum n) = gnil
back (gcons a b) = b

-- 1 where two are stored
abbrev pub is_pair : Gv → ℕ
is_pair gnil = 0
is_pair (gnum n) = 0
is_pair (gcons a b) = 1

abbrev mutual
  pub code : Tm → Gv
  code (var i) = gnum i
  code (node h ts) = gcons (head_code.code h) (codes ts)

  pub codes : Tms → Gv
  codes nil = gnil
  codes (cons t ts) = gcons (code t) (codes ts)

mutual
  pub code_inj : (x y : Tm) → code x ≡ code y → x ≡ y
  code_inj (var i) (var j) e = ap (λ g. var (number g)) e
  code_inj (node g ts) (node h us) e = λ k. node (head_code.inj g h (ap front e) k) (codes_inj ts us (ap back e) k)
  code_inj (var i) (node h us) e = absurd (suc-ne-zero 0 (sym (ap is_pair e)))
  code_inj (node g ts) (var j) e = absurd (suc-ne-zero 0 (ap is_pair e))

  pub codes_inj : (x y : Tms) → codes x ≡ codes y → x ≡ y
  codes_inj nil nil e = refl
  codes_inj (cons t ts) (cons u us) e = λ k. cons (code_inj t u (ap front e) k) (codes_inj ts us (ap back e) k)
  codes_inj nil (cons u us) e = absurd (suc-ne-zero 0 (sym (ap is_pair e)))
  codes_inj (cons t ts) nil e = absurd (suc-ne-zero 0 (ap is_pair e))

-- terms as they are stored: a variable as its number, a form as its head with its parts
abbrev pub tm_code : Coded Tm
tm_code = record { code = code; inj = code_inj }
