-- The module of a sum has bytes.
use Rattle.std.proofs.Common.{◌≡◌, List, [], ◌∷◌, ◌++◌, refl, sym, ap, ◌∙◌, subst, append_assoc, arith}
use Rattle.wb_syntax.specs.declared.syntax.Instr.{Instr}
use Rattle.wb_syntax.specs.declared.syntax.Instr.TheVariants.{Binary, End}
use Rattle.wb_syntax.specs.Table.{row_at}
use Rattle.wb_syntax.specs.Nesting.{Open, Closes}
use Rattle.wb_encode.specs.Appended.{Every}
use Rattle.wb_encode.specs.Encodable.{IsOfTable, AreBodiesWellNested, AreOfTable, AreLocalsFew}
use Rattle.cf_driver.specs.Sums.{Sum, Number, Plus}
use Rattle.cf_driver.specs.Lowering.{instructions, module_of}

-- the instructions of a sum before others, regrouped
regrouped : (a b : Sum) (is : List Instr) → instructions (Plus a b) ++ is ≡ instructions a ++ (instructions b ++ (Binary 0x7C ∷ is))
regrouped a b is = append_assoc (instructions a) (instructions b ++ Binary 0x7C ∷ []) is ∙ ap (λ js. instructions a ++ js) (append_assoc (instructions b) (Binary 0x7C ∷ []) is)

closes_code : (s : Sum) (os : List Open) (is : List Instr) → Closes os is → Closes os (instructions s ++ is)
closes_code (Number z) os is p = p
closes_code (Plus a b) os is p = subst (Closes os) (sym (regrouped a b is)) (closes_code a os (instructions b ++ (Binary 0x7C ∷ is)) (closes_code b os (Binary 0x7C ∷ is) p))

pub well_nested : (s : Sum) → AreBodiesWellNested (module_of s)
well_nested s = (closes_code s [] (End ∷ []) refl, tt)

add_of_table : IsOfTable (Binary 0x7C)
unfolding row_at
add_of_table = refl

code_of_table : (s : Sum) (is : List Instr) → Every IsOfTable is → Every IsOfTable (instructions s ++ is)
code_of_table (Number z) is p = (tt, p)
code_of_table (Plus a b) is p = subst (Every IsOfTable) (sym (regrouped a b is)) (code_of_table a (instructions b ++ (Binary 0x7C ∷ is)) (code_of_table b (Binary 0x7C ∷ is) (add_of_table, p)))

pub of_table : (s : Sum) → AreOfTable (module_of s)
of_table s = ((code_of_table s (End ∷ []) (tt, tt), tt), tt)

pub few_locals : (s : Sum) → AreLocalsFew (module_of s)
few_locals s = (omega arith, tt)
