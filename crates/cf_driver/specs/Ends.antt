-- How a run ends, in a line.
use Rattle.std.specs.Prelude.{◌++◌, ◌==◌, ℕ, ℤ, true, false, List, if◌then◌else◌, codes, nat_eq}
use Rattle.std.specs.Fmt.{signed_decimal}
use Rattle.std.specs.List.{starts_with}
use Rattle.wb_syntax.specs.Execute.{TheStore, TrapKind}
use Rattle.wb_syntax.specs.Execute as run
use Rattle.wb_syntax.specs.Runs.{status}
use Rattle.cf_driver.specs.declared.ends.Line.{Line}
use Rattle.cf_driver.specs.declared.ends.Line.TheVariants.{Returned, Trapped}
use Rattle.cf_driver.specs.declared.ends.Word.{Word}
use Rattle.cf_driver.specs.declared.ends.Word.TheVariants.{DivideByZero, Overflow, Failed, HeapFull, Unreachable, OutOfBounds}

-- ---- what is written

-- a trap
abbrev pub trap_text : Word → List ℕ
trap_text DivideByZero = codes "divide-by-zero"
trap_text Overflow = codes "overflow"
trap_text Failed = codes "failed"
trap_text HeapFull = codes "heap-full"
trap_text Unreachable = codes "unreachable"
trap_text OutOfBounds = codes "out-of-bounds"

-- the line
abbrev pub line_text : Line → List ℕ
line_text (Returned z) = codes "returned " ++ signed_decimal z ++ codes "\n"
line_text (Trapped word) = codes "trap " ++ trap_text word ++ codes "\n"

-- the status that a program ends with after a line: 3 exactly where the line begins with `trap`, else 0
abbrev pub code_of : List ℕ → ℕ
code_of line = if starts_with nat_eq line (codes "trap") then 3 else 0

-- ---- why a run traps

-- where `unreachable` was reached, the status word tells a full heap and a failure apart
abbrev pub unreachable_at : (status : ℕ) → Word
unreachable_at n = elim (n == 1) [ true ↦ HeapFull | false ↦ elim (n == 2) [ true ↦ Failed | false ↦ Unreachable ] ]

-- the trap of a run that leaves this store
abbrev pub word_of : TrapKind → TheStore → Word
word_of run.Unreached s = unreachable_at (status s)
word_of run.DivideByZero s = DivideByZero
word_of run.Overflow s = Overflow
word_of run.OutOfBounds s = OutOfBounds
