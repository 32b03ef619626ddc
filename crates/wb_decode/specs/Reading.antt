-- What a reader answers, by what the grammar reads from its bytes.
use Rattle.std.specs.Prelude.{◌≡◌, ℕ, ◌+◌, ◌-◌, ◌^◌, ◌≤◌, true, false, nat_lt, ℤ, pos, neg_ℤ, ◌≤ℤ◌, ◌<ℤ◌, List, length, [], Some, None, Result, Ok, Err}
use Rattle.wb_syntax.specs.Grammar.{What, Import, Table, Start, Element, DataPart, Floating, Read, Reads, Stops, Grammar, refused, followed, mapped, index, vec}
use Rattle.wb_syntax.specs.declared.syntax.FuncType.{FuncType}
use Rattle.wb_syntax.specs.declared.syntax.Limits.{Limits}
use Rattle.wb_syntax.specs.declared.syntax.LocalRun.{LocalRun}
use Rattle.wb_syntax.specs.Binary.{value_type, results, local_runs, expression, Coded}
use Rattle.wb_decode.specs.declared.ends.What.{What as Named}
use Rattle.wb_decode.specs.declared.ends.What.TheVariants as named
use Rattle.wb_decode.specs.declared.ends.Fault.{Fault}
use Rattle.wb_decode.specs.declared.ends.Fault.TheVariants.{Malformed, Outside, NoMemory}
use Rattle.wb_syntax.specs.Grammar as grammar

-- what the program names, as the grammar names it
abbrev pub what_of : Named → What
what_of named.Import = Import
what_of named.Table = Table
what_of named.Start = Start
what_of named.Element = Element
what_of named.DataPart = DataPart
what_of named.Float = Floating

-- reading stops, somewhere, with this fault; want of memory says nothing
abbrev pub Faulty : {A : Type 0} → Fault → Read A → Type 0
Faulty Malformed read = (left : List ℕ) × (read ≡ Stops left grammar.Malformed)
Faulty (Outside what) read = (left : List ℕ) × (read ≡ Stops left (grammar.Outside (what_of what)))
Faulty NoMemory read = Unit {0}

-- the answer, seen by view as a value and the bytes behind it, is what the grammar reads from these bytes
abbrev pub Reading : {X A : Type 0} → (X → A × List ℕ) → Grammar A → List ℕ → Result X Fault → Type 0
Reading view g bytes (Ok x) = (g.read bytes ≡ Reads (view x).0 (view x).1) × (length (view x).1 ≤ length bytes)
Reading view g bytes (Err fault) = Faulty fault (g.read bytes)

-- a signed number of so many bits
abbrev pub IsSignedRange : ℕ → ℤ → Type 0
IsSignedRange bits z = (neg_ℤ (pos (2 ^ (bits - 1))) ≤ℤ z) × (z <ℤ pos (2 ^ (bits - 1)))

-- all the bytes there are, as they stand
abbrev pub whatever : Grammar (List ℕ)
whatever = record { Is = λ bytes spelled. bytes ≡ spelled; read = λ bytes. Reads bytes [] }

-- a function type behind its first byte
abbrev pub signature : Grammar FuncType
signature = followed (vec value_type) (λ ps. mapped (λ r. record { params = ps; result = r }) (followed index results))

-- limits without a greatest size, behind their first byte
abbrev pub at_least : Grammar Limits
at_least = mapped (λ n. record { min = n; max = None }) index

-- limits with a greatest size, behind their first byte
abbrev pub within : Grammar Limits
within = followed index (λ n. mapped (λ k. record { min = n; max = Some k }) index)

-- a run of locals, with so many locals before it
abbrev pub local_run : (before : ℕ) → Grammar LocalRun
local_run before = followed index (λ k. elim (nat_lt (before + k) (2 ^ 32)) [ true ↦ mapped (λ t. record { count = k; ty = t }) value_type | false ↦ refused grammar.Malformed ])

-- an entry of the code section without its size
abbrev pub entry : Grammar Coded
entry = followed index (λ n. followed (local_runs n 0) (λ rs. mapped (λ body. (rs, body)) expression))
