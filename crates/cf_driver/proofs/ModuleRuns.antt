-- How the module of a sum runs.
use Rattle.std.proofs.Common.{subst, ◌≡◌, ℕ, zero, suc, ◌+◌, ◌%◌, ◌^◌, ◌≤◌, ◌⊎◌, inl, inr, List, [], ◌∷◌, ◌++◌, length, nat_lt, true, false, refl, sym, ap, ◌∙◌, append_assoc, arith, ⊎_elim}
use Rattle.std.proofs.lemmas.Bool.{le-ltb}
use Rattle.std.specs.Prelude.{Option, Some, None}
use Rattle.std.specs.Int.{cast_unsigned, w64}
use Rattle.wb_syntax.specs.declared.syntax.NumType.TheVariants.{I64}
use Rattle.wb_syntax.specs.declared.syntax.Instr.{Instr}
use Rattle.wb_syntax.specs.declared.syntax.Instr.TheVariants.{I64Const, Binary, End}
use Rattle.wb_syntax.specs.declared.syntax.Module.{Module}
use Rattle.wb_syntax.specs.Syntax.{Plain, Code, Nothing, Then}
use Rattle.wb_syntax.specs.Table.{row_at}
use Rattle.wb_syntax.specs.Numbers.{signed}
use Rattle.wb_syntax.specs.Nesting.{flat, Level, levels, nested, put_before, whole}
use Rattle.wb_syntax.specs.Execute.{Word, word, TheStore, Frame, Config, placed_at}
use Rattle.wb_syntax.specs.Runs.{Main, RunEnd, Returned, StackFull, Stuck, IsStackFull, runs, mach, first_config}
use Rattle.cf_driver.specs.Sums.{Sum, Number, Plus}
use Rattle.cf_driver.specs.Lowering.{instructions, module_of, func_of}

-- the instructions of a sum as nested code, before this code
abbrev pub code_of : Sum → Code → Code
code_of (Number z) rest = Then (Plain (I64Const z)) rest
code_of (Plus a b) rest = code_of a (code_of b (Then (Plain (Binary 0x7C)) rest))

-- the word that a sum leaves
abbrev pub bits : Sum → ℕ
bits (Number z) = cast_unsigned w64 z
bits (Plus a b) = (bits a + bits b) % 2 ^ 64

-- ---- the body's instructions are those of the nested code

pub flat_code : (s : Sum) (rest : Code) → flat (code_of s rest) ≡ instructions s ++ flat rest
flat_code (Number z) rest = refl
flat_code (Plus a b) rest =
    flat_code a (code_of b (Then (Plain (Binary 0x7C)) rest))
    ∙ ap (λ is. instructions a ++ is) (flat_code b (Then (Plain (Binary 0x7C)) rest) ∙ sym (append_assoc (instructions b) (Binary 0x7C ∷ []) (flat rest)))
    ∙ sym (append_assoc (instructions a) (instructions b ++ Binary 0x7C ∷ []) (flat rest))

levels_code : (s : Sum) (is : List Instr) (l : Level) (ls : List Level) → levels is ≡ Some (l ∷ ls) → levels (instructions s ++ is) ≡ Some (record { code = code_of s l.code; other = l.other } ∷ ls)
levels_code (Number z) is l ls e = ap (put_before (I64Const z)) e
levels_code (Plus a b) is l ls e =
    ap levels (append_assoc (instructions a) (instructions b ++ Binary 0x7C ∷ []) is ∙ ap (λ js. instructions a ++ js) (append_assoc (instructions b) (Binary 0x7C ∷ []) is))
    ∙ levels_code a (instructions b ++ (Binary 0x7C ∷ is)) _ ls (levels_code b (Binary 0x7C ∷ is) _ ls (ap (put_before (Binary 0x7C)) e))

pub nested_body : (s : Sum) → nested (instructions s ++ End ∷ []) ≡ Some (code_of s Nothing)
nested_body s = ap whole (levels_code s (End ∷ []) (record { code = Nothing; other = None }) [] refl)

-- ---- runs of the code

abbrev pub no_data : TheStore
no_data = record { memory = None; globals = [] }

-- the frame of `main`, with nothing in it yet
abbrev main_frame : Frame
main_frame = record { locals = []; results = 1; labels = []; stack = []; code = Nothing }

-- `main` with these words before this code
abbrev at : List Word → Code → Config
at words code = record { frame = placed_at main_frame words code; callers = []; store = no_data }

-- the steps of a sum's code, and n more
abbrev steps : Sum → ℕ → ℕ
steps (Number z) n = n
steps (Plus a b) n = steps a (steps b (suc n))

-- the two runs end alike, or the words of the first do not suffice
abbrev pub Comes : RunEnd → RunEnd → Type 0
Comes a b = (a ≡ b) ⊎ IsStackFull a

then_comes : (a b c : RunEnd) → Comes a b → Comes b c → Comes a c
then_comes a b c p q = ⊎_elim (λ e. ⊎_elim (λ f. inl (e ∙ f)) (λ f. inr (subst IsStackFull (sym e) f)) q) (λ e. inr e) p

-- words that suffice for the code of a sum, beside those that are there
abbrev pub need : Sum → ℕ
need (Number z) = 6
need (Plus a b) = need a + need b + 6

module _ (m : Module) (room : ℕ) where
  add_comes : (W n x y : ℕ) (ws : List Word) (rest : Code) → Comes (runs m room W (suc n) (at (word I64 y ∷ word I64 x ∷ ws) (Then (Plain (Binary 0x7C)) rest))) (runs m room W n (at (word I64 ((x + y) % 2 ^ 64) ∷ ws) rest))
  unfolding row_at
  add_comes W n x y ws rest =
      let next = runs m room W n (at (word I64 ((x + y) % 2 ^ 64) ∷ ws) rest) in
      elim (nat_lt W (0 + 4 + 0 + length (word I64 y ∷ word I64 x ∷ ws) + 0 + 0)) as (λ t. Comes (elim t [ true ↦ StackFull no_data | false ↦ next ]) next) [ true ↦ inr tt | false ↦ inl refl ]

  code_comes : (s : Sum) (rest : Code) (W n : ℕ) (ws : List Word) → Comes (runs m room W (steps s n) (at ws (code_of s rest))) (runs m room W n (at (word I64 (bits s) ∷ ws) rest))
  code_comes (Number z) rest W n ws = inl refl
  code_comes (Plus a b) rest W n ws =
      let add = Then (Plain (Binary 0x7C)) rest in
      then_comes _ _ _ (code_comes a (code_of b add) W (steps b (suc n)) ws)
      (then_comes _ _ _ (code_comes b add W (suc n) (word I64 (bits a) ∷ ws)) (add_comes W n (bits a) (bits b) ws rest))

  leaves : (W v : ℕ) → Comes (runs m room W (suc zero) (at (word I64 v ∷ []) Nothing)) (Returned (signed I64 v) no_data)
  leaves W v =
      elim (nat_lt W 5) as (λ t. Comes (elim t [ true ↦ StackFull no_data | false ↦ Returned (signed I64 v) no_data ]) (Returned (signed I64 v) no_data)) [ true ↦ inr tt | false ↦ inl refl ]

  -- ---- the same, where the words suffice

  add_with_room : (W n x y : ℕ) (ws : List Word) (rest : Code) → 6 + length ws ≤ W → runs m room W (suc n) (at (word I64 y ∷ word I64 x ∷ ws) (Then (Plain (Binary 0x7C)) rest)) ≡ runs m room W n (at (word I64 ((x + y) % 2 ^ 64) ∷ ws) rest)
  unfolding row_at
  add_with_room W n x y ws rest fits =
      let next = runs m room W n (at (word I64 ((x + y) % 2 ^ 64) ∷ ws) rest) in
      ap (λ t. elim t [ true ↦ StackFull no_data | false ↦ next ]) (le-ltb W (0 + 4 + 0 + length (word I64 y ∷ word I64 x ∷ ws) + 0 + 0) (omega arith))

  code_with_room : (s : Sum) (rest : Code) (W n : ℕ) (ws : List Word) → need s + length ws ≤ W → runs m room W (steps s n) (at ws (code_of s rest)) ≡ runs m room W n (at (word I64 (bits s) ∷ ws) rest)
  code_with_room (Number z) rest W n ws fits = refl
  code_with_room (Plus a b) rest W n ws fits =
      let add = Then (Plain (Binary 0x7C)) rest in
      code_with_room a (code_of b add) W (steps b (suc n)) ws (omega arith)
      ∙ code_with_room b add W (suc n) (word I64 (bits a) ∷ ws) (omega arith)
      ∙ add_with_room W n (bits a) (bits b) ws rest (omega arith)

  leaves_with_room : (W v : ℕ) → 5 ≤ W → runs m room W (suc zero) (at (word I64 v ∷ []) Nothing) ≡ Returned (signed I64 v) no_data
  leaves_with_room W v fits = ap (λ t. elim t [ true ↦ StackFull no_data | false ↦ Returned (signed I64 v) no_data ]) (le-ltb W 5 fits)

-- ---- the module's run

-- a module's run is that of the code of its main
mach_is : (s : Sum) (W n : ℕ) → mach (module_of s) [] W n ≡ runs (module_of s) 0 W n (at [] (code_of s Nothing))
mach_is s W n =
    let main : Main = record { func = func_of s; type = record { params = []; result = Some I64 } } in
    ap (λ (body : Option Code). elim body [ None ↦ Stuck no_data | Some c ↦ runs (module_of s) 0 W n (first_config (module_of s) 0 main [] no_data c) ]) (nested_body s)

-- the number of steps in which the module ends
abbrev pub end_steps : Sum → ℕ
end_steps s = steps s (suc zero)

pub mach_comes : (s : Sum) (W : ℕ) → Comes (mach (module_of s) [] W (end_steps s)) (Returned (signed I64 (bits s)) no_data)
mach_comes s W =
    then_comes _ _ _ (inl (mach_is s W (end_steps s)))
    (then_comes _ _ _ (code_comes (module_of s) 0 s Nothing W (suc zero) []) (leaves (module_of s) 0 W (bits s)))

needs_some : (s : Sum) → 6 ≤ need s
needs_some (Number z) = omega arith
needs_some (Plus a b) = omega arith

pub mach_with_room : (s : Sum) → mach (module_of s) [] (need s) (end_steps s) ≡ Returned (signed I64 (bits s)) no_data
mach_with_room s =
    mach_is s (need s) (end_steps s)
    ∙ code_with_room (module_of s) 0 s Nothing (need s) (suc zero) [] (omega arith)
    ∙ leaves_with_room (module_of s) 0 (need s) (bits s) (omega (arith, needs_some s))
