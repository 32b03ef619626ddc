-- What bytes are decoded to, and where they are a module its run, tell the one reason why they are not run to an end.
use Rattle.std.proofs.Common.{◌≡◌, ◌≢◌, ◌∙◌, refl, ap, sym, subst, ℕ, ◌<◌, ◌≤◌, ◌==◌, ◌⊎◌, inl, inr, ⊎_elim, ℤ, List, length, Option, Some, None, true, false, nat_lt}
use Rattle.std.proofs.lemmas.Bool.{le-ltb, lt-ltb, eq-eqb, ne_eqb}
use Rattle.wb_syntax.specs.declared.syntax.Module.{Module}
use Rattle.wb_syntax.specs.Binary.{Decoded, MalformedAt, OutsideAt, IsModule, decoded}
use Rattle.wb_syntax.specs.Grammar.{What, Import, Table, Start, Element, DataPart, Floating}
use Rattle.wb_syntax.specs.Laws.{DecodedExactly, EncodesOne}
use Rattle.wb_syntax.specs.Runs.{RunEnd, Running, IsStackFull, IsStuck, fixed_room, mach, main_arity}
use Rattle.wb_syntax.specs.Runs as end
use Rattle.wb_syntax.specs.Typing.{Part, FuncTypeOf, Memories, MemoryLimits, GlobalInit, ExportOf, Body, Valid, IsFirstInvalid}
use Rattle.wb_decode.specs.Reading.{what_of}
use Rattle.wb_decode.specs.declared.ends.What.{What as Named}
use Rattle.wb_decode.specs.declared.ends.What.TheVariants as named
use Rattle.wb_valid.specs.Answers.{part_of}
use Rattle.wb_valid.specs.Laws.{FirstIsOne, ValidHasNone}
use Rattle.wb_valid.specs.declared.part.Part.{Part as ThePart}
use Rattle.wb_valid.specs.declared.part.Part.TheVariants as part
use Rattle.cf_diag.specs.declared.refusal.Refusal.{Refusal}
use Rattle.cf_diag.specs.declared.refusal.Refusal.TheVariants.{Malformed, Outside, Invalid, TooMuchMemory, NoMain, Arity, StepLimit, StackFull, Stuck, NoMemory}
use Rattle.cf_driver.specs.declared.ends.Line.{Line}
use Rattle.cf_driver.specs.Executed.{IsCallable, IsNoModule, IsNotCallable, HasNoEnd, HasNoRun, IsNotRun, RunsTo, line_of, most_pages}
use Rattle.cf_syntax.proofs.Cases.{some_inj}
use Rattle.cf_exclusion.proofs.Memory.{if_memory}
use Rattle.cf_exclusion.specs.Laws.{RefusesNoRun, RunsToOne, OneRefusalOfRun}

-- ---- names of what is outside the profile, and of parts

abbrev named_of : What → Named
named_of Import = named.Import
named_of Table = named.Table
named_of Start = named.Start
named_of Element = named.Element
named_of DataPart = named.DataPart
named_of Floating = named.Float

what_back : (w : Named) → named_of (what_of w) ≡ w
what_back named.Import = refl
what_back named.Table = refl
what_back named.Start = refl
what_back named.Element = refl
what_back named.DataPart = refl
what_back named.Float = refl

abbrev name_of : Part → ThePart
name_of (FuncTypeOf f) = part.FuncType f
name_of Memories = part.Memories
name_of MemoryLimits = part.MemoryLimits
name_of (GlobalInit g) = part.GlobalInit g
name_of (ExportOf e) = part.ExportOf e
name_of (Body f) = part.Body f

part_back : (p : ThePart) → name_of (part_of p) ≡ p
part_back (part.FuncType f) = refl
part_back part.Memories = refl
part_back part.MemoryLimits = refl
part_back (part.GlobalInit g) = refl
part_back (part.ExportOf e) = refl
part_back (part.Body f) = refl

-- ---- why a module's run has no line

abbrev by_end : RunEnd → (words limit : ℕ) → Refusal
by_end (end.Running c) words limit = StepLimit limit
by_end (end.StackFull s) words limit = StackFull words
by_end (end.Stuck s) words limit = Stuck
by_end _ words limit = NoMemory

abbrev by_arity : Option ℕ → (count : ℕ) → Refusal → Refusal
by_arity None count r = NoMain
by_arity (Some wanted) count r = elim (wanted == count) [ true ↦ r | false ↦ Arity count wanted ]

abbrev by_memory : (pages : ℕ) → Refusal → Refusal
by_memory pages r = elim (nat_lt most_pages pages) [ true ↦ TooMuchMemory pages | false ↦ r ]

abbrev told_by : Module → List ℤ → (words limit : ℕ) → Refusal
told_by m args words limit = by_memory (fixed_room m) (by_arity (main_arity m) (length args) (by_end (mach m args words limit) words limit))

small : (pages : ℕ) (r : Refusal) → pages ≤ most_pages → by_memory pages r ≡ r
small pages r h = ap (λ b. elim b [ true ↦ TooMuchMemory pages | false ↦ r ]) (le-ltb most_pages pages h)

large : (pages : ℕ) (r : Refusal) → most_pages < pages → by_memory pages r ≡ TooMuchMemory pages
large pages r h = ap (λ b. elim b [ true ↦ TooMuchMemory pages | false ↦ r ]) (lt-ltb most_pages pages h)

same_count : (wanted count : ℕ) (r : Refusal) → wanted ≡ count → by_arity (Some wanted) count r ≡ r
same_count wanted count r e = ap (λ b. elim b [ true ↦ r | false ↦ Arity count wanted ]) (eq-eqb wanted count e)

other_count : (wanted count : ℕ) (r : Refusal) → wanted ≢ count → by_arity (Some wanted) count r ≡ Arity count wanted
other_count wanted count r n = ap (λ b. elim b [ true ↦ r | false ↦ Arity count wanted ]) (ne_eqb wanted count n)

module _ (m : Module) (args : List ℤ) (words limit : ℕ) where
  abbrev its_end : Refusal
  its_end = by_end (mach m args words limit) words limit

  of_callable : IsCallable m (length args) → told_by m args words limit ≡ its_end
  of_callable c =
      small (fixed_room m) _ c.memory
      ∙ ap (λ o. by_arity o (length args) its_end) c.main
      ∙ same_count (length args) (length args) its_end refl

  of_ended : IsCallable m (length args) → (e : RunEnd) → mach m args words limit ≡ e → by_end e words limit ≡ told_by m args words limit
  of_ended c e same = ap (λ x. by_end x words limit) (sym same) ∙ sym (of_callable c)

  full_told : (e : RunEnd) → IsStackFull e → by_end e words limit ≡ StackFull words
  full_told (end.StackFull s) h = refl
  full_told _ h = absurd h

  stuck_told : (e : RunEnd) → IsStuck e → by_end e words limit ≡ Stuck
  stuck_told (end.Stuck s) h = refl
  stuck_told _ h = absurd h

  not_callable_told : (r : Refusal) → r ≢ NoMemory → IsNotCallable m (length args) r → r ≡ told_by m args words limit
  not_callable_told (TooMuchMemory pages) n h = sym (large (fixed_room m) _ (subst (λ k. most_pages < k) h.0 h.1) ∙ ap TooMuchMemory (sym h.0))
  not_callable_told NoMain n h = sym (small (fixed_room m) _ h.0 ∙ ap (λ o. by_arity o (length args) its_end) h.1)
  not_callable_told (Arity given wanted) n h =
      sym
      (small (fixed_room m) _ h.0.memory
      ∙ ap (λ o. by_arity o (length args) its_end) h.0.main
      ∙ other_count wanted (length args) its_end (λ e. h.2 (h.1 ∙ sym e))
      ∙ ap (λ k. Arity k wanted) (sym h.1))
  not_callable_told NoMemory n h = absurd (n refl)
  not_callable_told _ n h = absurd h

  no_end_told : (r : Refusal) → HasNoEnd m args words limit r → r ≡ told_by m args words limit
  no_end_told (StepLimit steps) h = ap StepLimit h.1 ∙ of_ended h.0 (Running h.2.0) h.2.1
  no_end_told (StackFull room) h = ap StackFull h.1 ∙ sym (full_told (mach m args words limit) h.2) ∙ of_ended h.0 (mach m args words limit) refl
  no_end_told Stuck h = sym (stuck_told (mach m args words limit) h.1) ∙ of_ended h.0 (mach m args words limit) refl
  no_end_told _ h = absurd h

  -- a run that ends with a line tells of no reason
  line_told : (e : RunEnd) (line : Line) → line_of e ≡ Some line → by_end e words limit ≡ NoMemory
  line_told (end.Returned z s) line h = refl
  line_told (end.Trapped kind s) line h = refl
  line_told end.NoMain line h = refl
  line_told _ line h = absurd cc

-- ---- why bytes are not run

-- what bytes that are so decoded, and are not run, are refused for
abbrev Tells : Decoded → List ℤ → (words limit : ℕ) → Refusal → Type 0
Tells (MalformedAt at) args words limit r = r ≡ Malformed at
Tells (OutsideAt at what) args words limit r = r ≡ Outside at (named_of what)
Tells (IsModule m) args words limit r = ((p : ThePart) × IsFirstInvalid m (part_of p) × (r ≡ Invalid p)) ⊎ (Valid m × (r ≡ told_by m args words limit))

module _ (exactly : DecodedExactly) (one : FirstIsOne) (none : ValidHasNone) where
  no_module_tells : (bytes : List ℕ) (args : List ℤ) (words limit : ℕ) (r : Refusal) → r ≢ NoMemory → IsNoModule bytes r → Tells (decoded bytes) args words limit r
  no_module_tells bytes args words limit (Malformed at) n h = subst (λ d. Tells d args words limit (Malformed at)) (sym h) refl
  no_module_tells bytes args words limit (Outside at what) n h = subst (λ d. Tells d args words limit (Outside at what)) (sym h) (ap (Outside at) (sym (what_back what)))
  no_module_tells bytes args words limit (Invalid p) n h = subst (λ d. Tells d args words limit (Invalid p)) (sym ((exactly h.0 bytes).0 h.1)) (inl (p, h.2, refl))
  no_module_tells bytes args words limit NoMemory n h = absurd (n refl)
  no_module_tells bytes args words limit _ n h = absurd h

  no_run_tells : (bytes : List ℕ) (args : List ℤ) (words limit : ℕ) (r : Refusal) → r ≢ NoMemory → HasNoRun bytes args words limit r → Tells (decoded bytes) args words limit r
  no_run_tells bytes args words limit r n h =
      let m = h.the_module in
      let told = ⊎_elim (not_callable_told m args words limit r n) (no_end_told m args words limit r) h.no_end in
      subst (λ d. Tells d args words limit r) (sym ((exactly m bytes).0 h.is_module.encoded)) (inr (h.is_module.valid, told))

  not_run_tells : (bytes : List ℕ) (args : List ℤ) (words limit : ℕ) (r : Refusal) → r ≢ NoMemory → IsNotRun bytes args words limit r → Tells (decoded bytes) args words limit r
  not_run_tells bytes args words limit r n h = ⊎_elim (no_module_tells bytes args words limit r n) (no_run_tells bytes args words limit r n) h

  same_part : (m : Module) (p q : ThePart) → IsFirstInvalid m (part_of p) → IsFirstInvalid m (part_of q) → p ≡ q
  same_part m p q f g = sym (part_back p) ∙ ap name_of (one m (part_of p) (part_of q) f g) ∙ part_back q

  tells_one : (d : Decoded) (args : List ℤ) (words limit : ℕ) (r s : Refusal) → Tells d args words limit r → Tells d args words limit s → r ≡ s
  tells_one (MalformedAt at) args words limit r s t u = t ∙ sym u
  tells_one (OutsideAt at what) args words limit r s t u = t ∙ sym u
  tells_one (IsModule m) args words limit r s (inl t) (inl u) = t.2 ∙ ap Invalid (same_part m t.0 u.0 t.1 u.1) ∙ sym u.2
  tells_one (IsModule m) args words limit r s (inl t) (inr u) = absurd (none m (part_of t.0) u.0 t.1)
  tells_one (IsModule m) args words limit r s (inr t) (inl u) = absurd (none m (part_of u.0) t.0 u.1)
  tells_one (IsModule m) args words limit r s (inr t) (inr u) = t.1 ∙ sym u.1

  pub one_refusal : OneRefusalOfRun
  one_refusal bytes args words limit r s h k n o = tells_one (decoded bytes) args words limit r s (not_run_tells bytes args words limit r n h) (not_run_tells bytes args words limit s o k)

  -- the same of a run that ends with a line
  run_tells : (bytes : List ℕ) (args : List ℤ) (words limit : ℕ) (line : Line) → RunsTo bytes args words limit line → Tells (decoded bytes) args words limit NoMemory
  run_tells bytes args words limit line h =
      let m = h.the_module in
      let told = sym (line_told m args words limit (mach m args words limit) line h.ends.ends) ∙ of_ended m args words limit h.ends.callable (mach m args words limit) refl in
      subst (λ d. Tells d args words limit NoMemory) (sym ((exactly m bytes).0 h.is_module.encoded)) (inr (h.is_module.valid, told))

  pub refuses_no_run : RefusesNoRun
  refuses_no_run bytes args words limit line r h k =
      if_memory r (λ n. n (tells_one (decoded bytes) args words limit r NoMemory (not_run_tells bytes args words limit r n k) (run_tells bytes args words limit line h)))

pub runs_to_one : EncodesOne → RunsToOne
runs_to_one one bytes args words limit line other h k =
    let same = one k.the_module h.the_module bytes k.is_module.encoded h.is_module.encoded in
    some_inj (sym h.ends.ends ∙ ap (λ m. line_of (mach m args words limit)) (sym same) ∙ k.ends.ends)
