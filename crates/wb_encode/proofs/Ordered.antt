-- Sections one after another, from the last one back.
use Rattle.std.proofs.Common.{◌≡◌, ℕ, ◌<◌, Bool, true, false, List, [], ◌∷◌, ◌++◌, refl, sym, ap, ◌∙◌, subst, arith, append-nil}
use Rattle.std.specs.Prelude.{◌==◌, nat_le}
use Rattle.std.proofs.lemmas.Bool.Decides.{nat_tests}
use Rattle.wb_syntax.specs.declared.syntax.FuncType.{FuncType}
use Rattle.wb_syntax.specs.declared.syntax.Limits.{Limits}
use Rattle.wb_syntax.specs.declared.syntax.Global.{Global}
use Rattle.wb_syntax.specs.declared.syntax.Export.{Export}
use Rattle.wb_syntax.specs.Grammar.{Grammar, Malformed, Splits, refused, among, vec, sized, index}
use Rattle.wb_syntax.specs.Binary.{Section, Types, FuncTypes, Memories, Globals, Exports, Codes, Coded, Gathered, gather, gathered, custom, by_id, section, last_after, AreSections, func_type, limits, global, export, code}
use Rattle.wb_encode.specs.Appended.{VecSpelled, SectionSpelled}
use Rattle.wb_encode.proofs.Spelled.{mapped_is, vec_is, sized_is}

-- the bytes are sections behind the one with this id, and they hold these parts
pub record Sectioned (last : ℕ) (all : Gathered) (bytes : List ℕ) : Type 0 where
  pub sections : List Section
  pub spelled : AreSections last sections bytes
  pub holds : gathered sections ≡ all

abbrev pub ordered : Bool → Bool → Grammar Section → Grammar Section
ordered none late g = elim none [ true ↦ custom | false ↦ elim late [ true ↦ refused Malformed | false ↦ g ] ]

in_time : (none late : Bool) (g : Grammar Section) (s : Section) (bytes : List ℕ) → none ≡ false → late ≡ false → g.Is s bytes → (ordered none late g).Is s bytes
in_time false false g s bytes e f h = h
in_time false true g s bytes e f h = cc
in_time true late g s bytes e f h = cc

not_zero : (id : ℕ) → 0 < id → (id == 0) ≡ false
not_zero id h = grind (arith, nat_tests)

not_late : (last id : ℕ) → last < id → nat_le id last ≡ false
not_late last id h = grind (arith, nat_tests)

section_at : (last id : ℕ) (s : Section) (rest : List ℕ) → 0 < id → last < id → (among by_id id).Is s rest → (section last).Is s (id ∷ rest)
section_at last id s rest some later h = (id, rest, refl, in_time (id == 0) (nat_le id last) (among by_id id) s rest (not_zero id some) (not_late last id later) h)

-- one more section in front, or nothing where it is empty
prepend : {A : Type 0} (make : List A → Section) (g : Grammar A) (id next : ℕ) (xs : List A) (front back : List ℕ) (less more : Gathered) → 0 < id → id < next
    → ((bytes : List ℕ) → (sized (vec g)).Is xs bytes → (among by_id id).Is (make xs) bytes)
    → ((last : ℕ) → last_after last (make xs) ≡ id)
    → gather (make xs) less ≡ more → (xs ≡ [] → less ≡ more)
    → SectionSpelled id g.Is xs front → ((last : ℕ) → last < next → Sectioned last less back)
    → (last : ℕ) → last < id → Sectioned last more (front ++ back)
prepend make g id next [] front back less more some before at after with_ without h rest last later =
    let r = rest last (omega arith) in
    record {
      sections = r.sections;
      spelled = subst (λ (bs : List ℕ). AreSections last r.sections (bs ++ back)) (sym h) r.spelled;
      holds = r.holds ∙ without refl;
    }
prepend make g id next (x ∷ xs) front back less more some before at after with_ without h rest last later =
    let r = rest id before in
    let whole : (sized (vec g)).Is (x ∷ xs) h.0 = sized_is (vec g) (x ∷ xs) (VecSpelled g.Is (x ∷ xs)) h.0 h.2 (vec_is g (x ∷ xs)) in
    let here : (section last).Is (make (x ∷ xs)) front = subst (λ (bs : List ℕ). (section last).Is (make (x ∷ xs)) bs) (sym h.1) (section_at last id (make (x ∷ xs)) h.0 some later (at h.0 whole)) in
    let there : AreSections (last_after last (make (x ∷ xs))) r.sections back = subst (λ (l : ℕ). AreSections l r.sections back) (sym (after last)) r.spelled in
    record {
      sections = make (x ∷ xs) ∷ r.sections;
      spelled = (front, back, here, there, refl);
      holds = ap (gather (make (x ∷ xs))) r.holds ∙ with_;
    }

-- sections from these on
abbrev pub FromCodes : Gathered → List ℕ → Type 0
FromCodes g bytes = SectionSpelled 10 code.Is g.codes bytes

abbrev pub FromExports : Gathered → List ℕ → Type 0
FromExports g bytes = Splits bytes (SectionSpelled 7 export.Is g.exports) (FromCodes g)

abbrev pub FromGlobals : Gathered → List ℕ → Type 0
FromGlobals g bytes = Splits bytes (SectionSpelled 6 global.Is g.globals) (FromExports g)

abbrev pub FromMemories : Gathered → List ℕ → Type 0
FromMemories g bytes = Splits bytes (SectionSpelled 5 limits.Is g.memories) (FromGlobals g)

abbrev pub FromFuncTypes : Gathered → List ℕ → Type 0
FromFuncTypes g bytes = Splits bytes (SectionSpelled 3 index.Is g.func_types) (FromMemories g)

abbrev pub FromTypes : Gathered → List ℕ → Type 0
FromTypes g bytes = Splits bytes (SectionSpelled 1 func_type.Is g.types) (FromFuncTypes g)

abbrev parts : List FuncType → List ℕ → List Limits → List Global → List Export → List Coded → Gathered
parts ts fs ms gs es cs = record { types = ts; func_types = fs; memories = ms; globals = gs; exports = es; codes = cs }

none_left : (last : ℕ) → Sectioned last (parts [] [] [] [] [] []) []
none_left last = record { sections = []; spelled = refl; holds = refl }

at_end : (bytes : List ℕ) (last : ℕ) (all : Gathered) → Sectioned last all (bytes ++ []) → Sectioned last all bytes
at_end bytes last all s = subst (λ (bs : List ℕ). Sectioned last all bs) (append-nil bytes) s

codes_are : (g : Gathered) (bytes : List ℕ) → FromCodes g bytes → (last : ℕ) → last < 10 → Sectioned last (parts [] [] [] [] [] g.codes) bytes
codes_are g bytes h last later =
    at_end bytes last (parts [] [] [] [] [] g.codes)
    (prepend Codes code 10 11 g.codes bytes [] (parts [] [] [] [] [] []) (parts [] [] [] [] [] g.codes) (omega arith) (omega arith) (mapped_is Codes (sized (vec code)) g.codes) (λ l. refl) refl (λ e. ap (λ c. parts [] [] [] [] [] c) (sym e)) h (λ l _. none_left l) last later)

exports_are : (g : Gathered) (bytes : List ℕ) → FromExports g bytes → (last : ℕ) → last < 7 → Sectioned last (parts [] [] [] [] g.exports g.codes) bytes
exports_are g bytes h last later =
    subst (λ (bs : List ℕ). Sectioned last (parts [] [] [] [] g.exports g.codes) bs) (sym h.4)
    (prepend Exports export 7 10 g.exports h.0 h.1 (parts [] [] [] [] [] g.codes) (parts [] [] [] [] g.exports g.codes) (omega arith) (omega arith) (mapped_is Exports (sized (vec export)) g.exports) (λ l. refl) refl (λ e. ap (λ es. parts [] [] [] [] es g.codes) (sym e)) h.2 (codes_are g h.1 h.3) last later)

globals_are : (g : Gathered) (bytes : List ℕ) → FromGlobals g bytes → (last : ℕ) → last < 6 → Sectioned last (parts [] [] [] g.globals g.exports g.codes) bytes
globals_are g bytes h last later =
    subst (λ (bs : List ℕ). Sectioned last (parts [] [] [] g.globals g.exports g.codes) bs) (sym h.4)
    (prepend Globals global 6 7 g.globals h.0 h.1 (parts [] [] [] [] g.exports g.codes) (parts [] [] [] g.globals g.exports g.codes) (omega arith) (omega arith) (mapped_is Globals (sized (vec global)) g.globals) (λ l. refl) refl (λ e. ap (λ gs. parts [] [] [] gs g.exports g.codes) (sym e)) h.2 (exports_are g h.1 h.3) last later)

memories_are : (g : Gathered) (bytes : List ℕ) → FromMemories g bytes → (last : ℕ) → last < 5 → Sectioned last (parts [] [] g.memories g.globals g.exports g.codes) bytes
memories_are g bytes h last later =
    subst (λ (bs : List ℕ). Sectioned last (parts [] [] g.memories g.globals g.exports g.codes) bs) (sym h.4)
    (prepend Memories limits 5 6 g.memories h.0 h.1 (parts [] [] [] g.globals g.exports g.codes) (parts [] [] g.memories g.globals g.exports g.codes) (omega arith) (omega arith) (mapped_is Memories (sized (vec limits)) g.memories) (λ l. refl) refl (λ e. ap (λ ms. parts [] [] ms g.globals g.exports g.codes) (sym e)) h.2 (globals_are g h.1 h.3) last later)

func_types_are : (g : Gathered) (bytes : List ℕ) → FromFuncTypes g bytes → (last : ℕ) → last < 3 → Sectioned last (parts [] g.func_types g.memories g.globals g.exports g.codes) bytes
func_types_are g bytes h last later =
    subst (λ (bs : List ℕ). Sectioned last (parts [] g.func_types g.memories g.globals g.exports g.codes) bs) (sym h.4)
    (prepend FuncTypes index 3 5 g.func_types h.0 h.1 (parts [] [] g.memories g.globals g.exports g.codes) (parts [] g.func_types g.memories g.globals g.exports g.codes) (omega arith) (omega arith) (mapped_is FuncTypes (sized (vec index)) g.func_types) (λ l. refl) refl (λ e. ap (λ ts. parts [] ts g.memories g.globals g.exports g.codes) (sym e)) h.2 (memories_are g h.1 h.3) last later)

pub sections_are : (g : Gathered) (bytes : List ℕ) → FromTypes g bytes → Sectioned 0 g bytes
sections_are g bytes h =
    subst (λ (bs : List ℕ). Sectioned 0 (parts g.types g.func_types g.memories g.globals g.exports g.codes) bs) (sym h.4)
    (prepend Types func_type 1 3 g.types h.0 h.1 (parts [] g.func_types g.memories g.globals g.exports g.codes) (parts g.types g.func_types g.memories g.globals g.exports g.codes) (omega arith) (omega arith) (mapped_is Types (sized (vec func_type)) g.types) (λ l. refl) refl (λ e. ap (λ ts. parts ts g.func_types g.memories g.globals g.exports g.codes) (sym e)) h.2 (func_types_are g h.1 h.3) 0 (omega arith))
