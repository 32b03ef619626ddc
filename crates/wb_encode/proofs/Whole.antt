-- A module and the contents of its sections determine each other.
use Rattle.std.proofs.Common.{◌≡◌, ℕ, suc, List, [], ◌∷◌, length, Option, Some, None, refl, sym, ap, ◌∙◌, subst}
use Rattle.wb_syntax.specs.declared.syntax.Func.{Func}
use Rattle.wb_syntax.specs.declared.syntax.Module.{Module}
use Rattle.wb_syntax.specs.Grammar.{index}
use Rattle.wb_syntax.specs.Binary.{Coded, Gathered, joined, module_of, code}
use Rattle.wb_encode.specs.Appended.{EachSpelled, VecSpelled, SectionSpelled}
use Rattle.wb_encode.specs.Encodable.{SpellsCode, types_of}
use Rattle.wb_encode.proofs.Parted.{some_is}

-- the entries of the code section
pub coded_of : List Func → List Coded
coded_of [] = []
coded_of (f ∷ fs) = (f.locals, f.body) ∷ coded_of fs

coded_length : (fs : List Func) → length fs ≡ length (coded_of fs)
unfolding coded_of
coded_length [] = refl
coded_length (f ∷ fs) = ap suc (coded_length fs)

coded_each : (fs : List Func) (bytes : List ℕ) → EachSpelled SpellsCode fs bytes → EachSpelled code.Is (coded_of fs) bytes
unfolding coded_of
coded_each [] bytes h = h
coded_each (f ∷ fs) bytes h = (h.0, h.1, h.2, coded_each fs h.1 h.3, h.4)

coded_each_back : (fs : List Func) (bytes : List ℕ) → EachSpelled code.Is (coded_of fs) bytes → EachSpelled SpellsCode fs bytes
unfolding coded_of
coded_each_back [] bytes h = h
coded_each_back (f ∷ fs) bytes h = (h.0, h.1, h.2, coded_each_back fs h.1 h.3, h.4)

coded_vec : (fs : List Func) (bytes : List ℕ) → VecSpelled SpellsCode fs bytes → VecSpelled code.Is (coded_of fs) bytes
coded_vec fs bytes h = (h.0, h.1, subst (λ (n : ℕ). index.Is n h.0) (coded_length fs) h.2, coded_each fs h.1 h.3, h.4)

coded_vec_back : (fs : List Func) (bytes : List ℕ) → VecSpelled code.Is (coded_of fs) bytes → VecSpelled SpellsCode fs bytes
coded_vec_back fs bytes h = (h.0, h.1, subst (λ (n : ℕ). index.Is n h.0) (sym (coded_length fs)) h.2, coded_each_back fs h.1 h.3, h.4)

section_to : (fs : List Func) (bytes : List ℕ) → SectionSpelled 10 SpellsCode fs bytes → SectionSpelled 10 code.Is (coded_of fs) bytes
unfolding coded_of
section_to [] bytes h = h
section_to (f ∷ fs) bytes h = (h.0, h.1, (h.2.0, h.2.1, coded_vec (f ∷ fs) h.2.0 h.2.2))

section_from : (fs : List Func) (bytes : List ℕ) → SectionSpelled 10 code.Is (coded_of fs) bytes → SectionSpelled 10 SpellsCode fs bytes
unfolding coded_of
section_from [] bytes h = h
section_from (f ∷ fs) bytes h = (h.0, h.1, (h.2.0, h.2.1, coded_vec_back (f ∷ fs) h.2.0 h.2.2))

-- all parts of a module
abbrev pub all_of_module : Module → Gathered
all_of_module m = record { types = m.types; func_types = types_of m.funcs; memories = m.memories; globals = m.globals; exports = m.exports; codes = coded_of m.funcs }

pub coded_section : (m : Module) (bytes : List ℕ) → SectionSpelled 10 SpellsCode m.funcs bytes → SectionSpelled 10 code.Is (all_of_module m).codes bytes
coded_section m bytes h = section_to m.funcs bytes h

pub coded_section_back : (m : Module) (bytes : List ℕ) → SectionSpelled 10 code.Is (all_of_module m).codes bytes → SectionSpelled 10 SpellsCode m.funcs bytes
coded_section_back m bytes h = section_from m.funcs bytes h

joined_again : (fs : List Func) → joined (types_of fs) (coded_of fs) ≡ Some fs
unfolding coded_of
joined_again [] = refl
joined_again (f ∷ fs) = ap (λ j. elim j [ None ↦ None | Some gs ↦ Some (record { ty = f.ty; locals = f.locals; body = f.body } ∷ gs) ]) (joined_again fs)

pub module_again : (m : Module) → module_of (all_of_module m) ≡ Some m
module_again m = ap (λ j. elim j [ None ↦ None | Some fs ↦ Some (record { types = m.types; funcs = fs; memories = m.memories; globals = m.globals; exports = m.exports }) ]) (joined_again m.funcs)

-- the numbers of the types and the codes are those of the functions
abbrev AreOf : List Func → List ℕ → List Coded → Type 0
AreOf fs ts cs = (ts ≡ types_of fs) × (cs ≡ coded_of fs)

joined_on : (t : ℕ) (c : Coded) (ts : List ℕ) (cs : List Coded) (rest : Option (List Func)) (fs : List Func) → ((gs : List Func) → rest ≡ Some gs → AreOf gs ts cs)
    → elim rest [ None ↦ None | Some gs ↦ Some (record { ty = t; locals = c.0; body = c.1 } ∷ gs) ] ≡ Some fs → AreOf fs (t ∷ ts) (c ∷ cs)
unfolding coded_of
joined_on t c ts cs None fs ih e = cc
joined_on t c ts cs (Some gs) fs ih e =
    let first : Func = record { ty = t; locals = c.0; body = c.1 } in
    let r = ih gs refl in
    subst (λ (hs : List Func). AreOf hs (t ∷ ts) (c ∷ cs)) (some_is (first ∷ gs) fs e) (ap (λ us. t ∷ us) r.0, ap (λ ds. c ∷ ds) r.1)

joined_parts : (ts : List ℕ) (cs : List Coded) (fs : List Func) → joined ts cs ≡ Some fs → AreOf fs ts cs
unfolding coded_of
joined_parts [] [] fs e = subst (λ (hs : List Func). AreOf hs [] []) (some_is [] fs e) (refl, refl)
joined_parts [] (c ∷ cs) fs e = cc
joined_parts (t ∷ ts) [] fs e = cc
joined_parts (t ∷ ts) (c ∷ cs) fs e = joined_on t c ts cs (joined ts cs) fs (λ gs h. joined_parts ts cs gs h) e

abbrev with_funcs : Gathered → List Func → Module
with_funcs g fs = record { types = g.types; funcs = fs; memories = g.memories; globals = g.globals; exports = g.exports }

module_on : (g : Gathered) (m : Module) (funcs : Option (List Func)) → ((fs : List Func) → funcs ≡ Some fs → AreOf fs g.func_types g.codes) → elim funcs [ None ↦ None | Some fs ↦ Some (with_funcs g fs) ] ≡ Some m → g ≡ all_of_module m
module_on g m None h e = cc
module_on g m (Some fs) h e =
    let r = h fs refl in
    let same : g ≡ all_of_module (with_funcs g fs) = λ i. record { types = g.types; func_types = r.0 i; memories = g.memories; globals = g.globals; exports = g.exports; codes = r.1 i } in
    same ∙ ap all_of_module (some_is (with_funcs g fs) m e)

pub all_is : (g : Gathered) (m : Module) → module_of g ≡ Some m → g ≡ all_of_module m
all_is g m e = module_on g m (joined g.func_types g.codes) (joined_parts g.func_types g.codes) e
