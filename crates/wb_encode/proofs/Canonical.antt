-- Shortest sections behind the header are the canonical bytes, since skimming any others leaves sections that are no shorter.
use Rattle.std.proofs.Common.{◌≡◌, ℕ, ◌<◌, List, ◌++◌, length, Some, refl, sym, ap, ◌∙◌, subst, arith, ◌⊎◌, inl, inr}
use Rattle.std.proofs.lemmas.List.{length-append}
use Rattle.wb_syntax.specs.declared.syntax.Module.{Module}
use Rattle.wb_syntax.specs.Binary.{Gathered, gathered, module_of, header, Encodes}
use Rattle.wb_encode.specs.Appended.{Every}
use Rattle.wb_encode.specs.Shortest.{IsShortest, IsCanonical, HasItems}
use Rattle.wb_encode.specs.Laws.{CanonicalIsOne, CanonicalHasItems}
use Rattle.wb_encode.proofs.Shorter.{IsOrIsLonger, no_longer, joined_longer, longer_after, shortest_is_one}
use Rattle.wb_encode.proofs.Ordered.{FromTypes, sections_are}
use Rattle.wb_encode.proofs.Whole.{all_of_module, module_again, all_is}
use Rattle.wb_encode.proofs.Skimmed.{skimmed}

-- sections behind the header
sections_encode : (m : Module) (g : Gathered) (bytes : List ℕ) → module_of g ≡ Some m → FromTypes g bytes → Encodes m (header ++ bytes)
sections_encode m g bytes e h =
    let are = sections_are g bytes h in
    record { rest = bytes; sections = are.sections; begins = refl; spelled = are.spelled; makes = ap module_of are.holds ∙ e }

kept_or_longer : (P : Type 0) (kept bytes : List ℕ) → (P × (kept ≡ bytes)) ⊎ (length kept < length bytes) → IsOrIsLonger kept bytes
kept_or_longer P kept bytes (inl h) = inl (sym h.1)
kept_or_longer P kept bytes (inr l) = inr l

pub canonical : (m : Module) (rest : List ℕ) → IsShortest (FromTypes (all_of_module m)) rest → IsCanonical m (header ++ rest)
canonical m rest s = record {
  spells = sections_encode m (all_of_module m) rest (module_again m) s.spells;
  others = λ other e.
      let k = skimmed 0 e.sections e.rest e.spelled in
      let same = all_is (gathered e.sections) m e.makes in
      let first : IsOrIsLonger rest k.kept = s.others k.kept (subst (λ (g : Gathered). FromTypes g k.kept) same k.spelled) in
      let second = longer_after rest k.kept e.rest first (kept_or_longer (Every HasItems e.sections) k.kept e.rest k.shorter) in
      subst (λ (bs : List ℕ). IsOrIsLonger (header ++ rest) bs) (sym e.begins) (joined_longer header rest header e.rest (inl refl) second);
}

-- ---- laws

pub canonical_is_one_lem : CanonicalIsOne
canonical_is_one_lem m a b s t = shortest_is_one a b s t

not_fewer : (bytes kept rest : List ℕ) → IsOrIsLonger bytes (header ++ kept) → bytes ≡ header ++ rest → length kept < length rest → ⊥
not_fewer bytes kept rest h e l = omega (arith, no_longer bytes (header ++ kept) h, ap length e, length-append header kept, length-append header rest, l)

has_items : (P : Type 0) (bytes kept rest : List ℕ) → IsOrIsLonger bytes (header ++ kept) → bytes ≡ header ++ rest → (P × (kept ≡ rest)) ⊎ (length kept < length rest) → P
has_items P bytes kept rest h e (inl k) = k.0
has_items P bytes kept rest h e (inr l) = absurd (not_fewer bytes kept rest h e l)

pub canonical_has_items_lem : CanonicalHasItems
canonical_has_items_lem m bytes c e =
    let k = skimmed 0 e.sections e.rest e.spelled in
    let again = c.others (header ++ k.kept) (sections_encode m (gathered e.sections) k.kept e.makes k.spelled) in
    has_items (Every HasItems e.sections) bytes k.kept e.rest again e.begins k.shorter
