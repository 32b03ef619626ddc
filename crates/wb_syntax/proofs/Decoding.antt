-- Bytes are a module's exactly where they are read as it, so that they are at most one module's.
use Rattle.std.proofs.Common.{◌≡◌, ℕ, zero, suc, ◌+◌, ◌-◌, ◌≤◌, refl, sym, ap, ◌∙◌, subst, arith}
use Rattle.std.specs.Prelude.{Bool, true, false, List, [], ◌∷◌, ◌++◌, length, take, drop, Option, Some, None}
use Rattle.std.specs.Str.{bytes_eq}
use Rattle.std.proofs.lemmas.List.{length-append, take-append-drop}
use lib.Pointwise.{bytes_decides}
use Rattle.wb_syntax.specs.Syntax.{Module}
use Rattle.wb_syntax.specs.Grammar.{What, Fault, Malformed, Outside, Read, Reads, Stops, go_on}
use Rattle.wb_syntax.specs.Binary.{Section, section, last_after, AreSections, read_sections, module_of, gathered, header, Encodes, IsModule, MalformedAt, OutsideAt, fault_at, answer, decoded}
use Rattle.wb_syntax.specs.Laws.{DecodedExactly, EncodesOne}
use Rattle.wb_syntax.proofs.Lawful.{reads_value, stops_not, went_on}
use Rattle.wb_syntax.proofs.BinaryLawful.{section_lawful}

-- a section has a byte
has_byte : (last : ℕ) (s : Section) (bytes : List ℕ) → (section last).Is s bytes → 1 ≤ length bytes
has_byte last s bytes h = let e = ap length h.2 in omega (arith, e)

enough : (last : ℕ) (ss : List Section) (bytes : List ℕ) → AreSections last ss bytes → length ss ≤ length bytes
enough last [] bytes h = omega arith
enough last (s ∷ ss) bytes h =
    let e : length bytes ≡ length h.0 + length h.1 = ap length h.4 ∙ length-append h.0 h.1 in
    omega (arith, e, has_byte last s h.0 h.2, enough (last_after last s) ss h.1 h.3)

-- reading before it looks whether bytes are left
next_section : (n last : ℕ) → List ℕ → Read (List Section)
next_section n last bytes = go_on ((section last).read bytes) (λ s left. go_on (read_sections n (last_after last s) left) (λ ss rest. Reads (s ∷ ss) rest))

reads_next : (n last : ℕ) (bytes : List ℕ) → 1 ≤ length bytes → read_sections (suc n) last bytes ≡ next_section n last bytes
unfolding next_section
reads_next n last [] l = absurd (omega (arith, l))
reads_next n last (b ∷ bytes) l = refl

finds_sections : (n last : ℕ) (ss : List Section) (bytes : List ℕ) → length ss ≤ n → AreSections last ss bytes → read_sections n last bytes ≡ Reads ss []
unfolding next_section
finds_sections zero last [] bytes l h = ap (read_sections zero last) h
finds_sections (suc n) last [] bytes l h = ap (read_sections (suc n) last) h
finds_sections zero last (s ∷ ss) bytes l h = absurd (omega (arith, l))
finds_sections (suc n) last (s ∷ ss) bytes l h =
    let long : 1 ≤ length bytes = let e : length bytes ≡ length h.0 + length h.1 = ap length h.4 ∙ length-append h.0 h.1 in omega (arith, e, has_byte last s h.0 h.2) in
    reads_next n last bytes long
    ∙ ap (next_section n last) h.4
    ∙ ap (λ r. go_on r (λ s left. go_on (read_sections n (last_after last s) left) (λ ss rest. Reads (s ∷ ss) rest))) ((section_lawful last).finds s h.0 h.1 h.2)
    ∙ ap (λ r. go_on r (λ ss rest. Reads (s ∷ ss) rest)) (finds_sections n (last_after last s) ss h.1 (omega (arith, l)) h.3)

only_sections : (n last : ℕ) (ss : List Section) (bytes left : List ℕ) → read_sections n last bytes ≡ Reads ss left → AreSections last ss bytes
only_sections zero last ss [] left h = subst (λ x. AreSections last x []) (reads_value [] ss [] left h) refl
only_sections (suc n) last ss [] left h = subst (λ x. AreSections last x []) (reads_value [] ss [] left h) refl
only_sections zero last ss (b ∷ bytes) left h = absurd (stops_not ss (b ∷ bytes) left Malformed h)
only_sections (suc n) last ss (b ∷ bytes) left h =
    let w = went_on ((section last).read (b ∷ bytes)) (λ s left. go_on (read_sections n (last_after last s) left) (λ ss rest. Reads (s ∷ ss) rest)) ss left h in
    let v = went_on (read_sections n (last_after last w.0) w.1) (λ ts rest. Reads (w.0 ∷ ts) rest) ss left w.3 in
    let a = (section_lawful last).only w.0 (b ∷ bytes) w.1 w.2 in
    let found : AreSections last (w.0 ∷ v.0) (b ∷ bytes) = (a.0, w.1, a.1, only_sections n (last_after last w.0) v.0 w.1 v.1 v.2, a.2) in
    subst (λ x. AreSections last x (b ∷ bytes)) (reads_value (w.0 ∷ v.0) ss v.1 left v.3) found

-- ---- the whole file

spelled_is_read : (m : Module) (bytes : List ℕ) → Encodes m bytes → decoded bytes ≡ IsModule m
spelled_is_read m bytes e =
    let whole = length (header ++ e.rest) in
    let fits : length e.sections ≤ whole = omega (arith, length-append header e.rest, enough 0 e.sections e.rest e.spelled) in
    ap decoded e.begins
    ∙ ap (answer whole) (finds_sections whole 0 e.sections e.rest fits e.spelled)
    ∙ ap (λ o. elim o [ None ↦ MalformedAt whole | Some m ↦ IsModule m ]) e.makes

module_not_malformed : (m : Module) (n : ℕ) → MalformedAt n ≡ IsModule m → ⊥
module_not_malformed m n e = cc

module_not_outside : (m : Module) (n : ℕ) (w : What) → OutsideAt n w ≡ IsModule m → ⊥
module_not_outside m n w e = cc

same_module : (m k : Module) → IsModule m ≡ IsModule k → m ≡ k
same_module m k e = cc

makes : (m : Module) (whole : ℕ) (o : Option Module) → elim o [ None ↦ MalformedAt whole | Some k ↦ IsModule k ] ≡ IsModule m → o ≡ Some m
makes m whole None e = absurd (module_not_malformed m whole e)
makes m whole (Some k) e = ap Some (same_module k m e)

fault_not_module : (m : Module) (n : ℕ) (f : Fault) → fault_at n f ≡ IsModule m → ⊥
fault_not_module m n Malformed e = module_not_malformed m n e
fault_not_module m n (Outside w) e = module_not_outside m n w e

-- what was read where a module is answered
sections_read : (m : Module) (whole : ℕ) (r : Read (List Section)) → answer whole r ≡ IsModule m → (ss : List Section) × (left : List ℕ) × (r ≡ Reads ss left) × (module_of (gathered ss) ≡ Some m)
sections_read m whole (Reads ss left) e = (ss, left, refl, makes m whole (module_of (gathered ss)) e)
sections_read m whole (Stops left f) e = absurd (fault_not_module m (whole - length left) f e)

header_read : (m : Module) (bytes : List ℕ) (t : Bool) → bytes_eq (take 8 bytes) header ≡ t → elim t [ true ↦ answer (length bytes) (read_sections (length bytes) 0 (drop 8 bytes)) | false ↦ MalformedAt 0 ] ≡ IsModule m → Encodes m bytes
header_read m bytes true e h =
    let r = sections_read m (length bytes) (read_sections (length bytes) 0 (drop 8 bytes)) h in
    record {
      rest = drop 8 bytes;
      sections = r.0;
      begins = sym (take-append-drop 8 bytes) ∙ ap (λ l. l ++ drop 8 bytes) ((bytes_decides (take 8 bytes) header).0 e);
      spelled = only_sections (length bytes) 0 r.0 (drop 8 bytes) r.1 r.2;
      makes = r.3;
    }
header_read m bytes false e h = absurd (module_not_malformed m 0 h)

pub decoded_exactly : DecodedExactly
decoded_exactly m bytes = (λ e. spelled_is_read m bytes e, λ e. header_read m bytes (bytes_eq (take 8 bytes) header) refl e)

pub encodes_one : EncodesOne
encodes_one m n bytes e f = same_module m n (sym (spelled_is_read m bytes e) ∙ spelled_is_read n bytes f)
