-- Reading one section after another, and what they make.
use Rattle.std.proofs.Common.{◌≡◌, ℕ, zero, suc, ◌-◌, ◌<◌, ◌≤◌, refl, sym, ap, ◌∙◌, arith}
use Rattle.std.specs.Prelude.{List, [], ◌∷◌, ◌++◌, map, length}
use Rattle.wb_syntax.specs.Grammar.{Fault, Malformed, Outside, Read, Reads, Stops, go_on, by_byte, placed}
use Rattle.wb_syntax.specs.Binary.{Section, Custom, Gathered, gather, gathered, in_order, section, last_after, read_sections, Decoded, fault_at, answer}
use Rattle.wb_decode.specs.declared.ends.Fault as program
use Rattle.wb_decode.specs.declared.ends.Fault.TheVariants as faults
use Rattle.wb_decode.specs.Reading.{what_of, Faulty}
use Rattle.std.proofs.lemmas.List.{map_push}
use Rattle.wb_decode.specs.declared.sections.Section as kept
use Rattle.wb_decode.specs.Sections.{section_of, gather_all, made, answer_from, FaultAt}

gather_behind : (ss : List Section) (s : Section) (g : Gathered) → gather_all (ss ++ s ∷ []) g ≡ gather_all ss (gather s g)
gather_behind [] s g = refl
gather_behind (x ∷ ss) s g = ap (gather x) (gather_behind ss s g)

gather_none : (ss : List Section) → gather_all ss (gathered []) ≡ gathered ss
gather_none [] = refl
gather_none (s ∷ ss) = ap (gather s) (gather_none ss)

answer_behind : (whole : ℕ) (ss : List Section) (s : Section) (r : Read (List Section)) → answer_from whole ss (go_on r (λ more left. Reads (s ∷ more) left)) ≡ answer_from whole (ss ++ s ∷ []) r
answer_behind whole ss s (Reads more left) = ap (λ g. made whole [] g) (sym (gather_behind ss s (gathered more)))
answer_behind whole ss s (Stops left f) = refl

-- with these sections read, the answer is that of the rest
pub record Rest (whole : ℕ) (all : Decoded) (ss : List Section) (last : ℕ) (rest : List ℕ) : Type 0 where
  pub most : ℕ
  pub enough : length rest ≤ most
  pub ends : answer_from whole ss (read_sections most last rest) ≡ all

pub begins : (whole : ℕ) (bytes : List ℕ) → length bytes ≤ whole → Rest whole (answer_from whole [] (read_sections whole 0 bytes)) [] 0 bytes
begins whole bytes h = record { most = whole; enough = h; ends = refl }

-- the sections behind the next one
abbrev others : (n last : ℕ) → Section → List ℕ → Read (List Section)
others n last s left = go_on (read_sections n (last_after last s) left) (λ ss rest. Reads (s ∷ ss) rest)

next_is : (n last : ℕ) (bytes : List ℕ) → 0 < length bytes → read_sections (suc n) last bytes ≡ go_on ((section last).read bytes) (others n last)
next_is n last [] h = absurd (omega (arith, h))
next_is n last (b ∷ bytes) h = refl

goes_on_at : (n whole : ℕ) (all : Decoded) (ss : List Section) (s : Section) (last : ℕ) (rest left : List ℕ) → length rest ≤ n → answer_from whole ss (read_sections n last rest) ≡ all → (by_byte (in_order last)).read rest ≡ Reads s left → length left < length rest → Rest whole all (ss ++ s ∷ []) (last_after last s) left
goes_on_at zero whole all ss s last rest left m b e l = absurd (omega (arith, m, l))
goes_on_at (suc n) whole all ss s last rest left m b e l = record {
  most = n;
  enough = omega (arith, m, l);
  ends =
      sym (answer_behind whole ss s (read_sections n (last_after last s) left))
      ∙ sym (ap (answer_from whole ss) (next_is n last rest (omega (arith, l)) ∙ ap (λ r. go_on (placed rest r) (others n last)) e))
      ∙ b;
}

-- one more section is read
pub goes_on : (whole : ℕ) (all : Decoded) (ss : List Section) (s : Section) (last : ℕ) (rest left : List ℕ) → Rest whole all ss last rest → (by_byte (in_order last)).read rest ≡ Reads s left → length left < length rest → Rest whole all (ss ++ s ∷ []) (last_after last s) left
goes_on whole all ss s last rest left b e l = goes_on_at b.most whole all ss s last rest left b.enough b.ends e l

-- the same where the sections are kept otherwise
pub same_rest : (whole : ℕ) (all : Decoded) (ss kept : List Section) (last : ℕ) (rest : List ℕ) → ((r : Read (List Section)) → answer_from whole kept r ≡ answer_from whole ss r) → Rest whole all ss last rest → Rest whole all kept last rest
same_rest whole all ss kept last rest e b = record { most = b.most; enough = b.enough; ends = e (read_sections b.most last rest) ∙ b.ends }

stops_at : (n whole : ℕ) (all : Decoded) (ss : List Section) (last : ℕ) (rest left : List ℕ) (f : Fault) → length rest ≤ n → 0 < length rest → answer_from whole ss (read_sections n last rest) ≡ all → (by_byte (in_order last)).read rest ≡ Stops left f → all ≡ fault_at (whole - length rest) f
stops_at zero whole all ss last rest left f m l b e = absurd (omega (arith, m, l))
stops_at (suc n) whole all ss last rest left f m l b e = sym b ∙ ap (answer_from whole ss) (next_is n last rest l ∙ ap (λ r. go_on (placed rest r) (others n last)) e)

-- the next section is not read
pub section_faulty : (f : program.Fault) (whole : ℕ) (all : Decoded) (ss : List Section) (last : ℕ) (rest : List ℕ) → Rest whole all ss last rest → 0 < length rest → Faulty f ((by_byte (in_order last)).read rest) → FaultAt (whole - length rest) f all
section_faulty faults.Malformed whole all ss last rest b l h = stops_at b.most whole all ss last rest h.0 Malformed b.enough l b.ends h.1
section_faulty (faults.Outside what) whole all ss last rest b l h = stops_at b.most whole all ss last rest h.0 (Outside (what_of what)) b.enough l b.ends h.1
section_faulty faults.NoMemory whole all ss last rest b l h = tt

done_at : (n whole : ℕ) (all : Decoded) (ss : List Section) (last : ℕ) (rest : List ℕ) → length rest ≤ 0 → answer_from whole ss (read_sections n last rest) ≡ all → all ≡ made whole ss (gathered [])
done_at zero whole all ss last [] l b = sym b
done_at (suc n) whole all ss last [] l b = sym b
done_at n whole all ss last (x ∷ rest) l b = absurd (omega (arith, l))

-- all sections are read
pub done : (whole : ℕ) (all : Decoded) (ss : List Section) (last : ℕ) (rest : List ℕ) → Rest whole all ss last rest → length rest ≤ 0 → all ≡ made whole ss (gathered [])
done whole all ss last rest b l = done_at b.most whole all ss last rest l b.ends

-- a custom section need not be kept
pub without_custom : (whole : ℕ) (ss : List Section) (r : Read (List Section)) → answer_from whole ss r ≡ answer_from whole (ss ++ Custom ∷ []) r
without_custom whole ss (Reads more left) = ap (λ g. made whole [] g) (sym (gather_behind ss Custom (gathered more)))
without_custom whole ss (Stops left f) = refl

-- ---- what the sections make

pub answer_is : (whole : ℕ) (r : Read (List Section)) → answer whole r ≡ answer_from whole [] r
answer_is whole (Reads more left) = refl
answer_is whole (Stops left f) = refl

-- the last of the sections is gathered
pub popped : (ss rest : List kept.Section) (s : kept.Section) (g now all : Gathered) → ss ≡ rest ++ s ∷ [] → now ≡ gather (section_of s) g → gather_all (map section_of ss) g ≡ all → gather_all (map section_of rest) now ≡ all
popped ss rest s g now all e n h =
    ap (gather_all (map section_of rest)) n
    ∙ sym (ap (λ xs. gather_all xs g) (ap (map section_of) e ∙ map_push section_of rest s) ∙ gather_behind (map section_of rest) (section_of s) g)
    ∙ h
