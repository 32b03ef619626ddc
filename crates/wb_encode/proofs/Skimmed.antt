-- Sections without those that are empty or custom spell the same parts in fewer bytes.
use Rattle.std.proofs.Common.{◌≡◌, ℕ, ◌<◌, ◌≤◌, Bool, true, false, List, [], ◌∷◌, ◌++◌, length, refl, sym, ap, ◌∙◌, subst, arith, append-nil, ◌⊎◌, inl, inr}
use Rattle.std.specs.Prelude.{◌==◌, nat_le}
use Rattle.std.proofs.lemmas.Bool.{leb-false}
use Rattle.std.proofs.lemmas.List.{length-append}
use Rattle.wb_syntax.specs.declared.syntax.FuncType.{FuncType}
use Rattle.wb_syntax.specs.declared.syntax.Limits.{Limits}
use Rattle.wb_syntax.specs.declared.syntax.Global.{Global}
use Rattle.wb_syntax.specs.declared.syntax.Export.{Export}
use Rattle.wb_syntax.specs.Grammar.{Grammar, Splits, mapped, vec, sized, among, index, begins}
use Rattle.wb_syntax.specs.Binary.{name, Section, Custom, Types, FuncTypes, Memories, Globals, Exports, Codes, Coded, Gathered, gather, gathered, by_id, section, last_after, AreSections, func_type, limits, global, export, code}
use Rattle.wb_encode.specs.Appended.{Every, VecSpelled, SizedSpelled, SectionSpelled}
use Rattle.wb_encode.specs.Shortest.{HasItems}
use Rattle.wb_encode.proofs.Shorter.{longer_front, longer_back}
use Rattle.wb_encode.proofs.Appending.{Behind}
use Rattle.wb_encode.proofs.Parted.{mapped_parts, vec_parts, sized_parts, IsOneOf, one_of_these}
use Rattle.wb_encode.proofs.Ordered.{ordered, FromCodes, FromExports, FromGlobals, FromMemories, FromFuncTypes, FromTypes}

-- ---- a section by its id

abbrev id_of : Section → ℕ
id_of Custom = 0
id_of (Types xs) = 1
id_of (FuncTypes xs) = 3
id_of (Memories xs) = 5
id_of (Globals xs) = 6
id_of (Exports xs) = 7
id_of (Codes xs) = 10

abbrev Holding : Section → List ℕ → Type 0
Holding Custom rest = Unit {0}
Holding (Types xs) rest = SizedSpelled (VecSpelled func_type.Is xs) rest
Holding (FuncTypes xs) rest = SizedSpelled (VecSpelled index.Is xs) rest
Holding (Memories xs) rest = SizedSpelled (VecSpelled limits.Is xs) rest
Holding (Globals xs) rest = SizedSpelled (VecSpelled global.Is xs) rest
Holding (Exports xs) rest = SizedSpelled (VecSpelled export.Is xs) rest
Holding (Codes xs) rest = SizedSpelled (VecSpelled code.Is xs) rest

abbrev IsAt : ℕ → Section → List ℕ → Type 0
IsAt b s rest = (id_of s ≡ b) × Holding s rest

sized_vec : {A : Type 0} (g : Grammar A) (xs : List A) (rest : List ℕ) → (sized (vec g)).Is xs rest → SizedSpelled (VecSpelled g.Is xs) rest
sized_vec g xs rest h = let s = sized_parts (vec g) xs rest h in (s.0, s.1, vec_parts g xs s.0 s.2)

listed : {A : Type 0} (make : List A → Section) (g : Grammar A) (b : ℕ) (s : Section) (rest : List ℕ) → ((xs : List A) → SizedSpelled (VecSpelled g.Is xs) rest → IsAt b (make xs) rest) → (mapped make (sized (vec g))).Is s rest → IsAt b s rest
listed make g b s rest f h =
    let m = mapped_parts make (sized (vec g)) s rest h in
    subst (λ (z : Section). IsAt b z rest) (sym m.1) (f m.0 (sized_vec g m.0 rest m.2))

section_case : (b : ℕ) (s : Section) (rest : List ℕ) → IsOneOf by_id b s rest → IsAt b s rest
section_case b s rest (inl h) = listed Types func_type b s rest (λ xs v. (sym h.0, v)) h.1
section_case b s rest (inr (inl h)) = absurd h.1
section_case b s rest (inr (inr (inl h))) = listed FuncTypes index b s rest (λ xs v. (sym h.0, v)) h.1
section_case b s rest (inr (inr (inr (inl h)))) = absurd h.1
section_case b s rest (inr (inr (inr (inr (inl h))))) = listed Memories limits b s rest (λ xs v. (sym h.0, v)) h.1
section_case b s rest (inr (inr (inr (inr (inr (inl h)))))) = listed Globals global b s rest (λ xs v. (sym h.0, v)) h.1
section_case b s rest (inr (inr (inr (inr (inr (inr (inl h))))))) = listed Exports export b s rest (λ xs v. (sym h.0, v)) h.1
section_case b s rest (inr (inr (inr (inr (inr (inr (inr (inl h)))))))) = absurd h.1
section_case b s rest (inr (inr (inr (inr (inr (inr (inr (inr (inl h))))))))) = absurd h.1
section_case b s rest (inr (inr (inr (inr (inr (inr (inr (inr (inr (inl h)))))))))) = listed Codes code b s rest (λ xs v. (sym h.0, v)) h.1
section_case b s rest (inr (inr (inr (inr (inr (inr (inr (inr (inr (inr (inl h))))))))))) = absurd h.1
section_case b s rest (inr (inr (inr (inr (inr (inr (inr (inr (inr (inr (inr h))))))))))) = absurd h

in_order_case : (last b : ℕ) (s : Section) (rest : List ℕ) (none late : Bool) → nat_le b last ≡ late → (ordered none late (among by_id b)).Is s rest → (s ≡ Custom) ⊎ ((last < b) × IsAt b s rest)
in_order_case last b s rest true late e h =
    let t = h.1 in
    inl (mapped_parts (λ (x : List ℕ). Custom) (begins h.0 name) s t.1 t.3).1
in_order_case last b s rest false true e h = absurd h
in_order_case last b s rest false false e h = inr (leb-false b last e, section_case b s rest (one_of_these by_id b s rest h))

-- a section that is not custom
abbrev Placed : ℕ → Section → List ℕ → Type 0
Placed last s front = (last < id_of s) × Behind (id_of s) (Holding s) front

placed : (last : ℕ) (s : Section) (front rest : List ℕ) (b : ℕ) → (s ≡ Custom → ⊥) → front ≡ b ∷ rest → (s ≡ Custom) ⊎ ((last < b) × IsAt b s rest) → Placed last s front
placed last s front rest b not e (inl h) = absurd (not h)
placed last s front rest b not e (inr h) = (subst (λ (k : ℕ). last < k) (sym h.1.0) h.0, (rest, e ∙ ap (λ k. k ∷ rest) (sym h.1.0), h.1.1))

section_parts : (last : ℕ) (s : Section) (front : List ℕ) → (s ≡ Custom → ⊥) → (section last).Is s front → Placed last s front
section_parts last s front not h = placed last s front h.1 h.0 not h.2 (in_order_case last h.0 s h.1 (h.0 == 0) (nat_le h.0 last) refl h.3)

-- ---- the parts without those sections

-- all parts of sections up to this id are empty
record NoneUpTo (last : ℕ) (g : Gathered) : Type 0 where
  types : 1 ≤ last → g.types ≡ []
  func_types : 3 ≤ last → g.func_types ≡ []
  memories : 5 ≤ last → g.memories ≡ []
  globals : 6 ≤ last → g.globals ≡ []
  exports : 7 ≤ last → g.exports ≡ []
  codes : 10 ≤ last → g.codes ≡ []

-- what is kept of the bytes of sections: all of them, or fewer where a section is empty or custom
pub record Skimmed (last : ℕ) (ss : List Section) (bytes : List ℕ) : Type 0 where
  pub kept : List ℕ
  pub spelled : FromTypes (gathered ss) kept
  none : NoneUpTo last (gathered ss)
  pub shorter : (Every HasItems ss × (kept ≡ bytes)) ⊎ (length kept < length bytes)

nothing_spelled : {A : Type 0} (Spells : A → List ℕ → Type 0) (id : ℕ) (xs : List A) (bytes : List ℕ) → xs ≡ [] → SectionSpelled id Spells xs bytes → bytes ≡ []
nothing_spelled Spells id [] bytes e h = h
nothing_spelled Spells id (x ∷ xs) bytes e h = cc

-- in place of the first part, which is empty
here : {A : Type 0} (Spells : A → List ℕ → Type 0) (id : ℕ) (xs ys : List A) (T : List ℕ → Type 0) (front kept : List ℕ) → xs ≡ [] → SectionSpelled id Spells ys front → Splits kept (SectionSpelled id Spells xs) T → Splits (front ++ kept) (SectionSpelled id Spells ys) T
here Spells id xs ys T front kept e s h = (front, h.1, s, h.3, ap (λ back. front ++ back) (h.4 ∙ ap (λ f. f ++ h.1) (nothing_spelled Spells id xs h.0 e h.2)))

-- behind the first part, which is empty
under : {A : Type 0} (Spells : A → List ℕ → Type 0) (id : ℕ) (xs : List A) (T U : List ℕ → Type 0) (front kept : List ℕ) → xs ≡ [] → ((back : List ℕ) → T back → U (front ++ back)) → Splits kept (SectionSpelled id Spells xs) T → Splits (front ++ kept) (SectionSpelled id Spells xs) U
under Spells id xs T U front kept e f h =
    let none = nothing_spelled Spells id xs h.0 e h.2 in
    (h.0, front ++ h.1, h.2, f h.1 h.3, ap (λ back. front ++ back) (h.4 ∙ ap (λ k. k ++ h.1) none) ∙ sym (ap (λ k. k ++ (front ++ h.1)) none))

put_types : (g : Gathered) (xs : List FuncType) (front kept : List ℕ) → NoneUpTo 1 g → SectionSpelled 1 func_type.Is xs front → FromTypes g kept → FromTypes (gather (Types xs) g) (front ++ kept)
put_types g xs front kept n s h = here func_type.Is 1 g.types xs (FromFuncTypes g) front kept (n.types (omega arith)) s h

put_func_types : (g : Gathered) (xs : List ℕ) (front kept : List ℕ) → NoneUpTo 3 g → SectionSpelled 3 index.Is xs front → FromTypes g kept → FromTypes (gather (FuncTypes xs) g) (front ++ kept)
put_func_types g xs front kept n s h =
    under func_type.Is 1 g.types (FromFuncTypes g) (FromFuncTypes (gather (FuncTypes xs) g)) front kept (n.types (omega arith))
    (λ k t. here index.Is 3 g.func_types xs (FromMemories g) front k (n.func_types (omega arith)) s t) h

put_memories : (g : Gathered) (xs : List Limits) (front kept : List ℕ) → NoneUpTo 5 g → SectionSpelled 5 limits.Is xs front → FromTypes g kept → FromTypes (gather (Memories xs) g) (front ++ kept)
put_memories g xs front kept n s h =
    let more = gather (Memories xs) g in
    under func_type.Is 1 g.types (FromFuncTypes g) (FromFuncTypes more) front kept (n.types (omega arith))
    (λ k t. under index.Is 3 g.func_types (FromMemories g) (FromMemories more) front k (n.func_types (omega arith))
    (λ j u. here limits.Is 5 g.memories xs (FromGlobals g) front j (n.memories (omega arith)) s u) t) h

put_globals : (g : Gathered) (xs : List Global) (front kept : List ℕ) → NoneUpTo 6 g → SectionSpelled 6 global.Is xs front → FromTypes g kept → FromTypes (gather (Globals xs) g) (front ++ kept)
put_globals g xs front kept n s h =
    let more = gather (Globals xs) g in
    under func_type.Is 1 g.types (FromFuncTypes g) (FromFuncTypes more) front kept (n.types (omega arith))
    (λ k t. under index.Is 3 g.func_types (FromMemories g) (FromMemories more) front k (n.func_types (omega arith))
    (λ j u. under limits.Is 5 g.memories (FromGlobals g) (FromGlobals more) front j (n.memories (omega arith))
    (λ i v. here global.Is 6 g.globals xs (FromExports g) front i (n.globals (omega arith)) s v) u) t) h

put_exports : (g : Gathered) (xs : List Export) (front kept : List ℕ) → NoneUpTo 7 g → SectionSpelled 7 export.Is xs front → FromTypes g kept → FromTypes (gather (Exports xs) g) (front ++ kept)
put_exports g xs front kept n s h =
    let more = gather (Exports xs) g in
    under func_type.Is 1 g.types (FromFuncTypes g) (FromFuncTypes more) front kept (n.types (omega arith))
    (λ k t. under index.Is 3 g.func_types (FromMemories g) (FromMemories more) front k (n.func_types (omega arith))
    (λ j u. under limits.Is 5 g.memories (FromGlobals g) (FromGlobals more) front j (n.memories (omega arith))
    (λ i v. under global.Is 6 g.globals (FromExports g) (FromExports more) front i (n.globals (omega arith))
    (λ l w. here export.Is 7 g.exports xs (FromCodes g) front l (n.exports (omega arith)) s w) v) u) t) h

last_of : {A : Type 0} (Spells : A → List ℕ → Type 0) (id : ℕ) (xs ys : List A) (front kept : List ℕ) → xs ≡ [] → SectionSpelled id Spells ys front → SectionSpelled id Spells xs kept → SectionSpelled id Spells ys (front ++ kept)
last_of Spells id xs ys front kept e s h = subst (λ (bs : List ℕ). SectionSpelled id Spells ys bs) (sym (ap (λ k. front ++ k) (nothing_spelled Spells id xs kept e h) ∙ append-nil front)) s

put_codes : (g : Gathered) (xs : List Coded) (front kept : List ℕ) → NoneUpTo 10 g → SectionSpelled 10 code.Is xs front → FromTypes g kept → FromTypes (gather (Codes xs) g) (front ++ kept)
put_codes g xs front kept n s h =
    let more = gather (Codes xs) g in
    under func_type.Is 1 g.types (FromFuncTypes g) (FromFuncTypes more) front kept (n.types (omega arith))
    (λ k t. under index.Is 3 g.func_types (FromMemories g) (FromMemories more) front k (n.func_types (omega arith))
    (λ j u. under limits.Is 5 g.memories (FromGlobals g) (FromGlobals more) front j (n.memories (omega arith))
    (λ i v. under global.Is 6 g.globals (FromExports g) (FromExports more) front i (n.globals (omega arith))
    (λ l w. under export.Is 7 g.exports (FromCodes g) (FromCodes more) front l (n.exports (omega arith))
    (λ e x. last_of code.Is 10 g.codes xs front e (n.codes (omega arith)) s x) w) v) u) t) h

-- the lists are as many as before this section, which stands alone at its id
none_before : (last : ℕ) (s : Section) (g : Gathered) → (s ≡ Custom → ⊥) → last < id_of s → NoneUpTo (id_of s) g → NoneUpTo last (gather s g)
none_before last Custom g not l n = absurd (not refl)
none_before last (Types xs) g not l n = record {
  types = λ h. absurd (omega (arith, h, l));
  func_types = λ h. absurd (omega (arith, h, l));
  memories = λ h. absurd (omega (arith, h, l));
  globals = λ h. absurd (omega (arith, h, l));
  exports = λ h. absurd (omega (arith, h, l));
  codes = λ h. absurd (omega (arith, h, l));
}
none_before last (FuncTypes xs) g not l n = record {
  types = λ h. n.types (omega arith);
  func_types = λ h. absurd (omega (arith, h, l));
  memories = λ h. absurd (omega (arith, h, l));
  globals = λ h. absurd (omega (arith, h, l));
  exports = λ h. absurd (omega (arith, h, l));
  codes = λ h. absurd (omega (arith, h, l));
}
none_before last (Memories xs) g not l n = record {
  types = λ h. n.types (omega arith);
  func_types = λ h. n.func_types (omega arith);
  memories = λ h. absurd (omega (arith, h, l));
  globals = λ h. absurd (omega (arith, h, l));
  exports = λ h. absurd (omega (arith, h, l));
  codes = λ h. absurd (omega (arith, h, l));
}
none_before last (Globals xs) g not l n = record {
  types = λ h. n.types (omega arith);
  func_types = λ h. n.func_types (omega arith);
  memories = λ h. n.memories (omega arith);
  globals = λ h. absurd (omega (arith, h, l));
  exports = λ h. absurd (omega (arith, h, l));
  codes = λ h. absurd (omega (arith, h, l));
}
none_before last (Exports xs) g not l n = record {
  types = λ h. n.types (omega arith);
  func_types = λ h. n.func_types (omega arith);
  memories = λ h. n.memories (omega arith);
  globals = λ h. n.globals (omega arith);
  exports = λ h. absurd (omega (arith, h, l));
  codes = λ h. absurd (omega (arith, h, l));
}
none_before last (Codes xs) g not l n = record {
  types = λ h. n.types (omega arith);
  func_types = λ h. n.func_types (omega arith);
  memories = λ h. n.memories (omega arith);
  globals = λ h. n.globals (omega arith);
  exports = λ h. n.exports (omega arith);
  codes = λ h. absurd (omega (arith, h, l));
}

-- ---- section by section

-- a section, or nothing in place of an empty one
abbrev Reduced : {A : Type 0} → (A → List ℕ → Type 0) → ℕ → List A → List ℕ → Type 0
Reduced Spells id xs front = (short : List ℕ) × SectionSpelled id Spells xs short × ((0 < length xs × (short ≡ front)) ⊎ (length short < length front))

reduced : {A : Type 0} (Spells : A → List ℕ → Type 0) (id : ℕ) (xs : List A) (front : List ℕ) → Behind id (SizedSpelled (VecSpelled Spells xs)) front → Reduced Spells id xs front
reduced Spells id [] front h = ([], refl, inr (omega (arith, ap length h.1)))
reduced Spells id (x ∷ xs) front h = (front, h, inl (omega arith, refl))

both_shorter : (P Q : Type 0) (a b c d : List ℕ) → (P × (a ≡ c)) ⊎ (length a < length c) → (Q × (b ≡ d)) ⊎ (length b < length d) → ((P × Q) × (a ++ b ≡ c ++ d)) ⊎ (length (a ++ b) < length (c ++ d))
both_shorter P Q a b c d (inl h) (inl k) = inl ((h.0, k.0), (λ i. h.1 i ++ k.1 i))
both_shorter P Q a b c d (inl h) (inr l) = inr (longer_back a b c d (omega (arith, ap length h.1)) l)
both_shorter P Q a b c d (inr l) (inl k) = inr (longer_front a b c d l (omega (arith, ap length k.1)))
both_shorter P Q a b c d (inr l) (inr m) = inr (longer_front a b c d l (omega (arith, m)))

-- one more section in front
in_front : {A : Type 0} (make : List A → Section) (Spells : A → List ℕ → Type 0) (id last : ℕ) (xs : List A) (ss : List Section) (front back : List ℕ)
    → HasItems (make xs) ≡ (0 < length xs) → Behind id (SizedSpelled (VecSpelled Spells xs)) front → NoneUpTo last (gathered (make xs ∷ ss))
    → ((bytes kept : List ℕ) → NoneUpTo id (gathered ss) → SectionSpelled id Spells xs bytes → FromTypes (gathered ss) kept → FromTypes (gathered (make xs ∷ ss)) (bytes ++ kept))
    → Skimmed id ss back → Skimmed last (make xs ∷ ss) (front ++ back)
in_front make Spells id last xs ss front back has h n put s =
    let r = reduced Spells id xs front h in
    let first : (HasItems (make xs) × (r.0 ≡ front)) ⊎ (length r.0 < length front) = subst (λ (P : Type 0). (P × (r.0 ≡ front)) ⊎ (length r.0 < length front)) (sym has) r.2 in
    record {
      kept = r.0 ++ s.kept;
      spelled = put r.0 s.kept s.none r.1 s.spelled;
      none = n;
      shorter = both_shorter (HasItems (make xs)) (Every HasItems ss) r.0 s.kept front back first s.shorter;
    }

shrinks : (P : Type 0) (a b : List ℕ) → (P × (a ≡ b)) ⊎ (length a < length b) → length a ≤ length b
shrinks P a b (inl h) = omega (arith, ap length h.1)
shrinks P a b (inr l) = omega (arith, l)

fewer : (kept front back : List ℕ) → 0 < length front → length kept ≤ length back → length kept < length (front ++ back)
fewer kept front back some l = omega (arith, some, l, length-append front back)

passed_over : (last : ℕ) (ss : List Section) (front back : List ℕ) → 0 < length front → Skimmed last ss back → Skimmed last (Custom ∷ ss) (front ++ back)
passed_over last ss front back some s = record {
  kept = s.kept;
  spelled = s.spelled;
  none = s.none;
  shorter = inr (fewer s.kept front back some (shrinks (Every HasItems ss) s.kept back s.shorter));
}

another : (last : ℕ) (s : Section) (ss : List Section) (front back : List ℕ) → (section last).Is s front → Skimmed (last_after last s) ss back → Skimmed last (s ∷ ss) (front ++ back)
another last Custom ss front back h r = passed_over last ss front back (omega (arith, ap length h.2)) r
another last (Types xs) ss front back h r =
    let not : Types xs ≡ Custom → ⊥ = λ e. cc in
    let p = section_parts last (Types xs) front not h in
    in_front Types func_type.Is 1 last xs ss front back refl p.1 (none_before last (Types xs) (gathered ss) not p.0 r.none) (put_types (gathered ss) xs) r
another last (FuncTypes xs) ss front back h r =
    let not : FuncTypes xs ≡ Custom → ⊥ = λ e. cc in
    let p = section_parts last (FuncTypes xs) front not h in
    in_front FuncTypes index.Is 3 last xs ss front back refl p.1 (none_before last (FuncTypes xs) (gathered ss) not p.0 r.none) (put_func_types (gathered ss) xs) r
another last (Memories xs) ss front back h r =
    let not : Memories xs ≡ Custom → ⊥ = λ e. cc in
    let p = section_parts last (Memories xs) front not h in
    in_front Memories limits.Is 5 last xs ss front back refl p.1 (none_before last (Memories xs) (gathered ss) not p.0 r.none) (put_memories (gathered ss) xs) r
another last (Globals xs) ss front back h r =
    let not : Globals xs ≡ Custom → ⊥ = λ e. cc in
    let p = section_parts last (Globals xs) front not h in
    in_front Globals global.Is 6 last xs ss front back refl p.1 (none_before last (Globals xs) (gathered ss) not p.0 r.none) (put_globals (gathered ss) xs) r
another last (Exports xs) ss front back h r =
    let not : Exports xs ≡ Custom → ⊥ = λ e. cc in
    let p = section_parts last (Exports xs) front not h in
    in_front Exports export.Is 7 last xs ss front back refl p.1 (none_before last (Exports xs) (gathered ss) not p.0 r.none) (put_exports (gathered ss) xs) r
another last (Codes xs) ss front back h r =
    let not : Codes xs ≡ Custom → ⊥ = λ e. cc in
    let p = section_parts last (Codes xs) front not h in
    in_front Codes code.Is 10 last xs ss front back refl p.1 (none_before last (Codes xs) (gathered ss) not p.0 r.none) (put_codes (gathered ss) xs) r

nothing_kept : (last : ℕ) (bytes : List ℕ) → bytes ≡ [] → Skimmed last [] bytes
nothing_kept last bytes e = record {
  kept = [];
  spelled = ([], [], refl, ([], [], refl, ([], [], refl, ([], [], refl, ([], [], refl, refl, refl), refl), refl), refl), refl);
  none = record { types = λ h. refl; func_types = λ h. refl; memories = λ h. refl; globals = λ h. refl; exports = λ h. refl; codes = λ h. refl };
  shorter = inl (tt, sym e);
}

pub skimmed : (last : ℕ) (ss : List Section) (bytes : List ℕ) → AreSections last ss bytes → Skimmed last ss bytes
skimmed last [] bytes h = nothing_kept last bytes h
skimmed last (s ∷ ss) bytes h = subst (λ (bs : List ℕ). Skimmed last (s ∷ ss) bs) (sym h.4) (another last s ss h.0 h.1 h.2 (skimmed (last_after last s) ss h.1 h.3))
