-- A body is well nested exactly where it has nested code.
use Rattle.std.proofs.Common.{◌≡◌, refl, sym, ap, ◌∙◌, subst}
use Rattle.std.specs.Prelude.{List, [], ◌∷◌, ◌++◌, Option, Some, None}
use Rattle.std.proofs.lemmas.List.{append_assoc}
use Rattle.wb_syntax.specs.Syntax.{NumType, Instr, Block, Loop, If, Else, End, Nested, Plain, InBlock, InLoop, InIf, InIfElse, Code, Nothing, Then}
use Rattle.wb_syntax.specs.Nesting.{flat_one, flat, IsSimple, IsProperOne, IsProper, Open, FirstBranch, Construct, place_after, Closes, ClosesAt, IsWellNested, Level, put, put_around, put_if, put_else, put_instr, put_before, levels, whole, nested}
use Rattle.wb_syntax.specs.Laws.{WellNestedExactly}
use Rattle.wb_syntax.proofs.Nests.{nested_exactly, put_simple}

-- the levels that the rest of a body has where these constructs are open
Fits : List Open → List Level → Type 0
Fits os [] = ⊥
Fits [] (l ∷ []) = l.other ≡ None
Fits [] (l ∷ k ∷ ls) = ⊥
Fits (FirstBranch ∷ os) (l ∷ ls) = Fits os ls
Fits (Construct ∷ os) (l ∷ ls) = (l.other ≡ None) × Fits os ls

Found : List Open → List Instr → Type 0
Found os is = (ls : List Level) × (levels is ≡ Some ls) × Fits os ls

-- other code before a level
fits_put : (os : List Open) (i : Nested) (ls : List Level) → Fits os ls → (ks : List Level) × (put i ls ≡ Some ks) × Fits os ks
unfolding Fits
fits_put os i [] f = absurd f
fits_put [] i (l ∷ []) f = (record { code = Then i l.code; other = l.other } ∷ [], refl, f)
fits_put [] i (l ∷ k ∷ ls) f = absurd f
fits_put (FirstBranch ∷ os) i (l ∷ ls) f = (record { code = Then i l.code; other = l.other } ∷ ls, refl, f)
fits_put (Construct ∷ os) i (l ∷ ls) f = (record { code = Then i l.code; other = l.other } ∷ ls, refl, f)

fits_around : (os : List Open) (make : Code → Nested) (ls : List Level) → Fits (Construct ∷ os) ls → (ks : List Level) × (put_around make ls ≡ Some ks) × Fits os ks
unfolding Fits
fits_around os make [] f = absurd f
fits_around os make (l ∷ ls) f =
    let p = fits_put os (make l.code) ls f.1 in
    (p.0, ap (λ o. elim o [ None ↦ put (make l.code) ls | Some d ↦ None ]) f.0 ∙ p.1, p.2)

fits_if_at : (os : List Open) (t : Option NumType) (c : Code) (o : Option Code) (ls : List Level) → Fits os ls → (ks : List Level) × (put_if t (record { code = c; other = o } ∷ ls) ≡ Some ks) × Fits os ks
fits_if_at os t c None ls f = fits_put os (InIf t c) ls f
fits_if_at os t c (Some d) ls f = fits_put os (InIfElse t c d) ls f

fits_if : (os : List Open) (t : Option NumType) (ls : List Level) → Fits (FirstBranch ∷ os) ls → (ks : List Level) × (put_if t ls ≡ Some ks) × Fits os ks
unfolding Fits
fits_if os t [] f = absurd f
fits_if os t (l ∷ ls) f = fits_if_at os t l.code l.other ls f

fits_else : (os : List Open) (ls : List Level) → Fits (Construct ∷ os) ls → (ks : List Level) × (put_else ls ≡ Some ks) × Fits (FirstBranch ∷ os) ks
unfolding Fits
fits_else os [] f = absurd f
fits_else os (l ∷ ls) f = (record { code = Nothing; other = Some l.code } ∷ ls, ap (λ o. elim o [ None ↦ Some (record { code = Nothing; other = Some l.code } ∷ ls) | Some d ↦ None ]) f.0, f.1)

-- an instruction before what was found
found_before : (i : Instr) (is : List Instr) (qs os : List Open) → ((ls : List Level) → Fits qs ls → (ks : List Level) × (put_instr i ls ≡ Some ks) × Fits os ks) → Found qs is → Found os (i ∷ is)
unfolding Found
found_before i is qs os more f = let m = more f.0 f.2 in (m.0, ap (put_before i) f.1 ∙ m.1, m.2)

found_simple : (i : Instr) (is : List Instr) (os : List Open) → IsSimple i → Found os is → Found os (i ∷ is)
found_simple i is os p f = found_before i is os os (λ ls g. let q = fits_put os (Plain i) ls g in (q.0, put_simple i ls p ∙ q.1, q.2)) f

found_end : (is : List Instr) (o : Open) (os : List Open) → Found os is → Found (o ∷ os) (End ∷ is)
unfolding Found Fits
found_end is FirstBranch os f = (record { code = Nothing; other = None } ∷ f.0, ap (put_before End) f.1, f.2)
found_end is Construct os f = (record { code = Nothing; other = None } ∷ f.0, ap (put_before End) f.1, (refl, f.2))

found_closed : (is : List Instr) → is ≡ [] → Found [] (End ∷ is)
unfolding Found Fits
found_closed is e = (record { code = Nothing; other = None } ∷ [], ap (λ l. levels (End ∷ l)) e, refl)

found_at : (i : Instr) (os : List Open) (is : List Instr) → ((qs : List Open) → Closes qs is → Found qs is) → ClosesAt (place_after os i) (λ qs. Closes qs is) is → Found os (i ∷ is)
found_at (Block t) os is ih h = found_before (Block t) is (Construct ∷ os) os (fits_around os (InBlock t)) (ih (Construct ∷ os) h)
found_at (Loop t) os is ih h = found_before (Loop t) is (Construct ∷ os) os (fits_around os (InLoop t)) (ih (Construct ∷ os) h)
found_at (If t) os is ih h = found_before (If t) is (FirstBranch ∷ os) os (fits_if os t) (ih (FirstBranch ∷ os) h)
found_at Else [] is ih h = absurd h
found_at Else (FirstBranch ∷ os) is ih h = found_before Else is (Construct ∷ os) (FirstBranch ∷ os) (fits_else os) (ih (Construct ∷ os) h)
found_at Else (Construct ∷ os) is ih h = absurd h
found_at End [] is ih h = found_closed is h
found_at End (o ∷ os) is ih h = found_end is o os (ih os h)
found_at i os is ih h = found_simple i is os tt (ih os h)

found : (is : List Instr) (os : List Open) → Closes os is → Found os is
found [] os h = absurd h
found (i ∷ is) os h = found_at i os is (λ qs c. found is qs c) h

nested_at : (ls : List Level) → Fits [] ls → (c : Code) × (whole (Some ls) ≡ Some c)
unfolding Fits
nested_at [] f = absurd f
nested_at (l ∷ []) f = (l.code, ap (λ o. elim o [ None ↦ Some l.code | Some d ↦ None ]) f)
nested_at (l ∷ k ∷ ls) f = absurd f

has_code : (body : List Instr) → IsWellNested body → (c : Code) × (nested body ≡ Some c)
unfolding Found
has_code body h = let f = found body [] h in let n = nested_at f.0 f.2 in (n.0, ap whole f.1 ∙ n.1)

-- ---- the other way

closes_simple : (i : Instr) (os : List Open) (rest : List Instr) → IsSimple i → Closes os rest → Closes os (i ∷ rest)
closes_simple (Block t) os rest p h = absurd p
closes_simple (Loop t) os rest p h = absurd p
closes_simple (If t) os rest p h = absurd p
closes_simple Else os rest p h = absurd p
closes_simple End os rest p h = absurd p
closes_simple i os rest p h = h

mutual
  closes_code : (c : Code) (os : List Open) (rest : List Instr) → IsProper c → Closes os rest → Closes os (flat c ++ rest)
  closes_code Nothing os rest p h = h
  closes_code (Then i c) os rest p h = subst (Closes os) (sym (append_assoc (flat_one i) (flat c) rest)) (closes_one i os (flat c ++ rest) p.0 (closes_code c os rest p.1 h))

  closes_one : (i : Nested) (os : List Open) (rest : List Instr) → IsProperOne i → Closes os rest → Closes os (flat_one i ++ rest)
  closes_one (Plain i) os rest p h = closes_simple i os rest p h
  closes_one (InBlock t c) os rest p h = subst (Closes (Construct ∷ os)) (sym (append_assoc (flat c) (End ∷ []) rest)) (closes_code c (Construct ∷ os) (End ∷ rest) p h)
  closes_one (InLoop t c) os rest p h = subst (Closes (Construct ∷ os)) (sym (append_assoc (flat c) (End ∷ []) rest)) (closes_code c (Construct ∷ os) (End ∷ rest) p h)
  closes_one (InIf t c) os rest p h = subst (Closes (FirstBranch ∷ os)) (sym (append_assoc (flat c) (End ∷ []) rest)) (closes_code c (FirstBranch ∷ os) (End ∷ rest) p h)
  closes_one (InIfElse t c d) os rest p h =
      let second : Closes (Construct ∷ os) ((flat d ++ End ∷ []) ++ rest) = subst (Closes (Construct ∷ os)) (sym (append_assoc (flat d) (End ∷ []) rest)) (closes_code d (Construct ∷ os) (End ∷ rest) p.1 h) in
      subst (Closes (FirstBranch ∷ os)) (sym (append_assoc (flat c) (Else ∷ (flat d ++ End ∷ [])) rest)) (closes_code c (FirstBranch ∷ os) (Else ∷ ((flat d ++ End ∷ []) ++ rest)) p.0 second)

is_well_nested : (body : List Instr) → (c : Code) × (nested body ≡ Some c) → IsWellNested body
is_well_nested body h =
    let b = (nested_exactly body h.0).0 h.1 in
    subst (Closes []) (sym b.1) (closes_code h.0 [] (End ∷ []) b.0 refl)

pub well_nested_exactly : WellNestedExactly
well_nested_exactly body = (has_code body, is_well_nested body)
