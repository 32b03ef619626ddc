-- Going back over an instruction keeps where each open construct leads, and finds where the instruction leads.
use Rattle.std.proofs.Common.{◌≡◌, refl, sym, ap, ◌∙◌, subst, arith, get_or}
use Rattle.std.specs.Prelude.{ℕ, ◌+◌, ◌-◌, ◌<◌, ◌≤◌, List, [], ◌∷◌, drop, length, Option, Some, None}
use Rattle.std.proofs.lemmas.List.{drop_more}
use Rattle.wb_code.specs.Syntax.{NumType, Instr, Block, Loop, If, Else, End, Nested, Plain, InBlock, InLoop, InIf, InIfElse, Code, Nothing, Then}
use Rattle.wb_syntax.specs.Nesting.{Level, put, put_around, put_if, put_else, put_instr, put_before, levels, whole}
use Rattle.wb_code.specs.Jumps.{Jump, place, outside, second, in_second, Leads, LeadAlong, AreJumps}
use Rattle.wb_code.specs.Passing.{jump, IsTaken, IsTurned, Passes}

none_some : {A : Type 0} (x : A) → None ≡ Some x → ⊥
none_some x e = cc

some_same : {A : Type 0} (x y : A) → Some x ≡ Some y → x ≡ y
some_same x y e = cc

-- where the open constructs lead, the innermost first
abbrev pub Opens : List Instr → List Jump → List Level → Type 0
Opens body [] [] = Unit {0}
Opens body (o ∷ os) (k ∷ ks) = (place body o.past ≡ Some ks) × (place body o.other ≡ Some (second k ∷ ks)) × Opens body os ks
Opens body _ _ = ⊥

-- code before a place changes nothing of what is open there
put_opens : (body : List Instr) (i : Nested) (os : List Jump) (ks ls : List Level) → Opens body os ks → put i ks ≡ Some ls → Opens body os ls
put_opens body i [] [] ls h q = absurd (none_some ls q)
put_opens body i [] (k ∷ ks) ls h q = absurd h
put_opens body i (o ∷ os) [] ls h q = absurd h
put_opens body i (o ∷ os) (k ∷ ks) ls h q = subst (Opens body (o ∷ os)) (some_same (record { code = Then i k.code; other = k.other } ∷ ks) ls q) h

-- a construct begins: its jump, and what is open around it
begins : (body rest : List Instr) (os new : List Jump) (j : Jump) (k : Level) (ks : List Level) → levels rest ≡ Some (k ∷ ks) → IsTaken os new j → Opens body os (k ∷ ks) → (place body j.past ≡ outside (levels rest)) × (place body j.other ≡ in_second (levels rest)) × Opens body new ks
begins body rest [] new j k ks e t h = absurd h
begins body rest (o ∷ os) new j k ks e t h = (
  ap (λ (x : Jump). place body x.past) t.0 ∙ h.0 ∙ sym (ap outside e),
  ap (λ (x : Jump). place body x.other) t.0 ∙ h.1 ∙ sym (ap in_second e),
  subst (λ ns. Opens body ns ks) (sym t.1) h.2,
)

-- a block or a loop is put before what stands around it
around_opens : (body : List Instr) (make : Code → Nested) (new : List Jump) (c : Code) (o : Option Code) (ks ls : List Level) → Opens body new ks → put_around make (record { code = c; other = o } ∷ ks) ≡ Some ls → Opens body new ls
around_opens body make new c None ks ls h q = put_opens body (make c) new ks ls h q
around_opens body make new c (Some d) ks ls h q = absurd (none_some ls q)

-- an if is put before what stands around it
if_opens : (body : List Instr) (t : Option NumType) (new : List Jump) (c : Code) (o : Option Code) (ks ls : List Level) → Opens body new ks → put_if t (record { code = c; other = o } ∷ ks) ≡ Some ls → Opens body new ls
if_opens body t new c None ks ls h q = put_opens body (InIf t c) new ks ls h q
if_opens body t new c (Some d) ks ls h q = put_opens body (InIfElse t c d) new ks ls h q

-- the second branch of an if begins at its else
turns : (body rest : List Instr) (at : ℕ) (os new : List Jump) (j : Jump) (c : Code) (o : Option Code) (ks ls : List Level) → drop (at + 1) body ≡ rest → levels rest ≡ Some (record { code = c; other = o } ∷ ks) → IsTurned at os new j → Opens body os (record { code = c; other = o } ∷ ks) → put_else (record { code = c; other = o } ∷ ks) ≡ Some ls → (place body j.past ≡ outside (levels rest)) × Opens body new ls
turns body rest at [] new j c o ks ls d e t h q = absurd h
turns body rest at (p ∷ os) new j c (Some b) ks ls d e t h q = absurd (none_some ls q)
turns body rest at (p ∷ os) new j c None ks ls d e t h q = (
  ap (λ (x : Jump). place body x.past) t.0 ∙ h.0 ∙ sym (ap outside e),
  subst (λ ns. Opens body ns ls) (sym t.1) (subst (Opens body (jump p.past (at + 1) ∷ os)) (some_same (record { code = Nothing; other = Some c } ∷ ks) ls q) (h.0, (ap levels d ∙ e), h.2)),
)

-- what going back over an instruction gives
Gives : List Instr → List Instr → Instr → Jump → List Jump → List Level → Type 0
Gives body rest i j new ls = Leads body rest i j × Opens body new ls

-- an instruction that is no construct
plain_passes : (body rest : List Instr) (i : Instr) (j : Jump) (os new : List Jump) (ks ls : List Level) → new ≡ os → Opens body os ks → put (Plain i) ks ≡ Some ls → Opens body new ls
plain_passes body rest i j os new ks ls n h q = subst (λ ns. Opens body ns ls) (sym n) (put_opens body (Plain i) os ks ls h q)

-- going back over one instruction, where what stands behind it could be read
pub passed : (body rest : List Instr) (at : ℕ) (i : Instr) (j : Jump) (os new : List Jump) (ks ls : List Level) → drop at body ≡ i ∷ rest → drop (at + 1) body ≡ rest → Passes at i os new j → levels rest ≡ Some ks → Opens body os ks → put_instr i ks ≡ Some ls → Leads body rest i j × Opens body new ls
passed body rest at (Block t) j os new [] ls c d p e h q = absurd (none_some ls q)
passed body rest at (Block t) j os new (k ∷ ks) ls c d p e h q =
    let b = begins body rest os new j k ks e p h in
    (b.0, around_opens body (InBlock t) new k.code k.other ks ls b.2 q)
passed body rest at (Loop t) j os new [] ls c d p e h q = absurd (none_some ls q)
passed body rest at (Loop t) j os new (k ∷ ks) ls c d p e h q =
    let b = begins body rest os new j k ks e p h in
    (b.0, around_opens body (InLoop t) new k.code k.other ks ls b.2 q)
passed body rest at (If t) j os new [] ls c d p e h q = absurd (none_some ls q)
passed body rest at (If t) j os new (k ∷ ks) ls c d p e h q =
    let b = begins body rest os new j k ks e p h in
    ((b.0, b.1), if_opens body t new k.code k.other ks ls b.2 q)
passed body rest at Else j os new [] ls c d p e h q = absurd (none_some ls q)
passed body rest at Else j os new (k ∷ ks) ls c d p e h q = turns body rest at os new j k.code k.other ks ls d e p h q
passed body rest at End j os new ks ls c d p e h q = (
  tt,
  subst (λ ns. Opens body ns ls) (sym p)
      (subst (Opens body (jump (at + 1) at ∷ os)) (some_same (record { code = Nothing; other = None } ∷ ks) ls q)
      (ap levels d ∙ e, ap levels c ∙ ap (put_before End) e, h)),
)
passed body rest at i j os new ks ls c d p e h q = (tt, plain_passes body rest i j os new ks ls p h q)

-- ---- the whole pass

-- all behind a place has its jumps, and what is open there is known, where it could be read
abbrev pub IsPassed : (body rest : List Instr) → (outer found : List Jump) → Type 0
IsPassed body rest outer found = (ls : List Level) → levels rest ≡ Some ls → Opens body outer ls × LeadAlong body rest found

read_behind : (i : Instr) (o : Option (List Level)) (ls : List Level) → put_before i o ≡ Some ls → (ks : List Level) × (o ≡ Some ks) × (put_instr i ks ≡ Some ls)
read_behind i None ls e = absurd (none_some ls e)
read_behind i (Some ks) ls e = (ks, refl, e)

-- one instruction more
pub passed_more : (body rest : List Instr) (at : ℕ) (i : Instr) (j : Jump) (os new found : List Jump) → drop at body ≡ i ∷ rest → drop (at + 1) body ≡ rest → Passes at i os new j → IsPassed body rest os found → IsPassed body (i ∷ rest) new (j ∷ found)
passed_more body rest at i j os new found c d p h ls e =
    let r = read_behind i (levels rest) ls e in
    let a = h r.0 r.1 in
    let b = passed body rest at i j os new r.0 ls c d p r.1 a.0 r.2 in
    (b.1, (b.0, a.1))

-- a body that has nested code could be read
whole_read : (o : Option (List Level)) (c : Code) → whole o ≡ Some c → (ls : List Level) × (o ≡ Some ls)
whole_read None c e = absurd (none_some c e)
whole_read (Some ls) c e = (ls, refl)

pub passed_whole : (body : List Instr) (outer found : List Jump) → IsPassed body body outer found → AreJumps body found
passed_whole body outer found h c e =
    let r = whole_read (levels body) c e in
    (h r.0 r.1).1

-- ---- the loop

-- the place before the last one
place_before : (body : List Instr) (n : ℕ) (i : Instr) → 0 < n → n ≤ length body → i ≡ get_or body (n - 1) i → drop (n - 1) body ≡ i ∷ drop n body
place_before body n i p l e =
    let s : n - 1 + 1 ≡ n = omega arith in
    let w : n - 1 < length body = omega arith in
    drop_more body (n - 1) i w ∙ ap (λ x. x ∷ drop (n - 1 + 1) body) (sym e) ∙ ap (λ k. i ∷ drop k body) s

pub passed_back : (body : List Instr) (n : ℕ) (i : Instr) (j : Jump) (os new found more : List Jump) → 0 < n → n ≤ length body → i ≡ get_or body (n - 1) i → Passes (n - 1) i os new j → more ≡ j ∷ found → IsPassed body (drop n body) os found → IsPassed body (drop (n - 1) body) new more
passed_back body n i j os new found more p l e q m h =
    let s : n - 1 + 1 ≡ n = omega arith in
    let b = place_before body n i p l e in
    subst (λ r. IsPassed body r new more) (sym b)
    (subst (IsPassed body (i ∷ drop n body) new) (sym m)
    (passed_more body (drop n body) (n - 1) i j os new found b (ap (λ k. drop k body) s) q h))

pub passed_all : (body : List Instr) (n : ℕ) (outer found all : List Jump) → n ≤ 0 → all ≡ found → IsPassed body (drop n body) outer found → AreJumps body all
passed_all body n outer found all l a h =
    let z : n ≡ 0 = omega arith in
    subst (AreJumps body) (sym a) (passed_whole body outer found (subst (λ k. IsPassed body (drop k body) outer found) z h))

-- one place back
pub one_less : (n k : ℕ) → n ≤ k → n - 1 ≤ k
one_less n k l = omega arith
