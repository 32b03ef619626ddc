-- Nested code and its flat list determine each other.
use Rattle.std.proofs.Common.{◌≡◌, refl, sym, ap, ◌∙◌, subst}
use Rattle.std.specs.Prelude.{List, [], ◌∷◌, ◌++◌, Option, Some, None}
use Rattle.std.proofs.lemmas.List.{append_assoc}
use Rattle.wb_syntax.specs.Syntax.{NumType, Instr, Block, Loop, If, Else, End, Nested, Plain, InBlock, InLoop, InIf, InIfElse, Code, Nothing, Then}
use Rattle.wb_syntax.specs.Nesting.{flat_one, flat, IsSimple, IsProperOne, IsProper, Level, put, put_around, put_if, put_else, put_instr, put_before, levels, whole, nested}
use Rattle.wb_syntax.specs.Laws.{NestedExactly}

before : Code → Code → Code
before Nothing d = d
before (Then i c) d = Then i (before c d)

before_nothing : (c : Code) → before c Nothing ≡ c
unfolding before
before_nothing Nothing = refl
before_nothing (Then i c) = ap (Then i) (before_nothing c)

level : Code → Option Code → Level
level c o = record { code = c; other = o }

pub put_simple : (i : Instr) (ls : List Level) → IsSimple i → put_instr i ls ≡ put (Plain i) ls
put_simple (Block t) ls p = absurd p
put_simple (Loop t) ls p = absurd p
put_simple (If t) ls p = absurd p
put_simple Else ls p = absurd p
put_simple End ls p = absurd p
put_simple i ls p = refl

-- what stands after the end of a construct
after_end_levels : (rest : List Instr) (l : Level) (ls : List Level) → levels rest ≡ Some (l ∷ ls) → levels (End ∷ rest) ≡ Some (level Nothing None ∷ l ∷ ls)
unfolding level
after_end_levels rest l ls e = ap (put_before End) e

-- code up to the end of its construct
levels_inside : (c : Code) (rest : List Instr) (ls : List Level) → levels (flat c ++ End ∷ rest) ≡ Some (level (before c Nothing) None ∷ ls) → levels ((flat c ++ End ∷ []) ++ rest) ≡ Some (level c None ∷ ls)
unfolding before level
levels_inside c rest ls e = ap levels (append_assoc (flat c) (End ∷ []) rest) ∙ e ∙ ap (λ k. Some (level k None ∷ ls)) (before_nothing c)

mutual
  unfolding before level

  levels_of : (c : Code) (rest : List Instr) (d : Code) (o : Option Code) (ls : List Level) → IsProper c → levels rest ≡ Some (level d o ∷ ls) → levels (flat c ++ rest) ≡ Some (level (before c d) o ∷ ls)
  levels_of Nothing rest d o ls p e = e
  levels_of (Then i c) rest d o ls p e =
      ap levels (append_assoc (flat_one i) (flat c) rest)
      ∙ levels_of_one i (flat c ++ rest) (before c d) o ls p.0 (levels_of c rest d o ls p.1 e)

  levels_of_one : (i : Nested) (rest : List Instr) (d : Code) (o : Option Code) (ls : List Level) → IsProperOne i → levels rest ≡ Some (level d o ∷ ls) → levels (flat_one i ++ rest) ≡ Some (level (Then i d) o ∷ ls)
  levels_of_one (Plain i) rest d o ls p e = ap (put_before i) e ∙ put_simple i (level d o ∷ ls) p
  levels_of_one (InBlock t c) rest d o ls p e = ap (put_before (Block t)) (levels_inside c rest (level d o ∷ ls) (levels_of c (End ∷ rest) Nothing None (level d o ∷ ls) p (ap (put_before End) e)))
  levels_of_one (InLoop t c) rest d o ls p e = ap (put_before (Loop t)) (levels_inside c rest (level d o ∷ ls) (levels_of c (End ∷ rest) Nothing None (level d o ∷ ls) p (ap (put_before End) e)))
  levels_of_one (InIf t c) rest d o ls p e = ap (put_before (If t)) (levels_inside c rest (level d o ∷ ls) (levels_of c (End ∷ rest) Nothing None (level d o ∷ ls) p (ap (put_before End) e)))
  levels_of_one (InIfElse t c b) rest d o ls p e =
      ap (put_before (If t))
      (ap levels (append_assoc (flat c) (Else ∷ (flat b ++ End ∷ [])) rest)
      ∙ levels_of c (Else ∷ ((flat b ++ End ∷ []) ++ rest)) Nothing (Some b) (level d o ∷ ls) p.0 (ap (put_before Else) (levels_inside b rest (level d o ∷ ls) (levels_of b (End ∷ rest) Nothing None (level d o ∷ ls) p.1 (ap (put_before End) e))))
      ∙ ap (λ k. Some (level k (Some b) ∷ level d o ∷ ls)) (before_nothing c))

nested_of : (c : Code) → IsProper c → nested (flat c ++ End ∷ []) ≡ Some c
unfolding level
nested_of c p = ap whole (levels_of c (End ∷ []) Nothing None [] p refl ∙ ap (λ k. Some (level k None ∷ [])) (before_nothing c))

-- ---- the other way: what is read back writes out as it was

else_part : Option Code → List Instr
else_part None = []
else_part (Some d) = Else ∷ flat d

written : List Level → List Instr
written [] = []
written (l ∷ ls) = flat l.code ++ (else_part l.other ++ End ∷ written ls)

IsProperElse : Option Code → Type 0
IsProperElse None = Unit {0}
IsProperElse (Some d) = IsProper d

AreProper : List Level → Type 0
unfolding IsProperElse
AreProper [] = Unit {0}
AreProper (l ∷ ls) = IsProper l.code × IsProperElse l.other × AreProper ls

-- these levels are of these instructions
Stand : List Instr → List Level → Type 0
Stand is ls = (is ≡ written ls) × AreProper ls

none_some : {A : Type 0} (x : A) → None ≡ Some x → ⊥
none_some x e = cc

some_same : {A : Type 0} (x y : A) → Some x ≡ Some y → x ≡ y
some_same x y e = cc

-- one form before its level
put_stands : (i : Nested) → IsProperOne i → (ks ls : List Level) → AreProper ks → put i ks ≡ Some ls → Stand (flat_one i ++ written ks) ls
unfolding written AreProper IsProperElse else_part Stand
put_stands i p [] ls q e = absurd (none_some ls e)
put_stands i p (k ∷ ks) ls q e =
    let found : Stand (flat_one i ++ written (k ∷ ks)) (record { code = Then i k.code; other = k.other } ∷ ks) =
    (sym (append_assoc (flat_one i) (flat k.code) (else_part k.other ++ End ∷ written ks)), ((p, q.0), q.1, q.2)) in
    subst (Stand (flat_one i ++ written (k ∷ ks))) (some_same (record { code = Then i k.code; other = k.other } ∷ ks) ls e) found

-- a construct with one part
around_stands : (first : Instr) (make : Code → Nested) → ((c : Code) → flat_one (make c) ≡ first ∷ (flat c ++ End ∷ [])) → ((c : Code) → IsProper c → IsProperOne (make c)) → (c : Code) (ks ls : List Level) → IsProper c → AreProper ks → put (make c) ks ≡ Some ls → Stand (first ∷ (flat c ++ End ∷ written ks)) ls
unfolding Stand
around_stands first make f m c ks ls p q e =
    let s = put_stands (make c) (m c p) ks ls q e in
    (ap (λ l. first ∷ l) (sym (append_assoc (flat c) (End ∷ []) (written ks))) ∙ ap (λ l. l ++ written ks) (sym (f c)) ∙ s.0, s.1)

block_stands : (first : Instr) (make : Code → Nested) → ((c : Code) → flat_one (make c) ≡ first ∷ (flat c ++ End ∷ [])) → ((c : Code) → IsProper c → IsProperOne (make c)) → (c : Code) (o : Option Code) (ks ls : List Level) → IsProper c → AreProper ks → put_around make (record { code = c; other = o } ∷ ks) ≡ Some ls → Stand (first ∷ (flat c ++ (else_part o ++ End ∷ written ks))) ls
unfolding else_part
block_stands first make f m c None ks ls p q e = around_stands first make f m c ks ls p q e
block_stands first make f m c (Some d) ks ls p q e = absurd (none_some ls e)

if_stands : (t : Option NumType) (c : Code) (o : Option Code) (ks ls : List Level) → IsProper c → IsProperElse o → AreProper ks → put_if t (record { code = c; other = o } ∷ ks) ≡ Some ls → Stand (If t ∷ (flat c ++ (else_part o ++ End ∷ written ks))) ls
unfolding else_part IsProperElse Stand
if_stands t c None ks ls p r q e = around_stands (If t) (InIf t) (λ c. refl) (λ c p. p) c ks ls p q e
if_stands t c (Some d) ks ls p r q e =
    let s = put_stands (InIfElse t c d) (p, r) ks ls q e in
    (ap (λ l. If t ∷ l) (ap (λ l. flat c ++ Else ∷ l) (sym (append_assoc (flat d) (End ∷ []) (written ks))) ∙ sym (append_assoc (flat c) (Else ∷ (flat d ++ End ∷ [])) (written ks))) ∙ s.0, s.1)

else_stands : (c : Code) (o : Option Code) (ks ls : List Level) → IsProper c → AreProper ks → put_else (record { code = c; other = o } ∷ ks) ≡ Some ls → Stand (Else ∷ (flat c ++ (else_part o ++ End ∷ written ks))) ls
unfolding Stand written else_part AreProper IsProperElse
else_stands c None ks ls p q e = subst (Stand (Else ∷ (flat c ++ End ∷ written ks))) (some_same (record { code = Nothing; other = Some c } ∷ ks) ls e) (refl, (tt, p, q))
else_stands c (Some d) ks ls p q e = absurd (none_some ls e)

simple_stands : (i : Instr) → IsSimple i → (ks ls : List Level) → AreProper ks → put (Plain i) ks ≡ Some ls → Stand (i ∷ written ks) ls
simple_stands i p ks ls q e = put_stands (Plain i) p ks ls q e

instr_stands : (i : Instr) (ks ls : List Level) → AreProper ks → put_instr i ks ≡ Some ls → Stand (i ∷ written ks) ls
unfolding Stand written AreProper IsProperElse else_part
instr_stands (Block t) [] ls q e = absurd (none_some ls e)
instr_stands (Block t) (k ∷ ks) ls q e = block_stands (Block t) (InBlock t) (λ c. refl) (λ c p. p) k.code k.other ks ls q.0 q.2 e
instr_stands (Loop t) [] ls q e = absurd (none_some ls e)
instr_stands (Loop t) (k ∷ ks) ls q e = block_stands (Loop t) (InLoop t) (λ c. refl) (λ c p. p) k.code k.other ks ls q.0 q.2 e
instr_stands (If t) [] ls q e = absurd (none_some ls e)
instr_stands (If t) (k ∷ ks) ls q e = if_stands t k.code k.other ks ls q.0 q.1 q.2 e
instr_stands Else [] ls q e = absurd (none_some ls e)
instr_stands Else (k ∷ ks) ls q e = else_stands k.code k.other ks ls q.0 q.2 e
instr_stands End ks ls q e = subst (Stand (End ∷ written ks)) (some_same (record { code = Nothing; other = None } ∷ ks) ls e) (refl, (tt, tt, q))
instr_stands i ks ls q e = simple_stands i tt ks ls q e

levels_before : (i : Instr) (is : List Instr) (o : Option (List Level)) (ls : List Level) → ((ks : List Level) → o ≡ Some ks → Stand is ks) → put_before i o ≡ Some ls → Stand (i ∷ is) ls
unfolding Stand
levels_before i is None ls ih e = absurd (none_some ls e)
levels_before i is (Some ks) ls ih e =
    let s = ih ks refl in
    let t = instr_stands i ks ls s.1 e in
    (ap (λ l. i ∷ l) s.0 ∙ t.0, t.1)

levels_stand : (is : List Instr) (ls : List Level) → levels is ≡ Some ls → Stand is ls
unfolding Stand written AreProper
levels_stand [] ls e = subst (Stand []) (some_same [] ls e) (refl, tt)
levels_stand (i ∷ is) ls e = levels_before i is (levels is) ls (λ ks f. levels_stand is ks f) e

whole_one : (d : Code) (o : Option Code) (c : Code) → whole (Some (level d o ∷ [])) ≡ Some c → Some (level d o ∷ []) ≡ Some (level c None ∷ [])
unfolding level
whole_one d None c e = ap (λ k. Some (level k None ∷ [])) (some_same d c e)
whole_one d (Some b) c e = absurd (none_some c e)

whole_of : (o : Option (List Level)) (c : Code) → whole o ≡ Some c → o ≡ Some (level c None ∷ [])
unfolding level
whole_of None c e = absurd (none_some c e)
whole_of (Some []) c e = absurd (none_some c e)
whole_of (Some (l ∷ k ∷ ls)) c e = absurd (none_some c e)
whole_of (Some (l ∷ [])) c e = whole_one l.code l.other c e

nested_back : (body : List Instr) (c : Code) → nested body ≡ Some c → IsProper c × (body ≡ flat c ++ End ∷ [])
unfolding Stand written AreProper IsProperElse else_part level
nested_back body c e = let s = levels_stand body (level c None ∷ []) (whole_of (levels body) c e) in (s.1.0, s.0)

pub nested_exactly : NestedExactly
nested_exactly body c = (λ e. nested_back body c e, λ h. ap nested h.1 ∙ nested_of c h.0)
