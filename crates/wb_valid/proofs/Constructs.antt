-- A construct that begins, and the level that it opens.
use Rattle.std.proofs.Common.{◌≡◌, refl, sym, ap, ◌∙◌, subst, inl, inr}
use Rattle.std.specs.Prelude.{◌↔◌, List, [], ◌∷◌, ◌++◌, Option, None}
use Rattle.std.proofs.lemmas.List.{append_assoc}
use Rattle.wb_syntax.specs.Nesting.{flat}
use Rattle.wb_syntax.specs.Typing.{Context, Takes, IsPlain, inside, Types}
use Rattle.wb_valid.specs.Syntax.{NumType, I32, Instr, Block, Loop, If, Else, End, Plain, InBlock, InLoop, InIf, InIfElse, Code, Nothing, Then, list_of}
use Rattle.wb_valid.specs.Checking.{FirstBranch}
use Rattle.wb_valid.proofs.Levels.{Closing, Level, IsEmpty, Ending, Pushed, head_same, tail_same}

block_loop : (t u : Option NumType) → Block t ≡ Loop u → ⊥
block_loop t u e = cc

block_if : (t u : Option NumType) → Block t ≡ If u → ⊥
block_if t u e = cc

loop_if : (t u : Option NumType) → Loop t ≡ If u → ⊥
loop_if t u e = cc

same_block : (t u : Option NumType) → Block t ≡ Block u → u ≡ t
same_block t u e = cc

same_loop : (t u : Option NumType) → Loop t ≡ Loop u → u ≡ t
same_loop t u e = cc

same_if : (t u : Option NumType) → If t ≡ If u → u ≡ t
same_if t u e = cc

-- code, an end, and what follows
regroup : (xs : List Instr) (x : Instr) (ys zs : List Instr) → ((xs ++ x ∷ []) ++ ys) ++ zs ≡ xs ++ x ∷ (ys ++ zs)
regroup xs x ys zs = append_assoc (xs ++ x ∷ []) ys zs ∙ append_assoc xs (x ∷ []) (ys ++ zs)

-- two branches and what follows
regroup_else : (xs ws ys zs : List Instr) → ((xs ++ Else ∷ (ws ++ End ∷ [])) ++ ys) ++ zs ≡ xs ++ Else ∷ (ws ++ End ∷ (ys ++ zs))
regroup_else xs ws ys zs =
    append_assoc (xs ++ Else ∷ (ws ++ End ∷ [])) ys zs
    ∙ append_assoc xs (Else ∷ (ws ++ End ∷ [])) (ys ++ zs)
    ∙ ap (λ l. xs ++ Else ∷ l) (append_assoc ws (End ∷ []) (ys ++ zs))

-- what a construct without operands leaves
given : (t : Option NumType) (S : List NumType → Type 0) (a m : List NumType) → S a → Takes [] (list_of t) a m → Pushed t S m
given t S a m s k = (k.0, k.2, subst S k.1 s)

-- a construct that is closed, and the code behind it
after_end : (c : Context) (r : Option NumType) (E : List Instr → Type 0) (S : List NumType → Type 0) (Next : List Instr → Type 0) (t : Option NumType) → ((rest : List Instr) → Level c r E (Pushed t S) rest → Next rest) → (code : Code) (m : List NumType) (rest : List Instr) → Pushed t S m → Types c code m (list_of r) → E rest → Closing Next (End ∷ (flat code ++ rest))
after_end c r E S Next t next code m rest s types x = (flat code ++ rest, refl, next (flat code ++ rest) (code, m, rest, refl, s, types, x))

block_code : (c : Context) (r : Option NumType) (E : List Instr → Type 0) (S : List NumType → Type 0) (Next : List Instr → Type 0) (t : Option NumType) (is : List Instr) → (E (Block t ∷ is) → ⊥) → ((rest : List Instr) → Level c r E (Pushed t S) rest → Next rest) → (code : Code) (a : List NumType) (rest : List Instr) → Block t ∷ is ≡ flat code ++ rest → S a → Types c code a (list_of r) → E rest → Level (inside c t) t (Closing Next) IsEmpty is
block_code c r E S Next t is never next Nothing a rest e s h x = absurd (never (subst E (sym e) x))
block_code c r E S Next t is never next (Then (Plain j) code) a rest e s h x = absurd (subst (λ k. IsPlain c k a h.0) (sym (head_same (Block t) j is (flat code ++ rest) e)) h.1)
block_code c r E S Next t is never next (Then (InBlock u d) code) a rest e s h x =
    let tail : List Instr = ((flat d ++ End ∷ []) ++ flat code) ++ rest in
    let same : u ≡ t = same_block t u (head_same (Block t) (Block u) is tail e) in
    let pushed : Pushed t S h.0 = given t S a h.0 s (subst (λ v. Takes [] (list_of v) a h.0) same h.1.1) in
    (d, [], End ∷ (flat code ++ rest), tail_same (Block t) (Block u) is tail e ∙ regroup (flat d) End (flat code) rest, refl, subst (λ v. Types (inside c v) d [] (list_of v)) same h.1.0, after_end c r E S Next t next code h.0 rest pushed h.2 x)
block_code c r E S Next t is never next (Then (InLoop u d) code) a rest e s h x = absurd (block_loop t u (head_same (Block t) (Loop u) is (((flat d ++ End ∷ []) ++ flat code) ++ rest) e))
block_code c r E S Next t is never next (Then (InIf u d) code) a rest e s h x = absurd (block_if t u (head_same (Block t) (If u) is (((flat d ++ End ∷ []) ++ flat code) ++ rest) e))
block_code c r E S Next t is never next (Then (InIfElse u d g) code) a rest e s h x = absurd (block_if t u (head_same (Block t) (If u) is (((flat d ++ Else ∷ (flat g ++ End ∷ [])) ++ flat code) ++ rest) e))

loop_code : (c : Context) (r : Option NumType) (E : List Instr → Type 0) (S : List NumType → Type 0) (Next : List Instr → Type 0) (t : Option NumType) (is : List Instr) → (E (Loop t ∷ is) → ⊥) → ((rest : List Instr) → Level c r E (Pushed t S) rest → Next rest) → (code : Code) (a : List NumType) (rest : List Instr) → Loop t ∷ is ≡ flat code ++ rest → S a → Types c code a (list_of r) → E rest → Level (inside c None) t (Closing Next) IsEmpty is
loop_code c r E S Next t is never next Nothing a rest e s h x = absurd (never (subst E (sym e) x))
loop_code c r E S Next t is never next (Then (Plain j) code) a rest e s h x = absurd (subst (λ k. IsPlain c k a h.0) (sym (head_same (Loop t) j is (flat code ++ rest) e)) h.1)
loop_code c r E S Next t is never next (Then (InLoop u d) code) a rest e s h x =
    let tail : List Instr = ((flat d ++ End ∷ []) ++ flat code) ++ rest in
    let same : u ≡ t = same_loop t u (head_same (Loop t) (Loop u) is tail e) in
    let pushed : Pushed t S h.0 = given t S a h.0 s (subst (λ v. Takes [] (list_of v) a h.0) same h.1.1) in
    (d, [], End ∷ (flat code ++ rest), tail_same (Loop t) (Loop u) is tail e ∙ regroup (flat d) End (flat code) rest, refl, subst (λ v. Types (inside c None) d [] (list_of v)) same h.1.0, after_end c r E S Next t next code h.0 rest pushed h.2 x)
loop_code c r E S Next t is never next (Then (InBlock u d) code) a rest e s h x = absurd (block_loop u t (sym (head_same (Loop t) (Block u) is (((flat d ++ End ∷ []) ++ flat code) ++ rest) e)))
loop_code c r E S Next t is never next (Then (InIf u d) code) a rest e s h x = absurd (loop_if t u (head_same (Loop t) (If u) is (((flat d ++ End ∷ []) ++ flat code) ++ rest) e))
loop_code c r E S Next t is never next (Then (InIfElse u d g) code) a rest e s h x = absurd (loop_if t u (head_same (Loop t) (If u) is (((flat d ++ Else ∷ (flat g ++ End ∷ [])) ++ flat code) ++ rest) e))

-- the stacks below an i32
abbrev pub Below : (List NumType → Type 0) → List NumType → Type 0
Below S b = S (I32 ∷ b)

-- what an if leaves
branched : (t : Option NumType) (S : List NumType → Type 0) (a m : List NumType) → S a → Takes (I32 ∷ []) (list_of t) a m → Pushed t (Below S) m
branched t S a m s k = (k.0, k.2, subst S k.1 s)

if_code : (c : Context) (r : Option NumType) (E : List Instr → Type 0) (S : List NumType → Type 0) (Next : List Instr → Type 0) (t : Option NumType) (is : List Instr) → (E (If t ∷ is) → ⊥) → ((rest : List Instr) → Level c r E (Pushed t (Below S)) rest → Next rest) → (code : Code) (a : List NumType) (rest : List Instr) → If t ∷ is ≡ flat code ++ rest → S a → Types c code a (list_of r) → E rest → Level (inside c t) t (Ending FirstBranch (inside c t) t Next) IsEmpty is
if_code c r E S Next t is never next Nothing a rest e s h x = absurd (never (subst E (sym e) x))
if_code c r E S Next t is never next (Then (Plain j) code) a rest e s h x = absurd (subst (λ k. IsPlain c k a h.0) (sym (head_same (If t) j is (flat code ++ rest) e)) h.1)
if_code c r E S Next t is never next (Then (InBlock u d) code) a rest e s h x = absurd (block_if u t (sym (head_same (If t) (Block u) is (((flat d ++ End ∷ []) ++ flat code) ++ rest) e)))
if_code c r E S Next t is never next (Then (InLoop u d) code) a rest e s h x = absurd (loop_if u t (sym (head_same (If t) (Loop u) is (((flat d ++ End ∷ []) ++ flat code) ++ rest) e)))
if_code c r E S Next t is never next (Then (InIf u d) code) a rest e s h x =
    let tail : List Instr = ((flat d ++ End ∷ []) ++ flat code) ++ rest in
    let none : t ≡ None = sym (same_if t u (head_same (If t) (If u) is tail e)) ∙ h.1.0 in
    let pushed : Pushed t (Below S) h.0 = branched t S a h.0 s (subst (λ v. Takes (I32 ∷ []) (list_of v) a h.0) (sym none) h.1.2) in
    (d, [], End ∷ (flat code ++ rest), tail_same (If t) (If u) is tail e ∙ regroup (flat d) End (flat code) rest, refl, subst (λ v. Types (inside c v) d [] (list_of v)) (sym none) h.1.1, inl (none, after_end c r E (Below S) Next t next code h.0 rest pushed h.2 x))
if_code c r E S Next t is never next (Then (InIfElse u d g) code) a rest e s h x =
    let tail : List Instr = ((flat d ++ Else ∷ (flat g ++ End ∷ [])) ++ flat code) ++ rest in
    let same : u ≡ t = same_if t u (head_same (If t) (If u) is tail e) in
    let pushed : Pushed t (Below S) h.0 = branched t S a h.0 s (subst (λ v. Takes (I32 ∷ []) (list_of v) a h.0) same h.1.2) in
    let second : Level (inside c t) t (Closing Next) IsEmpty (flat g ++ End ∷ (flat code ++ rest)) = (g, [], End ∷ (flat code ++ rest), refl, refl, subst (λ v. Types (inside c v) g [] (list_of v)) same h.1.1, after_end c r E (Below S) Next t next code h.0 rest pushed h.2 x) in
    (d, [], Else ∷ (flat g ++ End ∷ (flat code ++ rest)), tail_same (If t) (If u) is tail e ∙ regroup_else (flat d) (flat g) (flat code) rest, refl, subst (λ v. Types (inside c v) d [] (list_of v)) same h.1.0, inr (flat g ++ End ∷ (flat code ++ rest), refl, second))

-- an if needs its operand
needed : (c : Context) (r : Option NumType) (E : List Instr → Type 0) (S : List NumType → Type 0) (t : Option NumType) (is : List Instr) → (E (If t ∷ is) → ⊥) → (code : Code) (a : List NumType) (rest : List Instr) → If t ∷ is ≡ flat code ++ rest → S a → Types c code a (list_of r) → E rest → (b : List NumType) × Below S b
needed c r E S t is never Nothing a rest e s h x = absurd (never (subst E (sym e) x))
needed c r E S t is never (Then (Plain j) code) a rest e s h x = absurd (subst (λ k. IsPlain c k a h.0) (sym (head_same (If t) j is (flat code ++ rest) e)) h.1)
needed c r E S t is never (Then (InBlock u d) code) a rest e s h x = absurd (block_if u t (sym (head_same (If t) (Block u) is (((flat d ++ End ∷ []) ++ flat code) ++ rest) e)))
needed c r E S t is never (Then (InLoop u d) code) a rest e s h x = absurd (loop_if u t (sym (head_same (If t) (Loop u) is (((flat d ++ End ∷ []) ++ flat code) ++ rest) e)))
needed c r E S t is never (Then (InIf u d) code) a rest e s h x = (h.1.2.0, subst S h.1.2.1 s)
needed c r E S t is never (Then (InIfElse u d g) code) a rest e s h x = (h.1.2.0, subst S h.1.2.1 s)

pub if_needs : (c : Context) (r : Option NumType) (E : List Instr → Type 0) (S : List NumType → Type 0) (t : Option NumType) (is : List Instr) → (E (If t ∷ is) → ⊥) → Level c r E S (If t ∷ is) → (b : List NumType) × Below S b
if_needs c r E S t is never h = needed c r E S t is never h.0 h.1 h.2 h.3 h.4 h.5 h.6

-- ---- the other way

-- the instructions of a construct with one part
written : (d code : Code) (is rest front after : List Instr) → is ≡ flat d ++ front → front ≡ End ∷ after → after ≡ flat code ++ rest → is ≡ ((flat d ++ End ∷ []) ++ flat code) ++ rest
written d code is rest front after e f g = e ∙ ap (λ l. flat d ++ l) (f ∙ ap (λ l. End ∷ l) g) ∙ sym (regroup (flat d) End (flat code) rest)

block_back : (c : Context) (r : Option NumType) (E : List Instr → Type 0) (S : List NumType → Type 0) (Next : List Instr → Type 0) (t : Option NumType) (is : List Instr) → ((rest : List Instr) → Next rest → Level c r E (Pushed t S) rest) → Level (inside c t) t (Closing Next) IsEmpty is → Level c r E S (Block t ∷ is)
block_back c r E S Next t is back h =
    let b = back h.6.0 h.6.2 in
    let typed : Types (inside c t) h.0 [] (list_of t) = subst (λ a. Types (inside c t) h.0 a (list_of t)) h.4 h.5 in
    (Then (InBlock t h.0) b.0, b.4.0, b.2, ap (λ l. Block t ∷ l) (written h.0 b.0 is b.2 h.2 h.6.0 h.3 h.6.1 b.3), b.4.2, (b.1, (typed, (b.4.0, refl, b.4.1)), b.5), b.6)

loop_back : (c : Context) (r : Option NumType) (E : List Instr → Type 0) (S : List NumType → Type 0) (Next : List Instr → Type 0) (t : Option NumType) (is : List Instr) → ((rest : List Instr) → Next rest → Level c r E (Pushed t S) rest) → Level (inside c None) t (Closing Next) IsEmpty is → Level c r E S (Loop t ∷ is)
loop_back c r E S Next t is back h =
    let b = back h.6.0 h.6.2 in
    let typed : Types (inside c None) h.0 [] (list_of t) = subst (λ a. Types (inside c None) h.0 a (list_of t)) h.4 h.5 in
    (Then (InLoop t h.0) b.0, b.4.0, b.2, ap (λ l. Loop t ∷ l) (written h.0 b.0 is b.2 h.2 h.6.0 h.3 h.6.1 b.3), b.4.2, (b.1, (typed, (b.4.0, refl, b.4.1)), b.5), b.6)

if_end : (c : Context) (r : Option NumType) (E : List Instr → Type 0) (S : List NumType → Type 0) (Next : List Instr → Type 0) (t : Option NumType) (is : List Instr) → ((rest : List Instr) → Next rest → Level c r E (Pushed t (Below S)) rest) → (d : Code) (front : List Instr) → is ≡ flat d ++ front → Types (inside c t) d [] (list_of t) → Ending FirstBranch (inside c t) t Next front → Level c r E S (If t ∷ is)
if_end c r E S Next t is back d front e typed (inl h) =
    let b = back h.1.0 h.1.2 in
    let none : t ≡ None = h.0 in
    let takes : Takes (I32 ∷ []) (list_of t) (I32 ∷ b.4.0) b.1 = (b.4.0, refl, b.4.1) in
    (Then (InIf t d) b.0, I32 ∷ b.4.0, b.2, ap (λ l. If t ∷ l) (written d b.0 is b.2 front h.1.0 e h.1.1 b.3), b.4.2, (b.1, (none, subst (λ v. Types (inside c v) d [] (list_of v)) none typed, subst (λ v. Takes (I32 ∷ []) (list_of v) (I32 ∷ b.4.0) b.1) none takes), b.5), b.6)
if_end c r E S Next t is back d front e typed (inr h) =
    let g = h.2.0 in
    let last = h.2.6 in
    let b = back last.0 last.2 in
    let second : Types (inside c t) g [] (list_of t) = subst (λ a. Types (inside c t) g a (list_of t)) h.2.4 h.2.5 in
    let tail : h.0 ≡ flat g ++ End ∷ (flat b.0 ++ b.2) = h.2.3 ∙ ap (λ l. flat g ++ l) (last.1 ∙ ap (λ l. End ∷ l) b.3) in
    let instrs : is ≡ ((flat d ++ Else ∷ (flat g ++ End ∷ [])) ++ flat b.0) ++ b.2 = e ∙ ap (λ l. flat d ++ l) (h.1 ∙ ap (λ l. Else ∷ l) tail) ∙ sym (regroup_else (flat d) (flat g) (flat b.0) b.2) in
    (Then (InIfElse t d g) b.0, I32 ∷ b.4.0, b.2, ap (λ l. If t ∷ l) instrs, b.4.2, (b.1, (typed, second, (b.4.0, refl, b.4.1)), b.5), b.6)

-- ---- both ways

pub block_level : (c : Context) (r : Option NumType) (E : List Instr → Type 0) (S : List NumType → Type 0) (Next : List Instr → Type 0) (t : Option NumType) (is : List Instr) → (E (Block t ∷ is) → ⊥) → ((rest : List Instr) → Level c r E (Pushed t S) rest ↔ Next rest) → Level c r E S (Block t ∷ is) ↔ Level (inside c t) t (Closing Next) IsEmpty is
block_level c r E S Next t is never next = (λ h. block_code c r E S Next t is never (λ rest. (next rest).0) h.0 h.1 h.2 h.3 h.4 h.5 h.6, λ h. block_back c r E S Next t is (λ rest. (next rest).1) h)

pub loop_level : (c : Context) (r : Option NumType) (E : List Instr → Type 0) (S : List NumType → Type 0) (Next : List Instr → Type 0) (t : Option NumType) (is : List Instr) → (E (Loop t ∷ is) → ⊥) → ((rest : List Instr) → Level c r E (Pushed t S) rest ↔ Next rest) → Level c r E S (Loop t ∷ is) ↔ Level (inside c None) t (Closing Next) IsEmpty is
loop_level c r E S Next t is never next = (λ h. loop_code c r E S Next t is never (λ rest. (next rest).0) h.0 h.1 h.2 h.3 h.4 h.5 h.6, λ h. loop_back c r E S Next t is (λ rest. (next rest).1) h)

pub if_level : (c : Context) (r : Option NumType) (E : List Instr → Type 0) (S : List NumType → Type 0) (Next : List Instr → Type 0) (t : Option NumType) (is : List Instr) → (E (If t ∷ is) → ⊥) → ((rest : List Instr) → Level c r E (Pushed t (Below S)) rest ↔ Next rest) → Level c r E S (If t ∷ is) ↔ Level (inside c t) t (Ending FirstBranch (inside c t) t Next) IsEmpty is
if_level c r E S Next t is never next = (λ h. if_code c r E S Next t is never (λ rest. (next rest).0) h.0 h.1 h.2 h.3 h.4 h.5 h.6, λ h. if_end c r E S Next t is (λ rest. (next rest).1) h.0 h.2 h.3 (subst (λ a. Types (inside c t) h.0 a (list_of t)) h.4 h.5) h.6)
