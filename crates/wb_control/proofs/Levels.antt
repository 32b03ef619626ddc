-- Levels of code before and behind an instruction, and the labels that they are.
use Rattle.std.proofs.Common.{◌≡◌, ℕ, zero, suc, List, [], ◌∷◌, length, drop, refl, sym, ap, subst, ◌∙◌}
use Rattle.std.specs.Prelude.{Option, Some, None, slice_get}
use Rattle.wb_syntax.specs.declared.syntax.NumType.{NumType}
use Rattle.wb_syntax.specs.declared.syntax.Instr.{Instr}
use Rattle.wb_syntax.specs.declared.syntax.Instr.TheVariants.{Block, Loop, If, Else, End}
use Rattle.wb_syntax.specs.Syntax.{Nested, Plain, InBlock, InLoop, InIf, InIfElse, Code, Nothing, Then}
use Rattle.wb_syntax.specs.Nesting.{Level, put, put_around, put_if, put_else, put_instr, put_before, levels}
use Rattle.wb_syntax.specs.Execute.{Word, Label as Opened}
use Rattle.wb_syntax.specs.declared.syntax.Func.{Func}
use Rattle.wb_syntax.specs.declared.syntax.Module.{Module}
use Rattle.wb_control.specs.Piles.{Label, Place}
use Rattle.wb_control.specs.Stands.{Open, IsInside}

none_some : {A : Type 0} (x : A) → None ≡ Some x → ⊥
none_some x e = cc

pub some_same : {A : Type 0} (x y : A) → Some x ≡ Some y → x ≡ y
some_same x y e = cc

-- what stands behind an instruction could be read where it could
read_behind : (i : Instr) (o : Option (List Level)) (ls : List Level) → put_before i o ≡ Some ls → (ks : List Level) × (o ≡ Some ks) × (put_instr i ks ≡ Some ls)
read_behind i None ls e = absurd (none_some ls e)
read_behind i (Some ks) ls e = (ks, refl, e)

pub behind : (b rest : List Instr) (at : ℕ) (i : Instr) (ls : List Level) → drop at b ≡ i ∷ rest → levels (drop at b) ≡ Some ls → (ks : List Level) × (levels rest ≡ Some ks) × (put_instr i ks ≡ Some ls)
behind b rest at i ls d e = read_behind i (levels rest) ls (sym (ap levels d) ∙ e)

-- the levels behind an instruction that is put before them: the innermost has it no more, the others are the same
pub record IsPut (i : Nested) (ls ks : List Level) : Type 0 where
  pub first : Level
  pub others : List Level
  pub behind : ks ≡ first ∷ others
  pub before : ls ≡ record first { code = Then i first.code } ∷ others

pub put_is : (i : Nested) (ks ls : List Level) → put i ks ≡ Some ls → IsPut i ls ks
put_is i [] ls e = absurd (none_some ls e)
put_is i (k ∷ ks) ls e = record { first = k; others = ks; behind = refl; before = sym (some_same (record k { code = Then i k.code } ∷ ks) ls e) }

-- other code at the innermost level
pub recoded : (b : List Instr) (l : Level) (ls : List Level) (own : List Label) (code new : Code) (labels : List Opened) (under tail : List Word) → Open b (l ∷ ls) own code labels under tail → Open b (record l { code = new } ∷ ls) own new labels under tail
recoded b l [] [] code new [] under tail h = (refl, h.1, h.2)
recoded b l (k ∷ ls) (a ∷ rs) code new (o ∷ os) under tail h = (refl, h.1)
recoded b l [] [] code new (o ∷ os) under tail h = absurd h
recoded b l [] (a ∷ rs) code new os under tail h = absurd h
recoded b l (k ∷ ls) [] code new os under tail h = absurd h
recoded b l (k ∷ ls) (a ∷ rs) code new [] under tail h = absurd h

-- the innermost level is the code
pub its_code : (b : List Instr) (l : Level) (ls : List Level) (own : List Label) (code : Code) (labels : List Opened) (under tail : List Word) → Open b (l ∷ ls) own code labels under tail → l.code ≡ code
its_code b l [] [] code [] under tail h = h.0
its_code b l (k ∷ ls) (a ∷ rs) code (o ∷ os) under tail h = h.0
its_code b l [] [] code (o ∷ os) under tail h = absurd h
its_code b l [] (a ∷ rs) code os under tail h = absurd h
its_code b l (k ∷ ls) [] code os under tail h = absurd h
its_code b l (k ∷ ls) (a ∷ rs) code [] under tail h = absurd h

-- ---- the place of an instruction

-- a place of a body has this code, with these labels open
pub record IsAt (b : List Instr) (at : ℕ) (own : List Label) (code : Code) (labels : List Opened) (under tail : List Word) : Type 0 where
  pub there : List Level
  pub here : levels (drop at b) ≡ Some there
  pub opens : Open b there own code labels under tail

pub at_func : (m : Module) (p : Place) (f : Func) (own : List Label) (code : Code) (labels : List Opened) (under tail : List Word) → slice_get m.funcs p.func ≡ Some f → IsInside m p own code labels under tail → IsAt f.body p.at own code labels under tail
at_func m p f own code labels under tail e h =
    let s : h.func ≡ f = some_same h.func f (sym h.named ∙ e) in
    let P : Func → Type 0 = λ g. IsAt g.body p.at own code labels under tail in
    subst P s (record { there = h.there; here = h.here; opens = h.opens })

pub in_func : (m : Module) (p : Place) (f : Func) (own : List Label) (code : Code) (labels : List Opened) (under tail : List Word) → slice_get m.funcs p.func ≡ Some f → p.bottom ≡ length tail → IsAt f.body p.at own code labels under tail → IsInside m p own code labels under tail
in_func m p f own code labels under tail e b h = record { func = f; named = e; there = h.there; here = h.here; opens = h.opens; bottom = b }

-- the instruction at an index, and what stands behind it
pub dropped : {A : Type 0} (xs : List A) (n : ℕ) (x : A) → slice_get xs n ≡ Some x → drop n xs ≡ x ∷ drop (suc n) xs
dropped [] n x e = absurd (none_some x e)
dropped (y ∷ ys) zero x e = ap (λ z. z ∷ ys) (some_same y x e)
dropped (y ∷ ys) (suc n) x e = dropped ys n x e

-- the levels behind the instruction at a place
pub record IsRead (b : List Instr) (at : ℕ) (i : Instr) (own : List Label) (code : Code) (labels : List Opened) (under tail : List Word) : Type 0 where
  pub there : List Level
  pub behind : List Level
  pub here : levels (drop at b) ≡ Some there
  pub after : levels (drop (suc at) b) ≡ Some behind
  pub put : put_instr i behind ≡ Some there
  pub opens : Open b there own code labels under tail

pub read : (b : List Instr) (at : ℕ) (i : Instr) (own : List Label) (code : Code) (labels : List Opened) (under tail : List Word) → slice_get b at ≡ Some i → IsAt b at own code labels under tail → IsRead b at i own code labels under tail
read b at i own code labels under tail e h =
    let r = behind b (drop (suc at) b) at i h.there (dropped b at i e) h.here in
    record { there = h.there; behind = r.0; here = h.here; after = r.1; put = r.2; opens = h.opens }

-- ---- an instruction that is no construct

-- the code at a place is an instruction and the code behind it
pub record GoesOn (b : List Instr) (at : ℕ) (i : Instr) (own : List Label) (code : Code) (labels : List Opened) (under tail : List Word) : Type 0 where
  pub rest : Code
  pub is : code ≡ Then (Plain i) rest
  pub next : IsAt b (suc at) own rest labels under tail

pub goes_on : (b : List Instr) (at : ℕ) (i : Instr) (own : List Label) (code : Code) (labels : List Opened) (under tail : List Word) → ((ks : List Level) → put_instr i ks ≡ put (Plain i) ks) → IsRead b at i own code labels under tail → GoesOn b at i own code labels under tail
goes_on b at i own code labels under tail simple h =
    let p = put_is (Plain i) h.behind h.there (sym (simple h.behind) ∙ h.put) in
    let o : Open b (record p.first { code = Then (Plain i) p.first.code } ∷ p.others) own code labels under tail = subst (λ ls. Open b ls own code labels under tail) p.before h.opens in
    record {
      rest = p.first.code;
      is = sym (its_code b (record p.first { code = Then (Plain i) p.first.code }) p.others own code labels under tail o);
      next = record {
        there = p.first ∷ p.others;
        here = h.after ∙ ap Some p.behind;
        opens = recoded b (record p.first { code = Then (Plain i) p.first.code }) p.others own code p.first.code labels under tail o;
      };
    }

-- ---- an end

-- the end of a construct or of the body: no code is left, and behind it are the levels outside
pub record IsEnd (b : List Instr) (at : ℕ) (own : List Label) (code : Code) (labels : List Opened) (under tail : List Word) : Type 0 where
  pub outside : List Level
  pub after : levels (drop (suc at) b) ≡ Some outside
  pub none : code ≡ Nothing
  pub opens : Open b (record { code = Nothing; other = None } ∷ outside) own Nothing labels under tail

pub is_end : (b : List Instr) (at : ℕ) (own : List Label) (code : Code) (labels : List Opened) (under tail : List Word) → IsRead b at End own code labels under tail → IsEnd b at own code labels under tail
is_end b at own code labels under tail h =
    let l : Level = record { code = Nothing; other = None } in
    let e : h.there ≡ l ∷ h.behind = sym (some_same (l ∷ h.behind) h.there h.put) in
    let o : Open b (l ∷ h.behind) own code labels under tail = subst (λ ls. Open b ls own code labels under tail) e h.opens in
    record {
      outside = h.behind;
      after = h.after;
      none = sym (its_code b l h.behind own code labels under tail o);
      opens = recoded b l h.behind own code Nothing labels under tail o;
    }

-- ---- an else

-- the end of the first branch of an if: no code is left, and behind it is the second branch
pub record IsElse (b : List Instr) (at : ℕ) (own : List Label) (code : Code) (labels : List Opened) (under tail : List Word) : Type 0 where
  pub second : Level
  pub outside : List Level
  pub after : levels (drop (suc at) b) ≡ Some (second ∷ outside)
  pub none : code ≡ Nothing
  pub opens : Open b (record { code = Nothing; other = Some second.code } ∷ outside) own Nothing labels under tail

else_with : (b : List Instr) (at : ℕ) (own : List Label) (code : Code) (labels : List Opened) (under tail : List Word) (ls ks : List Level) (d : Code) (o : Option Code) → levels (drop (suc at) b) ≡ Some (record { code = d; other = o } ∷ ks) → put_else (record { code = d; other = o } ∷ ks) ≡ Some ls → Open b ls own code labels under tail → IsElse b at own code labels under tail
else_with b at own code labels under tail ls ks d (Some x) a p o = absurd (none_some ls p)
else_with b at own code labels under tail ls ks d None a p o =
    let l : Level = record { code = Nothing; other = Some d } in
    let e : ls ≡ l ∷ ks = sym (some_same (l ∷ ks) ls p) in
    let q : Open b (l ∷ ks) own code labels under tail = subst (λ xs. Open b xs own code labels under tail) e o in
    record {
      second = record { code = d; other = None };
      outside = ks;
      after = a;
      none = sym (its_code b l ks own code labels under tail q);
      opens = recoded b l ks own code Nothing labels under tail q;
    }

else_of : (b : List Instr) (at : ℕ) (own : List Label) (code : Code) (labels : List Opened) (under tail : List Word) (ls ks : List Level) → levels (drop (suc at) b) ≡ Some ks → put_else ks ≡ Some ls → Open b ls own code labels under tail → IsElse b at own code labels under tail
else_of b at own code labels under tail ls [] a p o = absurd (none_some ls p)
else_of b at own code labels under tail ls (k ∷ ks) a p o = else_with b at own code labels under tail ls ks k.code k.other a p o

pub is_else : (b : List Instr) (at : ℕ) (own : List Label) (code : Code) (labels : List Opened) (under tail : List Word) → IsRead b at Else own code labels under tail → IsElse b at own code labels under tail
is_else b at own code labels under tail h = else_of b at own code labels under tail h.there h.behind h.after h.put h.opens

-- ---- a construct

-- a construct before the code behind it: what it holds, its second branch where it has one, and the levels outside
pub record Begins (b : List Instr) (at : ℕ) (i : Nested) (inner : Level) (own : List Label) (code : Code) (labels : List Opened) (under tail : List Word) : Type 0 where
  pub first : Level
  pub others : List Level
  pub after : levels (drop (suc at) b) ≡ Some (inner ∷ first ∷ others)
  pub here : levels (drop at b) ≡ Some (record first { code = Then i first.code } ∷ others)
  pub is : code ≡ Then i first.code
  pub opens : Open b (first ∷ others) own first.code labels under tail

begins : (b : List Instr) (at : ℕ) (i : Nested) (inner : Level) (own : List Label) (code : Code) (labels : List Opened) (under tail : List Word) (ls ks : List Level) → levels (drop at b) ≡ Some ls → levels (drop (suc at) b) ≡ Some (inner ∷ ks) → put i ks ≡ Some ls → Open b ls own code labels under tail → Begins b at i inner own code labels under tail
begins b at i inner own code labels under tail ls ks here after p o =
    let q = put_is i ks ls p in
    let l : Level = record q.first { code = Then i q.first.code } in
    let e : Open b (l ∷ q.others) own code labels under tail = subst (λ xs. Open b xs own code labels under tail) q.before o in
    record {
      first = q.first;
      others = q.others;
      after = after ∙ ap (λ xs. Some (inner ∷ xs)) q.behind;
      here = here ∙ ap Some q.before;
      is = sym (its_code b l q.others own code labels under tail e);
      opens = recoded b l q.others own code q.first.code labels under tail e;
    }

around_with : (b : List Instr) (at : ℕ) (make : Code → Nested) (own : List Label) (code : Code) (labels : List Opened) (under tail : List Word) (ls ks : List Level) (d : Code) (x : Option Code) → levels (drop at b) ≡ Some ls → levels (drop (suc at) b) ≡ Some (record { code = d; other = x } ∷ ks) → put_around make (record { code = d; other = x } ∷ ks) ≡ Some ls → Open b ls own code labels under tail → (inner : Code) × Begins b at (make inner) (record { code = inner; other = None }) own code labels under tail
around_with b at make own code labels under tail ls ks d (Some x) here after p o = absurd (none_some ls p)
around_with b at make own code labels under tail ls ks d None here after p o =
    (d, begins b at (make d) (record { code = d; other = None }) own code labels under tail ls ks here after p o)

around : (b : List Instr) (at : ℕ) (make : Code → Nested) (own : List Label) (code : Code) (labels : List Opened) (under tail : List Word) (ls ks : List Level) → levels (drop at b) ≡ Some ls → levels (drop (suc at) b) ≡ Some ks → put_around make ks ≡ Some ls → Open b ls own code labels under tail → (inner : Code) × Begins b at (make inner) (record { code = inner; other = None }) own code labels under tail
around b at make own code labels under tail ls [] here after p o = absurd (none_some ls p)
around b at make own code labels under tail ls (k ∷ ks) here after p o = around_with b at make own code labels under tail ls ks k.code k.other here after p o

pub is_block : (b : List Instr) (at : ℕ) (t : Option NumType) (own : List Label) (code : Code) (labels : List Opened) (under tail : List Word) → IsRead b at (Block t) own code labels under tail → (inner : Code) × Begins b at (InBlock t inner) (record { code = inner; other = None }) own code labels under tail
is_block b at t own code labels under tail h = around b at (InBlock t) own code labels under tail h.there h.behind h.here h.after h.put h.opens

pub is_loop : (b : List Instr) (at : ℕ) (t : Option NumType) (own : List Label) (code : Code) (labels : List Opened) (under tail : List Word) → IsRead b at (Loop t) own code labels under tail → (inner : Code) × Begins b at (InLoop t inner) (record { code = inner; other = None }) own code labels under tail
is_loop b at t own code labels under tail h = around b at (InLoop t) own code labels under tail h.there h.behind h.here h.after h.put h.opens

-- an if with or without a second branch
abbrev pub if_of : Option NumType → Code → Option Code → Nested
if_of t c None = InIf t c
if_of t c (Some d) = InIfElse t c d

if_with : (b : List Instr) (at : ℕ) (t : Option NumType) (own : List Label) (code : Code) (labels : List Opened) (under tail : List Word) (ls ks : List Level) (c : Code) (x : Option Code) → levels (drop at b) ≡ Some ls → levels (drop (suc at) b) ≡ Some (record { code = c; other = x } ∷ ks) → put_if t (record { code = c; other = x } ∷ ks) ≡ Some ls → Open b ls own code labels under tail → (inner : Level) × Begins b at (if_of t inner.code inner.other) inner own code labels under tail
if_with b at t own code labels under tail ls ks c None here after p o =
    (record { code = c; other = None }, begins b at (InIf t c) (record { code = c; other = None }) own code labels under tail ls ks here after p o)
if_with b at t own code labels under tail ls ks c (Some d) here after p o =
    (record { code = c; other = Some d }, begins b at (InIfElse t c d) (record { code = c; other = Some d }) own code labels under tail ls ks here after p o)

if_in : (b : List Instr) (at : ℕ) (t : Option NumType) (own : List Label) (code : Code) (labels : List Opened) (under tail : List Word) (ls ks : List Level) → levels (drop at b) ≡ Some ls → levels (drop (suc at) b) ≡ Some ks → put_if t ks ≡ Some ls → Open b ls own code labels under tail → (inner : Level) × Begins b at (if_of t inner.code inner.other) inner own code labels under tail
if_in b at t own code labels under tail ls [] here after p o = absurd (none_some ls p)
if_in b at t own code labels under tail ls (k ∷ ks) here after p o = if_with b at t own code labels under tail ls ks k.code k.other here after p o

pub is_if : (b : List Instr) (at : ℕ) (t : Option NumType) (own : List Label) (code : Code) (labels : List Opened) (under tail : List Word) → IsRead b at (If t) own code labels under tail → (inner : Level) × Begins b at (if_of t inner.code inner.other) inner own code labels under tail
is_if b at t own code labels under tail h = if_in b at t own code labels under tail h.there h.behind h.here h.after h.put h.opens
