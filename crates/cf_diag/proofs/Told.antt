-- What a line tells of its refusal.
use Rattle.std.proofs.Common.{◌≡◌, ℕ, ◌+◌, ◌*◌, ◌<◌, ◌^◌, Bool, true, false, List, [], ◌∷◌, ◌++◌, get_or, codes, refl, sym, ap, ◌∙◌, subst, append_assoc, arith}
use Rattle.std.specs.Prelude.{decimal}
use Rattle.std.specs.Char.{digit_value}
use Rattle.std.specs.Str.Parse.{AllDigits}
use Rattle.std.proofs.lemmas.Fmt.{decimal_injective, decimal_is_IsNumeral}
use Rattle.std.proofs.lemmas.List.{append_cancel_left, append_cancel_right}
use Rattle.std.proofs.lemmas.Str.Parse.{digit_at}
use Rattle.cf_base.specs.declared.at.At.{At}
use Rattle.cf_base.specs.declared.limit.Limit.{Limit}
use Rattle.cf_base.specs.declared.limit.Limit.TheVariants as limit
use Rattle.wb_decode.specs.declared.ends.What.{What}
use Rattle.wb_decode.specs.declared.ends.What.TheVariants as what
use Rattle.wb_valid.specs.declared.part.Part.{Part}
use Rattle.wb_valid.specs.declared.part.Part.TheVariants as part
use Rattle.cf_diag.specs.declared.refusal.Refusal.{Refusal}
use Rattle.cf_diag.specs.declared.refusal.Refusal.TheVariants.{Arity, BadChar, Invalid, Later, Literal, Malformed, NoMain, NoMemory, NotText, Outside, ReadFault, StackFull, StepLimit, Stuck, Syntax, TooLong, TooMany, TooMuchMemory, TooNested, Twice, Unknown, Usage, WriteFault}
use Rattle.cf_diag.specs.Laws.{Fits, LinesDiffer, PartFits}
use Rattle.cf_diag.specs.Refusals.{at_text, limit_text, origin_text, part_text, what_text, words}

-- ---- places

first_digit : (n : ℕ) → n < 2 ^ 32 → get_or (decimal n) 0 0 < 58
first_digit n small =
    let d = (decimal_is_IsNumeral n (omega (arith, small))).0 in
    let r = digit_at (decimal n) 0 d.1 d.0 in
    omega (arith, r)

not_prelude : (m n : ℕ) → n < 2 ^ 32 → codes "prelude " ++ decimal m ≡ decimal n → ⊥
not_prelude m n small e = let f : 112 ≡ get_or (decimal n) 0 0 = ap (λ l. get_or l 0 0) e in absurd (omega (arith, f, first_digit n small))

places : (p q : Bool) (m n : ℕ) → m < 2 ^ 32 → n < 2 ^ 32 → origin_text p ++ decimal m ≡ origin_text q ++ decimal n → (p ≡ q) × (m ≡ n)
places true true m n a b e = (refl, decimal_injective m n (omega (arith, a)) (omega (arith, b)) (append_cancel_left (codes "prelude ") (decimal m) (decimal n) e))
places false false m n a b e = (refl, decimal_injective m n (omega (arith, a)) (omega (arith, b)) e)
places true false m n a b e = absurd (not_prelude m n b e)
places false true m n a b e = absurd (not_prelude n m a (sym e))

at_one : (a b : At) → a.offset < 2 ^ 32 → b.offset < 2 ^ 32 → at_text a ≡ at_text b → a ≡ b
at_one a b s t e =
    let r = places a.prelude b.prelude a.offset b.offset s t e in
    λ i. record { prelude = r.0 i; offset = r.1 i }

-- ---- limits

limit_one : (k l : Limit) (xs ys : List ℕ) → limit_text k ++ xs ≡ limit_text l ++ ys → k ≡ l
limit_one limit.Declarations limit.Declarations xs ys e = refl
limit_one limit.Parameters limit.Parameters xs ys e = refl
limit_one limit.Constructors limit.Constructors xs ys e = refl
limit_one limit.Fields limit.Fields xs ys e = refl
limit_one limit.Arguments limit.Arguments xs ys e = refl
limit_one k l xs ys e = absurd (omega (arith, ap (λ l. get_or l 0 0) e))

regroup : (a b c d : List ℕ) → a ++ b ++ c ++ d ≡ a ++ (b ++ (c ++ d))
regroup a b c d = append_assoc (a ++ b) c d ∙ append_assoc a b (c ++ d)

too_many : (k l : Limit) (xs ys : List ℕ) → codes "too many " ++ limit_text k ++ codes " at " ++ xs ≡ codes "too many " ++ limit_text l ++ codes " at " ++ ys → (k ≡ l) × (xs ≡ ys)
too_many k l xs ys e =
    let f = append_cancel_left (codes "too many ") (limit_text k ++ (codes " at " ++ xs)) (limit_text l ++ (codes " at " ++ ys)) (sym (regroup (codes "too many ") (limit_text k) (codes " at ") xs) ∙ e ∙ regroup (codes "too many ") (limit_text l) (codes " at ") ys) in
    let what = limit_one k l (codes " at " ++ xs) (codes " at " ++ ys) f in
    let g = f ∙ ap (λ w. limit_text w ++ (codes " at " ++ ys)) (sym what) in
    (what, append_cancel_left (codes " at ") xs ys (append_cancel_left (limit_text k) (codes " at " ++ xs) (codes " at " ++ ys) g))

-- ---- a number before something that is no digit

digits_end : (c : ℕ) (ds es xs ys : List ℕ) → (digit_value c < 10 → ⊥) → AllDigits 10 ds → AllDigits 10 es → ds ++ c ∷ xs ≡ es ++ c ∷ ys → (ds ≡ es) × (xs ≡ ys)
digits_end c [] [] xs ys stop p q e = (refl, cc)
digits_end c [] (d ∷ es) xs ys stop p q e = let f : d ≡ c = cc in absurd (stop (subst (λ x. digit_value x < 10) f q.0))
digits_end c (d ∷ ds) [] xs ys stop p q e = let f : d ≡ c = cc in absurd (stop (subst (λ x. digit_value x < 10) f p.0))
digits_end c (a ∷ ds) (b ∷ es) xs ys stop p q e =
    let f : a ≡ b = cc in
    let g : ds ++ c ∷ xs ≡ es ++ c ∷ ys = cc in
    let r = digits_end c ds es xs ys stop p.1 q.1 g in
    let s = r.0 in
    (cc, r.1)

number_then : (c m n : ℕ) (xs ys : List ℕ) → (digit_value c < 10 → ⊥) → m < 2 ^ 64 → n < 2 ^ 64 → decimal m ++ c ∷ xs ≡ decimal n ++ c ∷ ys → (m ≡ n) × (xs ≡ ys)
number_then c m n xs ys stop a b e =
    let p = (decimal_is_IsNumeral m a).0 in
    let q = (decimal_is_IsNumeral n b).0 in
    let r = digits_end c (decimal m) (decimal n) xs ys stop p.1 q.1 e in
    (decimal_injective m n a b r.0, r.1)

-- ---- modules

what_one : (k l : What) → what_text k ≡ what_text l → k ≡ l
what_one what.Import what.Import e = refl
what_one what.Table what.Table e = refl
what_one what.Start what.Start e = refl
what_one what.Element what.Element e = refl
what_one what.DataPart what.DataPart e = refl
what_one what.Float what.Float e = refl
what_one k l e = absurd (omega (arith, ap (λ l. get_or l 0 0) e))

part_one : (p q : Part) → PartFits p → PartFits q → part_text p ≡ part_text q → p ≡ q
part_one (part.FuncType m) (part.FuncType n) a b e = ap part.FuncType (decimal_injective m n (omega (arith, a)) (omega (arith, b)) (append_cancel_left (codes "function type ") _ _ e))
part_one part.Memories part.Memories a b e = refl
part_one part.MemoryLimits part.MemoryLimits a b e = refl
part_one (part.GlobalInit m) (part.GlobalInit n) a b e = ap part.GlobalInit (decimal_injective m n (omega (arith, a)) (omega (arith, b)) (append_cancel_left (codes "global ") _ _ e))
part_one (part.ExportOf m) (part.ExportOf n) a b e = ap part.ExportOf (decimal_injective m n (omega (arith, a)) (omega (arith, b)) (append_cancel_left (codes "export ") _ _ e))
part_one (part.Body m) (part.Body n) a b e = ap part.Body (decimal_injective m n (omega (arith, a)) (omega (arith, b)) (append_cancel_left (codes "body ") _ _ e))
part_one p q a b e = absurd (omega (arith, ap (λ l. get_or l 0 0) e))

outside_one : (m n : ℕ) (k l : What) → m < 2 ^ 64 → n < 2 ^ 64 → words (Outside m k) ≡ words (Outside n l) → (m ≡ n) × (k ≡ l)
outside_one m n k l a b e =
    let f = append_cancel_left (codes "outside the profile at ") _ _ (sym (regroup (codes "outside the profile at ") (decimal m) (codes ": ") (what_text k)) ∙ e ∙ regroup (codes "outside the profile at ") (decimal n) (codes ": ") (what_text l)) in
    let r = number_then 58 m n (codes " " ++ what_text k) (codes " " ++ what_text l) (λ l. absurd (omega (arith, l))) a b f in
    (r.0, what_one k l (append_cancel_left (codes " ") _ _ r.1))

arity_one : (g w h v : ℕ) → g < 2 ^ 64 → w < 2 ^ 64 → h < 2 ^ 64 → v < 2 ^ 64 → words (Arity g w) ≡ words (Arity h v) → (g ≡ h) × (w ≡ v)
arity_one g w h v a b c d e =
    let f = append_cancel_left (codes "arity ") _ _ (sym (regroup (codes "arity ") (decimal g) (codes ", wanted ") (decimal w)) ∙ e ∙ regroup (codes "arity ") (decimal h) (codes ", wanted ") (decimal v)) in
    let r = number_then 44 g h (codes " wanted " ++ decimal w) (codes " wanted " ++ decimal v) (λ l. absurd (omega (arith, l))) a c f in
    (r.0, decimal_injective w v b d (append_cancel_left (codes " wanted ") _ _ r.1))

-- a number between two texts
between : (front back : List ℕ) (m n : ℕ) → m < 2 ^ 64 → n < 2 ^ 64 → front ++ decimal m ++ back ≡ front ++ decimal n ++ back → m ≡ n
between front back m n a b e = decimal_injective m n a b (append_cancel_left front _ _ (append_cancel_right (front ++ decimal m) (front ++ decimal n) back e))

-- ---- refusals

-- the first four characters
abbrev begin : List ℕ → ℕ
begin l = ((get_or l 0 0 * 128 + get_or l 1 0) * 128 + get_or l 2 0) * 128 + get_or l 3 0

words_tell : (r s : Refusal) → Fits r → Fits s → words r ≡ words s → r ≡ s
words_tell (Usage i) (Usage j) a b e = ap Usage (decimal_injective i j (omega (arith, a)) (omega (arith, b)) (append_cancel_left (codes "usage at word ") _ _ e))
words_tell ReadFault ReadFault a b e = refl
words_tell TooLong TooLong a b e = refl
words_tell (NotText m) (NotText n) a b e = ap NotText (decimal_injective m n (omega (arith, a)) (omega (arith, b)) (append_cancel_left (codes "not text at ") _ _ e))
words_tell (BadChar m) (BadChar n) a b e = ap BadChar (decimal_injective m n (omega (arith, a)) (omega (arith, b)) (append_cancel_left (codes "bad character at ") _ _ e))
words_tell (Syntax p) (Syntax q) a b e = ap Syntax (at_one p q a b (append_cancel_left (codes "syntax at ") _ _ e))
words_tell (TooNested p) (TooNested q) a b e = ap TooNested (at_one p q a b (append_cancel_left (codes "nested too deep at ") _ _ e))
words_tell (TooMany p k) (TooMany q l) a b e =
    let r = too_many k l (at_text p) (at_text q) e in
    let at = at_one p q a b r.1 in
    λ i. TooMany (at i) (r.0 i)
words_tell (Literal p) (Literal q) a b e = ap Literal (at_one p q a b (append_cancel_left (codes "literal out of range at ") _ _ e))
words_tell (Unknown p) (Unknown q) a b e = ap Unknown (at_one p q a b (append_cancel_left (codes "unknown name at ") _ _ e))
words_tell (Twice p) (Twice q) a b e = ap Twice (at_one p q a b (append_cancel_left (codes "declared twice at ") _ _ e))
words_tell Later Later a b e = refl
words_tell (Malformed m) (Malformed n) a b e = ap Malformed (decimal_injective m n (omega (arith, a)) (omega (arith, b)) (append_cancel_left (codes "malformed at ") _ _ e))
words_tell (Outside m k) (Outside n l) a b e =
    let r = outside_one m n k l (omega (arith, a)) (omega (arith, b)) e in
    λ i. Outside (r.0 i) (r.1 i)
words_tell (Invalid p) (Invalid q) a b e = ap Invalid (part_one p q a b (append_cancel_left (codes "invalid ") _ _ e))
words_tell (TooMuchMemory m) (TooMuchMemory n) a b e = ap TooMuchMemory (between (codes "memory of ") (codes " pages") m n (omega (arith, a)) (omega (arith, b)) e)
words_tell NoMain NoMain a b e = refl
words_tell (Arity g w) (Arity h v) a b e =
    let r = arity_one g w h v (omega (arith, a.0)) (omega (arith, a.1)) (omega (arith, b.0)) (omega (arith, b.1)) e in
    λ i. Arity (r.0 i) (r.1 i)
words_tell (StepLimit m) (StepLimit n) a b e = ap StepLimit (decimal_injective m n a b (append_cancel_left (codes "step limit ") _ _ e))
words_tell (StackFull m) (StackFull n) a b e = ap StackFull (between (codes "stack full at ") (codes " words") m n (omega (arith, a)) (omega (arith, b)) e)
words_tell Stuck Stuck a b e = refl
words_tell WriteFault WriteFault a b e = refl
words_tell NoMemory NoMemory a b e = refl
words_tell r s a b e = absurd (omega (arith, ap begin e))

pub lines_differ : LinesDiffer
lines_differ r s a b e = words_tell r s a b (append_cancel_right (words r) (words s) (codes "\n") (append_cancel_left (codes "refused: ") _ _ e))
