-- Instructions that go on with typed code up to the end of a construct: what one instruction more, or a construct, makes of it.
use Rattle.std.proofs.Common.{◌≡◌, refl, sym, ap, subst, ◌⊎◌, inl, inr}
use Rattle.std.specs.Prelude.{◌↔◌, List, [], ◌∷◌, ◌++◌, Option, None}
use Rattle.wb_syntax.specs.Nesting.{flat, IsSimple}
use Rattle.wb_syntax.specs.Typing.{Context, IsPlain, Types}
use Rattle.wb_valid.specs.Syntax.{NumType, Instr, Block, Loop, If, Else, End, Plain, InBlock, InLoop, InIf, InIfElse, Code, Nothing, Then, list_of}
use Rattle.wb_valid.specs.Checking.{Kind, Whole, Repeated, FirstBranch}

-- an end, and then this
abbrev pub Closing : (List Instr → Type 0) → List Instr → Type 0
Closing Next rest = (after : List Instr) × (rest ≡ End ∷ after) × Next after

-- code from such a stack to the result, and then this
abbrev pub Level : Context → Option NumType → (List Instr → Type 0) → (List NumType → Type 0) → List Instr → Type 0
Level c r E S is = (code : Code) × (a : List NumType) × (rest : List Instr) × (is ≡ flat code ++ rest) × S a × Types c code a (list_of r) × E rest

abbrev pub IsEmpty : List NumType → Type 0
IsEmpty a = a ≡ []

-- what ends a construct: its end, or else, in an if, the second branch and its end
abbrev pub Ending : Kind → Context → Option NumType → (List Instr → Type 0) → List Instr → Type 0
Ending FirstBranch c r Next rest = ((r ≡ None) × Closing Next rest) ⊎ ((after : List Instr) × (rest ≡ Else ∷ after) × Level c r (Closing Next) IsEmpty after)
Ending _ c r Next rest = Closing Next rest

-- a result on such a stack
abbrev pub Pushed : Option NumType → (List NumType → Type 0) → List NumType → Type 0
Pushed t S m = (b : List NumType) × (m ≡ list_of t ++ b) × S b

-- ---- heads of lists

pub head_same : (i j : Instr) (is js : List Instr) → i ∷ is ≡ j ∷ js → i ≡ j
head_same i j is js e = cc

pub tail_same : (i j : Instr) (is js : List Instr) → i ∷ is ≡ j ∷ js → is ≡ js
tail_same i j is js e = cc

pub not_empty : (i : Instr) (is : List Instr) → [] ≡ i ∷ is → ⊥
not_empty i is e = cc

abbrev pub NotClosing : Instr → Type 0
NotClosing End = ⊥
NotClosing Else = ⊥
NotClosing _ = Unit {0}

abbrev pub IsClosing : Instr → Type 0
IsClosing End = Unit {0}
IsClosing Else = Unit {0}
IsClosing _ = ⊥

closing_not : (Next : List Instr → Type 0) (i : Instr) (is : List Instr) → NotClosing i → Closing Next (i ∷ is) → ⊥
closing_not Next i is p h = subst NotClosing (head_same i End is h.0 h.1) p

pub ending_not : (k : Kind) (c : Context) (r : Option NumType) (Next : List Instr → Type 0) (i : Instr) (is : List Instr) → NotClosing i → Ending k c r Next (i ∷ is) → ⊥
ending_not Whole c r Next i is p h = closing_not Next i is p h
ending_not Repeated c r Next i is p h = closing_not Next i is p h
ending_not FirstBranch c r Next i is p (inl h) = closing_not Next i is p h.1
ending_not FirstBranch c r Next i is p (inr h) = subst NotClosing (head_same i Else is h.0 h.1) p

-- ---- an instruction that is no construct

pub map_level : (c : Context) (r : Option NumType) (E : List Instr → Type 0) (S T : List NumType → Type 0) (is : List Instr) → ((a : List NumType) → S a → T a) → Level c r E S is → Level c r E T is
map_level c r E S T is f h = (h.0, h.1, h.2, h.3, f h.1 h.4, h.5, h.6)

simple_code : (c : Context) (r : Option NumType) (E : List Instr → Type 0) (S T : List NumType → Type 0) (i : Instr) (is : List Instr) → IsSimple i → (E (i ∷ is) → ⊥) → ((m : List NumType) → ((a : List NumType) × S a × IsPlain c i a m) → T m) → (code : Code) (a : List NumType) (rest : List Instr) → i ∷ is ≡ flat code ++ rest → S a → Types c code a (list_of r) → E rest → Level c r E T is
simple_code c r E S T i is p never more Nothing a rest e s t x = absurd (never (subst E (sym e) x))
simple_code c r E S T i is p never more (Then (Plain j) code) a rest e s t x =
    (code, t.0, rest, tail_same i j is (flat code ++ rest) e, more t.0 (a, s, subst (λ k. IsPlain c k a t.0) (sym (head_same i j is (flat code ++ rest) e)) t.1), t.2, x)
simple_code c r E S T i is p never more (Then (InBlock u d) code) a rest e s t x = absurd (subst IsSimple (head_same i (Block u) is (((flat d ++ End ∷ []) ++ flat code) ++ rest) e) p)
simple_code c r E S T i is p never more (Then (InLoop u d) code) a rest e s t x = absurd (subst IsSimple (head_same i (Loop u) is (((flat d ++ End ∷ []) ++ flat code) ++ rest) e) p)
simple_code c r E S T i is p never more (Then (InIf u d) code) a rest e s t x = absurd (subst IsSimple (head_same i (If u) is (((flat d ++ End ∷ []) ++ flat code) ++ rest) e) p)
simple_code c r E S T i is p never more (Then (InIfElse u d g) code) a rest e s t x = absurd (subst IsSimple (head_same i (If u) is (((flat d ++ Else ∷ (flat g ++ End ∷ [])) ++ flat code) ++ rest) e) p)

pub simple_goes : (c : Context) (r : Option NumType) (E : List Instr → Type 0) (S T : List NumType → Type 0) (i : Instr) (is : List Instr) → IsSimple i → (E (i ∷ is) → ⊥) → ((m : List NumType) → ((a : List NumType) × S a × IsPlain c i a m) → T m) → Level c r E S (i ∷ is) → Level c r E T is
simple_goes c r E S T i is p never more h = simple_code c r E S T i is p never more h.0 h.1 h.2 h.3 h.4 h.5 h.6

pub simple_back : (c : Context) (r : Option NumType) (E : List Instr → Type 0) (S T : List NumType → Type 0) (i : Instr) (is : List Instr) → ((m : List NumType) → T m → (a : List NumType) × S a × IsPlain c i a m) → Level c r E T is → Level c r E S (i ∷ is)
simple_back c r E S T i is back h = let b = back h.1 h.4 in (Then (Plain i) h.0, b.0, h.2, ap (λ l. i ∷ l) h.3, b.1, (h.1, b.2, h.5), h.6)

-- ---- an end or an else

closing_plain : (c : Context) (i : Instr) (a b : List NumType) → IsClosing i → IsPlain c i a b → ⊥
closing_plain c End a b p h = h
closing_plain c Else a b p h = h
closing_plain c i a b p h = p

end_code : (c : Context) (r : Option NumType) (E : List Instr → Type 0) (S : List NumType → Type 0) (i : Instr) (is : List Instr) → IsClosing i → (code : Code) (a : List NumType) (rest : List Instr) → i ∷ is ≡ flat code ++ rest → S a → Types c code a (list_of r) → E rest → E (i ∷ is) × S (list_of r)
end_code c r E S i is p Nothing a rest e s t x = (subst E (sym e) x, subst S t s)
end_code c r E S i is p (Then (Plain j) code) a rest e s t x = absurd (closing_plain c i a t.0 p (subst (λ k. IsPlain c k a t.0) (sym (head_same i j is (flat code ++ rest) e)) t.1))
end_code c r E S i is p (Then (InBlock u d) code) a rest e s t x = absurd (subst IsClosing (head_same i (Block u) is (((flat d ++ End ∷ []) ++ flat code) ++ rest) e) p)
end_code c r E S i is p (Then (InLoop u d) code) a rest e s t x = absurd (subst IsClosing (head_same i (Loop u) is (((flat d ++ End ∷ []) ++ flat code) ++ rest) e) p)
end_code c r E S i is p (Then (InIf u d) code) a rest e s t x = absurd (subst IsClosing (head_same i (If u) is (((flat d ++ End ∷ []) ++ flat code) ++ rest) e) p)
end_code c r E S i is p (Then (InIfElse u d g) code) a rest e s t x = absurd (subst IsClosing (head_same i (If u) is (((flat d ++ Else ∷ (flat g ++ End ∷ [])) ++ flat code) ++ rest) e) p)

pub end_level : (c : Context) (r : Option NumType) (E : List Instr → Type 0) (S : List NumType → Type 0) (i : Instr) (is : List Instr) → IsClosing i → Level c r E S (i ∷ is) ↔ (E (i ∷ is) × S (list_of r))
end_level c r E S i is p = (λ h. end_code c r E S i is p h.0 h.1 h.2 h.3 h.4 h.5 h.6, λ h. (Nothing, list_of r, i ∷ is, refl, h.1, refl, h.0))

-- ---- nothing left

empty_code : (code : Code) (rest : List Instr) → [] ≡ flat code ++ rest → [] ≡ rest
empty_code Nothing rest e = e
empty_code (Then (Plain j) code) rest e = absurd (not_empty j (flat code ++ rest) e)
empty_code (Then (InBlock u d) code) rest e = absurd (not_empty (Block u) (((flat d ++ End ∷ []) ++ flat code) ++ rest) e)
empty_code (Then (InLoop u d) code) rest e = absurd (not_empty (Loop u) (((flat d ++ End ∷ []) ++ flat code) ++ rest) e)
empty_code (Then (InIf u d) code) rest e = absurd (not_empty (If u) (((flat d ++ End ∷ []) ++ flat code) ++ rest) e)
empty_code (Then (InIfElse u d g) code) rest e = absurd (not_empty (If u) (((flat d ++ Else ∷ (flat g ++ End ∷ [])) ++ flat code) ++ rest) e)

ending_some : (k : Kind) (c : Context) (r : Option NumType) (Next : List Instr → Type 0) → Ending k c r Next [] → ⊥
ending_some Whole c r Next h = not_empty End h.0 h.1
ending_some Repeated c r Next h = not_empty End h.0 h.1
ending_some FirstBranch c r Next (inl h) = not_empty End h.1.0 h.1.1
ending_some FirstBranch c r Next (inr h) = not_empty Else h.0 h.1

pub level_some : (k : Kind) (c d : Context) (r q : Option NumType) (Next : List Instr → Type 0) (S : List NumType → Type 0) → Level c r (Ending k d q Next) S [] → ⊥
level_some k c d r q Next S h = ending_some k d q Next (subst (Ending k d q Next) (sym (empty_code h.0 h.2 h.3)) h.6)
