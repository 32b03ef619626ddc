-- A test of all token classes is a test of each.
use Rattle.cf_lex.specs.declared.keywords.Keyword.TheVariants as keyword
use Rattle.cf_lex.specs.declared.marks.Mark.TheVariants as mark
use Rattle.std.specs.Prelude.{ℕ, zero, suc, Bool, true, false, ◌&&◌, nat_eq, List, [], ◌∷◌, ◌≡◌, refl}
use mathlib.Core.Path.{ap, sym, ◌∙◌, subst}
use Rattle.std.proofs.lemmas.Bool.{eq-eqb, eqb-true}
use Rattle.cf_grammar.proofs.Logic.{left, right, clash}
use Rattle.cf_grammar.specs.declared.classes.Class.TheVariants as class
use Rattle.cf_grammar.proofs.First.{same, class_code}
use Rattle.cf_grammar.specs.declared.classes.Class.{Class}

abbrev pub classes : List Class
classes = (class.Name true) ∷ (class.Name false) ∷ (class.Whole) ∷ (class.NatLit) ∷ (class.Hole) ∷ (class.End) ∷ (class.Word keyword.Explicit) ∷ (class.Word keyword.Use) ∷ (class.Word keyword.Prelude) ∷ (class.Word keyword.Data) ∷ (class.Word keyword.Meta) ∷ (class.Word keyword.Let) ∷ (class.Word keyword.LetRec) ∷ (class.Word keyword.MetaLet) ∷ (class.Word keyword.Fn) ∷ (class.Word keyword.Case) ∷ (class.Word keyword.Of) ∷ (class.Word keyword.Fail) ∷ (class.Word keyword.Con) ∷ (class.Word keyword.Pair) ∷ (class.Word keyword.Fst) ∷ (class.Word keyword.Snd) ∷ (class.Word keyword.MetaTy) ∷ (class.Word keyword.ValTy) ∷ (class.Word keyword.CompTy) ∷ (class.Word keyword.Ty) ∷ (class.Word keyword.Pi) ∷ (class.Word keyword.Sig) ∷ (class.Word keyword.UnitTy) ∷ (class.Word keyword.Unit) ∷ (class.Word keyword.UnitRec) ∷ (class.Word keyword.BoolTy) ∷ (class.Word keyword.True) ∷ (class.Word keyword.False) ∷ (class.Word keyword.BoolRec) ∷ (class.Word keyword.NatTy) ∷ (class.Word keyword.Zero) ∷ (class.Word keyword.Suc) ∷ (class.Word keyword.NatRec) ∷ (class.Word keyword.ListTy) ∷ (class.Word keyword.Nil) ∷ (class.Word keyword.Cons) ∷ (class.Word keyword.ListRec) ∷ (class.Word keyword.V) ∷ (class.Word keyword.C) ∷ (class.Word keyword.IntTy) ∷ (class.Word keyword.Add) ∷ (class.Word keyword.Sub) ∷ (class.Word keyword.Mul) ∷ (class.Word keyword.Div) ∷ (class.Word keyword.Rem) ∷ (class.Word keyword.Eq) ∷ (class.Word keyword.Lt) ∷ (class.Word keyword.And) ∷ (class.Mark mark.OpenParen) ∷ (class.Mark mark.CloseParen) ∷ (class.Mark mark.OpenBracket) ∷ (class.Mark mark.CloseBracket) ∷ (class.Mark mark.OpenBrace) ∷ (class.Mark mark.CloseBrace) ∷ (class.Mark mark.Less) ∷ (class.Mark mark.Greater) ∷ (class.Mark mark.Tilde) ∷ (class.Mark mark.Caret) ∷ (class.Mark mark.Colon) ∷ (class.Mark mark.Becomes) ∷ (class.Mark mark.Semicolon) ∷ (class.Mark mark.Dot) ∷ (class.Mark mark.Comma) ∷ (class.Mark mark.Bar) ∷ (class.Mark mark.Arrow) ∷ (class.Mark mark.DoubleArrow) ∷ (class.Mark mark.Backslash) ∷ (class.Mark mark.At) ∷ []

abbrev pub all : (Class → Bool) → List Class → Bool
all f [] = true
all f (k ∷ ks) = f k && all f ks

-- the class at a place of a list
abbrev pub at : ℕ → List Class → Class
at n [] = class.End
at zero (k ∷ ks) = k
at (suc n) (k ∷ ks) = at n ks

abbrev pub inside : ℕ → List Class → Bool
inside n [] = false
inside zero (k ∷ ks) = true
inside (suc n) (k ∷ ks) = inside n ks

all_at : (f : Class → Bool) (n : ℕ) (ks : List Class) → inside n ks ≡ true → all f ks ≡ true → f (at n ks) ≡ true
all_at f n [] i e = clash (sym i)
all_at f zero (k ∷ ks) i e = left _ _ e
all_at f (suc n) (k ∷ ks) i e = all_at f n ks i (right _ _ e)

abbrev place : Class → ℕ
place (class.Name true) = 0
place (class.Name false) = 1
place class.Whole = 2
place class.NatLit = 3
place class.Hole = 4
place class.End = 5
place (class.Word keyword.Explicit) = 6
place (class.Word keyword.Use) = 7
place (class.Word keyword.Prelude) = 8
place (class.Word keyword.Data) = 9
place (class.Word keyword.Meta) = 10
place (class.Word keyword.Let) = 11
place (class.Word keyword.LetRec) = 12
place (class.Word keyword.MetaLet) = 13
place (class.Word keyword.Fn) = 14
place (class.Word keyword.Case) = 15
place (class.Word keyword.Of) = 16
place (class.Word keyword.Fail) = 17
place (class.Word keyword.Con) = 18
place (class.Word keyword.Pair) = 19
place (class.Word keyword.Fst) = 20
place (class.Word keyword.Snd) = 21
place (class.Word keyword.MetaTy) = 22
place (class.Word keyword.ValTy) = 23
place (class.Word keyword.CompTy) = 24
place (class.Word keyword.Ty) = 25
place (class.Word keyword.Pi) = 26
place (class.Word keyword.Sig) = 27
place (class.Word keyword.UnitTy) = 28
place (class.Word keyword.Unit) = 29
place (class.Word keyword.UnitRec) = 30
place (class.Word keyword.BoolTy) = 31
place (class.Word keyword.True) = 32
place (class.Word keyword.False) = 33
place (class.Word keyword.BoolRec) = 34
place (class.Word keyword.NatTy) = 35
place (class.Word keyword.Zero) = 36
place (class.Word keyword.Suc) = 37
place (class.Word keyword.NatRec) = 38
place (class.Word keyword.ListTy) = 39
place (class.Word keyword.Nil) = 40
place (class.Word keyword.Cons) = 41
place (class.Word keyword.ListRec) = 42
place (class.Word keyword.V) = 43
place (class.Word keyword.C) = 44
place (class.Word keyword.IntTy) = 45
place (class.Word keyword.Add) = 46
place (class.Word keyword.Sub) = 47
place (class.Word keyword.Mul) = 48
place (class.Word keyword.Div) = 49
place (class.Word keyword.Rem) = 50
place (class.Word keyword.Eq) = 51
place (class.Word keyword.Lt) = 52
place (class.Word keyword.And) = 53
place (class.Mark mark.OpenParen) = 54
place (class.Mark mark.CloseParen) = 55
place (class.Mark mark.OpenBracket) = 56
place (class.Mark mark.CloseBracket) = 57
place (class.Mark mark.OpenBrace) = 58
place (class.Mark mark.CloseBrace) = 59
place (class.Mark mark.Less) = 60
place (class.Mark mark.Greater) = 61
place (class.Mark mark.Tilde) = 62
place (class.Mark mark.Caret) = 63
place (class.Mark mark.Colon) = 64
place (class.Mark mark.Becomes) = 65
place (class.Mark mark.Semicolon) = 66
place (class.Mark mark.Dot) = 67
place (class.Mark mark.Comma) = 68
place (class.Mark mark.Bar) = 69
place (class.Mark mark.Arrow) = 70
place (class.Mark mark.DoubleArrow) = 71
place (class.Mark mark.Backslash) = 72
place (class.Mark mark.At) = 73

place_at : (k : Class) → at (place k) classes ≡ k
place_at (class.Name true) = refl
place_at (class.Name false) = refl
place_at class.Whole = refl
place_at class.NatLit = refl
place_at class.Hole = refl
place_at class.End = refl
place_at (class.Word keyword.Explicit) = refl
place_at (class.Word keyword.Use) = refl
place_at (class.Word keyword.Prelude) = refl
place_at (class.Word keyword.Data) = refl
place_at (class.Word keyword.Meta) = refl
place_at (class.Word keyword.Let) = refl
place_at (class.Word keyword.LetRec) = refl
place_at (class.Word keyword.MetaLet) = refl
place_at (class.Word keyword.Fn) = refl
place_at (class.Word keyword.Case) = refl
place_at (class.Word keyword.Of) = refl
place_at (class.Word keyword.Fail) = refl
place_at (class.Word keyword.Con) = refl
place_at (class.Word keyword.Pair) = refl
place_at (class.Word keyword.Fst) = refl
place_at (class.Word keyword.Snd) = refl
place_at (class.Word keyword.MetaTy) = refl
place_at (class.Word keyword.ValTy) = refl
place_at (class.Word keyword.CompTy) = refl
place_at (class.Word keyword.Ty) = refl
place_at (class.Word keyword.Pi) = refl
place_at (class.Word keyword.Sig) = refl
place_at (class.Word keyword.UnitTy) = refl
place_at (class.Word keyword.Unit) = refl
place_at (class.Word keyword.UnitRec) = refl
place_at (class.Word keyword.BoolTy) = refl
place_at (class.Word keyword.True) = refl
place_at (class.Word keyword.False) = refl
place_at (class.Word keyword.BoolRec) = refl
place_at (class.Word keyword.NatTy) = refl
place_at (class.Word keyword.Zero) = refl
place_at (class.Word keyword.Suc) = refl
place_at (class.Word keyword.NatRec) = refl
place_at (class.Word keyword.ListTy) = refl
place_at (class.Word keyword.Nil) = refl
place_at (class.Word keyword.Cons) = refl
place_at (class.Word keyword.ListRec) = refl
place_at (class.Word keyword.V) = refl
place_at (class.Word keyword.C) = refl
place_at (class.Word keyword.IntTy) = refl
place_at (class.Word keyword.Add) = refl
place_at (class.Word keyword.Sub) = refl
place_at (class.Word keyword.Mul) = refl
place_at (class.Word keyword.Div) = refl
place_at (class.Word keyword.Rem) = refl
place_at (class.Word keyword.Eq) = refl
place_at (class.Word keyword.Lt) = refl
place_at (class.Word keyword.And) = refl
place_at (class.Mark mark.OpenParen) = refl
place_at (class.Mark mark.CloseParen) = refl
place_at (class.Mark mark.OpenBracket) = refl
place_at (class.Mark mark.CloseBracket) = refl
place_at (class.Mark mark.OpenBrace) = refl
place_at (class.Mark mark.CloseBrace) = refl
place_at (class.Mark mark.Less) = refl
place_at (class.Mark mark.Greater) = refl
place_at (class.Mark mark.Tilde) = refl
place_at (class.Mark mark.Caret) = refl
place_at (class.Mark mark.Colon) = refl
place_at (class.Mark mark.Becomes) = refl
place_at (class.Mark mark.Semicolon) = refl
place_at (class.Mark mark.Dot) = refl
place_at (class.Mark mark.Comma) = refl
place_at (class.Mark mark.Bar) = refl
place_at (class.Mark mark.Arrow) = refl
place_at (class.Mark mark.DoubleArrow) = refl
place_at (class.Mark mark.Backslash) = refl
place_at (class.Mark mark.At) = refl

place_inside : (k : Class) → inside (place k) classes ≡ true
place_inside (class.Name true) = refl
place_inside (class.Name false) = refl
place_inside class.Whole = refl
place_inside class.NatLit = refl
place_inside class.Hole = refl
place_inside class.End = refl
place_inside (class.Word keyword.Explicit) = refl
place_inside (class.Word keyword.Use) = refl
place_inside (class.Word keyword.Prelude) = refl
place_inside (class.Word keyword.Data) = refl
place_inside (class.Word keyword.Meta) = refl
place_inside (class.Word keyword.Let) = refl
place_inside (class.Word keyword.LetRec) = refl
place_inside (class.Word keyword.MetaLet) = refl
place_inside (class.Word keyword.Fn) = refl
place_inside (class.Word keyword.Case) = refl
place_inside (class.Word keyword.Of) = refl
place_inside (class.Word keyword.Fail) = refl
place_inside (class.Word keyword.Con) = refl
place_inside (class.Word keyword.Pair) = refl
place_inside (class.Word keyword.Fst) = refl
place_inside (class.Word keyword.Snd) = refl
place_inside (class.Word keyword.MetaTy) = refl
place_inside (class.Word keyword.ValTy) = refl
place_inside (class.Word keyword.CompTy) = refl
place_inside (class.Word keyword.Ty) = refl
place_inside (class.Word keyword.Pi) = refl
place_inside (class.Word keyword.Sig) = refl
place_inside (class.Word keyword.UnitTy) = refl
place_inside (class.Word keyword.Unit) = refl
place_inside (class.Word keyword.UnitRec) = refl
place_inside (class.Word keyword.BoolTy) = refl
place_inside (class.Word keyword.True) = refl
place_inside (class.Word keyword.False) = refl
place_inside (class.Word keyword.BoolRec) = refl
place_inside (class.Word keyword.NatTy) = refl
place_inside (class.Word keyword.Zero) = refl
place_inside (class.Word keyword.Suc) = refl
place_inside (class.Word keyword.NatRec) = refl
place_inside (class.Word keyword.ListTy) = refl
place_inside (class.Word keyword.Nil) = refl
place_inside (class.Word keyword.Cons) = refl
place_inside (class.Word keyword.ListRec) = refl
place_inside (class.Word keyword.V) = refl
place_inside (class.Word keyword.C) = refl
place_inside (class.Word keyword.IntTy) = refl
place_inside (class.Word keyword.Add) = refl
place_inside (class.Word keyword.Sub) = refl
place_inside (class.Word keyword.Mul) = refl
place_inside (class.Word keyword.Div) = refl
place_inside (class.Word keyword.Rem) = refl
place_inside (class.Word keyword.Eq) = refl
place_inside (class.Word keyword.Lt) = refl
place_inside (class.Word keyword.And) = refl
place_inside (class.Mark mark.OpenParen) = refl
place_inside (class.Mark mark.CloseParen) = refl
place_inside (class.Mark mark.OpenBracket) = refl
place_inside (class.Mark mark.CloseBracket) = refl
place_inside (class.Mark mark.OpenBrace) = refl
place_inside (class.Mark mark.CloseBrace) = refl
place_inside (class.Mark mark.Less) = refl
place_inside (class.Mark mark.Greater) = refl
place_inside (class.Mark mark.Tilde) = refl
place_inside (class.Mark mark.Caret) = refl
place_inside (class.Mark mark.Colon) = refl
place_inside (class.Mark mark.Becomes) = refl
place_inside (class.Mark mark.Semicolon) = refl
place_inside (class.Mark mark.Dot) = refl
place_inside (class.Mark mark.Comma) = refl
place_inside (class.Mark mark.Bar) = refl
place_inside (class.Mark mark.Arrow) = refl
place_inside (class.Mark mark.DoubleArrow) = refl
place_inside (class.Mark mark.Backslash) = refl
place_inside (class.Mark mark.At) = refl

pub each : (f : Class → Bool) → all f classes ≡ true → (k : Class) → f k ≡ true
each f e k = subst (λ c. f c ≡ true) (place_at k) (all_at f (place k) classes (place_inside k) e)

-- the class with a code
abbrev class_of : List Class → ℕ → Class
class_of [] n = class.End
class_of (k ∷ ks) n = elim (nat_eq (class_code k) n) [ true ↦ k | false ↦ class_of ks n ]

code_of : (k : Class) → class_of classes (class_code k) ≡ k
code_of (class.Name true) = refl
code_of (class.Name false) = refl
code_of class.Whole = refl
code_of class.NatLit = refl
code_of class.Hole = refl
code_of class.End = refl
code_of (class.Word keyword.Explicit) = refl
code_of (class.Word keyword.Use) = refl
code_of (class.Word keyword.Prelude) = refl
code_of (class.Word keyword.Data) = refl
code_of (class.Word keyword.Meta) = refl
code_of (class.Word keyword.Let) = refl
code_of (class.Word keyword.LetRec) = refl
code_of (class.Word keyword.MetaLet) = refl
code_of (class.Word keyword.Fn) = refl
code_of (class.Word keyword.Case) = refl
code_of (class.Word keyword.Of) = refl
code_of (class.Word keyword.Fail) = refl
code_of (class.Word keyword.Con) = refl
code_of (class.Word keyword.Pair) = refl
code_of (class.Word keyword.Fst) = refl
code_of (class.Word keyword.Snd) = refl
code_of (class.Word keyword.MetaTy) = refl
code_of (class.Word keyword.ValTy) = refl
code_of (class.Word keyword.CompTy) = refl
code_of (class.Word keyword.Ty) = refl
code_of (class.Word keyword.Pi) = refl
code_of (class.Word keyword.Sig) = refl
code_of (class.Word keyword.UnitTy) = refl
code_of (class.Word keyword.Unit) = refl
code_of (class.Word keyword.UnitRec) = refl
code_of (class.Word keyword.BoolTy) = refl
code_of (class.Word keyword.True) = refl
code_of (class.Word keyword.False) = refl
code_of (class.Word keyword.BoolRec) = refl
code_of (class.Word keyword.NatTy) = refl
code_of (class.Word keyword.Zero) = refl
code_of (class.Word keyword.Suc) = refl
code_of (class.Word keyword.NatRec) = refl
code_of (class.Word keyword.ListTy) = refl
code_of (class.Word keyword.Nil) = refl
code_of (class.Word keyword.Cons) = refl
code_of (class.Word keyword.ListRec) = refl
code_of (class.Word keyword.V) = refl
code_of (class.Word keyword.C) = refl
code_of (class.Word keyword.IntTy) = refl
code_of (class.Word keyword.Add) = refl
code_of (class.Word keyword.Sub) = refl
code_of (class.Word keyword.Mul) = refl
code_of (class.Word keyword.Div) = refl
code_of (class.Word keyword.Rem) = refl
code_of (class.Word keyword.Eq) = refl
code_of (class.Word keyword.Lt) = refl
code_of (class.Word keyword.And) = refl
code_of (class.Mark mark.OpenParen) = refl
code_of (class.Mark mark.CloseParen) = refl
code_of (class.Mark mark.OpenBracket) = refl
code_of (class.Mark mark.CloseBracket) = refl
code_of (class.Mark mark.OpenBrace) = refl
code_of (class.Mark mark.CloseBrace) = refl
code_of (class.Mark mark.Less) = refl
code_of (class.Mark mark.Greater) = refl
code_of (class.Mark mark.Tilde) = refl
code_of (class.Mark mark.Caret) = refl
code_of (class.Mark mark.Colon) = refl
code_of (class.Mark mark.Becomes) = refl
code_of (class.Mark mark.Semicolon) = refl
code_of (class.Mark mark.Dot) = refl
code_of (class.Mark mark.Comma) = refl
code_of (class.Mark mark.Bar) = refl
code_of (class.Mark mark.Arrow) = refl
code_of (class.Mark mark.DoubleArrow) = refl
code_of (class.Mark mark.Backslash) = refl
code_of (class.Mark mark.At) = refl

pub same_refl : (k : Class) → same k k ≡ true
same_refl k = eq-eqb (class_code k) (class_code k) refl

pub same_eq : (j k : Class) → same j k ≡ true → j ≡ k
same_eq j k e = sym (code_of j) ∙ ap (class_of classes) (eqb-true (class_code j) (class_code k) e) ∙ code_of k
