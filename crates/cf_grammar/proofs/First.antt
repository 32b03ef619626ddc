-- First sets: which tokens begin a phrase.
use Rattle.cf_lex.specs.declared.keywords.Keyword.{Keyword}
use Rattle.cf_lex.specs.declared.keywords.Keyword.TheVariants as keyword
use Rattle.cf_lex.specs.declared.marks.Mark.{Mark}
use Rattle.cf_lex.specs.declared.marks.Mark.TheVariants as mark
use Rattle.std.specs.Prelude.{ℕ, zero, suc, ◌+◌, Bool, true, false, ◌&&◌, ◌||◌, List, [], ◌∷◌, nat_eq}
use Rattle.cf_grammar.specs.declared.classes.Class.{Class}
use Rattle.cf_grammar.specs.declared.classes.Class.TheVariants as class
use Rattle.cf_grammar.specs.declared.phrases.Phrase.{Phrase}
use Rattle.cf_grammar.specs.declared.phrases.Symbol.{Symbol}
use Rattle.cf_grammar.specs.declared.phrases.Symbol.TheVariants.{Is as is, AnyName as NAME, Phrase as a}
use Rattle.cf_grammar.specs.Grammar.{rules}

-- numbers of keywords, marks and classes
abbrev pub word_code : Keyword → ℕ
word_code keyword.Explicit = 0
word_code keyword.Use = 1
word_code keyword.Prelude = 2
word_code keyword.Data = 3
word_code keyword.Meta = 4
word_code keyword.Let = 5
word_code keyword.LetRec = 6
word_code keyword.MetaLet = 7
word_code keyword.Fn = 8
word_code keyword.Case = 9
word_code keyword.Of = 10
word_code keyword.Fail = 11
word_code keyword.Con = 12
word_code keyword.Pair = 13
word_code keyword.Fst = 14
word_code keyword.Snd = 15
word_code keyword.MetaTy = 16
word_code keyword.ValTy = 17
word_code keyword.CompTy = 18
word_code keyword.Ty = 19
word_code keyword.Pi = 20
word_code keyword.Sig = 21
word_code keyword.UnitTy = 22
word_code keyword.Unit = 23
word_code keyword.UnitRec = 24
word_code keyword.BoolTy = 25
word_code keyword.True = 26
word_code keyword.False = 27
word_code keyword.BoolRec = 28
word_code keyword.NatTy = 29
word_code keyword.Zero = 30
word_code keyword.Suc = 31
word_code keyword.NatRec = 32
word_code keyword.ListTy = 33
word_code keyword.Nil = 34
word_code keyword.Cons = 35
word_code keyword.ListRec = 36
word_code keyword.V = 37
word_code keyword.C = 38
word_code keyword.IntTy = 39
word_code keyword.Add = 40
word_code keyword.Sub = 41
word_code keyword.Mul = 42
word_code keyword.Div = 43
word_code keyword.Rem = 44
word_code keyword.Eq = 45
word_code keyword.Lt = 46
word_code keyword.And = 47

abbrev pub mark_code : Mark → ℕ
mark_code mark.OpenParen = 0
mark_code mark.CloseParen = 1
mark_code mark.OpenBracket = 2
mark_code mark.CloseBracket = 3
mark_code mark.OpenBrace = 4
mark_code mark.CloseBrace = 5
mark_code mark.Less = 6
mark_code mark.Greater = 7
mark_code mark.Tilde = 8
mark_code mark.Caret = 9
mark_code mark.Colon = 10
mark_code mark.Becomes = 11
mark_code mark.Semicolon = 12
mark_code mark.Dot = 13
mark_code mark.Comma = 14
mark_code mark.Bar = 15
mark_code mark.Arrow = 16
mark_code mark.DoubleArrow = 17
mark_code mark.Backslash = 18
mark_code mark.At = 19

abbrev pub class_code : Class → ℕ
class_code (class.Name true) = 0
class_code (class.Name false) = 1
class_code class.Whole = 2
class_code class.NatLit = 3
class_code class.Hole = 4
class_code class.End = 5
class_code (class.Word x) = 10 + word_code x
class_code (class.Mark x) = 100 + mark_code x

abbrev pub is_name : Class → Bool
is_name (class.Name p) = true
is_name _ = false

-- are the classes the same
abbrev pub same : Class → Class → Bool
same j k = nat_eq (class_code j) (class_code k)

-- does a right side with no symbols stand among these
abbrev pub nullable : List (List Symbol) → Bool
nullable [] = false
nullable ([] ∷ rs) = true
nullable ((y ∷ ys) ∷ rs) = nullable rs

-- does one of these right sides meet the test
abbrev pub any_of : (List Symbol → Bool) → List (List Symbol) → Bool
any_of f [] = false
any_of f (r ∷ rs) = let others = any_of f rs in f r || others

-- is the token one that begins these symbols, where `f` says which tokens begin a phrase
abbrev pub fronts : (Phrase → Class → Bool) → List Symbol → Class → Bool
fronts f [] k = false
fronts f (is j ∷ ys) k = same j k
fronts f (NAME ∷ ys) k = is_name k
fronts f (a m ∷ ys) k = let others = nullable (rules m) && fronts f ys k in f m k || others

-- is the token one that begins the phrase; n bounds how deep phrases are looked into
abbrev pub opens : ℕ → Phrase → Class → Bool
opens zero m k = false
opens (suc n) m k = any_of (λ r. fronts (opens n) r k) (rules m)

-- the first set of a phrase
abbrev pub begins : Phrase → Class → Bool
begins m k = opens 8 m k
