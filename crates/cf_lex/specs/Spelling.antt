-- How keywords and marks are spelled.
use Rattle.std.specs.Prelude.{ℕ, ◌==◌, ◌&&◌, if◌then◌else◌, List, [], ◌∷◌, codes, Option, Some, None}
use Rattle.std.specs.List.{find}
use Rattle.std.specs.Str.{bytes_eq}
use Rattle.cf_lex.specs.declared.keywords.Keyword.{Keyword}
use Rattle.cf_lex.specs.declared.keywords.Keyword.TheVariants as keyword
use Rattle.cf_lex.specs.declared.marks.Mark.{Mark}
use Rattle.cf_lex.specs.declared.marks.Mark.TheVariants as sign

-- the characters of a keyword
abbrev pub keyword_text : Keyword → List ℕ
keyword_text keyword.Explicit = codes "explicit"
keyword_text keyword.Use = codes "use"
keyword_text keyword.Prelude = codes "prelude"
keyword_text keyword.Data = codes "data"
keyword_text keyword.Meta = codes "meta"
keyword_text keyword.Let = codes "let"
keyword_text keyword.LetRec = codes "letrec"
keyword_text keyword.MetaLet = codes "mlet"
keyword_text keyword.Fn = codes "fn"
keyword_text keyword.Case = codes "case"
keyword_text keyword.Of = codes "of"
keyword_text keyword.Fail = codes "fail"
keyword_text keyword.Con = codes "con"
keyword_text keyword.Pair = codes "pair"
keyword_text keyword.Fst = codes "fst"
keyword_text keyword.Snd = codes "snd"
keyword_text keyword.MetaTy = codes "MetaTy"
keyword_text keyword.ValTy = codes "ValTy"
keyword_text keyword.CompTy = codes "CompTy"
keyword_text keyword.Ty = codes "Ty"
keyword_text keyword.Pi = codes "Pi"
keyword_text keyword.Sig = codes "Sig"
keyword_text keyword.UnitTy = codes "Unit"
keyword_text keyword.Unit = codes "unit"
keyword_text keyword.UnitRec = codes "unitrec"
keyword_text keyword.BoolTy = codes "Bool"
keyword_text keyword.True = codes "true"
keyword_text keyword.False = codes "false"
keyword_text keyword.BoolRec = codes "boolrec"
keyword_text keyword.NatTy = codes "Nat"
keyword_text keyword.Zero = codes "zero"
keyword_text keyword.Suc = codes "suc"
keyword_text keyword.NatRec = codes "natrec"
keyword_text keyword.ListTy = codes "List"
keyword_text keyword.Nil = codes "nil"
keyword_text keyword.Cons = codes "cons"
keyword_text keyword.ListRec = codes "listrec"
keyword_text keyword.V = codes "V"
keyword_text keyword.C = codes "C"
keyword_text keyword.IntTy = codes "Int"
keyword_text keyword.Add = codes "add"
keyword_text keyword.Sub = codes "sub"
keyword_text keyword.Mul = codes "mul"
keyword_text keyword.Div = codes "div"
keyword_text keyword.Rem = codes "rem"
keyword_text keyword.Eq = codes "eq"
keyword_text keyword.Lt = codes "lt"
keyword_text keyword.And = codes "and"

-- all keywords
abbrev pub keywords : List Keyword
keywords =
    keyword.Explicit ∷ keyword.Use ∷ keyword.Prelude ∷ keyword.Data ∷ keyword.Meta ∷ keyword.Let ∷ keyword.LetRec ∷ keyword.MetaLet ∷ keyword.Fn ∷ keyword.Case ∷ keyword.Of ∷ keyword.Fail ∷ keyword.Con ∷ keyword.Pair ∷ keyword.Fst ∷ keyword.Snd ∷ keyword.MetaTy ∷ keyword.ValTy ∷ keyword.CompTy ∷ keyword.Ty ∷ keyword.Pi ∷ keyword.Sig ∷ keyword.UnitTy ∷ keyword.Unit ∷ keyword.UnitRec ∷ keyword.BoolTy ∷ keyword.True ∷ keyword.False ∷ keyword.BoolRec ∷ keyword.NatTy ∷ keyword.Zero ∷ keyword.Suc ∷ keyword.NatRec ∷ keyword.ListTy ∷ keyword.Nil ∷ keyword.Cons ∷ keyword.ListRec ∷ keyword.V ∷ keyword.C ∷ keyword.IntTy ∷ keyword.Add ∷ keyword.Sub ∷ keyword.Mul ∷ keyword.Div ∷ keyword.Rem ∷ keyword.Eq ∷ keyword.Lt ∷ keyword.And ∷ []

-- the keyword that these characters spell, if they spell one
abbrev pub keyword_of : List ℕ → Option Keyword
keyword_of word = find (λ k. bytes_eq word (keyword_text k)) keywords

-- the mark that one character spells, if it spells one
abbrev pub short_mark : ℕ → Option Mark
short_mark c =
    if c == 40 then Some sign.OpenParen
    else (if c == 41 then Some sign.CloseParen
    else (if c == 91 then Some sign.OpenBracket
    else (if c == 93 then Some sign.CloseBracket
    else (if c == 123 then Some sign.OpenBrace
    else (if c == 125 then Some sign.CloseBrace
    else (if c == 60 then Some sign.Less
    else (if c == 62 then Some sign.Greater
    else (if c == 126 then Some sign.Tilde
    else (if c == 94 then Some sign.Caret
    else (if c == 58 then Some sign.Colon
    else (if c == 59 then Some sign.Semicolon
    else (if c == 46 then Some sign.Dot
    else (if c == 44 then Some sign.Comma
    else (if c == 124 then Some sign.Bar
    else (if c == 92 then Some sign.Backslash
    else (if c == 64 then Some sign.At
    else None))))))))))))))))

-- the mark that two characters spell, if they spell one
abbrev pub long_mark : ℕ → ℕ → Option Mark
long_mark c d =
    if (c == 58) && (d == 61) then Some sign.Becomes
    else (if (c == 45) && (d == 62) then Some sign.Arrow
    else (if (c == 61) && (d == 62) then Some sign.DoubleArrow
    else None))
