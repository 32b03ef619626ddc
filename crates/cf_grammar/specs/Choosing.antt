-- The right side of a phrase for a token, as a table by cases.
use Rattle.std.specs.Prelude.{ℕ, zero, suc, Bool, true, false, List, [], ◌∷◌, Option, Some, None}
use Rattle.cf_lex.specs.declared.keywords.Keyword.{Keyword}
use Rattle.cf_lex.specs.declared.keywords.Keyword.TheVariants as keyword
use Rattle.cf_lex.specs.declared.marks.Mark.{Mark}
use Rattle.cf_lex.specs.declared.marks.Mark.TheVariants as mark
use Rattle.cf_grammar.specs.declared.classes.Class.{Class}
use Rattle.cf_grammar.specs.declared.classes.Class.TheVariants as class
use Rattle.cf_grammar.specs.declared.phrases.Phrase.{Phrase}
use Rattle.cf_grammar.specs.declared.phrases.Phrase.TheVariants.{Program, Decls, Decl, Params, Param, Ctors, MoreCtors, Ctor, Fields, MoreFields, Field, Terms, MoreTerms, Term, Lambda, Fn, PiBinder, CaseType, Branches, MoreBranches, Branch, Arrow, Chain, Operands, Operand, App, Args, Arg, Head, Atom, Code, Brackets, ConBrackets, Second, Binder, Binders}
use Rattle.cf_grammar.specs.declared.phrases.Symbol.{Symbol}
use Rattle.cf_grammar.specs.Grammar.{rules}

-- nothing, where the program is explicit
abbrev pub unless : Bool → Option ℕ → Option ℕ
unless true o = None
unless false o = o

-- the first choice, else the second
abbrev pub or_else : Option ℕ → Option ℕ → Option ℕ
or_else (Some n) o = Some n
or_else None o = o

-- the number n, where there is a choice
abbrev pub instead : ℕ → Option ℕ → Option ℕ
instead n (Some m) = Some n
instead n None = None

-- of an atom that is a word
abbrev pub for_constant : Keyword → Option ℕ
for_constant keyword.Con = Some 3
for_constant keyword.MetaTy = Some 7
for_constant keyword.ValTy = Some 8
for_constant keyword.CompTy = Some 9
for_constant keyword.Ty = Some 10
for_constant keyword.UnitTy = Some 11
for_constant keyword.Unit = Some 12
for_constant keyword.BoolTy = Some 13
for_constant keyword.True = Some 14
for_constant keyword.False = Some 15
for_constant keyword.NatTy = Some 16
for_constant keyword.Zero = Some 17
for_constant keyword.IntTy = Some 18
for_constant y = None

-- of an atom that begins with a mark
abbrev pub for_atom_mark : Mark → Option ℕ
for_atom_mark mark.OpenParen = Some 4
for_atom_mark mark.Less = Some 5
for_atom_mark mark.Tilde = Some 6
for_atom_mark mark.Caret = Some 6
for_atom_mark z = None

-- of an atom
abbrev pub for_atom : Bool → Class → Option ℕ
for_atom x (class.Name p) = Some 0
for_atom x class.Whole = Some 1
for_atom x class.NatLit = Some 2
for_atom x (class.Word y) = for_constant y
for_atom x (class.Mark z) = for_atom_mark z
for_atom x class.Hole = unless x (Some 19)
for_atom x class.End = None

-- of a word that takes atoms
abbrev pub for_taking : Keyword → Option ℕ
for_taking keyword.Fail = Some 1
for_taking keyword.Fst = Some 2
for_taking keyword.Snd = Some 3
for_taking keyword.Suc = Some 4
for_taking keyword.ListTy = Some 5
for_taking keyword.Nil = Some 6
for_taking keyword.V = Some 7
for_taking keyword.C = Some 8
for_taking keyword.Cons = Some 9
for_taking keyword.Add = Some 10
for_taking keyword.Sub = Some 11
for_taking keyword.Mul = Some 12
for_taking keyword.Div = Some 13
for_taking keyword.Rem = Some 14
for_taking keyword.Eq = Some 15
for_taking keyword.Lt = Some 16
for_taking keyword.Pair = Some 17
for_taking keyword.UnitRec = Some 18
for_taking keyword.BoolRec = Some 19
for_taking keyword.NatRec = Some 20
for_taking keyword.ListRec = Some 21
for_taking y = None

-- of a head that is a word with its atoms
abbrev pub for_word : Class → Option ℕ
for_word (class.Word y) = for_taking y
for_word k = None

-- of a head: an atom, or a word with its atoms
abbrev pub for_head : Bool → Class → Option ℕ
for_head x k = or_else (instead 0 (for_atom x k)) (for_word k)

-- of a term that begins with a word or a mark of its own
abbrev pub for_form : Class → Option ℕ
for_form (class.Mark mark.Backslash) = Some 0
for_form (class.Word keyword.Fn) = Some 1
for_form (class.Word keyword.MetaLet) = Some 2
for_form (class.Word keyword.Let) = Some 3
for_form (class.Word keyword.LetRec) = Some 4
for_form (class.Word keyword.Pi) = Some 5
for_form (class.Word keyword.Sig) = Some 6
for_form (class.Word keyword.Case) = Some 7
for_form k = None

-- of a term
abbrev pub for_term : Bool → Class → Option ℕ
for_term x k = or_else (for_form k) (instead 8 (for_head x k))

-- of a name
abbrev pub for_name : Class → Option ℕ
for_name (class.Name p) = Some 0
for_name k = None

-- of a name or `_`
abbrev pub for_binder : Class → Option ℕ
for_binder (class.Name p) = Some 0
for_binder class.Hole = Some 1
for_binder k = None

-- of the binder of a lambda
abbrev pub for_lambda : Bool → Class → Option ℕ
for_lambda x (class.Mark mark.OpenParen) = Some 0
for_lambda x (class.Mark mark.OpenBrace) = unless x (Some 1)
for_lambda x k = unless x (instead 2 (for_binder k))

-- of the binder of `fn`
abbrev pub for_fn : Bool → Class → Option ℕ
for_fn x (class.Mark mark.OpenParen) = Some 0
for_fn x k = unless x (instead 1 (for_binder k))

-- of the binder of `Pi`
abbrev pub for_pi : Bool → Class → Option ℕ
for_pi x (class.Mark mark.OpenParen) = Some 0
for_pi x (class.Mark mark.OpenBrace) = unless x (Some 1)
for_pi x k = None

-- of an argument
abbrev pub for_arg : Bool → Class → Option ℕ
for_arg x (class.Mark mark.OpenBrace) = unless x (Some 1)
for_arg x k = instead 0 (for_atom x k)

-- of a declaration
abbrev pub for_decl : Class → Option ℕ
for_decl (class.Word keyword.Data) = Some 0
for_decl (class.Word keyword.Meta) = Some 1
for_decl (class.Name true) = Some 2
for_decl k = None

-- of a program
abbrev pub for_program : Class → Option ℕ
for_program (class.Word keyword.Explicit) = Some 0
for_program (class.Word keyword.Use) = Some 1
for_program k = instead 2 (for_decl k)

-- of a name that does not begin with `_`
abbrev pub for_global : Class → Option ℕ
for_global (class.Name true) = Some 0
for_global k = None

-- of an arrow
abbrev pub for_arrow : Class → Option ℕ
for_arrow (class.Mark mark.Arrow) = Some 1
for_arrow (class.Mark mark.DoubleArrow) = Some 2
for_arrow k = None

-- of a splice, or of a lifted type
abbrev pub for_code : Class → Option ℕ
for_code (class.Mark mark.Tilde) = Some 0
for_code (class.Mark mark.Caret) = Some 1
for_code k = None

-- at one mark: `(`
abbrev pub for_open : Class → Option ℕ
for_open (class.Mark mark.OpenParen) = Some 0
for_open k = None

-- `[`
abbrev pub for_bracket : Class → Option ℕ
for_bracket (class.Mark mark.OpenBracket) = Some 0
for_bracket k = None

-- `|`
abbrev pub for_bar : Class → Option ℕ
for_bar (class.Mark mark.Bar) = Some 1
for_bar k = None

-- `,`
abbrev pub for_comma : Class → Option ℕ
for_comma (class.Mark mark.Comma) = Some 1
for_comma k = None

-- `:`
abbrev pub for_colon : Class → Option ℕ
for_colon (class.Mark mark.Colon) = Some 0
for_colon k = None

-- `@`
abbrev pub for_at : Class → Option ℕ
for_at (class.Mark mark.At) = Some 1
for_at k = None

-- the number of the right side of a phrase that begins with the token, if one does
abbrev pub which : Phrase → Class → Option ℕ
which Program k = for_program k
which (Decls x n) k = instead 1 (for_decl k)
which (Decl x n) k = for_decl k
which (Params n) k = instead 1 (for_open k)
which (Param n) k = for_open k
which (Ctors x n) k = instead 1 (for_global k)
which (MoreCtors x n) k = for_bar k
which (Ctor x n) k = for_global k
which (Fields x n) k = instead 1 (for_term x k)
which (MoreFields x n) k = for_comma k
which (Field x n) k = instead 0 (for_term x k)
which (Terms x d) k = instead 1 (for_term x k)
which (MoreTerms x d) k = for_comma k
which (Term x d) k = for_term x k
which (Lambda x d) k = for_lambda x k
which (Fn x d) k = for_fn x k
which (PiBinder x d) k = for_pi x k
which (CaseType x d) k = for_colon k
which (Branches x d) k = instead 1 (for_name k)
which (MoreBranches x d) k = for_bar k
which (Branch x d) k = for_name k
which (Arrow x d) k = for_arrow k
which (Chain x d) k = instead 0 (for_head x k)
which (Operands x d n) k = for_at k
which (Operand x d n) k = instead 0 (for_head x k)
which (App x d) k = instead 0 (for_head x k)
which (Args x d n) k = instead 1 (for_arg x k)
which (Arg x d n) k = for_arg x k
which (Head x d) k = for_head x k
which (Atom x d) k = for_atom x k
which (Code x d) k = for_code k
which (Brackets x d) k = instead 1 (for_bracket k)
which (ConBrackets x d) k = for_bracket k
which (Second x d) k = unless x (for_comma k)
which Binder k = for_binder k
which Binders k = instead 1 (for_binder k)

-- the right side with a number; without one, the empty one
abbrev pub numbered : List (List Symbol) → Option ℕ → List Symbol
numbered rs None = []
numbered [] (Some n) = []
numbered (r ∷ rs) (Some zero) = r
numbered (r ∷ rs) (Some (suc n)) = numbered rs (Some n)

-- the right side of a phrase for a token: the one that begins with it, else the empty one
abbrev pub side : Phrase → Class → List Symbol
side n k = numbered (rules n) (which n k)

-- is there a choice
abbrev pub is_chosen : Option ℕ → Bool
is_chosen (Some j) = true
is_chosen None = false

-- does one of the phrase's right sides begin with the token
abbrev pub starts : Phrase → Class → Bool
starts n k = is_chosen (which n k)
