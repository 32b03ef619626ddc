-- The tokens of a text as the grammar meets them.
use Rattle.std.specs.Prelude.{ℕ, Bool, true, not, ◌==◌, List, [], ◌∷◌, ◌++◌, length, map, slice_range}
use Rattle.cf_lex.specs.Lexed.{TokenList}
use Rattle.cf_lex.specs.declared.token.Token as lexed
use Rattle.cf_lex.specs.declared.token.TokenKind.{TokenKind}
use Rattle.cf_lex.specs.declared.token.TokenKind.TheVariants as kind
use Rattle.cf_grammar.specs.declared.classes.Class.{Class}
use Rattle.cf_grammar.specs.declared.classes.Class.TheVariants as class

-- a token: the byte where it begins, what the grammar sees of it, its bytes
pub record Token : Type 0 where
  pub at : ℕ
  pub class : Class
  pub text : List ℕ

-- a name that begins with `_` is no global's name
abbrev pub begins_plain : List ℕ → Bool
begins_plain [] = true
begins_plain (c ∷ cs) = not (c == 95)

-- the class of a token with these bytes
abbrev pub class_of : TokenKind → List ℕ → Class
class_of (kind.Name n) text = class.Name (begins_plain text)
class_of (kind.Word y) text = class.Word y
class_of kind.Whole text = class.Whole
class_of kind.NatLit text = class.NatLit
class_of kind.Hole text = class.Hole
class_of (kind.Mark z) text = class.Mark z

abbrev pub token_of : TokenList → lexed.Token → Token
token_of l t = let text = slice_range l.text t.start t.end in record { at = t.start; class = class_of t.kind text; text = text }

-- the end counts as a token
abbrev pub end_of : TokenList → Token
end_of l = record { at = length l.text; class = class.End; text = [] }

-- the tokens of a text, the end as the last
abbrev pub tokens_of : TokenList → List Token
tokens_of l = map (token_of l) l.tokens ++ end_of l ∷ []

abbrev pub classes : List Token → List Class
classes = map (λ k. k.class)
