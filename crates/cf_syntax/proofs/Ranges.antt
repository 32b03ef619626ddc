-- Numbers and words of tokens.
use Rattle.std.proofs.Common.{◌≡◌, refl, ap, sym, subst, ℕ, Bool, true, false, List, Some, None, if◌then◌else◌}
use Rattle.cf_lex.specs.declared.keywords.Keyword.{Keyword}
use Rattle.cf_lex.specs.declared.token.TokenKind.{TokenKind}
use Rattle.cf_lex.specs.declared.token.TokenKind.TheVariants as kind
use Rattle.cf_grammar.specs.declared.classes.Class.{Class}
use Rattle.cf_grammar.specs.declared.classes.Class.TheVariants as class
use Rattle.cf_syntax.proofs.Cases.{none_some, some_inj, clash}
use Rattle.cf_syntax.specs.Tokens.{class_of}

pub picked : {A : Type 0} (b : Bool) (x y : A) → Some y ≡ (if b then Some x else None) → x ≡ y
picked true x y e = sym (some_inj e)
picked false x y e = none_some (sym e)

pub not_picked : {A B : Type 0} (b : Bool) (x : A) → None ≡ (if b then Some x else None) → b ≡ true → B
not_picked true x e q = none_some e
not_picked false x e q = clash (sym q)

abbrev is_name : Class → Type 0
is_name (class.Name p) = Unit {0}
is_name k = ⊥

-- a token of the class of a name is one
pub named_kind : (q : TokenKind) (text : List ℕ) (p : Bool) → class_of q text ≡ class.Name p → (n : ℕ) × (q ≡ kind.Name n)
named_kind (kind.Name n) text p e = (n, refl)
named_kind (kind.Word y) text p e = absurd (subst is_name (sym e) tt)
named_kind kind.Whole text p e = absurd (subst is_name (sym e) tt)
named_kind kind.NatLit text p e = absurd (subst is_name (sym e) tt)
named_kind kind.Hole text p e = absurd (subst is_name (sym e) tt)
named_kind (kind.Mark z) text p e = absurd (subst is_name (sym e) tt)

abbrev word_or : Keyword → Class → Keyword
word_or y (class.Word z) = z
word_or y k = y

-- the class of a word tells the word
pub word_inj : {y z : Keyword} → class.Word y ≡ class.Word z → y ≡ z
word_inj {y = y} e = ap (word_or y) e
