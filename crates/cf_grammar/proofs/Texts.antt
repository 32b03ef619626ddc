-- Tokens with the end behind them are a text.
use Rattle.std.specs.Prelude.{List, [], ◌∷◌, ◌++◌, refl}
use Rattle.cf_grammar.specs.declared.classes.Class.{Class}
use Rattle.cf_grammar.specs.declared.classes.Class.TheVariants as class
use Rattle.cf_grammar.specs.Refusing.{IsText}
use Rattle.cf_grammar.specs.Texts.{IsToken, AreTokens}

pub text_of : (ks : List Class) → AreTokens ks → IsText (ks ++ class.End ∷ [])
text_of [] t = refl
text_of (class.Name p ∷ ks) t = text_of ks t.1
text_of (class.Word y ∷ ks) t = text_of ks t.1
text_of (class.Whole ∷ ks) t = text_of ks t.1
text_of (class.NatLit ∷ ks) t = text_of ks t.1
text_of (class.Hole ∷ ks) t = text_of ks t.1
text_of (class.Mark z ∷ ks) t = text_of ks t.1
text_of (class.End ∷ ks) t = absurd t.0

pub one_more : (ks : List Class) (k : Class) → AreTokens ks → IsToken k → AreTokens (ks ++ k ∷ [])
one_more [] k t u = (u, tt)
one_more (j ∷ ks) k t u = (t.0, one_more ks k t.1 u)
