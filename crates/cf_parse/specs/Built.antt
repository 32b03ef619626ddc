-- The trees that words with so many atoms make.
use Rattle.std.specs.Prelude.{[], ◌∷◌}
use Rattle.cf_base.specs.declared.at.At.{At}
use Rattle.cf_lex.specs.declared.keywords.Keyword.{Keyword}
use Rattle.cf_lex.specs.declared.keywords.Keyword.TheVariants as keyword
use Rattle.cf_tree.specs.declared.heads.Head.TheVariants as head
use Rattle.cf_tree.specs.declared.heads.Op.TheVariants as op
use Rattle.cf_tree.specs.Tree.{Tree}
use Rattle.cf_parse.specs.Meaning.{form, missing}

abbrev pub zero_tree : At → Keyword → Tree
zero_tree p keyword.MetaTy = form p head.MetaTy []
zero_tree p keyword.ValTy = form p head.ValTy []
zero_tree p keyword.CompTy = form p head.CompTy []
zero_tree p keyword.Ty = form p head.Ty []
zero_tree p keyword.UnitTy = form p head.UnitTy []
zero_tree p keyword.Unit = form p head.Unit []
zero_tree p keyword.BoolTy = form p head.BoolTy []
zero_tree p keyword.True = form p head.True []
zero_tree p keyword.False = form p head.False []
zero_tree p keyword.NatTy = form p head.NatTy []
zero_tree p keyword.Zero = form p head.Zero []
zero_tree p keyword.IntTy = form p head.IntTy []
zero_tree p y = missing p

abbrev pub one_tree : At → Keyword → Tree → Tree
one_tree p keyword.Fail t = form p head.Fail (t ∷ [])
one_tree p keyword.Fst t = form p head.Fst (t ∷ [])
one_tree p keyword.Snd t = form p head.Snd (t ∷ [])
one_tree p keyword.Suc t = form p head.Suc (t ∷ [])
one_tree p keyword.ListTy t = form p head.ListTy (t ∷ [])
one_tree p keyword.Nil t = form p head.Nil (t ∷ [])
one_tree p keyword.V t = form p head.V (t ∷ [])
one_tree p keyword.C t = form p head.C (t ∷ [])
one_tree p y t = missing p

abbrev pub two_tree : At → Keyword → (t u : Tree) → Tree
two_tree p keyword.Cons t u = form p head.Cons (t ∷ u ∷ [])
two_tree p keyword.Add t u = form p (head.Prim op.Add) (t ∷ u ∷ [])
two_tree p keyword.Sub t u = form p (head.Prim op.Sub) (t ∷ u ∷ [])
two_tree p keyword.Mul t u = form p (head.Prim op.Mul) (t ∷ u ∷ [])
two_tree p keyword.Div t u = form p (head.Prim op.Div) (t ∷ u ∷ [])
two_tree p keyword.Rem t u = form p (head.Prim op.Rem) (t ∷ u ∷ [])
two_tree p keyword.Eq t u = form p (head.Prim op.Eq) (t ∷ u ∷ [])
two_tree p keyword.Lt t u = form p (head.Prim op.Lt) (t ∷ u ∷ [])
two_tree p y t u = missing p

abbrev pub three_tree : At → Keyword → (s t u : Tree) → Tree
three_tree p keyword.Pair s t u = form p head.Pair (s ∷ t ∷ u ∷ [])
three_tree p keyword.UnitRec s t u = form p head.UnitRec (s ∷ t ∷ u ∷ [])
three_tree p y s t u = missing p

abbrev pub four_tree : At → Keyword → (s t u v : Tree) → Tree
four_tree p keyword.BoolRec s t u v = form p head.BoolRec (s ∷ t ∷ u ∷ v ∷ [])
four_tree p keyword.NatRec s t u v = form p head.NatRec (s ∷ t ∷ u ∷ v ∷ [])
four_tree p keyword.ListRec s t u v = form p head.ListRec (s ∷ t ∷ u ∷ v ∷ [])
four_tree p y s t u v = missing p
