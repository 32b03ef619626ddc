-- For each word that takes atoms: the tree that it makes.
use Rattle.std.proofs.Common.{◌≡◌, refl, sym, subst, ℕ, zero, suc, List, [], ◌∷◌, Option, Some, None}
use Rattle.cf_base.specs.declared.at.At.{At}
use Rattle.cf_lex.specs.declared.keywords.Keyword.{Keyword}
use Rattle.cf_lex.specs.declared.keywords.Keyword.TheVariants as keyword
use Rattle.cf_tree.specs.Tree.{Tree}
use Rattle.cf_tree.specs.declared.heads.Head.{Head}
use Rattle.cf_parse.specs.Built.{four_tree, one_tree, three_tree, two_tree, zero_tree}
use Rattle.cf_parse.specs.Kinds.{Fits, a_term, atoms_of}
use Rattle.cf_parse.specs.Kinds as kind
use Rattle.cf_parse.specs.Meaning.{of_word, term}
use Rattle.cf_parse.specs.Words.{form_of}
use Rattle.cf_syntax.proofs.Cases.{none_some, some_inj}

-- the tree that is made of this many atoms
abbrev pub Makes : ℕ → Keyword → Type 0
Makes zero y = (p : At) → of_word p (form_of y) [] ≡ term (zero_tree p y)
Makes (suc zero) y = (p : At) (t : Tree) → of_word p (form_of y) (t ∷ []) ≡ term (one_tree p y t)
Makes (suc (suc zero)) y = (p : At) (t u : Tree) → of_word p (form_of y) (t ∷ u ∷ []) ≡ term (two_tree p y t u)
Makes (suc (suc (suc zero))) y = (p : At) (s t u : Tree) → of_word p (form_of y) (s ∷ t ∷ u ∷ []) ≡ term (three_tree p y s t u)
Makes (suc (suc (suc (suc n)))) y = (p : At) (s t u v : Tree) → of_word p (form_of y) (s ∷ t ∷ u ∷ v ∷ []) ≡ term (four_tree p y s t u v)

pub makes : (y : Keyword) (n : ℕ) → atoms_of y ≡ Some n → Makes n y
makes keyword.Explicit n e = none_some e
makes keyword.Use n e = none_some e
makes keyword.Prelude n e = none_some e
makes keyword.Data n e = none_some e
makes keyword.Meta n e = none_some e
makes keyword.Let n e = none_some e
makes keyword.LetRec n e = none_some e
makes keyword.MetaLet n e = none_some e
makes keyword.Fn n e = none_some e
makes keyword.Case n e = none_some e
makes keyword.Of n e = none_some e
makes keyword.Fail n e = subst (λ m. Makes m keyword.Fail) (some_inj e) (λ p t. refl)
makes keyword.Con n e = none_some e
makes keyword.Pair n e = subst (λ m. Makes m keyword.Pair) (some_inj e) (λ p s t u. refl)
makes keyword.Fst n e = subst (λ m. Makes m keyword.Fst) (some_inj e) (λ p t. refl)
makes keyword.Snd n e = subst (λ m. Makes m keyword.Snd) (some_inj e) (λ p t. refl)
makes keyword.MetaTy n e = subst (λ m. Makes m keyword.MetaTy) (some_inj e) (λ p. refl)
makes keyword.ValTy n e = subst (λ m. Makes m keyword.ValTy) (some_inj e) (λ p. refl)
makes keyword.CompTy n e = subst (λ m. Makes m keyword.CompTy) (some_inj e) (λ p. refl)
makes keyword.Ty n e = subst (λ m. Makes m keyword.Ty) (some_inj e) (λ p. refl)
makes keyword.Pi n e = none_some e
makes keyword.Sig n e = none_some e
makes keyword.UnitTy n e = subst (λ m. Makes m keyword.UnitTy) (some_inj e) (λ p. refl)
makes keyword.Unit n e = subst (λ m. Makes m keyword.Unit) (some_inj e) (λ p. refl)
makes keyword.UnitRec n e = subst (λ m. Makes m keyword.UnitRec) (some_inj e) (λ p s t u. refl)
makes keyword.BoolTy n e = subst (λ m. Makes m keyword.BoolTy) (some_inj e) (λ p. refl)
makes keyword.True n e = subst (λ m. Makes m keyword.True) (some_inj e) (λ p. refl)
makes keyword.False n e = subst (λ m. Makes m keyword.False) (some_inj e) (λ p. refl)
makes keyword.BoolRec n e = subst (λ m. Makes m keyword.BoolRec) (some_inj e) (λ p s t u v. refl)
makes keyword.NatTy n e = subst (λ m. Makes m keyword.NatTy) (some_inj e) (λ p. refl)
makes keyword.Zero n e = subst (λ m. Makes m keyword.Zero) (some_inj e) (λ p. refl)
makes keyword.Suc n e = subst (λ m. Makes m keyword.Suc) (some_inj e) (λ p t. refl)
makes keyword.NatRec n e = subst (λ m. Makes m keyword.NatRec) (some_inj e) (λ p s t u v. refl)
makes keyword.ListTy n e = subst (λ m. Makes m keyword.ListTy) (some_inj e) (λ p t. refl)
makes keyword.Nil n e = subst (λ m. Makes m keyword.Nil) (some_inj e) (λ p t. refl)
makes keyword.Cons n e = subst (λ m. Makes m keyword.Cons) (some_inj e) (λ p t u. refl)
makes keyword.ListRec n e = subst (λ m. Makes m keyword.ListRec) (some_inj e) (λ p s t u v. refl)
makes keyword.V n e = subst (λ m. Makes m keyword.V) (some_inj e) (λ p t. refl)
makes keyword.C n e = subst (λ m. Makes m keyword.C) (some_inj e) (λ p t. refl)
makes keyword.IntTy n e = subst (λ m. Makes m keyword.IntTy) (some_inj e) (λ p. refl)
makes keyword.Add n e = subst (λ m. Makes m keyword.Add) (some_inj e) (λ p t u. refl)
makes keyword.Sub n e = subst (λ m. Makes m keyword.Sub) (some_inj e) (λ p t u. refl)
makes keyword.Mul n e = subst (λ m. Makes m keyword.Mul) (some_inj e) (λ p t u. refl)
makes keyword.Div n e = subst (λ m. Makes m keyword.Div) (some_inj e) (λ p t u. refl)
makes keyword.Rem n e = subst (λ m. Makes m keyword.Rem) (some_inj e) (λ p t u. refl)
makes keyword.Eq n e = subst (λ m. Makes m keyword.Eq) (some_inj e) (λ p t u. refl)
makes keyword.Lt n e = subst (λ m. Makes m keyword.Lt) (some_inj e) (λ p t u. refl)
makes keyword.And n e = none_some e

-- a word that takes atoms begins a form
formless : (y : Keyword) (n : ℕ) → atoms_of y ≡ Some n → form_of y ≡ None → ⊥
formless keyword.Explicit n e q = none_some e
formless keyword.Use n e q = none_some e
formless keyword.Prelude n e q = none_some e
formless keyword.Data n e q = none_some e
formless keyword.Meta n e q = none_some e
formless keyword.Let n e q = none_some e
formless keyword.LetRec n e q = none_some e
formless keyword.MetaLet n e q = none_some e
formless keyword.Fn n e q = none_some e
formless keyword.Case n e q = none_some e
formless keyword.Of n e q = none_some e
formless keyword.Fail n e q = none_some (sym q)
formless keyword.Con n e q = none_some e
formless keyword.Pair n e q = none_some (sym q)
formless keyword.Fst n e q = none_some (sym q)
formless keyword.Snd n e q = none_some (sym q)
formless keyword.MetaTy n e q = none_some (sym q)
formless keyword.ValTy n e q = none_some (sym q)
formless keyword.CompTy n e q = none_some (sym q)
formless keyword.Ty n e q = none_some (sym q)
formless keyword.Pi n e q = none_some e
formless keyword.Sig n e q = none_some e
formless keyword.UnitTy n e q = none_some (sym q)
formless keyword.Unit n e q = none_some (sym q)
formless keyword.UnitRec n e q = none_some (sym q)
formless keyword.BoolTy n e q = none_some (sym q)
formless keyword.True n e q = none_some (sym q)
formless keyword.False n e q = none_some (sym q)
formless keyword.BoolRec n e q = none_some (sym q)
formless keyword.NatTy n e q = none_some (sym q)
formless keyword.Zero n e q = none_some (sym q)
formless keyword.Suc n e q = none_some (sym q)
formless keyword.NatRec n e q = none_some (sym q)
formless keyword.ListTy n e q = none_some (sym q)
formless keyword.Nil n e q = none_some (sym q)
formless keyword.Cons n e q = none_some (sym q)
formless keyword.ListRec n e q = none_some (sym q)
formless keyword.V n e q = none_some (sym q)
formless keyword.C n e q = none_some (sym q)
formless keyword.IntTy n e q = none_some (sym q)
formless keyword.Add n e q = none_some (sym q)
formless keyword.Sub n e q = none_some (sym q)
formless keyword.Mul n e q = none_some (sym q)
formless keyword.Div n e q = none_some (sym q)
formless keyword.Rem n e q = none_some (sym q)
formless keyword.Eq n e q = none_some (sym q)
formless keyword.Lt n e q = none_some (sym q)
formless keyword.And n e q = none_some e

-- a word with its atoms is a term
pub word_fits : (y : Keyword) (n : ℕ) → atoms_of y ≡ Some n → (p : At) (ts : List Tree) → Fits kind.Term (of_word p (form_of y) ts)
word_fits y n e p ts = by_form (form_of y) refl
  where
    by_form : (o : Option Head) → form_of y ≡ o → Fits kind.Term (of_word p o ts)
    by_form (Some h) q = a_term
    by_form None q = absurd (formless y n e q)
