-- Trees that an explicit program stands for: each form has its parts, under the names that it has; and how large they are.
use Rattle.std.specs.Prelude.{ℕ, zero, suc, ◌+◌, ◌<◌, ◌≤◌, ◌≡◌, List, [], ◌∷◌, length, IsTrue, Some}
use Rattle.cf_base.specs.declared.at.At.{At}
use Rattle.cf_tree.specs.declared.heads.Head.{Head}
use Rattle.cf_tree.specs.declared.heads.Head.TheVariants as head
use Rattle.cf_tree.specs.Tree.{Name, Named, Binder, Form, Plain, Variable, DataAt, ConAt, Tree, tree, Trees, none, part, branch, CtorTree, DeclTree, DataD, MetaD, ObjectD}
use Rattle.cf_syntax.specs.Numbers.{fits_word}
use Rattle.cf_printed.specs.Scoped.{IsName}

-- how many names each part of a form is under
abbrev pub shape : Head → List ℕ
shape (head.Pi i) = 0 ∷ 1 ∷ []
shape (head.Lam i) = 0 ∷ 1 ∷ []
shape (head.App i) = 0 ∷ 0 ∷ []
shape head.Let = 0 ∷ 0 ∷ 1 ∷ []
shape head.Sig = 0 ∷ 1 ∷ []
shape head.Pair = 0 ∷ 0 ∷ 0 ∷ []
shape head.Fst = 0 ∷ []
shape head.Snd = 0 ∷ []
shape head.UnitRec = 0 ∷ 0 ∷ 0 ∷ []
shape head.BoolRec = 0 ∷ 0 ∷ 0 ∷ 0 ∷ []
shape head.Suc = 0 ∷ []
shape head.NatRec = 0 ∷ 0 ∷ 0 ∷ 0 ∷ []
shape head.ListTy = 0 ∷ []
shape head.Nil = 0 ∷ []
shape head.Cons = 0 ∷ 0 ∷ []
shape head.ListRec = 0 ∷ 0 ∷ 0 ∷ 0 ∷ []
shape head.Lift = 0 ∷ []
shape head.Quote = 0 ∷ []
shape head.V = 0 ∷ []
shape head.C = 0 ∷ []
shape head.Arr = 0 ∷ 0 ∷ []
shape (head.Prim o) = 0 ∷ 0 ∷ []
shape head.LetV = 0 ∷ 0 ∷ 1 ∷ []
shape head.LetRec = 0 ∷ 1 ∷ 1 ∷ []
shape head.OLam = 0 ∷ 1 ∷ []
shape head.OApp = 0 ∷ 0 ∷ []
shape head.Fail = 0 ∷ []
shape head.Splice = 0 ∷ []
shape h = []

-- a form that has its shape: no `case`, no hole, no missing part; and its literal has 64 bits
abbrev pub IsShaped : Head → Type 0
IsShaped (head.Lit z) = IsTrue (fits_word z)
IsShaped head.Case = ⊥
IsShaped head.Hole = ⊥
IsShaped head.Missing = ⊥
IsShaped h = Unit {0}

-- so many parts under no name, and others behind them
abbrev pub zeros : ℕ → List ℕ → List ℕ
zeros zero bs = bs
zeros (suc n) bs = 0 ∷ zeros n bs

mutual
  pub data Written : Tree → Type 0 where
    plain : {p : At} {h : Head} {ts : Trees} → IsShaped h → AllWritten (shape h) ts → Written (tree p (Plain h) ts)
    cases : {p : At} {s t : Tree} {ts : Trees} → Written s → Written t → ArmsWritten ts → Written (tree p (Plain head.Case) (part [] s (part [] t ts)))
    variable : {p : At} {x : Name} → Written (tree p (Variable x) none)
    data_type : {p : At} {d : Named} {ts : Trees} → (n : ℕ) → AllWritten (zeros n []) ts → Written (tree p (DataAt d) ts)
    construction : {p : At} {c : Named} {k : ℕ} {ts : Trees} → (n : ℕ) → AllWritten (zeros k (zeros n [])) ts → Written (tree p (ConAt c (Some k)) ts)

  -- parts under so many names each
  pub data AllWritten : List ℕ → Trees → Type 0 where
    no_part : AllWritten [] none
    one_part : {n : ℕ} {ns : List ℕ} {bs : List Binder} {t : Tree} {ts : Trees} → length bs ≡ n → Written t → AllWritten ns ts → AllWritten (n ∷ ns) (part bs t ts)

  -- the branches of a `case`
  pub data ArmsWritten : Trees → Type 0 where
    no_arm : ArmsWritten none
    one_arm : {c : Named} {bs : List Binder} {t : Tree} {ts : Trees} → Written t → ArmsWritten ts → ArmsWritten (branch c bs t ts)

-- the number that a form may stand for
abbrev pub number_of : Form → ℕ
number_of (Plain (head.NatLit k)) = k
number_of f = 0

-- how large a tree is: no less than the names that a part of it is under, or a number in it
abbrev mutual
  pub size : Tree → ℕ
  size (tree p f ts) = number_of f + sizes ts + 1

  pub sizes : Trees → ℕ
  sizes none = 0
  sizes (part bs t ts) = length bs + size t + sizes ts
  sizes (branch c bs t ts) = length bs + size t + sizes ts

-- a tree of less than this size
abbrev pub IsTerm : ℕ → Tree → Type 0
IsTerm w t = Written t × (size t < w)

abbrev pub AreTerms : ℕ → List Tree → Type 0
AreTerms w [] = Unit {0}
AreTerms w (t ∷ ts) = IsTerm w t × AreTerms w ts

-- constructors under so many parameters, and their fields, of less than this size
abbrev pub AreCtorTrees : ℕ → List CtorTree → Type 0
AreCtorTrees w [] = Unit {0}
AreCtorTrees w (c ∷ cs) = IsName c.ctor.name × AreTerms w c.fields × AreCtorTrees w cs

abbrev pub IsDecl : ℕ → DeclTree → Type 0
IsDecl w (DataD n ps cs) = IsName n.name × ((v : ℕ) × (length ps + v ≤ w) × AreCtorTrees v cs)
IsDecl w (MetaD n a t) = IsName n.name × IsTerm w a × IsTerm w t
IsDecl w (ObjectD n a t) = IsName n.name × IsTerm w a × IsTerm w t

abbrev pub AreDecls : ℕ → List DeclTree → Type 0
AreDecls w [] = Unit {0}
AreDecls w (d ∷ ds) = IsDecl w d × AreDecls w ds
