-- Laws of reading.
use Rattle.std.specs.Prelude.{Bool, List, [], ◌∷◌, ◌++◌, map, Option, Some, None, ◌≡◌}
use Rattle.cf_grammar.specs.declared.phrases.Phrase.TheVariants as phrase
use Rattle.cf_tree.specs.Tree as trees
use Rattle.cf_syntax.specs.Tokens.{Token}
use Rattle.cf_parse.specs.Derivation.{Cst, leaf, branch, Csts, nil, cons}
use Rattle.cf_parse.specs.Meaning.{Sem, decl, value}
use Rattle.cf_parse.specs.Reads.{ReadsTokens, ReadsUnlimited}

-- tokens are one program at most
abbrev pub ReadsOne : Type 0
ReadsOne = (prelude : Bool) (ks : List Token) (p q : trees.Program) → ReadsUnlimited prelude ks p → ReadsUnlimited prelude ks q → p ≡ q

-- the declarations that a tree of productions has, in order
abbrev mutual
  pub declarations : Cst → List Cst
  declarations (leaf k) = []
  declarations (branch (phrase.Decl x k) which at cs) = branch (phrase.Decl x k) which at cs ∷ []
  declarations (branch n which at cs) = declarations_all cs

  pub declarations_all : Csts → List Cst
  declarations_all nil = []
  declarations_all (cons c cs) = declarations c ++ declarations_all cs

-- the declaration that a meaning is, if it is one
abbrev pub decl_in : Sem → Option trees.DeclTree
decl_in (decl d) = Some d
decl_in v = None

-- no declaration is dropped: those of the program are, one for one and in order, what the declarations of the text mean
abbrev pub KeepsDeclarations : Type 0
KeepsDeclarations = (prelude : Bool) (ks : List Token) (p : trees.Program) (r : ReadsTokens prelude ks p) → map (λ c. decl_in (value prelude c)) (declarations r.unlimited.cst) ≡ map Some p.decls
