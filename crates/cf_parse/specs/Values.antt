-- What the values that the parser keeps stand for: meanings of phrases. A list is kept with its first item apart and the others last first.
use Rattle.std.specs.Prelude.{ℕ, Bool, false, true, Box, List, [], ◌∷◌, map, reverse, Option, Some, None, ◌≡◌}
use Rattle.std.specs.declared.alloc.Global.{Global}
use Rattle.std.specs.declared.vec.Vec.{Vec}
use Rattle.cf_tree.specs.declared.decls.CtorTree as ctors
use Rattle.cf_tree.specs.declared.decls.Decl.{Decl}
use Rattle.cf_tree.specs.declared.forms.Branch.{Branch}
use Rattle.cf_tree.specs.Tree.{Tree}
use Rattle.cf_tree.specs.View.{Text, binder_of, binders_of, ctor_of, decl_of}
use Rattle.cf_tree.specs.declared.heads.Head.{Head}
use Rattle.cf_tree.specs.declared.heads.Head.TheVariants as head
use Rattle.cf_parse.specs.declared.parts.Abstraction.{Abstraction}
use Rattle.cf_parse.specs.declared.parts.Abstraction.TheVariants as abstraction
use Rattle.cf_parse.specs.declared.parts.Argument.{Argument}
use Rattle.cf_parse.specs.declared.parts.Binding.{Binding}
use Rattle.cf_parse.specs.declared.parts.Binding.TheVariants as binding
use Rattle.cf_parse.specs.declared.parts.Domain.{Domain}
use Rattle.cf_syntax.specs.declared.source.Source.{Source}
use Rattle.cf_parse.specs.declared.values.Value.{Value}
use Rattle.cf_parse.specs.declared.values.Value.TheVariants as value
use Rattle.cf_parse.specs.Evaluation.{first_token}
use Rattle.cf_parse.specs.Kinds as kind
use Rattle.cf_parse.specs.Kinds.{Kind, Fits, AllFit}
use Rattle.cf_parse.specs.Meaning.{Sem, also}
use Rattle.cf_parse.specs.Meaning as meant
use Rattle.cf_syntax.specs.Source.{from}

-- a list of meanings
abbrev pub listed : List Sem → Sem
listed [] = meant.nothing
listed (v ∷ vs) = also v (listed vs)

-- a list with its first item apart, the others last first
abbrev pub kept : {A : Type 0} → (A → Sem) → A → List A → Sem
kept f x xs = also (f x) (listed (map f (reverse xs)))

abbrev pub term_of : Tree → Sem
term_of t = meant.term t

abbrev pub binder_sem : Option Text → Sem
binder_sem b = meant.binder (binder_of b)

-- the tree that is boxed, if one is
abbrev pub tree_in : Option (Box Tree Global) → Option Tree
tree_in None = None
tree_in (Some t) = Some t.value

abbrev pub domain_of : Domain → Sem
domain_of d = meant.domain d.implicit (binder_of d.binder) (tree_in d.ty)

abbrev pub argument_of : Argument → Sem
argument_of u = meant.argument u.implicit u.term.value

abbrev pub arm_of : Branch → Sem
arm_of b = meant.arm b.ctor (binders_of b.names.items) b.body.value

abbrev pub ctor_sem : ctors.CtorTree → Sem
ctor_sem c = meant.ctor (ctor_of c)

abbrev pub decl_sem : Decl → Sem
decl_sem d = meant.decl (decl_of d)

-- a part that may be left out
abbrev pub optional_term : Option (Box Tree Global) → Sem
optional_term None = meant.nothing
optional_term (Some t) = meant.term t.value

abbrev pub optional_onto : Option (Bool × Box Tree Global) → Sem
optional_onto None = meant.nothing
optional_onto (Some o) = meant.onto o.0 o.1.value

abbrev pub optional_brackets : Option (Vec Tree Global) → Sem
optional_brackets None = meant.nothing
optional_brackets (Some ts) = meant.bracketed ts.items

-- the meaning of the token with this number
abbrev pub token_of : Source → ℕ → Sem
token_of s at = first_token s.prelude (from s at)

-- the meaning that a value stands for
abbrev pub sem : Source → Value → Sem
sem s (value.Token at) = token_of s at
sem s value.Nothing = meant.nothing
sem s (value.Term t) = term_of t.value
sem s (value.Binder b) = binder_sem b
sem s (value.Domain d) = domain_of d
sem s (value.Argument u) = argument_of u
sem s (value.Onto o t) = meant.onto o t.value
sem s (value.Bracketed ts) = meant.bracketed ts.items
sem s (value.Arm b) = arm_of b.value
sem s (value.Ctor c) = ctor_sem c.value
sem s (value.Decl d) = decl_sem d.value
sem s (value.Program p) = meant.program p
sem s (value.Tokens n ns) = kept (token_of s) n ns.items
sem s (value.Terms t ts) = kept term_of t.value ts.items
sem s (value.Binders b bs) = kept binder_sem b bs.items
sem s (value.Arguments u us) = kept argument_of u us.items
sem s (value.Arms b bs) = kept arm_of b.value bs.items
sem s (value.Ctors c cs) = kept ctor_sem c.value cs.items
sem s (value.Decls d ds) = kept decl_sem d.value ds.items

-- the meanings of a stack of values, the top first
abbrev pub sems : Source → Vec Value Global → List Sem
sems s vs = map (sem s) (reverse vs.items)

-- a meaning of kind j was on top of the others, and is v
pub record Popped (j : Kind) (old : List Sem) (v : Sem) (new : List Sem) : Type 0 where
  pub parted : old ≡ v ∷ new
  pub fits : Fits j v

-- meanings of these kinds are on top, and behind the first of them there are others
abbrev pub Taken : Kind → List Sem → Sem → List Sem → Type 0
Taken j old v new = (js : List Kind) → AllFit (j ∷ js) old → (old ≡ v ∷ new) × (Fits j v × AllFit js new)

-- the kinds of phrases that stand in lists
abbrev pub IsItem : Kind → Type 0
IsItem kind.Name = Unit {0}
IsItem kind.Term = Unit {0}
IsItem kind.Binder = Unit {0}
IsItem kind.Argument = Unit {0}
IsItem kind.Arm = Unit {0}
IsItem kind.Ctor = Unit {0}
IsItem kind.Decl = Unit {0}
IsItem j = ⊥

-- the forms of what binds a variable over what is behind it
abbrev pub abstraction_head : Abstraction → (implicit : Bool) → Head
abstraction_head abstraction.Lambda i = head.Lam i
abstraction_head abstraction.Function i = head.OLam
abstraction_head abstraction.FunctionType i = head.Pi i

-- the forms of what binds a variable to what it stands for, and whether it is bound there too
abbrev pub binding_head : Binding → Head
binding_head binding.Meta = head.Let
binding_head binding.Value = head.LetV
binding_head binding.Recursive = head.LetRec

abbrev pub is_recursive : Binding → Bool
is_recursive binding.Meta = false
is_recursive binding.Value = false
is_recursive binding.Recursive = true
