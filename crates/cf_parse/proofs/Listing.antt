-- Lists: which kinds their items are of, and what stands behind a mark.
use Rattle.std.proofs.Common.{◌≡◌, ◌∙◌, refl, ap, sym, ℕ, Bool, List, [], ◌∷◌, drop, Option}
use Rattle.std.specs.Prelude.{Box}
use Rattle.std.specs.declared.alloc.Global.{Global}
use Rattle.cf_base.specs.declared.at.At.{At}
use Rattle.cf_grammar.specs.declared.classes.Class.{Class}
use Rattle.cf_tree.specs.declared.decls.CtorTree as ctors
use Rattle.cf_tree.specs.declared.decls.Decl.{Decl}
use Rattle.cf_tree.specs.declared.forms.Branch.{Branch}
use Rattle.cf_tree.specs.Tree as trees
use Rattle.cf_tree.specs.Tree.{Tree}
use Rattle.cf_tree.specs.View.{Text}
use Rattle.cf_parse.proofs.Only.{argument_only, arm_only, binder_only, ctor_only, decl_only, term_only, token_only}
use Rattle.cf_parse.specs.declared.parts.Argument.{Argument}
use Rattle.cf_parse.specs.declared.values.Value.{Value}
use Rattle.cf_parse.specs.declared.values.Value.TheVariants as value
use Rattle.cf_parse.specs.Evaluation.{firsts}
use Rattle.cf_parse.specs.Kinds as kind
use Rattle.cf_parse.specs.Kinds.{Kind, Fits, AllFit, end, next, a_token, a_name, a_whole, a_natlit, a_word, a_term, a_binder, an_argument, an_arm, a_ctor, a_decl, given}
use Rattle.cf_parse.specs.Meaning.{Sem}
use Rattle.cf_parse.specs.Meaning as meant
use Rattle.cf_parse.specs.Values.{IsItem, Taken, sem}
use Rattle.cf_syntax.specs.declared.source.Source.{Source}

-- the kind of an item, by what it is
pub item_name : {j : Kind} {p : At} {c : Class} {x : trees.Name} → IsItem j → Fits j (meant.token p c x) → j ≡ kind.Name
item_name i a_token = absurd i
item_name i a_name = refl
item_name i (a_whole q) = absurd i
item_name i (a_natlit q) = absurd i
item_name i (a_word q) = absurd i
item_name i (given f) = absurd i

pub item_term : {j : Kind} {t : Tree} → IsItem j → Fits j (meant.term t) → j ≡ kind.Term
item_term i a_term = refl
item_term i (given f) = absurd i

pub item_binder : {j : Kind} {b : trees.Binder} → IsItem j → Fits j (meant.binder b) → j ≡ kind.Binder
item_binder i a_binder = refl
item_binder i (given f) = absurd i

pub item_argument : {j : Kind} {b : Bool} {t : Tree} → IsItem j → Fits j (meant.argument b t) → j ≡ kind.Argument
item_argument i an_argument = refl
item_argument i (given f) = absurd i

pub item_arm : {j : Kind} {c : trees.Named} {bs : List trees.Binder} {t : Tree} → IsItem j → Fits j (meant.arm c bs t) → j ≡ kind.Arm
item_arm i an_arm = refl
item_arm i (given f) = absurd i

pub item_ctor : {j : Kind} {c : trees.CtorTree} → IsItem j → Fits j (meant.ctor c) → j ≡ kind.Ctor
item_ctor i a_ctor = refl
item_ctor i (given f) = absurd i

pub item_decl : {j : Kind} {d : trees.DeclTree} → IsItem j → Fits j (meant.decl d) → j ≡ kind.Decl
item_decl i a_decl = refl
item_decl i (given f) = absurd i

-- a value is of none of the variants of items
pub record NoItem (v : Value) : Type 0 where
  pub token : (at : ℕ) → v ≡ value.Token at → ⊥
  pub term : (t : Box Tree Global) → v ≡ value.Term t → ⊥
  pub binder : (b : Option Text) → v ≡ value.Binder b → ⊥
  pub argument : (u : Argument) → v ≡ value.Argument u → ⊥
  pub arm : (b : Box Branch Global) → v ≡ value.Arm b → ⊥
  pub ctor : (c : Box ctors.CtorTree Global) → v ≡ value.Ctor c → ⊥
  pub decl : (d : Box Decl Global) → v ≡ value.Decl d → ⊥

pub no_item : (s : Source) (v : Value) (j : Kind) → IsItem j → Fits j (sem s v) → NoItem v → ⊥
no_item s v kind.Name i h n = let o = token_only s kind.Name v tt h in n.token o.0 o.1
no_item s v kind.Term i h n = let o = term_only s v h in n.term o.0 o.1
no_item s v kind.Binder i h n = let o = binder_only s v h in n.binder o.0 o.1
no_item s v kind.Argument i h n = let o = argument_only s v h in n.argument o.0 o.1
no_item s v kind.Arm i h n = let o = arm_only s v h in n.arm o.0 o.1
no_item s v kind.Ctor i h n = let o = ctor_only s v h in n.ctor o.0 o.1
no_item s v kind.Decl i h n = let o = decl_only s v h in n.decl o.0 o.1
no_item s v kind.Token i h n = absurd i
no_item s v kind.Whole i h n = absurd i
no_item s v kind.NatLit i h n = absurd i
no_item s v kind.Domain i h n = absurd i
no_item s v kind.Onto i h n = absurd i
no_item s v kind.Bracketed i h n = absurd i
no_item s v kind.Program i h n = absurd i
no_item s v (kind.Word m) i h n = absurd i
no_item s v (kind.Many j) i h n = absurd i
no_item s v (kind.Maybe j) i h n = absurd i

skipped : (p : At) {j : Kind} {b : List Sem} (v : Sem) → AllFit (j ∷ kind.Many j ∷ []) b → meant.more p (firsts 2 b) ∷ drop 2 b ≡ meant.more_behind p (firsts 3 (v ∷ b)) ∷ drop 3 (v ∷ b)
skipped p v (next f (next g end)) = refl

-- a mark before an item and more of its kind
pub behind_mark : (p : At) {j : Kind} {a b m : List Sem} {v : Sem} → AllFit (kind.Token ∷ j ∷ kind.Many j ∷ []) a → Taken kind.Token a v b → m ≡ meant.more p (firsts 2 b) ∷ drop 2 b → m ≡ meant.more_behind p (firsts 3 a) ∷ drop 3 a
behind_mark p {v = v} h t e =
    let o = t _ h in
    e ∙ skipped p v o.1.1 ∙ ap (λ l. meant.more_behind p (firsts 3 l) ∷ drop 3 l) (sym o.0)
