-- How trees are told apart: each is stored as pairs and numbers, and is got back from them.
use Rattle.std.specs.Prelude.{ℕ, ◌-◌, Bool, List, Option, ◌≡◌, refl, ◌⊎◌}
use Rattle.std.specs.Coded.{Coded, code_by, coded×, coded⊎, coded_ℕ, coded_bool, coded_list, coded_option}
use base.Stored.{Gv, gnil, gnum, gcons}
use native.Mathlib.Nat.{suc-ne-zero}
use mathlib.Core.Path.{ap, sym}
use mathlib.Core.Logic.{inl, inr}
use Rattle.cf_base.specs.declared.at.At.{At}
use Rattle.cf_tree.specs.declared.heads.Head.{Head}
use Rattle.cf_tree.specs.contracts.heads.Head.{the_row}
use Rattle.cf_tree.specs.Tree.{Name, Named, Binder, Form, Plain, Variable, DataAt, ConAt, Tree, tree, Trees, none, part, branch, CtorTree, DeclTree, DataD, MetaD, ObjectD, Program}

abbrev pub name_code : Coded Name
name_code = coded_list coded_ℕ

abbrev pub at_code : Coded At
at_code = code_by (Bool × ℕ) (coded× coded_bool coded_ℕ) (λ p. (p.prelude, p.offset)) (λ p. record { prelude = p.0; offset = p.1 }) (λ _. refl)

abbrev pub named_code : Coded Named
named_code = code_by (At × Name) (coded× at_code name_code) (λ n. (n.at, n.name)) (λ p. record { at = p.0; name = p.1 }) (λ _. refl)

abbrev pub binders_code : Coded (List Binder)
binders_code = coded_list (coded_option name_code)

abbrev pub FormParts : Type 0
FormParts = (Head ⊎ Name) ⊎ (Named ⊎ (Named × Option ℕ))

abbrev pub form_parts : Form → FormParts
form_parts (Plain h) = inl (inl h)
form_parts (Variable x) = inl (inr x)
form_parts (DataAt d) = inr (inl d)
form_parts (ConAt c n) = inr (inr (c, n))

abbrev pub form_at : FormParts → Form
form_at (inl (inl h)) = Plain h
form_at (inl (inr x)) = Variable x
form_at (inr (inl d)) = DataAt d
form_at (inr (inr p)) = ConAt p.0 p.1

pub form_back : (f : Form) → form_at (form_parts f) ≡ f
form_back (Plain h) = refl
form_back (Variable x) = refl
form_back (DataAt d) = refl
form_back (ConAt c n) = refl

abbrev pub form_code : Coded Form
form_code = code_by FormParts (coded⊎ (coded⊎ the_row.coded name_code) (coded⊎ named_code (coded× named_code (coded_option coded_ℕ)))) form_parts form_at form_back

abbrev pub front : Gv → Gv
front gnil = gnil
front (gnum n) = gnil
front (gcons a b) = a

abbrev pub back : Gv → Gv
back gnil = gnil
back (gnum n) = gnil
back (gcons a b) = b

-- which of the three kinds of lists of parts
abbrev pub kind : Gv → ℕ
kind gnil = 0
kind (gnum n) = n
kind (gcons a b) = 0

abbrev mutual
  pub code : Tree → Gv
  code (tree p f ts) = gcons (at_code.code p) (gcons (form_code.code f) (codes ts))

  pub codes : Trees → Gv
  codes none = gcons (gnum 0) gnil
  codes (part bs t ts) = gcons (gnum 1) (gcons (binders_code.code bs) (gcons (code t) (codes ts)))
  codes (branch c bs t ts) = gcons (gnum 2) (gcons (named_code.code c) (gcons (binders_code.code bs) (gcons (code t) (codes ts))))

mutual
  pub code_inj : (x y : Tree) → code x ≡ code y → x ≡ y
  code_inj (tree p f ts) (tree q g us) e =
      λ i. tree (at_code.inj p q (ap front e) i) (form_code.inj f g (ap (λ v. front (back v)) e) i) (codes_inj ts us (ap (λ v. back (back v)) e) i)

  pub codes_inj : (x y : Trees) → codes x ≡ codes y → x ≡ y
  codes_inj none none e = refl
  codes_inj (part bs t ts) (part cs u us) e =
      λ i. part (binders_code.inj bs cs (ap (λ v. front (back v)) e) i) (code_inj t u (ap (λ v. front (back (back v))) e) i)
      (codes_inj ts us (ap (λ v. back (back (back v))) e) i)
  codes_inj (branch c bs t ts) (branch d cs u us) e =
      λ i. branch (named_code.inj c d (ap (λ v. front (back v)) e) i) (binders_code.inj bs cs (ap (λ v. front (back (back v))) e) i)
      (code_inj t u (ap (λ v. front (back (back (back v)))) e) i) (codes_inj ts us (ap (λ v. back (back (back (back v)))) e) i)
  codes_inj none (part bs t ts) e = absurd (suc-ne-zero 0 (sym (ap (λ v. kind (front v)) e)))
  codes_inj none (branch c bs t ts) e = absurd (suc-ne-zero 1 (sym (ap (λ v. kind (front v)) e)))
  codes_inj (part bs t ts) none e = absurd (suc-ne-zero 0 (ap (λ v. kind (front v)) e))
  codes_inj (branch c bs t ts) none e = absurd (suc-ne-zero 1 (ap (λ v. kind (front v)) e))
  codes_inj (part bs t ts) (branch c cs u us) e = absurd (suc-ne-zero 0 (sym (ap (λ v. kind (front v) - 1) e)))
  codes_inj (branch c cs u us) (part bs t ts) e = absurd (suc-ne-zero 0 (ap (λ v. kind (front v) - 1) e))

abbrev pub tree_code : Coded Tree
tree_code = record { code = code; inj = code_inj }

abbrev pub ctor_code : Coded CtorTree
ctor_code = code_by (Named × List Tree) (coded× named_code (coded_list tree_code)) (λ c. (c.ctor, c.fields)) (λ p. record { ctor = p.0; fields = p.1 }) (λ _. refl)

abbrev pub DataParts : Type 0
DataParts = Named × (List Name × List CtorTree)

abbrev pub TermParts : Type 0
TermParts = Named × (Tree × Tree)

abbrev pub DeclParts : Type 0
DeclParts = DataParts ⊎ (TermParts ⊎ TermParts)

abbrev pub decl_parts : DeclTree → DeclParts
decl_parts (DataD n ps cs) = inl (n, (ps, cs))
decl_parts (MetaD n a t) = inr (inl (n, (a, t)))
decl_parts (ObjectD n a t) = inr (inr (n, (a, t)))

abbrev pub decl_at : DeclParts → DeclTree
decl_at (inl (n, (ps, cs))) = DataD n ps cs
decl_at (inr (inl (n, (a, t)))) = MetaD n a t
decl_at (inr (inr (n, (a, t)))) = ObjectD n a t

pub decl_back : (d : DeclTree) → decl_at (decl_parts d) ≡ d
decl_back (DataD n ps cs) = refl
decl_back (MetaD n a t) = refl
decl_back (ObjectD n a t) = refl

abbrev pub term_code : Coded TermParts
term_code = coded× named_code (coded× tree_code tree_code)

abbrev pub decl_code : Coded DeclTree
decl_code = code_by DeclParts (coded⊎ (coded× named_code (coded× (coded_list name_code) (coded_list ctor_code))) (coded⊎ term_code term_code)) decl_parts decl_at decl_back

abbrev pub program_code : Coded Program
program_code =
    code_by (Bool × (Bool × List DeclTree)) (coded× coded_bool (coded× coded_bool (coded_list decl_code))) (λ p. (p.explicit, (p.prelude, p.decls))) (λ p. record { explicit = p.0; prelude = p.1.0; decls = p.1.1 }) (λ _. refl)
