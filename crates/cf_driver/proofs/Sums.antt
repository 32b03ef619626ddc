-- Terms that are sums, and programs that are one.
use Rattle.std.proofs.Common.{◌≡◌, ◌∙◌, ap, sym, refl, arith, suc, List, [], ◌∷◌, ◌++◌, length, get_or, append_assoc}
use Rattle.std.specs.Prelude.{Option, Some, None}
use Rattle.cf_base.specs.declared.at.At.{At}
use Rattle.cf_tree.specs.declared.heads.Head.TheVariants as head
use Rattle.cf_tree.specs.declared.heads.Op.TheVariants as op
use Rattle.cf_tree.specs.declared.decls.Decl.{Decl}
use Rattle.cf_tree.specs.Tree.{Plain, Tree, tree, none, part}
use Rattle.cf_tree.specs.View.{decl_of, decls_of}
use Rattle.wb_syntax.specs.declared.syntax.Instr.{Instr}
use Rattle.wb_syntax.specs.declared.syntax.Instr.TheVariants.{Binary}
use Rattle.cf_driver.specs.Lowering.{AddsCode, instructions}
use Rattle.cf_driver.specs.Sums.{Sum, Plus, plus, sum_in}

-- `add a b`
abbrev pub add : At → Tree → Tree → Tree
add p a b = tree p (Plain (head.Prim op.Add)) (part [] a (part [] b none))

pub no_left : (p : At) (a b : Tree) → sum_in a ≡ None → sum_in (add p a b) ≡ None
no_left p a b e = ap (λ o. plus o (sum_in b)) e

pub no_right : (p : At) (a b : Tree) (s : Sum) → sum_in a ≡ Some s → sum_in b ≡ None → sum_in (add p a b) ≡ None
no_right p a b s d e = ap (λ o. plus o (sum_in b)) d ∙ ap (plus (Some s)) e

pub adds_both : (p : At) (a b : Tree) (before middle last after : List Instr) → AddsCode a before middle → AddsCode b middle last → after ≡ last ++ Binary 0x7C ∷ [] → AddsCode (add p a b) before after
adds_both p a b before middle last after f g e = record {
  sum = Plus f.sum g.sum;
  is_sum = ap (λ o. plus o (sum_in b)) f.is_sum ∙ ap (plus (Some f.sum)) g.is_sum;
  code =
      e ∙ ap (λ is. is ++ Binary 0x7C ∷ []) (g.code ∙ ap (λ is. is ++ instructions g.sum) f.code)
      ∙ append_assoc (before ++ instructions f.sum) (instructions g.sum) (Binary 0x7C ∷ [])
      ∙ append_assoc before (instructions f.sum) (instructions g.sum ++ Binary 0x7C ∷ []);
  fit = (f.fit, g.fit);
}

pub decls_length : (xs : List Decl) → length (decls_of xs) ≡ length xs
decls_length [] = refl
decls_length (x ∷ xs) = ap suc (decls_length xs)

-- the declaration of a program that has one
pub one_decl : (xs : List Decl) (d : Decl) → length xs ≡ 1 → d ≡ get_or xs 0 d → decls_of xs ≡ decl_of d ∷ []
one_decl [] d n e = absurd (omega arith)
one_decl (x ∷ []) d n e = ap (λ y. decl_of y ∷ []) (sym e)
one_decl (x ∷ y ∷ xs) d n e = absurd (omega arith)
