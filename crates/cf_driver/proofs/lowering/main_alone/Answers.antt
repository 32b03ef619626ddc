use Rattle.std.proofs.Common.{rules, ◌≡◌, ◌∙◌, ◌∷◌, [], ap, sym, arith, length, codes}
use Rattle.std.proofs.lemmas.Grind.{common_steps}
use Rattle.std.specs.String.{string_bytes}
use Rattle.cf_tree.specs.declared.forms.Node.TheVariants as node
use Rattle.cf_tree.specs.declared.heads.Head.TheVariants as head
use Rattle.cf_tree.specs.Tree.{Plain, tree, none, ObjectD}
use Rattle.cf_tree.specs.View.{decl_of, decls_of, tree_of}
use Rattle.cf_driver.proofs.Sums.{decls_length, one_decl}
use Rattle.cf_driver.proofs.lowering.main_alone.Goals as goal
use Rattle.cf_driver.proofs.lowering.main_alone.Goals.{then-p-via-then-p, then-p-via-else-p+then-p-2, then-p-via-else-p+else-p-2+then-len-ne1, in-IntTy, in_default-matches}

pub returns-then-p : goal.returns-then-p
returns-then-p c = λ t h.
    let explicit : c.p.inside.explicit ≡ c.args.p.now.explicit = ap (λ p. p.explicit) c.p.view_is in
    let prelude : c.p.inside.prelude ≡ c.args.p.now.prelude = ap (λ p. p.prelude) c.p.view_is in
    let one : length c.p.inside.decls.items ≡ 1 = sym (decls_length c.p.inside.decls.items) ∙ ap (λ p. length p.decls) c.p.view_is ∙ ap length h.decls in
    elim c.then-p.branch [
      | then-p-via-then-p w ↦ absurd (cc (w.if-p.true, explicit, h.explicit))
      | then-p-via-else-p+then-p-2 w ↦ absurd (cc (w.if-p-2.true, prelude, h.prelude))
      | then-p-via-else-p+else-p-2+then-len-ne1 w ↦ absurd (grind (arith, common_steps, one, w.len.ensures, w.if-len-ne1.true))
    ]

pub returns-then-matches : goal.returns-then-matches
returns-then-matches c =
    let xs = c.p.inside.decls.items in
    let one : length xs ≡ 1 = search rules in
    let named : string_bytes c.in-ObjectD.name ≡ codes "main" = search rules in
    let is_int : c.ty.inside.node ≡ node.IntTy = elim c.match-matches.branch [
      | in-IntTy w ↦ w.in-IntTy.is
      | in_default-matches w ↦ absurd (cc (w.matches-is, c.if-matches.true))
    ] in
    let typed : c.in-ObjectD.ty ≡ tree c.ty.inside.at (Plain head.IntTy) none = sym c.ty.view_is ∙ ap (tree_of c.ty.inside.at) is_int in
    record {
      at = c.in-ObjectD.at;
      place = c.ty.inside.at;
      explicit = ap (λ p. p.explicit) (sym c.p.view_is) ∙ c.if-p.false;
      prelude = ap (λ p. p.prelude) (sym c.p.view_is) ∙ c.if-p-2.false;
      decls =
          ap (λ p. p.decls) (sym c.p.view_is)
          ∙ one_decl xs c.index.result.now one c.index.ensures
          ∙ ap (λ d. decl_of d ∷ []) c.in-ObjectD.is
          ∙ ap (λ x. ObjectD (record { at = c.in-ObjectD.at; name = x }) c.in-ObjectD.ty c.in-ObjectD.body ∷ []) named
          ∙ ap (λ t. ObjectD (record { at = c.in-ObjectD.at; name = codes "main" }) t c.in-ObjectD.body ∷ []) typed;
    }
