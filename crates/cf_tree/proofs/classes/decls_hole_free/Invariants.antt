use Rattle.std.proofs.Common.{◌≡◌, take, true}
use Rattle.std.specs.List.{list_all}
use Rattle.cf_tree.specs.Tree.{decl_hole_free}
use Rattle.cf_tree.specs.View.{decl_of}
use Rattle.cf_tree.proofs.classes.decls_hole_free.Given as goal

abbrev pub invariant-loop-d : goal.invariant-loop-d
invariant-loop-d l = list_all (λ d. decl_hole_free (decl_of d)) (take l.d-index l.d-items) ≡ true
