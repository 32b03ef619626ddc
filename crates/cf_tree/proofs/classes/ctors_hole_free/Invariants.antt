use Rattle.std.proofs.Common.{◌≡◌, take, true}
use Rattle.std.specs.List.{list_all}
use Rattle.cf_tree.specs.Tree.{ctor_hole_free}
use Rattle.cf_tree.specs.View.{ctor_of}
use Rattle.cf_tree.proofs.classes.ctors_hole_free.Given as goal

abbrev pub invariant-loop-c : goal.invariant-loop-c
invariant-loop-c l = list_all (λ c. ctor_hole_free (ctor_of c)) (take l.c-index l.c-items) ≡ true
