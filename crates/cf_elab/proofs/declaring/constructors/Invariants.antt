use Rattle.std.proofs.Common.{◌≡◌, ◌++◌, drop}
use Rattle.cf_tree.specs.View.{ctors_of, names_of}
use Rattle.cf_elab.specs.Core.{declare_ctors}
use Rattle.cf_elab.specs.Resolving.{and_then, pure}
use Rattle.cf_elab.proofs.declaring.constructors.Given as goal

-- what is read so far stands before what is read of the rest
abbrev pub invariant-loop-ctor : goal.invariant-loop-ctor
invariant-loop-ctor l =
    declare_ctors l.data_type (names_of l.params.items) l.initial.g (ctors_of l.ctors.items) l.initial.holes
    ≡ and_then (declare_ctors l.data_type (names_of l.params.items) l.g (ctors_of (drop l.ctor-index l.ctors.items)) l.holes) (λ r. pure (l.read.items ++ r.0, r.1))
