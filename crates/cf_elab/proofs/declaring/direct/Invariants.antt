use Rattle.cf_elab.specs.Scope.{start}
use Rattle.cf_elab.proofs.Declared.{DeclsRead}
use Rattle.cf_elab.proofs.declaring.direct.Given as goal

-- what is read so far stands before what is read of the rest
abbrev pub invariant-loop-decl : goal.invariant-loop-decl
invariant-loop-decl l = DeclsRead start l.decl-items 0 l.decls.items l.decl-index l.g l.holes
