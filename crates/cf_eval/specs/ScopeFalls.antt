-- The scope outside of a binder is shorter.
use Rattle.std.specs.Prelude.{◌≤◌, max}
use Rattle.std.proofs.Common.{arith}
use Rattle.cf_eval.specs.Scopes.{seen_scope, scope_size}
use Rattle.cf_eval.specs.declared.scoping.Outer.{Outer}
use Rattle.cf_eval.specs.declared.scoping.Outer.TheVariants as outer
use Rattle.cf_eval.specs.declared.scoping.Scope.TheDeep as deep

pub falls_scope : (o : Outer) → max (deep.deep-Outer o) 0 ≤ scope_size (seen_scope o)
falls_scope (outer.Context n) = omega arith
falls_scope (outer.Binder l s) = omega arith
