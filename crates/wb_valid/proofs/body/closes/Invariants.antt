use Rattle.std.proofs.Common.{◌≡◌, drop}
use Rattle.std.specs.Prelude.{◌∷◌, []}
use Rattle.wb_syntax.specs.Typing.{context_of}
use Rattle.wb_valid.specs.Checking.{Whole, opened, closes}
use Rattle.wb_valid.proofs.body.closes.Given as goal

abbrev pub invariant-loop-at : goal.invariant-loop-at
invariant-loop-at l =
    closes (context_of l.fn.m l.fn.func l.fn.ty) (l.current ∷ l.outer) (drop l.at l.body) ≡ closes (context_of l.fn.m l.fn.func l.fn.ty) (opened Whole l.fn.ty.result ∷ []) l.fn.func.body
