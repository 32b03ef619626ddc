use Rattle.std.proofs.Common.{arith}
use Rattle.std.proofs.lemmas.List.{append-nil}
use Rattle.std.proofs.lemmas.Result.{IfOk-weaker}
use Rattle.cf_core_text.proofs.layouts.defining.Goals as goal

pub returns : goal.returns
returns c =
    IfOk-weaker c.shape.result _ _
    (λ l h. record { class = h.0; tokens = rw (h.1, c.variable.ensures, c.in_ok-inner.ensures, append-nil); shallow = rw h.1 (omega arith) })
    c.shape.ensures
