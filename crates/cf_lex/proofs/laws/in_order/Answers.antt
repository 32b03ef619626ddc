use Rattle.std.proofs.Common.{[], length, subst, sym}
use Rattle.cf_lex.specs.Laws.{AreInOrder}
use Rattle.cf_lex.specs.Names.{names_in}
use Rattle.cf_lex.proofs.Places.{in_order}
use Rattle.cf_lex.proofs.laws.in_order.Goals as goal

pub returns : goal.returns
returns c = λ l k. subst (AreInOrder 0) (sym k.4) (in_order (names_in k.1) 0 k.0 k.1 (length l.text) [] k.3)
