use Rattle.std.proofs.Common.{◌≡◌, ◌-◌, length}
use Rattle.wb_syntax.specs.declared.syntax.Module.{Module}
use Rattle.wb_syntax.specs.Execute.{Config}
use Rattle.wb_plain.specs.Effects.{SameStore}
use Rattle.wb_control.specs.Changes.{Fits, SameRooms}
use Rattle.wb_control.specs.Stands.{HasBody, Stands}
use Rattle.wb_control.proofs.settling.put_constants.Given as goal

abbrev pub invariant-loop-run : goal.invariant-loop-run
invariant-loop-run l = record {
  body : l.body ≡ l.fn.body;
  func : l.run.place.func ≡ l.fn.run.place.func;
  stands : (m : Module) (c : Config) → HasBody m l.fn.run l.fn.body → Stands m l.fn.run c → Stands m l.run c;
  fits : Fits l.run;
  store : SameStore l.fn.run.state l.run.state;
  room : SameRooms l.fn.run l.run;
}

abbrev pub decreases-loop-run : goal.decreases-loop-run
decreases-loop-run l = length l.body - l.run.place.at
