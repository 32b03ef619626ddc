use Rattle.std.proofs.Common.{◌≡◌, ◌+◌, ◌-◌, ◌*◌, ◌^◌}
use Rattle.wb_syntax.specs.Execute.{Config}
use Rattle.wb_plain.specs.Follows.{pages_of, length_of}
use Rattle.wb_control.specs.Changes.{Fits, SameRooms}
use Rattle.wb_control.specs.Stands.{HasBody, AllNested, AllLead, Stands}
use Rattle.wb_machine.proofs.Steps.{GoesOn}
use Rattle.wb_machine.proofs.calling.steps.Given as goal

abbrev pub invariant-loop-left : goal.invariant-loop-left
invariant-loop-left l = record {
  goes : (c : Config) → AllNested l.m → AllLead l.m l.jumps → Stands l.m l.fn.run c → GoesOn l.m (pages_of l.fn.run.state.memory) l.fn.run l.limit l.left c l.run;
  fits : Fits l.run;
  body : HasBody l.m l.run l.body;
  size : length_of l.run.state.memory ≡ length_of l.fn.run.state.memory;
  room : SameRooms l.fn.run l.run;
}

-- a step leaves fewer of them, and a constant fewer places of the body
abbrev pub decreases-loop-left : goal.decreases-loop-left
decreases-loop-left l = l.left * 2 ^ 65 + (2 ^ 64 - l.run.place.at)
