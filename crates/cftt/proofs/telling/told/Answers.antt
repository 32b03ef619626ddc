use Rattle.std.proofs.Common.{subst, refl, inr}
use Rattle.cftt.specs.Moments.{IsWritten}
use Rattle.cftt.proofs.telling.told.Goals as goal

pub returns-in-WriteFault-clause-line : goal.returns-in-WriteFault-clause-line
returns-in-WriteFault-clause-line g c =
    subst
    (IsWritten record { taken = g.E.Sink.taken c.args.err.now; faults = g.E.Sink.faults c.args.err.now } record { taken = g.E.Sink.taken c.write_line.new.err; faults = g.E.Sink.faults c.write_line.new.err })
    c.write_fault_text.ensures
    c.write_line.ensures

pub returns-in-Err : goal.returns-in-Err
returns-in-Err g c = record {
  kept = inr (refl, c.in_default.not-WriteFault);
  line =
      subst
      (IsWritten record { taken = g.E.Sink.taken c.args.err.now; faults = g.E.Sink.faults c.args.err.now } record { taken = g.E.Sink.taken c.write_line-in-Err.new.err; faults = g.E.Sink.faults c.write_line-in-Err.new.err })
      c.no_memory_text.ensures
      c.write_line-in-Err.ensures;
}
