use Rattle.std.proofs.Common.{◌≡◌, length, ◌-◌, ◌≤◌, take}
use Rattle.axe_io.specs.Ends.{Appends}
use Rattle.axe_io.proofs.sink.write_all.Given as goal

abbrev pub invariant-loop-written : goal.invariant-loop-written
invariant-loop-written g l = record {
  within : l.written ≤ length l.bytes;
  grows : Appends (g.K.Sink.written l.initial.out) (g.K.Sink.written l.out) (take l.written l.bytes);
  counts : g.K.Sink.faults l.out ≡ g.K.Sink.faults l.initial.out;
  refusals : g.K.Sink.refusals l.out ≡ g.K.Sink.refusals l.initial.out;
}

abbrev pub decreases-loop-written : goal.decreases-loop-written
decreases-loop-written g l = length l.bytes - l.written
