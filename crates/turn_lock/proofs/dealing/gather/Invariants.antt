use Rattle.std.proofs.Common.{◌≡◌, ◌+◌, length}
use Rattle.turn_lock.specs.Entries.{ConsecutiveFrom}
use Rattle.turn_lock.specs.Seen.{AreNumbered}
use Rattle.turn_lock.proofs.dealing.gather.Given as goal

abbrev pub invariant-loop-pass : goal.invariant-loop-pass
invariant-loop-pass g l = record {
  lock : l.all.lock ≡ l.initial.all.lock;
  wide : length l.all.rows + length l.passes.items ≡ 1 + length l.initial.passes.items;
  numbers : ConsecutiveFrom 0 l.all.rows;
  each : AreNumbered l.initial.all.lock (length l.initial.passes.items) l.passes.items;
}

abbrev pub decreases-loop-pass : goal.decreases-loop-pass
decreases-loop-pass g l = length l.passes.items
