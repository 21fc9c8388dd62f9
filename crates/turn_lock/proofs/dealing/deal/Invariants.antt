use Rattle.std.proofs.Common.{◌≡◌, ◌+◌, ◌-◌, ◌≤◌, length}
use Rattle.std.specs.Prelude.{vec_capacity}
use Rattle.turn_lock.specs.Entries.{empty_rows}
use Rattle.turn_lock.specs.Seen.{AreDealt}
use Rattle.turn_lock.proofs.dealing.deal.Given as goal

abbrev pub invariant-loop-worker : goal.invariant-loop-worker
invariant-loop-worker g l = record {
  lock : l.first.lock ≡ l.initial.first.lock;
  rows : l.first.rows ≡ empty_rows 0 (l.workers - l.worker + 1);
  count : length l.passes.items ≡ l.worker;
  each : AreDealt l.initial.first.lock l.workers l.passes.items;
  room : l.workers ≤ vec_capacity l.passes;
}
