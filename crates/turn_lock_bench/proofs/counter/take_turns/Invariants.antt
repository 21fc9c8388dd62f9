use Rattle.std.proofs.Common.{◌≡◌}
use Rattle.turn_lock.specs.Entries.{numbers_of}
use Rattle.turn_lock_bench.proofs.counter.take_turns.Given as goal

abbrev pub invariant-loop : goal.invariant-loop
invariant-loop g l = record {
  lock : l.pass.lock ≡ l.initial.pass.lock;
  numbers : numbers_of l.pass.rows ≡ numbers_of l.initial.pass.rows;
}
