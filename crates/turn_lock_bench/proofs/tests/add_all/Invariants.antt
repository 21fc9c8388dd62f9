use Rattle.std.proofs.Common.{◌≡◌}
use Rattle.turn_lock.specs.Entries.{numbers_of}
use Rattle.turn_lock_bench.proofs.tests.add_all.Given as goal

abbrev pub invariant-loop-n : goal.invariant-loop-n
invariant-loop-n g l = record {
  lock : l.pass.lock ≡ l.initial.pass.lock;
  numbers : numbers_of l.pass.rows ≡ numbers_of l.initial.pass.rows;
}
