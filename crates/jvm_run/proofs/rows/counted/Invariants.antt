use Rattle.std.proofs.Common.{◌≡◌, ◌+◌, ◌-◌, ◌*◌, ◌<◌, ◌^◌, ◌++◌, [], drop, reverse, replicate, length}
use Rattle.std.specs.List.{All}
use Rattle.jvm_meaning.specs.ArrayUses.{empty, counted, rows, made_arrays, total_in, pop_counts}
use Rattle.jvm_run.proofs.rows.counted.Given as goal

abbrev pub invariant-loop : goal.invariant-loop
invariant-loop l = l.cells ++ counted l.next (l.count - l.counter) ≡ counted l.first l.count
