use Rattle.std.proofs.Common.{◌≡◌, ◌+◌, ◌-◌, ◌*◌, ◌<◌, ◌^◌, ◌++◌, [], drop, reverse, replicate, length}
use Rattle.std.specs.List.{All}
use Rattle.jvm_meaning.specs.ArrayUses.{empty, counted, rows, made_arrays, total_in, pop_counts}
use Rattle.jvm_run.proofs.rows.push_empty.Given as goal

abbrev pub invariant-loop : goal.invariant-loop
invariant-loop l = l.arrays ++ replicate (l.many - l.counter) (empty l.inner l.count) ≡ l.initial.arrays ++ replicate l.many (empty l.inner l.count)
