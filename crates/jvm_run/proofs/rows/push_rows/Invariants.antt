use Rattle.std.proofs.Common.{◌≡◌, ◌+◌, ◌-◌, ◌*◌, ◌<◌, ◌^◌, ◌++◌, [], drop, reverse, replicate, length}
use Rattle.std.specs.List.{All}
use Rattle.jvm_meaning.specs.ArrayUses.{empty, counted, rows, made_arrays, total_in, pop_counts}
use Rattle.jvm_run.proofs.rows.push_rows.Given as goal

abbrev pub invariant-loop : goal.invariant-loop
invariant-loop l = l.arrays ++ rows l.inner l.first l.count (l.many - l.counter) ≡ l.initial.arrays ++ rows l.inner (length l.initial.arrays + l.many) l.count l.many
