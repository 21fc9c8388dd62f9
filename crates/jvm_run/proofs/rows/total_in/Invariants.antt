use Rattle.std.proofs.Common.{◌≡◌, ◌+◌, ◌-◌, ◌*◌, ◌<◌, ◌^◌, ◌++◌, [], drop, reverse, replicate, length}
use Rattle.std.specs.List.{All}
use Rattle.jvm_meaning.specs.ArrayUses.{empty, counted, rows, made_arrays, total_in, pop_counts}
use Rattle.jvm_run.proofs.rows.total_in.Given as goal

abbrev pub invariant-loop-count : goal.invariant-loop-count
invariant-loop-count l = l.total + total_in l.many (drop l.count-index l.counts) ≡ total_in 1 l.counts
