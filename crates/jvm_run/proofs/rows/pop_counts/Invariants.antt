use Rattle.std.proofs.Common.{◌≡◌, ◌+◌, ◌-◌, ◌*◌, ◌<◌, ◌^◌, ◌++◌, [], drop, reverse, replicate, length}
use Rattle.std.specs.List.{All}
use Rattle.jvm_meaning.specs.ArrayUses.{empty, counted, rows, made_arrays, total_in, pop_counts}
use Rattle.jvm_run.proofs.rows.pop_counts.Given as goal

abbrev pub invariant-loop : goal.invariant-loop
invariant-loop l = pop_counts (l.dimensions - l.counter) (reverse l.taken.items) l.stack ≡ pop_counts l.dimensions [] l.initial.stack
