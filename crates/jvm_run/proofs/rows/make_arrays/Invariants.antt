use Rattle.std.proofs.Common.{◌≡◌, ◌+◌, ◌-◌, ◌*◌, ◌<◌, ◌^◌, ◌++◌, [], drop, reverse, replicate, length}
use Rattle.std.specs.List.{All}
use Rattle.jvm_meaning.specs.ArrayUses.{empty, counted, rows, made_arrays, total_in, pop_counts}
use Rattle.jvm_run.proofs.rows.make_arrays.Given as goal

abbrev pub invariant-loop-count : goal.invariant-loop-count
invariant-loop-count l = record {
  so_far : l.arrays ++ made_arrays (length l.arrays) l.current l.many l.rest ≡ l.initial.arrays ++ made_arrays (length l.initial.arrays) l.fn.array_type 1 l.fn.counts;
  total : total_in l.many l.rest < 2 ^ 64;
  short : All (λ n. n < 2 ^ 31) l.rest;
}

abbrev pub decreases-loop-count : goal.decreases-loop-count
decreases-loop-count l = length l.rest
