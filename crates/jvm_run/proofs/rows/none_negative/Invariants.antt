use Rattle.std.proofs.Common.{◌≡◌, ◌<◌, ◌^◌, length}
use Rattle.std.specs.List.{All}
use Rattle.jvm_meaning.specs.ArrayUses.{none_negative}
use Rattle.jvm_run.proofs.rows.none_negative.Given as goal

abbrev pub invariant-loop-count : goal.invariant-loop-count
invariant-loop-count l = record {
  told : none_negative l.rest ≡ none_negative l.counts;
  short : All (λ n. n < 2 ^ 31) l.rest → All (λ n. n < 2 ^ 31) l.counts;
}

abbrev pub decreases-loop-count : goal.decreases-loop-count
decreases-loop-count l = length l.rest
