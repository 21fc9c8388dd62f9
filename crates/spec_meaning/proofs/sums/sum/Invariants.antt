use Rattle.std.proofs.Common.{◌≡◌, drop, pos}
use Rattle.std.specs.Prelude.{◌≤ℤ◌, neg_ℤ}
use Rattle.spec_meaning.specs.WideSums.{whole}
use Rattle.spec_meaning.specs.Table.{sum_from}
use Rattle.spec_meaning.proofs.sums.sum.Given as goal

abbrev pub invariant-loop-value : goal.invariant-loop-value
invariant-loop-value l = record {
  value : sum_from (whole l.sum.low l.sum.turns) (drop l.value-index l.values) ≡ sum_from (pos 0) l.values;
  low : neg_ℤ (pos l.value-index) ≤ℤ l.sum.turns;
  high : l.sum.turns ≤ℤ pos l.value-index;
}
