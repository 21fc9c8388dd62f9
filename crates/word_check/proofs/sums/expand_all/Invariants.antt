use Rattle.std.proofs.Common.{◌≡◌, length}
use Rattle.word_check.specs.Sums.{KeepsTotal}
use Rattle.word_check.proofs.sums.expand_all.Given as goal

abbrev pub invariant-loop-i : goal.invariant-loop-i
invariant-loop-i l = record {
  size : length l.sum.factors.items ≡ l.count;
  total : KeepsTotal l.nodes l.widths l.width l.initial.sum l.sum;
}
