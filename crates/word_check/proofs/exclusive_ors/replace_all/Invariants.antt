use Rattle.std.proofs.Common.{◌≡◌, length}
use Rattle.word_check.specs.ExclusiveOrs.{KeepsXor}
use Rattle.word_check.proofs.exclusive_ors.replace_all.Given as goal

abbrev pub invariant-loop-i : goal.invariant-loop-i
invariant-loop-i l = record {
  size : length l.xors.members.items ≡ l.count;
  kept : KeepsXor l.nodes l.widths l.initial.xors l.xors;
}
