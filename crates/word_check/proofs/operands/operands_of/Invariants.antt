use Rattle.std.proofs.Common.{◌≡◌, length}
use Rattle.word_check.specs.Operands.{AreOperands}
use Rattle.word_check.proofs.operands.operands_of.Given as goal

abbrev pub invariant-loop-i : goal.invariant-loop-i
invariant-loop-i l = record {
  size : length l.members.items ≡ l.count;
  operands : AreOperands l.nodes l.joining l.place l.members.items;
}
