use Rattle.std.proofs.Common.{drop, ◌≤◌}
use Rattle.bit_blaster.specs.Circuit.{units}
use Rattle.bit_blaster.proofs.Charging.{IsSummedTo}
use Rattle.bit_blaster.proofs.charges.is_affordable.Given as goal

abbrev pub invariant-loop-node : goal.invariant-loop-node
invariant-loop-node l = record {
  summed : IsSummedTo (units l.nodes) l.widths.items l.sum (drop l.node-index l.nodes);
  low : l.sum ≤ 16777216;
}
