use Rattle.std.proofs.Common.{◌≤◌, length, drop}
use Rattle.axe_io.specs.Shapes.{leaf_widths}
use Rattle.axe_io.specs.Inputs.{IsLast}
use Rattle.axe_io.proofs.input.last_to_rise.Given as goal

abbrev pub invariant-loop-at : goal.invariant-loop-at
invariant-loop-at l = record {
  within : l.at ≤ length l.leaves;
  last : IsLast (drop l.at (leaf_widths l.shape.params)) (drop l.at l.leaves);
}

abbrev pub decreases-loop-at : goal.decreases-loop-at
decreases-loop-at l = l.at
