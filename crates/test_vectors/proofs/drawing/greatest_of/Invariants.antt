use Rattle.std.proofs.Common.{◌≡◌, ◌++◌, drop}
use Rattle.test_vectors.specs.TestInputs.{greatest}
use Rattle.test_vectors.proofs.drawing.greatest_of.Given as goal

abbrev pub invariant-loop-width : goal.invariant-loop-width
invariant-loop-width l = l.leaves.items ++ greatest (drop l.width-index l.widths) ≡ greatest l.widths
