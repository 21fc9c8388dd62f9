use Rattle.std.proofs.Common.{◌≡◌, ◌+◌, length, drop}
use Rattle.axe_io.specs.Shapes.{leaf_widths}
use Rattle.axe_io.proofs.shape.leaves_of.Given as goal

abbrev pub invariant-loop-param : goal.invariant-loop-param
invariant-loop-param l = l.count + length (leaf_widths (drop l.param-index l.params)) ≡ length (leaf_widths l.params)
