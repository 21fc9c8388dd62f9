use Rattle.std.proofs.Common.{◌≡◌, ◌++◌, drop}
use Rattle.axe_io.specs.Shapes.{leaf_widths}
use Rattle.test_vectors.proofs.drawing.widths_of.Given as goal

abbrev pub invariant-loop-param : goal.invariant-loop-param
invariant-loop-param l = l.widths.items ++ leaf_widths (drop l.param-index l.params) ≡ leaf_widths l.params
