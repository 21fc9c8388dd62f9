use Rattle.std.proofs.Common.{◌≡◌, drop}
use Rattle.std.specs.Prelude.{slice_get}
use Rattle.axe_io.specs.Shapes.{leaf_widths}
use Rattle.axe_io.proofs.shape.width_of_leaf.Given as goal

abbrev pub invariant-loop-param : goal.invariant-loop-param
invariant-loop-param l = slice_get (leaf_widths (drop l.param-index l.params)) l.left ≡ slice_get (leaf_widths l.params) l.leaf
