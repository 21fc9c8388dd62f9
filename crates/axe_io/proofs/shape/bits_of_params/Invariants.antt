use Rattle.std.proofs.Common.{◌≡◌, ◌+◌, drop}
use Rattle.axe_io.specs.Shapes.{leaf_widths}
use Rattle.axe_io.specs.Inputs.{bits_of}
use Rattle.axe_io.proofs.shape.bits_of_params.Given as goal

abbrev pub invariant-loop-param : goal.invariant-loop-param
invariant-loop-param l = l.bits + bits_of (leaf_widths (drop l.param-index l.params)) ≡ bits_of (leaf_widths l.params)
