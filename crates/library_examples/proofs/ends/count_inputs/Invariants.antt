use Rattle.axe_io.specs.Shapes.{leaf_widths}
use Rattle.axe_io.specs.Inputs.{IsInput}
use Rattle.library_examples.proofs.ends.count_inputs.Given as goal

abbrev pub invariant-loop-turn : goal.invariant-loop-turn
invariant-loop-turn l = IsInput (leaf_widths l.shape.params) l.input
