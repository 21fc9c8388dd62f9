use Rattle.axe_io.specs.Shapes.{leaf_widths}
use Rattle.axe_io.proofs.Counting.{zeros_fit, number_of-zeros}
use Rattle.axe_io.proofs.input.Input.first.Goals as goal

pub returns-clause-fits : goal.returns-clause-fits
returns-clause-fits c = let ws = leaf_widths c.args.shape.now.params in rw (c.in_ok-leaves.ensures.items_if_clones_equal (λ y h. h), c.leaves.ensures.count) (zeros_fit ws)

pub returns-clause-first : goal.returns-clause-first
returns-clause-first c = let ws = leaf_widths c.args.shape.now.params in rw (c.in_ok-leaves.ensures.items_if_clones_equal (λ y h. h), c.leaves.ensures.count) (number_of-zeros ws)
