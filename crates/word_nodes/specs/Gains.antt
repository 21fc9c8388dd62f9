-- What making nodes adds to a graph, and that it is counted.
use Rattle.std.specs.Prelude.{ℕ}
use Rattle.dag.specs.Graph.{Graph, Grows}
use Rattle.rewriter.specs.declared.building.Charge.{Charge}
use Rattle.rewriter.specs.Building.{IsCounted}

-- the graph has at most so many nodes more, of at most so many units together, and these were counted
pub record Gains (before after : Charge) (old new : Graph) (nodes units : ℕ) : Type 0 where
  pub grows : Grows old new nodes units
  pub counted : IsCounted before after old new
