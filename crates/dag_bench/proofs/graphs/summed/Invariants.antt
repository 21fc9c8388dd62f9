use Rattle.std.proofs.Common.{◌≡◌, length}
use Rattle.axe_io.specs.Inputs.{IsInput}
use Rattle.dag.specs.Graph.{leaves_of}
use Rattle.dag_bench.proofs.graphs.summed.Given as goal

abbrev pub invariant-loop : goal.invariant-loop
invariant-loop l = record {
  inside : IsInput (leaves_of l.dag) l.input;
  size : length l.values.items ≡ length l.dag.nodes;
}
