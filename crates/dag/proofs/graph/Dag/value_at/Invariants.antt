use Rattle.std.proofs.Common.{◌≡◌, length, take}
use Rattle.dag.proofs.Values.{AreFirst}
use Rattle.dag.proofs.graph.Dag.value_at.Given as goal

abbrev pub invariant-loop-i : goal.invariant-loop-i
invariant-loop-i l = record {
  first : AreFirst (record { nodes = l.self-inside.nodes.keys; widths = l.self-inside.widths.items; shape = l.self-inside.shape; limit = l.self-inside.limit }) l.input (take l.i l.values);
  size : length l.values ≡ length l.self-inside.nodes.keys;
}
