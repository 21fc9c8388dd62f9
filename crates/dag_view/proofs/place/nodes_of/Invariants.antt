use Rattle.std.proofs.Common.{◌≡◌, length}
use Rattle.dag_view.specs.Under.{ArePlaced}
use Rattle.dag_view.proofs.place.nodes_of.Given as goal

abbrev pub invariant-loop-k : goal.invariant-loop-k
invariant-loop-k g l = record {
  size : length l.nodes.items ≡ l.k;
  placed : ArePlaced l.dag (g.R.Retains.table l.table) l.expanded l.ids l.widths l.fn.leaves l.nodes.items;
}
