use Rattle.std.proofs.Common.{[], ◌∷◌, ◌∙◌, arith, length-append}
use Rattle.dag_view.proofs.Placing.{placed_more}
use Rattle.dag_view.proofs.place.nodes_of.Goals as goal

pub loop-k-preserved : goal.loop-k-preserved
loop-k-preserved g c = rw c.in_ok-push.ensures.items (record {
  size = length-append c.loop-k.nodes.items (c.node_at.result ∷ []) ∙ omega (arith, c.loop-k.invariant.size);
  placed = placed_more c.args.dag.now (g.R.Retains.table c.args.table.now) c.args.expanded.now c.args.ids.now c.args.widths.now c.args.leaves c.loop-k.nodes.items c.loop-k.k c.node_at.result c.loop-k.invariant.size c.loop-k.invariant.placed c.node_at.ensures;
})
