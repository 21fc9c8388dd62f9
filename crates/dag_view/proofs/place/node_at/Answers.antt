use Rattle.std.proofs.lemmas.Option.{slice_get-get_or}
use Rattle.dag_view.proofs.Lists.{among_at}
use Rattle.dag_view.proofs.place.node_at.Goals as goal

pub expanded_node-requires-clause-inside : goal.expanded_node-requires-clause-inside
expanded_node-requires-clause-inside g c = c.requires.ready.inside _ (among_at c.args.ids.now c.args.k _ (slice_get-get_or c.args.ids.now c.args.k 0 c.requires.inside))

pub expanded_node-requires-clause-closed : goal.expanded_node-requires-clause-closed
expanded_node-requires-clause-closed g c = λ k below. c.requires.ready.closed _ k (among_at c.args.ids.now c.args.k _ (slice_get-get_or c.args.ids.now c.args.k 0 c.requires.inside)) (rw c.expands.ensures at c.if-expands.true) below
