use Rattle.std.proofs.Common.{arith}
use Rattle.dag_view.proofs.Positions.{child_at_most}
use Rattle.dag_view.proofs.Placing.{placed_whole}
use Rattle.dag_view.proofs.place.expanded_node.Goals as goal

pub child_place-requires-clause-there : goal.child_place-requires-clause-there
child_place-requires-clause-there g c = rw c.children.ensures (omega (arith, child_at_most _ _ _ 0 c.known.ensures.graph c.node-node.ensures, c.requires.inside, c.requires.table.size))

pub child_place-requires-2-clause-there : goal.child_place-requires-2-clause-there
child_place-requires-2-clause-there g c = rw c.children.ensures (omega (arith, child_at_most _ _ _ 1 c.known.ensures.graph c.node-node.ensures, c.requires.inside, c.requires.table.size))

pub child_place-requires-3-clause-there : goal.child_place-requires-3-clause-there
child_place-requires-3-clause-there g c = rw c.children.ensures (omega (arith, child_at_most _ _ _ 2 c.known.ensures.graph c.node-node.ensures, c.requires.inside, c.requires.table.size))

pub returns : goal.returns
returns g c = rw c.with_children.ensures (placed_whole c.args.dag.now (g.R.Retains.table c.args.table.now) c.args.ids.now c.args.id c.node-node.result c.child_place.result c.child_place-2.result c.child_place-3.result c.node-node.ensures c.requires.closed
    (λ x h m. c.child_place.ensures x (rw c.children.ensures h) m)
    (λ x h m. c.child_place-2.ensures x (rw c.children.ensures h) m)
    (λ x h m. c.child_place-3.ensures x (rw c.children.ensures h) m))
