use Rattle.dag_view.proofs.Viewing.{free_there}
use Rattle.dag_view.proofs.view.View.is_free_at.Goals as goal

pub returns-clause-free : goal.returns-clause-free
returns-clause-free c = λ on. free_there c.args.self.now c.args.k c.seen_at-node.result.0 c.seen_at-node.ensures.known c.seen_at-node.ensures.node (rw c.leaves.ensures at c.is_free.ensures.free on)
