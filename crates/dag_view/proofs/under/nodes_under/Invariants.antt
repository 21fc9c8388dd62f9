use Rattle.dag_view.specs.Under.{AreMet}
use Rattle.dag_view.proofs.under.nodes_under.Given as goal

abbrev pub invariant-loop-id : goal.invariant-loop-id
invariant-loop-id g l = AreMet l.dag (g.R.Retains.table l.table) l.expanded l.a l.b l.waiting.keys l.taken.items l.bound

abbrev pub decreases-loop-id : goal.decreases-loop-id
decreases-loop-id g l = l.bound
