use Rattle.dag_view.specs.Under.{AddsChildren}
use Rattle.dag_view.proofs.under.wait_for_children.Given as goal

abbrev pub invariant-loop-i : goal.invariant-loop-i
invariant-loop-i g l = AddsChildren (g.R.Retains.table l.table) l.fn.node l.i l.initial.waiting.keys l.waiting.keys
