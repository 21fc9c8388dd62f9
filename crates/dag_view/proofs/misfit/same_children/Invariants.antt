use Rattle.dag_view.specs.View.{HasFirstChildren}
use Rattle.dag_view.proofs.misfit.same_children.Given as goal

abbrev pub invariant-loop-i : goal.invariant-loop-i
invariant-loop-i l = HasFirstChildren l.table l.ids l.fn.seen l.fn.now l.i
