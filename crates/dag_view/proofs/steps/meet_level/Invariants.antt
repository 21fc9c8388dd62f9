use Rattle.dag_view.specs.Steps.{AddsLevel}
use Rattle.dag_view.proofs.steps.meet_level.Given as goal

abbrev pub invariant-loop-k : goal.invariant-loop-k
invariant-loop-k g l = AddsLevel l.dag (g.R.Retains.table l.table) l.fn.from l.k l.initial.met.keys l.met.keys
