use Rattle.std.proofs.Common.{◌-◌, ◌≤◌, length}
use Rattle.dag_view.specs.Steps.{AreReached}
use Rattle.dag_view.proofs.steps.nodes_within.Given as goal

abbrev pub invariant-loop-level : goal.invariant-loop-level
invariant-loop-level g l = record {
  reached : AreReached l.dag (g.R.Retains.table l.table) l.a l.b (l.level - 1) l.met.keys l.from;
  low : 1 ≤ l.level;
  high : l.level ≤ l.steps;
  order : l.from ≤ length l.met.keys;
}

abbrev pub decreases-loop-level : goal.decreases-loop-level
decreases-loop-level g l = l.steps - l.level
