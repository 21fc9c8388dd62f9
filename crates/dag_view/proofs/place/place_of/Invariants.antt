use Rattle.std.proofs.Common.{◌-◌}
use Rattle.dag_view.proofs.Placing.{IsSought}
use Rattle.dag_view.proofs.place.place_of.Given as goal

abbrev pub invariant-loop-low : goal.invariant-loop-low
invariant-loop-low l = IsSought l.ids l.id l.low l.high

abbrev pub decreases-loop-low : goal.decreases-loop-low
decreases-loop-low l = l.high - l.low
