use Rattle.std.proofs.Common.{◌≡◌, ◌+◌, [], take, drop}
use Rattle.bv_rules.specs.Plans.{plan_widths, plan_charge}
use Rattle.bv_rules.proofs.gate.plan_cost.Given as goal

abbrev pub invariant-loop-i : goal.invariant-loop-i
invariant-loop-i l = record {
  widths : plan_widths l.dag (take l.i l.widths) (drop l.i l.nodes) ≡ plan_widths l.dag [] l.nodes;
  charge : plan_charge l.dag (take l.i l.widths) (drop l.i l.nodes) + l.charge ≡ plan_charge l.dag [] l.nodes;
}
