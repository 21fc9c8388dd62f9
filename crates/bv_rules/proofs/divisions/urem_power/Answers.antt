use Rattle.std.proofs.Common.{arith}
use Rattle.bv_rules.proofs.Viewing.{keeps}
use Rattle.bv_rules.proofs.DivisionLaws.{urem_power}
use Rattle.bv_rules.proofs.divisions.urem_power.Goals as goal

pub returns-then-places-width : goal.returns-then-places-width
returns-then-places-width c = keeps _ _ _ _ _ c.lowest.ensures c.checked.ensures (urem_power _ _ _ _ _ _ _ _ c.in-Urem.is c.in_ok-value.ensures c.in_ok-width.ensures.is c.in_ok-places.ensures.is (omega arith) (omega arith) c.requires)
