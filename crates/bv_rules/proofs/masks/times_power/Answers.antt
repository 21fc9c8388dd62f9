use Rattle.std.proofs.Common.{arith}
use Rattle.bv_rules.proofs.Viewing.{keeps}
use Rattle.bv_rules.proofs.MaskLaws.{times_power}
use Rattle.bv_rules.proofs.masks.times_power.Goals as goal

pub returns-then-places-width : goal.returns-then-places-width
returns-then-places-width c = keeps _ _ _ _ _ c.moved_up.ensures c.checked.ensures (times_power _ _ _ _ _ _ _ _ _ c.in-Times.is c.in_ok-x.ensures c.in_ok-width.ensures.is c.in_ok-places.ensures.is (omega arith) (omega arith) c.requires)
