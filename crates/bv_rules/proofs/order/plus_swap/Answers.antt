use Rattle.bv_rules.proofs.Viewing.{keeps}
use Rattle.bv_rules.proofs.OrderLaws.{plus_swap}
use Rattle.bv_rules.proofs.order.plus_swap.Goals as goal

pub returns-then-b-a : goal.returns-then-b-a
returns-then-b-a c = keeps _ _ _ _ _ c.two_old.ensures c.checked.ensures (plus_swap _ _ _ _ _ c.in-Plus.is c.requires)
