use Rattle.bv_rules.proofs.Viewing.{keeps}
use Rattle.bv_rules.proofs.ChoicesLaws.{ite_bit}
use Rattle.bv_rules.proofs.choices.ite_bit.Goals as goal

pub returns-then-is_const-2 : goal.returns-then-is_const-2
returns-then-is_const-2 c = keeps _ _ _ _ _ c.same.ensures c.checked.ensures (ite_bit _ _ _ _ _ _ c.in-Ite.is (c.is_const.ensures c.if-is_const.true) (c.is_const-then-is_const.ensures c.if-is_const-2.true) c.requires)
