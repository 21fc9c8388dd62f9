use Rattle.bv_rules.proofs.Viewing.{keeps}
use Rattle.bv_rules.proofs.ChoicesLaws.{ite_bit_turned}
use Rattle.bv_rules.proofs.choices.ite_bit_turned.Goals as goal

pub returns-then-is_const-2 : goal.returns-then-is_const-2
returns-then-is_const-2 c = keeps _ _ _ _ _ c.one_old.ensures c.checked.ensures (ite_bit_turned _ _ _ _ _ _ c.in-Ite.is (c.is_const.ensures c.if-is_const.true) (c.is_const-then-is_const.ensures c.if-is_const-2.true) c.requires)
