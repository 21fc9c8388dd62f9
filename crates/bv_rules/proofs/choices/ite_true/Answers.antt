use Rattle.bv_rules.proofs.Viewing.{keeps}
use Rattle.bv_rules.proofs.ChoicesLaws.{ite_true}
use Rattle.bv_rules.proofs.choices.ite_true.Goals as goal

pub returns-then-is_const : goal.returns-then-is_const
returns-then-is_const c = keeps _ _ _ _ _ c.same.ensures c.checked.ensures (ite_true _ _ _ _ _ _ c.in-Ite.is (c.is_const.ensures c.if-is_const.true) c.requires)
