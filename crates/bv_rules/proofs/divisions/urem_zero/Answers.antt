use Rattle.bv_rules.proofs.Viewing.{keeps}
use Rattle.bv_rules.proofs.DivisionLaws.{urem_zero}
use Rattle.bv_rules.proofs.divisions.urem_zero.Goals as goal

pub returns-then-is_const : goal.returns-then-is_const
returns-then-is_const c = keeps _ _ _ _ _ c.same.ensures c.checked.ensures (urem_zero _ _ _ _ _ c.in-Urem.is (c.is_const.ensures c.if-is_const.true) c.requires)
