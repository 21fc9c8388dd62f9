use Rattle.bv_rules.proofs.Viewing.{keeps}
use Rattle.bv_rules.proofs.DivisionLaws.{udiv_zero}
use Rattle.bv_rules.proofs.divisions.udiv_zero.Goals as goal

pub returns-then-is_const : goal.returns-then-is_const
returns-then-is_const c = keeps _ _ _ _ _ c.constant.ensures c.checked.ensures (udiv_zero _ _ _ _ c.in_ok-width.width _ c.in-Udiv.is (c.is_const.ensures c.if-is_const.true) c.requires)
