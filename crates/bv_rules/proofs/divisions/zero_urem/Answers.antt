use Rattle.bv_rules.proofs.Viewing.{keeps}
use Rattle.bv_rules.proofs.DivisionLaws.{zero_urem}
use Rattle.bv_rules.proofs.divisions.zero_urem.Goals as goal

pub returns-then-is_const : goal.returns-then-is_const
returns-then-is_const c = keeps _ _ _ _ _ c.constant.ensures c.checked.ensures (zero_urem _ _ _ _ c.in_ok-width.width _ c.in-Urem.is (c.is_const.ensures c.if-is_const.true) c.requires)
