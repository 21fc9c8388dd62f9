use Rattle.bv_rules.proofs.Viewing.{keeps}
use Rattle.bv_rules.proofs.ComparisonsLaws.{ult_one}
use Rattle.bv_rules.proofs.comparisons.ult_one.Goals as goal

pub returns-then-is_const : goal.returns-then-is_const
returns-then-is_const c = keeps _ _ _ _ _ c.with_constant.ensures c.checked.ensures (ult_one _ _ _ _ c.in_ok-width.width _ c.in-Ult.is (c.is_const.ensures c.if-is_const.true) c.requires)
