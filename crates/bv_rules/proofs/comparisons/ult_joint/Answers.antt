use Rattle.bv_rules.proofs.Viewing.{keeps}
use Rattle.bv_rules.proofs.ComparisonsLaws.{ult_joint}
use Rattle.bv_rules.proofs.comparisons.ult_joint.Goals as goal

pub returns : goal.returns
returns c = keeps _ _ _ _ _ c.with_constant.ensures c.checked.ensures (ult_joint _ _ _ _ _ _ _ _ c.in-Ult.is c.in_ok-value.ensures c.in_ok-x.ensures c.requires)
