use Rattle.bv_rules.proofs.Viewing.{keeps}
use Rattle.bv_rules.proofs.ComparisonsLaws.{eq_joint}
use Rattle.bv_rules.proofs.comparisons.eq_joint.Goals as goal

pub returns : goal.returns
returns c = keeps _ _ _ _ _ c.with_constant.ensures c.checked.ensures (eq_joint _ _ _ _ _ _ _ _ _ c.in-Eq.is c.in_ok-joint.ensures c.in_ok-x.ensures c.requires)
