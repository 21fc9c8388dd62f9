use Rattle.std.proofs.Common.{arith}
use Rattle.bv_rules.proofs.Viewing.{keeps}
use Rattle.bv_rules.proofs.ComparisonsLaws.{eq_joint_past}
use Rattle.bv_rules.proofs.comparisons.eq_joint_past.Goals as goal

pub returns-then-mask-value : goal.returns-then-mask-value
returns-then-mask-value c = keeps _ _ _ _ _ c.constant.ensures c.checked.ensures (eq_joint_past _ _ _ _ _ _ _ _ _ _ c.in-Eq.is c.in_ok-joint.ensures c.in_ok-x.ensures c.in_ok-bits.ensures.is (omega (arith, c.mask.ensures, c.if-mask-value.true)) c.requires)
