use Rattle.bv_rules.proofs.Viewing.{keeps}
use Rattle.bv_rules.proofs.NeutralLaws.{plus_zero}
use Rattle.bv_rules.proofs.neutral.plus_zero.Goals as goal

pub returns-then-is_const : goal.returns-then-is_const
returns-then-is_const c = keeps _ _ _ _ _ c.same.ensures c.checked.ensures (plus_zero _ _ _ _ _ c.in-Plus.is (c.is_const.ensures c.if-is_const.true) c.requires)
