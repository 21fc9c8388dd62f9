use Rattle.bv_rules.proofs.Viewing.{keeps}
use Rattle.bv_rules.proofs.AbsorbingLaws.{and_zero}
use Rattle.bv_rules.proofs.absorbing.and_zero.Goals as goal

pub returns-then-is_const : goal.returns-then-is_const
returns-then-is_const c = keeps _ _ _ _ _ c.constant.ensures c.checked.ensures (and_zero _ _ _ _ c.in_ok-width.width _ c.in-And.is (c.is_const.ensures c.if-is_const.true) c.requires)
