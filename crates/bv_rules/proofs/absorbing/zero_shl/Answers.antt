use Rattle.bv_rules.proofs.Viewing.{keeps}
use Rattle.bv_rules.proofs.AbsorbingLaws.{zero_shl}
use Rattle.bv_rules.proofs.absorbing.zero_shl.Goals as goal

pub returns-then-is_const : goal.returns-then-is_const
returns-then-is_const c = keeps _ _ _ _ _ c.constant.ensures c.checked.ensures (zero_shl _ _ _ _ c.in_ok-width.width _ c.in-Shl.is (c.is_const.ensures c.if-is_const.true) c.requires)
