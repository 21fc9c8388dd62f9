use Rattle.bv_rules.proofs.Viewing.{keeps}
use Rattle.bv_rules.proofs.AbsorbingLaws.{or_ones}
use Rattle.bv_rules.proofs.absorbing.or_ones.Goals as goal

pub returns-then-is_const : goal.returns-then-is_const
returns-then-is_const c = keeps _ _ _ _ _ c.constant.ensures c.checked.ensures (or_ones _ _ _ _ _ _ _ c.in-Or.is (c.is_const.ensures c.if-is_const.true) c.in_ok-width.ensures.is c.mask-ones.ensures c.requires)
