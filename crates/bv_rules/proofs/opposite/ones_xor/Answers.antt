use Rattle.bv_rules.proofs.Viewing.{keeps}
use Rattle.bv_rules.proofs.OppositeLaws.{ones_xor}
use Rattle.bv_rules.proofs.opposite.ones_xor.Goals as goal

pub returns-then-is_const : goal.returns-then-is_const
returns-then-is_const c = keeps _ _ _ _ _ c.one_old.ensures c.checked.ensures (ones_xor _ _ _ _ _ _ _ c.in-Xor.is (c.is_const.ensures c.if-is_const.true) c.in_ok-width.ensures.is c.mask.ensures c.requires)
