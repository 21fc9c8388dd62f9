use Rattle.bv_rules.proofs.Viewing.{keeps}
use Rattle.bv_rules.proofs.OppositeLaws.{xor_ones}
use Rattle.bv_rules.proofs.opposite.xor_ones.Goals as goal

pub returns-then-is_const : goal.returns-then-is_const
returns-then-is_const c = keeps _ _ _ _ _ c.one_old.ensures c.checked.ensures (xor_ones _ _ _ _ _ _ _ c.in-Xor.is (c.is_const.ensures c.if-is_const.true) c.in_ok-width.ensures.is c.mask.ensures c.requires)
