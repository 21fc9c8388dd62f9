use Rattle.bv_rules.proofs.Viewing.{keeps}
use Rattle.bv_rules.proofs.NeutralLaws.{shl_zero}
use Rattle.bv_rules.proofs.neutral.shl_zero.Goals as goal

pub returns-then-is_const : goal.returns-then-is_const
returns-then-is_const c = keeps _ _ _ _ _ c.same.ensures c.checked.ensures (shl_zero _ _ _ _ _ _ c.in-Shl.is (c.is_const.ensures c.if-is_const.true) c.in_ok-_width.ensures.is c.requires)
