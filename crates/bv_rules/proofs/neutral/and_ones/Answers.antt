use Rattle.bv_rules.proofs.Viewing.{keeps}
use Rattle.bv_rules.proofs.NeutralLaws.{and_ones}
use Rattle.bv_rules.proofs.neutral.and_ones.Goals as goal

pub returns-then-is_const : goal.returns-then-is_const
returns-then-is_const c = keeps _ _ _ _ _ c.same.ensures c.checked.ensures (and_ones _ _ _ _ _ _ _ c.in-And.is (c.is_const.ensures c.if-is_const.true) c.in_ok-width.ensures.is c.mask.ensures c.requires)
