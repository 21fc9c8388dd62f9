use Rattle.bv_rules.proofs.Viewing.{keeps}
use Rattle.bv_rules.proofs.NeutralLaws.{zero_xor}
use Rattle.bv_rules.proofs.neutral.zero_xor.Goals as goal

pub returns-then-is_const : goal.returns-then-is_const
returns-then-is_const c = keeps _ _ _ _ _ c.same.ensures c.checked.ensures (zero_xor _ _ _ _ _ c.in-Xor.is (c.is_const.ensures c.if-is_const.true) c.requires)
