use Rattle.bv_rules.proofs.Viewing.{keeps}
use Rattle.bv_rules.proofs.NeutralLaws.{zero_or}
use Rattle.bv_rules.proofs.neutral.zero_or.Goals as goal

pub returns-then-is_const : goal.returns-then-is_const
returns-then-is_const c = keeps _ _ _ _ _ c.same.ensures c.checked.ensures (zero_or _ _ _ _ _ c.in-Or.is (c.is_const.ensures c.if-is_const.true) c.requires)
