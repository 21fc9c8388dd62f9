use Rattle.bv_rules.proofs.Viewing.{keeps}
use Rattle.bv_rules.proofs.NeutralLaws.{times_one}
use Rattle.bv_rules.proofs.neutral.times_one.Goals as goal

pub returns-then-is_const : goal.returns-then-is_const
returns-then-is_const c = keeps _ _ _ _ _ c.same.ensures c.checked.ensures (times_one _ _ _ _ _ c.in-Times.is (c.is_const.ensures c.if-is_const.true) c.requires)
