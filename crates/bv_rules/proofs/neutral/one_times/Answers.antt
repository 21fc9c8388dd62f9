use Rattle.bv_rules.proofs.Viewing.{keeps}
use Rattle.bv_rules.proofs.NeutralLaws.{one_times}
use Rattle.bv_rules.proofs.neutral.one_times.Goals as goal

pub returns-then-is_const : goal.returns-then-is_const
returns-then-is_const c = keeps _ _ _ _ _ c.same.ensures c.checked.ensures (one_times _ _ _ _ _ c.in-Times.is (c.is_const.ensures c.if-is_const.true) c.requires)
