use Rattle.bv_rules.proofs.Viewing.{keeps}
use Rattle.bv_rules.proofs.DivisionLaws.{udiv_one}
use Rattle.bv_rules.proofs.divisions.udiv_one.Goals as goal

pub returns-then-is_const : goal.returns-then-is_const
returns-then-is_const c = keeps _ _ _ _ _ c.same.ensures c.checked.ensures (udiv_one _ _ _ _ _ c.in-Udiv.is (c.is_const.ensures c.if-is_const.true) c.requires)
