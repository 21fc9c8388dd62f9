use Rattle.bv_rules.proofs.Viewing.{keeps}
use Rattle.bv_rules.proofs.ComparisonsLaws.{slt_zero}
use Rattle.bv_rules.proofs.comparisons.slt_zero.Goals as goal

pub returns-then-is_const : goal.returns-then-is_const
returns-then-is_const c = keeps _ _ _ _ _ c.one_old.ensures c.checked.ensures (slt_zero _ _ _ _ _ _ c.in-Slt.is (c.is_const.ensures c.if-is_const.true) c.in_ok-width.ensures.is c.requires)
