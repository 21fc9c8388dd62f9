use Rattle.std.proofs.Common.{ap, Some, sym, ◌∙◌}
use Rattle.bv_rules.proofs.Viewing.{keeps}
use Rattle.bv_rules.proofs.GatherLaws.{plus_gather}
use Rattle.bv_rules.proofs.gather.plus_gather.Goals as goal

pub returns : goal.returns
returns c = keeps _ _ _ _ _ c.with_constant.ensures c.checked.ensures (plus_gather _ _ _ _ _ _ _ _ _ _ _ _ _ c.in-Plus.is c.in_ok-inner.ensures (sym (ap Some c.in-Plus-child.is) ∙ c.in_ok-child.ensures) c.in_ok-x.ensures c.in_ok-width.ensures.is c.chop-sum.ensures.value c.requires)
