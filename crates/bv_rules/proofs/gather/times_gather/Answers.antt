use Rattle.std.proofs.Common.{ap, Some, sym, ◌∙◌}
use Rattle.bv_rules.proofs.Viewing.{keeps}
use Rattle.bv_rules.proofs.GatherLaws.{times_gather}
use Rattle.bv_rules.proofs.gather.times_gather.Goals as goal

pub returns : goal.returns
returns c = keeps _ _ _ _ _ c.with_constant.ensures c.checked.ensures (times_gather _ _ _ _ _ _ _ _ _ _ _ _ _ c.in-Times.is c.in_ok-inner.ensures (sym (ap Some c.in-Times-child.is) ∙ c.in_ok-child.ensures) c.in_ok-x.ensures c.in_ok-width.ensures.is c.chop-product.ensures.value c.requires)
