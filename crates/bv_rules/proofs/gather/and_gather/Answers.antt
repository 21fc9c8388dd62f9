use Rattle.std.proofs.Common.{ap, Some, sym, ◌∙◌}
use Rattle.bv_rules.proofs.Viewing.{keeps}
use Rattle.bv_rules.proofs.GatherLaws.{and_gather}
use Rattle.bv_rules.proofs.gather.and_gather.Goals as goal

pub returns : goal.returns
returns c = keeps _ _ _ _ _ c.with_constant.ensures c.checked.ensures (and_gather _ _ _ _ _ _ _ _ _ _ c.in_ok-width.width _ c.in-And.is c.in_ok-inner.ensures (sym (ap Some c.in-And-child.is) ∙ c.in_ok-child.ensures) c.in_ok-x.ensures c.requires)
