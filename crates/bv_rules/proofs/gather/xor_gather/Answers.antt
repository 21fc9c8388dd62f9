use Rattle.std.proofs.Common.{ap, Some, sym, ◌∙◌}
use Rattle.bv_rules.proofs.Viewing.{keeps}
use Rattle.bv_rules.proofs.GatherLaws.{xor_gather}
use Rattle.bv_rules.proofs.gather.xor_gather.Goals as goal

pub returns : goal.returns
returns c = keeps _ _ _ _ _ c.with_constant.ensures c.checked.ensures (xor_gather _ _ _ _ _ _ _ _ _ _ c.in_ok-width.width _ c.in-Xor.is c.in_ok-inner.ensures (sym (ap Some c.in-Xor-child.is) ∙ c.in_ok-child.ensures) c.in_ok-x.ensures c.requires)
