use Rattle.std.proofs.Common.{ap, Some, ◌∙◌}
use Rattle.bv_rules.proofs.Viewing.{keeps}
use Rattle.bv_rules.proofs.OppositeLaws.{not_not}
use Rattle.bv_rules.proofs.opposite.not_not.Goals as goal

pub returns : goal.returns
returns c = keeps _ _ _ _ _ c.same.ensures c.checked.ensures (not_not _ _ _ _ _ c.in-Not.is (c.in_ok-child.was ∙ ap Some c.in-Not-child.is) c.requires)
