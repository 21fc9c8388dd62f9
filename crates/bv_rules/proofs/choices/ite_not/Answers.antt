use Rattle.std.proofs.Common.{ap, Some, ◌∙◌}
use Rattle.bv_rules.proofs.Viewing.{keeps}
use Rattle.bv_rules.proofs.ChoicesLaws.{ite_not}
use Rattle.bv_rules.proofs.choices.ite_not.Goals as goal

pub returns : goal.returns
returns c = keeps _ _ _ _ _ c.chosen.ensures c.checked.ensures (ite_not _ _ _ _ _ _ _ c.in-Ite.is (c.in_ok-child.was ∙ ap Some c.in-Not.is) c.requires)
