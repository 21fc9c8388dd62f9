use Rattle.std.proofs.Common.{ap, Some, ◌∙◌}
use Rattle.bv_rules.proofs.Viewing.{keeps}
use Rattle.bv_rules.proofs.ExtensionLaws.{sext_sext}
use Rattle.bv_rules.proofs.extensions.sext_sext.Goals as goal

pub returns : goal.returns
returns c = keeps _ _ _ _ _ c.one_old.ensures c.checked.ensures (sext_sext _ _ _ _ _ _ _ c.in-Sext.is (c.in_ok-child.was ∙ ap Some c.in-Sext-child.is) c.requires)
