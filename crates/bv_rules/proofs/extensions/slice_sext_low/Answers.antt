use Rattle.std.proofs.Common.{ap, Some, ◌∙◌, arith}
use Rattle.bv_rules.proofs.Viewing.{keeps}
use Rattle.bv_rules.proofs.ExtensionLaws.{slice_sext_low}
use Rattle.bv_rules.proofs.extensions.slice_sext_low.Goals as goal

pub returns-then-high-old : goal.returns-then-high-old
returns-then-high-old c = keeps _ _ _ _ _ c.one_old.ensures c.checked.ensures (slice_sext_low _ _ _ _ _ _ _ _ _ c.in-Slice.is (c.in_ok-child.was ∙ ap Some c.in-Sext.is) c.in_ok-old.ensures.is (omega arith) c.requires)
