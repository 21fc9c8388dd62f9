use Rattle.std.proofs.Common.{ap, Some, ◌∙◌, arith}
use Rattle.bv_rules.proofs.Viewing.{keeps}
use Rattle.bv_rules.proofs.ExtensionLaws.{slice_sext_across}
use Rattle.bv_rules.proofs.extensions.slice_sext_across.Goals as goal

pub returns-then-high-lt64 : goal.returns-then-high-lt64
returns-then-high-lt64 c = keeps _ _ _ _ _ c.extended_bits.ensures c.checked.ensures (slice_sext_across _ _ _ _ _ _ _ _ _ c.in-Slice.is (c.in_ok-child.was ∙ ap Some c.in-Sext.is) c.in_ok-old.ensures.is (omega arith) (omega arith) c.requires)
