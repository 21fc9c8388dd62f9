use Rattle.std.proofs.Common.{ap, Some, ◌∙◌}
use Rattle.bv_rules.proofs.Viewing.{keeps}
use Rattle.bv_rules.proofs.CutsLaws.{slice_slice}
use Rattle.bv_rules.proofs.cuts.slice_slice.Goals as goal

pub returns-then-start-lt64 : goal.returns-then-start-lt64
returns-then-start-lt64 c = keeps _ _ _ _ _ c.one_old.ensures c.checked.ensures (slice_slice _ _ _ _ _ _ _ _ _ c.in-Slice.is (c.in_ok-child.was ∙ ap Some c.in-Slice-child.is) c.requires)
