use Rattle.std.proofs.Common.{ap, Some, ◌∙◌, arith}
use Rattle.bv_rules.proofs.Viewing.{keeps}
use Rattle.bv_rules.proofs.JointLaws.{slice_cat_across}
use Rattle.bv_rules.proofs.joints.slice_cat_across.Goals as goal

pub returns-then-width-high : goal.returns-then-width-high
returns-then-width-high c = keeps _ _ _ _ _ c.cut_parts.ensures c.checked.ensures (slice_cat_across _ _ _ _ _ _ _ _ _ c.in-Slice.is (c.in_ok-child.was ∙ ap Some c.in-Cat.is) c.in_ok-width.ensures.is (omega arith) (omega arith) c.requires)
