use Rattle.std.proofs.Common.{ap, Some, ◌∙◌, rules}
use Rattle.bv_rules.proofs.Viewing.{keeps}
use Rattle.bv_rules.proofs.JointLaws.{cat_slices}
use Rattle.bv_rules.proofs.joints.cat_slices.Goals as goal

pub returns-then-middle-below : goal.returns-then-middle-below
returns-then-middle-below c = keeps _ _ _ _ _ c.one_old.ensures c.checked.ensures (cat_slices _ _ _ _ _ _ _ _ _ _ _ c.in-Cat.is (c.in_ok-upper.was ∙ ap Some c.in-Slice.is) (c.in_ok-lower.was ∙ ap Some c.in-Slice-lower.is) (search rules) (search rules) c.requires)
