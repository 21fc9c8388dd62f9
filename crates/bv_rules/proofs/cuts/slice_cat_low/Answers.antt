use Rattle.std.proofs.Common.{arith, ap, Some, ◌∙◌}
use Rattle.bv_rules.proofs.Viewing.{keeps}
use Rattle.bv_rules.proofs.CutsLaws.{slice_cat_low}
use Rattle.bv_rules.proofs.cuts.slice_cat_low.Goals as goal

pub returns-then-high-width : goal.returns-then-high-width
returns-then-high-width c = keeps _ _ _ _ _ c.one_old.ensures c.checked.ensures (slice_cat_low _ _ _ _ _ _ _ _ _ c.in-Slice.is (c.in_ok-child.was ∙ ap Some c.in-Cat.is) c.in_ok-width.ensures.is (omega arith) c.requires)
