use Rattle.std.proofs.Common.{arith, ap, Some, ◌∙◌}
use Rattle.bv_rules.proofs.Viewing.{keeps}
use Rattle.bv_rules.proofs.CutsLaws.{slice_cat_high}
use Rattle.bv_rules.proofs.cuts.slice_cat_high.Goals as goal

pub returns-then-low-high : goal.returns-then-low-high
returns-then-low-high c = keeps _ _ _ _ _ c.one_old.ensures c.checked.ensures (slice_cat_high _ _ _ _ _ _ _ _ _ c.in-Slice.is (c.in_ok-child.was ∙ ap Some c.in-Cat.is) c.in_ok-width.ensures.is (omega arith) c.requires)
