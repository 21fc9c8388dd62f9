use Rattle.std.proofs.Common.{ap, sym, Some, ◌∙◌}
use Rattle.bv_rules.proofs.Viewing.{keeps}
use Rattle.bv_rules.proofs.CutsLaws.{sext_same}
use Rattle.bv_rules.proofs.cuts.sext_same.Goals as goal

pub returns-then-old-width : goal.returns-then-old-width
returns-then-old-width c = keeps _ _ _ _ _ c.same.ensures c.checked.ensures (sext_same _ _ _ _ _ c.in-Sext.is (ap Some (sym c.if-old-width.true) ∙ c.in_ok-old.ensures.is) c.requires)
