use Rattle.std.proofs.Common.{arith}
use Rattle.bv_rules.proofs.Viewing.{keeps}
use Rattle.bv_rules.proofs.CutsLaws.{slice_whole}
use Rattle.bv_rules.proofs.cuts.slice_whole.Goals as goal

pub returns-then-high-width : goal.returns-then-high-width
returns-then-high-width c = keeps _ _ _ _ _ c.same.ensures c.checked.ensures (slice_whole _ _ _ _ _ c.in_ok-width.width _ c.in-Slice.is c.if-low-eq0.true (omega (arith, c.in_ok-width.ensures.wide)) c.in_ok-width.ensures.is c.requires)
