use Rattle.std.proofs.Common.{arith}
use Rattle.bv_rules.proofs.Viewing.{keeps}
use Rattle.bv_rules.proofs.CutsLaws.{shr_const}
use Rattle.bv_rules.proofs.cuts.shr_const.Goals as goal

pub returns-then-places-width : goal.returns-then-places-width
returns-then-places-width c = keeps _ _ _ _ _ c.moved_down.ensures c.checked.ensures (shr_const _ _ _ _ _ _ _ c.in-Shr.is c.in_ok-places.ensures c.in_ok-width.ensures.is (omega arith) (omega arith) c.requires)
