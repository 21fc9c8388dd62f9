use Rattle.std.proofs.Common.{arith}
use Rattle.bv_rules.proofs.Viewing.{keeps}
use Rattle.bv_rules.proofs.CutsLaws.{shl_const}
use Rattle.bv_rules.proofs.cuts.shl_const.Goals as goal

pub returns-then-places-width : goal.returns-then-places-width
returns-then-places-width c = keeps _ _ _ _ _ c.moved_up.ensures c.checked.ensures (shl_const _ _ _ _ _ _ _ c.in-Shl.is c.in_ok-places.ensures c.in_ok-width.ensures.is (omega arith) (omega arith) c.requires)
