use Rattle.std.proofs.Common.{arith}
use Rattle.bv_rules.proofs.Viewing.{keeps}
use Rattle.bv_rules.proofs.AbsorbingLaws.{shr_past}
use Rattle.bv_rules.proofs.absorbing.shr_past.Goals as goal

pub returns-then-width-places : goal.returns-then-width-places
returns-then-width-places c = keeps _ _ _ _ _ c.constant.ensures c.checked.ensures (shr_past _ _ _ _ _ _ _ c.in-Shr.is c.in_ok-places.ensures c.in_ok-width.ensures.is (omega arith) c.requires)
