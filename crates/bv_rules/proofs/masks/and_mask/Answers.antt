use Rattle.std.proofs.Common.{arith}
use Rattle.bv_rules.proofs.Viewing.{keeps}
use Rattle.bv_rules.proofs.MaskLaws.{and_mask}
use Rattle.bv_rules.proofs.masks.and_mask.Goals as goal

pub returns-then-bits-width : goal.returns-then-bits-width
returns-then-bits-width c = keeps _ _ _ _ _ c.lowest.ensures c.checked.ensures (and_mask _ _ _ _ _ _ _ _ _ c.in-And.is c.in_ok-x.ensures c.in_ok-width.ensures.is c.in_ok-bits.ensures.is (omega arith) (omega arith) c.requires)
