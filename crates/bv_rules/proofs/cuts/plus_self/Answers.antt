use Rattle.std.proofs.Common.{arith, rules}
use Rattle.bv_rules.proofs.Viewing.{keeps}
use Rattle.bv_rules.proofs.CutsLaws.{plus_self}
use Rattle.bv_rules.proofs.cuts.plus_self.Goals as goal

pub returns-then-width-gt1 : goal.returns-then-width-gt1
returns-then-width-gt1 c = keeps _ _ _ _ _ c.moved_up.ensures c.checked.ensures (plus_self _ _ _ _ _ _ c.in-Plus.is (search rules) c.in_ok-width.ensures.is (omega arith) c.requires)
