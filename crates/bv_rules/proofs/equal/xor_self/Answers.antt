use Rattle.std.proofs.Common.{rules}
use Rattle.bv_rules.proofs.Viewing.{keeps}
use Rattle.bv_rules.proofs.EqualLaws.{xor_self}
use Rattle.bv_rules.proofs.equal.xor_self.Goals as goal

pub returns-then-eq : goal.returns-then-eq
returns-then-eq c = keeps _ _ _ _ _ c.constant.ensures c.checked.ensures (xor_self _ _ _ _ c.in_ok-width.width _ c.in-Xor.is (search rules) c.requires)
