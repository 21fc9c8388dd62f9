use Rattle.std.proofs.Common.{rules}
use Rattle.bv_rules.proofs.Viewing.{keeps}
use Rattle.bv_rules.proofs.EqualLaws.{slt_self}
use Rattle.bv_rules.proofs.equal.slt_self.Goals as goal

pub returns-then-eq : goal.returns-then-eq
returns-then-eq c = keeps _ _ _ _ _ c.constant.ensures c.checked.ensures (slt_self _ _ _ _ _ c.in-Slt.is (search rules) c.requires)
