use Rattle.std.proofs.Common.{rules}
use Rattle.bv_rules.proofs.Viewing.{keeps}
use Rattle.bv_rules.proofs.EqualLaws.{eq_self}
use Rattle.bv_rules.proofs.equal.eq_self.Goals as goal

pub returns-then-eq : goal.returns-then-eq
returns-then-eq c = keeps _ _ _ _ _ c.constant.ensures c.checked.ensures (eq_self _ _ _ _ _ c.in-Eq.is (search rules) c.requires)
