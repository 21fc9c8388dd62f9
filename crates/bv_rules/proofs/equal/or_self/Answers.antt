use Rattle.std.proofs.Common.{rules}
use Rattle.bv_rules.proofs.Viewing.{keeps}
use Rattle.bv_rules.proofs.EqualLaws.{or_self}
use Rattle.bv_rules.proofs.equal.or_self.Goals as goal

pub returns-then-eq : goal.returns-then-eq
returns-then-eq c = keeps _ _ _ _ _ c.same.ensures c.checked.ensures (or_self _ _ _ _ _ c.in-Or.is (search rules) c.requires)
