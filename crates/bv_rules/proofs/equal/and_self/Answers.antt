use Rattle.std.proofs.Common.{rules}
use Rattle.bv_rules.proofs.Viewing.{keeps}
use Rattle.bv_rules.proofs.EqualLaws.{and_self}
use Rattle.bv_rules.proofs.equal.and_self.Goals as goal

pub returns-then-eq : goal.returns-then-eq
returns-then-eq c = keeps _ _ _ _ _ c.same.ensures c.checked.ensures (and_self _ _ _ _ _ c.in-And.is (search rules) c.requires)
