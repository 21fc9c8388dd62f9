use Rattle.std.proofs.Common.{rules}
use Rattle.bv_rules.proofs.Viewing.{keeps}
use Rattle.bv_rules.proofs.DivisionLaws.{urem_self}
use Rattle.bv_rules.proofs.divisions.urem_self.Goals as goal

pub returns-then-eq : goal.returns-then-eq
returns-then-eq c = keeps _ _ _ _ _ c.constant.ensures c.checked.ensures (urem_self _ _ _ _ c.in_ok-width.width _ c.in-Urem.is (search rules) c.requires)
