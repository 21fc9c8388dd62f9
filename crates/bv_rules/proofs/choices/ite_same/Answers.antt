use Rattle.std.proofs.Common.{rules}
use Rattle.bv_rules.proofs.Viewing.{keeps}
use Rattle.bv_rules.proofs.ChoicesLaws.{ite_same}
use Rattle.bv_rules.proofs.choices.ite_same.Goals as goal

pub returns-then-eq : goal.returns-then-eq
returns-then-eq c = keeps _ _ _ _ _ c.same.ensures c.checked.ensures (ite_same _ _ _ _ _ _ c.in-Ite.is (search rules) c.requires)
