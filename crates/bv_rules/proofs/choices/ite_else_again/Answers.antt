use Rattle.std.proofs.Common.{ap, Some, ◌∙◌, rules}
use Rattle.bv_rules.proofs.Viewing.{keeps}
use Rattle.bv_rules.proofs.ChoicesLaws.{ite_else_again}
use Rattle.bv_rules.proofs.choices.ite_else_again.Goals as goal

pub returns-then-eq : goal.returns-then-eq
returns-then-eq c = keeps _ _ _ _ _ c.chosen.ensures c.checked.ensures (ite_else_again _ _ _ _ _ _ _ _ _ c.in-Ite.is (c.in_ok-child.was ∙ ap Some c.in-Ite-child.is) (search rules) c.requires)
