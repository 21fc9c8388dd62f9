use Rattle.std.proofs.Common.{ap, Some, ◌∙◌, rules}
use Rattle.bv_rules.proofs.Viewing.{keeps}
use Rattle.bv_rules.proofs.NestLaws.{plus_neg}
use Rattle.bv_rules.proofs.nests.plus_neg.Goals as goal

pub returns-then-eq : goal.returns-then-eq
returns-then-eq c = keeps _ _ _ _ _ c.constant.ensures c.checked.ensures (plus_neg _ _ _ _ _ _ _ c.in-Plus.is (c.in_ok-child.was ∙ ap Some c.in-Neg.is) (search rules) c.in_ok-width.ensures.is c.requires)
