use Rattle.std.proofs.Common.{ap, Some, ◌∙◌, rules}
use Rattle.bv_rules.proofs.Viewing.{keeps}
use Rattle.bv_rules.proofs.NestLaws.{xor_not}
use Rattle.bv_rules.proofs.nests.xor_not.Goals as goal

pub returns-then-eq : goal.returns-then-eq
returns-then-eq c = keeps _ _ _ _ _ c.constant.ensures c.checked.ensures (xor_not _ _ _ _ _ _ _ _ c.in-Xor.is (c.in_ok-child.was ∙ ap Some c.in-Not.is) (search rules) c.in_ok-width.ensures.is c.mask.ensures c.requires)
