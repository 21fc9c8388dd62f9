use Rattle.std.proofs.Common.{ap, Some, ◌∙◌}
use Rattle.bv_rules.proofs.Viewing.{keeps}
use Rattle.bv_rules.proofs.NestLaws.{xor_nest}
use Rattle.bv_rules.proofs.nests.xor_nest.Goals as goal

pub returns : goal.returns
returns c = keeps _ _ _ _ _ c.same.ensures c.checked.ensures (xor_nest _ _ _ _ _ _ _ _ c.in-Xor.is (c.in_ok-child.was ∙ ap Some c.in-Xor-child.is) c.in_ok-y.ensures c.requires)
