use Rattle.std.proofs.Common.{subst, rules}
use Rattle.bv_rules.specs.Plans.{IsConstAt}
use Rattle.bv_rules.proofs.Viewing.{keeps}
use Rattle.bv_rules.proofs.ExtensionLaws.{sext_joint}
use Rattle.bv_rules.proofs.extensions.sext_joint.Goals as goal

pub returns-then-bits-width : goal.returns-then-bits-width
returns-then-bits-width c = keeps _ _ _ _ _ c.widened.ensures c.checked.ensures (sext_joint _ _ _ _ _ _ _ _ c.in-Sext.is c.in_ok-zeros.ensures (subst (IsConstAt c.args.dag.now c.in_ok-zeros.zeros) (search rules) c.in_ok-value.ensures) c.in_ok-bits.ensures.is c.requires)
