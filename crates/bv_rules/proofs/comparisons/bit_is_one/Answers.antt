use Rattle.std.proofs.Common.{ap, sym, Some, ◌∙◌, subst, rules}
use Rattle.bv_rules.specs.Plans.{IsConstBeside}
use Rattle.bv_rules.proofs.Viewing.{keeps}
use Rattle.bv_rules.proofs.ComparisonsLaws.{bit_is_one}
use Rattle.bv_rules.proofs.comparisons.bit_is_one.Goals as goal

pub returns-then-value-eq1 : goal.returns-then-value-eq1
returns-then-value-eq1 c = keeps _ _ _ _ _ c.same.ensures c.checked.ensures (bit_is_one _ _ _ _ _ _ c.in-Eq.is (subst (IsConstBeside c.args.dag.now c.in-Eq.a c.in-Eq.b c.in_ok-x.x) (search rules) c.in_ok-x.ensures) (ap Some (sym c.if-width-eq1.true) ∙ c.in_ok-width.ensures.is) c.requires)
