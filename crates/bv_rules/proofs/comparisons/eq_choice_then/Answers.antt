use Rattle.std.proofs.Common.{ap, sym, Some, ◌∙◌, rules}
use Rattle.bv_rules.proofs.Viewing.{keeps}
use Rattle.bv_rules.proofs.ComparisonsLaws.{eq_choice_then}
use Rattle.bv_rules.proofs.comparisons.eq_choice_then.Goals as goal

pub returns-then-value-other : goal.returns-then-value-other
returns-then-value-other c = keeps _ _ _ _ _ c.same.ensures c.checked.ensures (eq_choice_then _ _ _ _ _ _ _ _ _ _ _ _ c.in-Eq.is c.in_ok-choice.ensures (sym (ap Some c.in-Ite.is) ∙ c.in_ok-child.ensures) c.in_ok-then.ensures c.in_ok-other.ensures (search rules) (search rules) c.requires)
