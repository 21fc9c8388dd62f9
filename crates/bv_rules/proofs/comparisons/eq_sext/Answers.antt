use Rattle.std.proofs.Common.{ap, sym, Some, ◌∙◌, arith, rules}
use Rattle.bv_rules.proofs.Viewing.{keeps}
use Rattle.bv_rules.proofs.ComparisonsLaws.{eq_sext}
use Rattle.bv_rules.proofs.comparisons.eq_sext.Goals as goal

pub returns-then-sx-value : goal.returns-then-sx-value
returns-then-sx-value c = keeps _ _ _ _ _ c.with_constant.ensures c.checked.ensures (eq_sext _ _ _ _ _ _ _ _ _ _ _ c.in-Eq.is c.in_ok-extended.ensures (sym (ap Some c.in-Sext.is) ∙ c.in_ok-child.ensures) c.in_ok-old.ensures.is (omega arith) c.chop-low.ensures.value (sym c.sx.ensures.value ∙ search rules) c.requires)
