use Rattle.std.proofs.Common.{ap, sym, Some, ◌∙◌}
use Rattle.bv_rules.proofs.Viewing.{keeps}
use Rattle.bv_rules.proofs.ChoicesLaws.{ite_both}
use Rattle.bv_rules.proofs.choices.ite_both.Goals as goal

pub returns-then-is_const : goal.returns-then-is_const
returns-then-is_const c = keeps _ _ _ _ _ c.two_old.ensures c.checked.ensures (ite_both _ _ _ _ _ _ c.in-Ite.is (ap Some (sym c.if-width-eq1.true) ∙ c.in_ok-width.ensures.is) (c.is_const.ensures c.if-is_const.true) c.requires)
