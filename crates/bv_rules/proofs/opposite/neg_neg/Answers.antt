use Rattle.std.proofs.Common.{ap, Some, ◌∙◌}
use Rattle.bv_rules.proofs.Viewing.{keeps}
use Rattle.bv_rules.proofs.OppositeLaws.{neg_neg}
use Rattle.bv_rules.proofs.opposite.neg_neg.Goals as goal

pub returns : goal.returns
returns c = keeps _ _ _ _ _ c.same.ensures c.checked.ensures (neg_neg _ _ _ _ _ c.in-Neg.is (c.in_ok-child.was ∙ ap Some c.in-Neg-child.is) c.requires)
