use Rattle.std.proofs.Common.{rules}
use Rattle.bv_rules.proofs.Viewing.{keeps}
use Rattle.bv_rules.proofs.FoldingLaws.{fold_two}
use Rattle.bv_rules.proofs.folding.fold_two.Goals as goal

pub returns : goal.returns
returns c = keeps _ _ _ _ _ c.constant.ensures c.checked.ensures (fold_two _ c.args.view.node c.in_ok-width.width c.in_ok-value.value _ _ _ (search rules) c.in_ok-x.ensures.is c.in_ok-y.ensures.is c.in_ok-x.ensures.word c.in_ok-y.ensures.word c.in_ok-value.ensures c.requires)
