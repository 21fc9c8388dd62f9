use Rattle.bv_rules.proofs.Viewing.{keeps}
use Rattle.bv_rules.proofs.NestLaws.{union_less_common}
use Rattle.bv_rules.proofs.nests.union_less_common.Goals as goal

pub returns : goal.returns
returns c = keeps _ _ _ _ _ c.two_old.ensures c.checked.ensures (union_less_common _ _ _ _ _ _ _ c.in-Plus.is c.in_ok-x.ensures c.requires)
