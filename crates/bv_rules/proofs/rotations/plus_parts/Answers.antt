use Rattle.bv_rules.proofs.Viewing.{keeps}
use Rattle.bv_rules.proofs.RotationLaws.{plus_parts}
use Rattle.bv_rules.proofs.rotations.plus_parts.Goals as goal

pub returns : goal.returns
returns c = keeps _ _ _ _ _ c.joined.ensures c.checked.ensures (plus_parts _ _ _ _ _ _ _ c.in-Plus.is c.in_ok-high.ensures c.requires)
