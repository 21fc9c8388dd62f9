use Rattle.bv_rules.proofs.Viewing.{keeps}
use Rattle.bv_rules.proofs.RotationLaws.{xor_parts}
use Rattle.bv_rules.proofs.rotations.xor_parts.Goals as goal

pub returns : goal.returns
returns c = keeps _ _ _ _ _ c.joined.ensures c.checked.ensures (xor_parts _ _ _ _ _ _ _ c.in-Xor.is c.in_ok-high.ensures c.requires)
