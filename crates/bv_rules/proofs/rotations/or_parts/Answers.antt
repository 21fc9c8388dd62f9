use Rattle.bv_rules.proofs.Viewing.{keeps}
use Rattle.bv_rules.proofs.RotationLaws.{or_parts}
use Rattle.bv_rules.proofs.rotations.or_parts.Goals as goal

pub returns : goal.returns
returns c = keeps _ _ _ _ _ c.joined.ensures c.checked.ensures (or_parts _ _ _ _ _ _ _ c.in-Or.is c.in_ok-high.ensures c.requires)
