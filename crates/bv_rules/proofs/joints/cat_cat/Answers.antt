use Rattle.bv_rules.proofs.Viewing.{keeps}
use Rattle.bv_rules.proofs.JointLaws.{cat_cat}
use Rattle.bv_rules.proofs.joints.cat_cat.Goals as goal

pub returns : goal.returns
returns c = keeps _ _ _ _ _ c.regrouped.ensures c.checked.ensures (cat_cat _ _ _ _ _ _ _ c.in-Cat.is c.in_ok-a.ensures c.requires)
