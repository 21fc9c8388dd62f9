use Rattle.rewriter.proofs.Likeness.{like_refl, like_trans, like_fits}
use Rattle.rewriter.proofs.building.settled.Goals as goal

pub loop-init : goal.loop-init
loop-init c = like_refl _ _

pub view_of-requires : goal.view_of-requires
view_of-requires c = like_fits _ _ _ c.loop.invariant c.requires

pub loop-preserved : goal.loop-preserved
loop-preserved c = like_trans _ _ _ _ c.loop.invariant c.in-Some-next_node.ensures
