use Rattle.bit_blaster.proofs.LeafLemmas.{leaf_node}
use Rattle.bit_blaster.proofs.KindLemmas.{const_node}
use Rattle.bit_blaster.proofs.kinds.node_bits.Goals as goal

pub returns-in_ok-out-in-Leaf : goal.returns-in_ok-out-in-Leaf
returns-in_ok-out-in-Leaf c = rw c.in-Leaf.is (leaf_node _ _ _ _ _ _ (rw c.in-Leaf.is at c.requires.fits) c.in_ok-out-in-Leaf.ensures)

pub returns-in_ok-out-in-Const : goal.returns-in_ok-out-in-Const
returns-in_ok-out-in-Const c = rw c.in-Const.is (const_node _ _ _ _ _ _ c.requires.ready.room (rw c.in-Const.is at c.requires.fits) c.in_ok-out-in-Const.ensures)
