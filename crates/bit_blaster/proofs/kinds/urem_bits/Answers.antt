use Rattle.bit_blaster.proofs.KindLemmas.{urem_node}
use Rattle.bit_blaster.proofs.kinds.urem_bits.Goals as goal

pub returns : goal.returns
returns c = urem_node _ _ _ _ _ _ _ (rw c.two.ensures.first at c.two.ensures.width) (rw c.two.ensures.first at c.two.ensures.low) (rw c.two.ensures.first at c.two.ensures.high) (rw (c.two.ensures.first, c.two.ensures.second) at c.in_ok-out.ensures)
