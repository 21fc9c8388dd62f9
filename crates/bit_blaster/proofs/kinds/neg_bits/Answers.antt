use Rattle.bit_blaster.proofs.KindLemmas.{neg_node}
use Rattle.bit_blaster.proofs.kinds.neg_bits.Goals as goal

pub returns : goal.returns
returns c = neg_node _ _ _ _ _ (rw c.one-xs.ensures.is at c.one-xs.ensures.width) (rw c.one-xs.ensures.is at c.one-xs.ensures.low) (rw c.one-xs.ensures.is at c.one-xs.ensures.high) (rw c.one-xs.ensures.is at c.in_ok-out.ensures)
