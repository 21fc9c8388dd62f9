use Rattle.bit_blaster.proofs.KindLemmas.{shr_node}
use Rattle.bit_blaster.proofs.kinds.shr_bits.Goals as goal

pub returns : goal.returns
returns c = shr_node _ _ _ _ _ _ (rw c.one-xs.ensures.is at c.one-xs.ensures.width) (rw c.one-ys.ensures.is at c.one-ys.ensures.width) (rw c.one-xs.ensures.is at c.one-xs.ensures.low) (rw c.one-xs.ensures.is at c.one-xs.ensures.high) (rw (c.one-xs.ensures.is, c.one-ys.ensures.is) at c.in_ok-out.ensures)
