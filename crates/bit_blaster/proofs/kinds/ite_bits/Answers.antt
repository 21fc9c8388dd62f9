use Rattle.bit_blaster.proofs.KindLemmas.{ite_node}
use Rattle.bit_blaster.proofs.kinds.ite_bits.Goals as goal

pub returns : goal.returns
returns c = ite_node _ _ _ _ _ _ _ _ _ c.requires.fits (rw c.one-tests.ensures.is at c.one-tests.ensures.width) (rw c.two.ensures.first at c.two.ensures.width) (rw c.two.ensures.first at c.two.ensures.low) (rw c.two.ensures.first at c.two.ensures.high)
    (rw (c.two.ensures.first, c.two.ensures.second) at c.in_ok-out.ensures) (rw c.one-tests.ensures.is at c.index-tests-0.is)
