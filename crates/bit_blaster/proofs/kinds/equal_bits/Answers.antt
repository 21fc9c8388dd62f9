use Rattle.std.proofs.lemmas.Result.{IfOk-weaker}
use Rattle.bit_blaster.proofs.KindLemmas.{equal_node}
use Rattle.bit_blaster.proofs.kinds.equal_bits.Goals as goal

pub returns : goal.returns
returns c = IfOk-weaker c.single.result _ _ (λ r e. equal_node _ _ _ _ _ _ _ (rw c.two.ensures.first at c.two.ensures.width) (rw c.two.ensures.first at c.two.ensures.low) (rw (c.two.ensures.first, c.two.ensures.second) at c.in_ok-test.ensures) e) c.single.ensures
