use Rattle.std.proofs.lemmas.Result.{IfOk-weaker}
use Rattle.bit_blaster.proofs.KindLemmas.{cat_node}
use Rattle.bit_blaster.proofs.kinds.cat_bits.Goals as goal

pub returns : goal.returns
returns c = IfOk-weaker c.joined.result _ _ (λ r e. cat_node _ _ _ _ _ c.requires.fits (rw c.one-xs.ensures.is at c.one-xs.ensures.width) (rw c.one-ys.ensures.is at c.one-ys.ensures.width) (rw c.one-xs.ensures.is at c.one-xs.ensures.low) (rw c.one-xs.ensures.is at c.one-xs.ensures.inside) (rw c.one-ys.ensures.is at c.one-ys.ensures.inside) (rw (c.one-xs.ensures.is, c.one-ys.ensures.is) at e)) c.joined.ensures
