use Rattle.std.proofs.lemmas.Result.{IfOk-weaker}
use Rattle.bit_blaster.proofs.KindLemmas.{slice_node}
use Rattle.bit_blaster.proofs.kinds.slice_bits.Goals as goal

pub returns : goal.returns
returns c = IfOk-weaker c.part.result _ _ (λ r e. slice_node _ _ _ _ _ _ c.requires.fits (rw c.one-xs.ensures.is at c.one-xs.ensures.width) (rw c.one-xs.ensures.is at c.one-xs.ensures.high) (rw c.one-xs.ensures.is at c.one-xs.ensures.inside) (rw c.one-xs.ensures.is at e)) c.part.ensures
