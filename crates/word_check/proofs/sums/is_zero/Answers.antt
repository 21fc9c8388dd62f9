use Rattle.std.proofs.Common.{refl}
use Rattle.word_check.specs.Overlaps.{overlaps}
use Rattle.word_check.proofs.Weighing.{zero_total}
use Rattle.word_check.proofs.sums.is_zero.Goals as goal

pub returns : goal.returns
returns c = λ on nodes vs. zero_total _ _ _ on (rw c.deref-2.ensures.value at c.if-not-are_zero-2.ensures refl (overlaps nodes vs)) (rw c.deref.ensures.value at c.if-not-are_zero.ensures refl vs)
