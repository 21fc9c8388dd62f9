use Rattle.std.proofs.Common.{arith}
use Rattle.word_check.proofs.Weighing.{weighed_none}
use Rattle.word_check.proofs.sums.are_zero.Goals as goal

pub returns : goal.returns
returns c = λ on vs. weighed_none _ vs (λ i lt. c.loop-factor.invariant i (omega (arith, lt, c.loop-factor-test.false)))
