use Rattle.std.proofs.Common.{arith, ap, length}
use Rattle.word_check.proofs.ExclusiveOrLaws.{xor_none, zero_xor}
use Rattle.word_check.proofs.exclusive_ors.is_zero_xor.Goals as goal

pub returns : goal.returns
returns c = λ on vs. zero_xor _ _ on (xor_none _ vs (λ i lt. c.loop-member.invariant i (omega (arith, lt, c.loop-member-test.false, ap length c.deref-member-items.ensures.value))))
