use Rattle.std.proofs.Common.{sym, arith}
use Rattle.spec_reader.proofs.Digits.{goes_on, ends}
use Rattle.spec_reader.proofs.number.value_from.Goals as goal

pub loop-byte-preserved : goal.loop-byte-preserved
loop-byte-preserved c = record {
  so_far = rw c.with_digit-value.ensures (goes_on c.args.base c.loop-byte.value c.args.digits.now c.loop-byte.byte-index c.in_ok-digit.digit _ c.requires c.loop-byte-test.true (sym c.in_ok-digit.ensures) c.loop-byte.invariant.so_far);
  within = omega (arith, c.with_digit-value.ensures);
}

pub returns : goal.returns
returns c = ends c.args.base c.loop-byte.value c.args.digits.now c.loop-byte.byte-index _ c.loop-byte.invariant.within c.loop-byte-test.false c.loop-byte.invariant.so_far
