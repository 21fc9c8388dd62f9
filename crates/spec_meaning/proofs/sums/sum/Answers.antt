use Rattle.std.proofs.Common.{◌≡◌, ◌+ℤ◌, arith, rules, sym}
use Rattle.std.proofs.lemmas.Int.{ints}
use Rattle.spec_meaning.specs.WideSums.{whole}
use Rattle.spec_meaning.proofs.WideSums.{stepped}
use Rattle.spec_meaning.proofs.sums.sum.Goals as goal

pub loop-value-preserved : goal.loop-value-preserved
loop-value-preserved c =
    let grown : whole c.more-sum.result.low c.more-sum.result.turns ≡ whole c.loop-value.sum.low c.loop-value.sum.turns +ℤ c.in_ok-number.number = search (rules, c.more-sum.ensures.value) in
    record {
      value = stepped _ _ _ _ _ _ _ c.loop-value-test.true c.value-item.is (sym c.in_ok-number.ensures) grown c.loop-value.invariant.value;
      low = omega (arith, ints, c.loop-value.invariant.low, c.more-sum.ensures.fewest);
      high = omega (arith, ints, c.loop-value.invariant.high, c.more-sum.ensures.most);
    }
