use Rattle.std.proofs.Common.{◌∙◌, arith, false}
use Rattle.bit_blaster.proofs.Growing.{over_after, constant_gate, constant_in}
use Rattle.bit_blaster.proofs.Spells.{over_repeated}
use Rattle.bit_blaster.proofs.ProductLemmas.{over_read, summed_none, summed_more, summed_all}
use Rattle.bit_blaster.proofs.products.times.Goals as goal

pub loop-i-init : goal.loop-i-init
loop-i-init c = summed_none _ _ _ _ _ (constant_gate _ _ _ false c.requires.room c.constant-zero.ensures) c.in_ok-sum.ensures

pub row_added-requires-clause-y_in : goal.row_added-requires-clause-y_in
row_added-requires-clause-y_in c = over_read _ _ _ _ _ c.loop-i-test.true (over_after _ _ _ _ c.loop-i.invariant.grows c.requires.ys_in) c.index-ys-i.is

pub row_added-requires-clause-zeros_in : goal.row_added-requires-clause-zeros_in
row_added-requires-clause-zeros_in c = over_after _ _ _ _ c.loop-i.invariant.grows (rw (c.deref.ensures.value ∙ c.in_ok-zeros.ensures) (over_repeated _ _ _ (constant_in _ _ _ false c.requires.room c.constant-zero.ensures)))

pub row_added-requires-clause-xs_in : goal.row_added-requires-clause-xs_in
row_added-requires-clause-xs_in c = over_after _ _ _ _ c.loop-i.invariant.grows c.requires.xs_in

pub loop-i-preserved : goal.loop-i-preserved
loop-i-preserved c =
    summed_more _ _ _ _ _ _ _ _ _ _ _ _ (constant_gate _ _ _ false c.requires.room c.constant-zero.ensures) c.loop-i.invariant (c.deref.ensures.value ∙ c.in_ok-zeros.ensures) c.index-ys-i.is c.loop-i-test.true c.requires.same
    (rw c.deref-in-loop-i.ensures.value at c.in_ok-sum-2.ensures)

pub returns : goal.returns
returns c = summed_all _ _ _ _ _ _ _ (constant_gate _ _ _ false c.requires.room c.constant-zero.ensures) c.loop-i.invariant (omega arith) c.requires.same c.requires.low
