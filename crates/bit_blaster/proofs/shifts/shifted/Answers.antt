use Rattle.std.proofs.Common.{◌∙◌, arith, refl, false}
use Rattle.bit_blaster.proofs.Growing.{over_after, constant_gate, constant_in}
use Rattle.bit_blaster.proofs.Spells.{over_repeated}
use Rattle.bit_blaster.proofs.ProductLemmas.{over_read}
use Rattle.bit_blaster.proofs.ShiftLemmas.{shifted_none, shifted_more, shifted_all}
use Rattle.bit_blaster.proofs.shifts.shifted.Goals as goal

pub loop-j-init : goal.loop-j-init
loop-j-init c = shifted_none _ _ _ _ _ _ (constant_gate _ _ _ false c.requires.room c.constant-zero.ensures) c.requires.xs_in (c.in_ok-extend_from_slice.ensures.items ∙ rw c.new-word.ensures.items refl)

pub stage-requires-clause-y_in : goal.stage-requires-clause-y_in
stage-requires-clause-y_in c = over_read _ _ _ _ _ c.loop-j-test.true (over_after _ _ _ _ c.loop-j.invariant.grows c.requires.ys_in) c.index-ys-j.is

pub loop-j-preserved : goal.loop-j-preserved
loop-j-preserved c =
    shifted_more _ _ _ _ _ _ _ _ _ _ _ _ _ c.loop-j.invariant c.in_ok-o.ensures c.index-ys-j.is c.loop-j-test.true

pub chosen-requires-clause-xs_in : goal.chosen-requires-clause-xs_in
chosen-requires-clause-xs_in c = over_after _ _ _ _ c.loop-j.invariant.grows (rw (c.deref.ensures.value ∙ c.in_ok-zeros.ensures) (over_repeated _ _ _ (constant_in _ _ _ false c.requires.room c.constant-zero.ensures)))

pub returns : goal.returns
returns c = shifted_all _ _ _ _ _ _ _ _ _ _ _ _ (constant_gate _ _ _ false c.requires.room c.constant-zero.ensures) c.loop-j.invariant (omega arith) c.in_ok-zeros.ensures
    (rw (c.deref.ensures.value, c.deref-2.ensures.value) at c.in_ok-out.ensures)
