use Rattle.std.proofs.lemmas.Result.{err_from_is_err_and}
use Rattle.class_reader.proofs.Loops.{slot_goes_on, slot_fails, slots_end}
use Rattle.class_reader.proofs.constants.slots.Goals as goal

pub returns-in_err-slot : goal.returns-in_err-slot
returns-in_err-slot c =
    let p = err_from_is_err_and c.from_residual.result c.from_residual.ensures.1 in
    rw (p.1, p.2) (slot_fails c.in_err-slot.field-0.0 c.args.end c.args.count c.loop-number.number _ _ _ c.args.bytes.now c.loop-number-test.true c.in_err-slot.ensures c.loop-number.invariant)

pub loop-number-preserved : goal.loop-number-preserved
loop-number-preserved c =
    rw (c.in_ok-push.ensures.items, c.takes_two-second.ensures) (slot_goes_on c.args.end c.args.count c.loop-number.number _ _ _ _ _ _ c.loop-number-test.true c.in_ok-slot.ensures c.loop-number.invariant)

pub returns : goal.returns
returns c = slots_end c.args.end c.args.count c.loop-number.number _ _ _ c.args.bytes.now c.loop-number-test.false c.loop-number.invariant
