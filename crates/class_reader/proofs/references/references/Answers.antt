use Rattle.std.proofs.lemmas.Result.{err_from_is_err_and}
use Rattle.class_reader.proofs.Loops.{reference_goes_on, reference_fails, references_end}
use Rattle.class_reader.proofs.references.references.Goals as goal

pub returns-in_err-slot_references : goal.returns-in_err-slot_references
returns-in_err-slot_references c =
    let p = err_from_is_err_and c.from_residual.result c.from_residual.ensures.1 in
    rw (p.1, p.2) (reference_fails c.args.end _ _ _ _ c.in_err-slot_references.field-0.0 _ c.loop-slot-test.true c.slot-item.is (rw c.offset.ensures at c.in_err-slot_references.ensures) c.loop-slot.invariant)

pub loop-slot-preserved : goal.loop-slot-preserved
loop-slot-preserved c =
    rw (c.skip-rest.ensures, c.slot_size.ensures) (reference_goes_on c.args.end _ _ _ _ c.in_ok-slot_references.field-0 _ c.loop-slot-test.true c.slot-item.is (rw c.offset.ensures at c.in_ok-slot_references.ensures) c.loop-slot.invariant)

pub returns : goal.returns
returns c = references_end c.args.end _ _ _ _ c.loop-slot-test.false c.loop-slot.invariant
