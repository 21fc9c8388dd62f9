use Rattle.std.proofs.lemmas.Result.{IfOk-weaker}
use Rattle.bit_blaster.proofs.ShiftLemmas.{raised_moved, lowered_moved}
use Rattle.bit_blaster.proofs.shifts.moved.Goals as goal

pub returns-then-left : goal.returns-then-left
returns-then-left c = rw c.if-left.true (IfOk-weaker c.raised.result _ _ (λ r e. rw e (raised_moved c.args.zero c.args.xs.now c.args.k c.requires)) c.raised.ensures)

pub returns-else-left : goal.returns-else-left
returns-else-left c = rw c.if-left.false (IfOk-weaker c.lowered.result _ _ (λ r e. rw e (lowered_moved c.args.zero c.args.xs.now c.args.k c.requires)) c.lowered.ensures)
