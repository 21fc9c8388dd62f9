use Rattle.std.proofs.Common.{arith}
use Rattle.clause_log.proofs.Marking.{IsMarked-without, IsMarked-absent}
use Rattle.clause_log.proofs.resolvent.take_out.Goals as goal

pub returns-then-at-len-clause-marked : goal.returns-then-at-len-clause-marked
returns-then-at-len-clause-marked c =
    rw (c.close_up.ensures, c.code-at.ensures) (IsMarked-without c.args.marks.now.items c.args.literals.now.items c.args.lit c.requires)

pub returns-else-at-len-clause-marked : goal.returns-else-at-len-clause-marked
returns-else-at-len-clause-marked c =
    rw c.close_up.ensures (IsMarked-absent c.args.marks.now.items c.args.literals.now.items c.args.lit c.requires (omega (arith, c.code-at.ensures)))
