use Rattle.std.proofs.Common.{◌≡◌, ◌≤◌, take, drop, length}
use Rattle.clause_log.specs.Resolution.{without}
use Rattle.clause_log.proofs.resolvent.close_up.Given as goal

abbrev pub invariant-loop-i : goal.invariant-loop-i
invariant-loop-i l =
    (l.kept ≤ l.i)
    × (length l.literals.items ≡ length l.initial.literals.items)
    × (take l.kept l.literals.items ≡ without l.lit (take l.i l.initial.literals.items))
    × (drop l.i l.literals.items ≡ drop l.i l.initial.literals.items)
