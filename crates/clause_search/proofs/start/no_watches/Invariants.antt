use Rattle.std.proofs.Common.{◌≡◌, length}
use Rattle.clause_search.proofs.start.no_watches.Given as goal

abbrev pub invariant-loop-i : goal.invariant-loop-i
invariant-loop-i l = length l.lists.items ≡ l.i
