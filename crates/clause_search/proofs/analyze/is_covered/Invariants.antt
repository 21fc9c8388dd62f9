use Rattle.std.proofs.Common.{take}
use Rattle.clause_search.specs.Learnt.{IsCovered}
use Rattle.clause_search.proofs.analyze.is_covered.Given as goal

abbrev pub invariant-loop-l : goal.invariant-loop-l
invariant-loop-l l = IsCovered l.scratch.literals (take l.l-index l.reason) l.follows
