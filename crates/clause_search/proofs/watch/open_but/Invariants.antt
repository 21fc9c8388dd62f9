use Rattle.std.proofs.Common.{take}
use Rattle.clause_search.specs.Path.{AllButFalseIn}
use Rattle.clause_search.proofs.watch.open_but.Given as goal

abbrev pub invariant-loop-l : goal.invariant-loop-l
invariant-loop-l l = AllButFalseIn l.trail.path.items l.other (take l.l-index l.c)
