use Rattle.std.proofs.Common.{take}
use Rattle.clause_search.specs.Path.{AllButFalseIn}
use Rattle.clause_search.proofs.trail.Trail.false_but.Given as goal

abbrev pub invariant-loop-l : goal.invariant-loop-l
invariant-loop-l l = AllButFalseIn (take l.n l.self.path.items) l.u (take l.l-index l.c)
