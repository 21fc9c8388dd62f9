use Rattle.std.proofs.Common.{take}
use Rattle.clause_search.specs.Last.{IsLast}
use Rattle.clause_search.proofs.learn.last_other.Given as goal

abbrev pub invariant-loop-l : goal.invariant-loop-l
invariant-loop-l l = IsLast l.trail.path.items l.trail.places.items l.first (take l.l-index l.c) l.place l.last
