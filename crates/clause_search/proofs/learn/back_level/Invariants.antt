use Rattle.std.proofs.Common.{◌<◌, length, take, get_or}
use Rattle.clause_search.specs.Path.{AllButFalseIn}
use Rattle.clause_search.proofs.learn.back_level.Given as goal

abbrev pub invariant-down : goal.invariant-down
invariant-down l = (l.level < length l.trail.starts.items) × AllButFalseIn (take (get_or l.trail.starts.items l.level 0) l.trail.path.items) l.first l.clause

abbrev pub decreases-down : goal.decreases-down
decreases-down l = l.level
