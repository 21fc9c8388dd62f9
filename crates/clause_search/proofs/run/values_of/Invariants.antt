use Rattle.std.proofs.Common.{◌≡◌, length}
use Rattle.clause_search.specs.Found.{AreValues}
use Rattle.clause_search.proofs.run.values_of.Given as goal

abbrev pub invariant-loop-v : goal.invariant-loop-v
invariant-loop-v l = AreValues l.trail.path.items l.v l.values.items × (length l.values.items ≡ l.v)
