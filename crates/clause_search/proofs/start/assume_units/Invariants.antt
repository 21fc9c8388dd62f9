use Rattle.std.proofs.Common.{◌≡◌, ℕ, ◌<◌, [], length, get_or}
use Rattle.clause_log.specs.Log.{clauses_of}
use Rattle.clause_search.specs.Start.{HoldsUnits}
use Rattle.clause_search.specs.State.{IsSearching}
use Rattle.clause_search.proofs.start.assume_units.Given as goal

abbrev pub invariant-loop-k : goal.invariant-loop-k
invariant-loop-k l =
    IsSearching l.log l.trail
    × (l.trail.starts.items ≡ [])
    × (length l.trail.places.items ≡ length l.initial.trail.places.items)
    × ((k : ℕ) → k < l.k → HoldsUnits l.trail.path.items (get_or (clauses_of l.log) k []))
