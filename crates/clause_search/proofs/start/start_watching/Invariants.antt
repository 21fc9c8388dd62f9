use Rattle.std.proofs.Common.{◌≡◌, ℕ, ◌*◌, ◌<◌, [], None, length, get_or}
use Rattle.clause_log.specs.Log.{clauses_of}
use Rattle.clause_search.specs.Watch.{IsHeld}
use Rattle.clause_search.specs.Pass.{IsListed}
use Rattle.clause_search.proofs.start.start_watching.Given as goal

abbrev pub invariant-loop-k : goal.invariant-loop-k
invariant-loop-k l =
    IsListed l.watches.pairs.items l.watches.lists.items
    × (length l.watches.pairs.items ≡ l.k)
    × (length l.watches.lists.items ≡ 2 * length l.trail.places.items)
    × ((j : ℕ) → j < l.k → IsHeld l.trail.path.items 0 [] (get_or (clauses_of l.log) j []) (get_or l.watches.pairs.items j None))
