use Rattle.std.proofs.Common.{◌≡◌, ◌+◌, ◌-◌, ◌≤◌, length}
use Rattle.clause_log.specs.Log.{clauses_of}
use Rattle.clause_search.specs.Path.{IsSearch, free_count}
use Rattle.clause_search.specs.Watch.{IsWatching}
use Rattle.clause_search.specs.Pass.{AreLists}
use Rattle.clause_search.proofs.pass.propagate_watched.Given as goal

abbrev pub invariant-path : goal.invariant-path
invariant-path l =
    IsSearch (clauses_of l.log) l.trail.path.items l.trail.reasons.items l.trail.starts.items (length l.trail.places.items)
    × AreLists (clauses_of l.log) (length l.trail.places.items) l.watches.pairs.items l.watches.lists.items
    × (l.trail.starts.items ≡ l.initial.trail.starts.items)
    × (length l.trail.places.items ≡ length l.initial.trail.places.items)
    × (free_count l.trail.places.items + length l.trail.path.items ≡ free_count l.initial.trail.places.items + length l.initial.trail.path.items)
    × (length l.initial.trail.path.items ≤ length l.trail.path.items)
    × (l.q ≤ length l.trail.path.items)
    × IsWatching (clauses_of l.log) l.trail.path.items l.q l.trail.starts.items l.watches.pairs.items

abbrev pub decreases-path : goal.decreases-path
decreases-path l = (free_count l.trail.places.items + length l.trail.path.items) - l.q
