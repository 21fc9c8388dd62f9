use Rattle.std.proofs.Common.{◌≡◌, ◌≤◌, length}
use Rattle.clause_search.specs.Path.{free_count}
use Rattle.clause_search.specs.State.{IsSearching, HasLists, IsWatchingFrom}
use Rattle.clause_search.proofs.run.advance.Given as goal

abbrev pub invariant-decide : goal.invariant-decide
invariant-decide l =
    IsSearching l.log l.trail
    × HasLists l.log l.trail l.watches
    × (length l.trail.places.items ≡ length l.initial.trail.places.items)
    × (l.head ≤ length l.trail.path.items)
    × IsWatchingFrom l.head l.log l.trail l.watches

abbrev pub decreases-decide : goal.decreases-decide
decreases-decide l = free_count l.trail.places.items
