-- The state of a search: its log, its trail and its watched literals.
use Rattle.std.specs.Prelude.{ℕ, length}
use Rattle.clause_log.specs.Log.{ClauseLog, clauses_of}
use Rattle.clause_search.specs.declared.trail.Trail.{Trail}
use Rattle.clause_search.specs.declared.watch.Watches.{Watches}
use Rattle.clause_search.specs.Path.{IsSearch}
use Rattle.clause_search.specs.Watch.{IsWatching}
use Rattle.clause_search.specs.Pass.{AreLists}

-- each literal of the trail is explained by the log, and nothing followed from the log where a level began
abbrev pub IsSearching : ClauseLog → Trail → Type 0
IsSearching log trail = IsSearch (clauses_of log) trail.path.items trail.reasons.items trail.starts.items (length trail.places.items)

-- each clause stands in the lists of the literals that it watches
abbrev pub HasLists : ClauseLog → Trail → Watches → Type 0
HasLists log trail watches = AreLists (clauses_of log) (length trail.places.items) watches.pairs.items watches.lists.items

-- each clause is watched, where the first q literals of the path were gone through
abbrev pub IsWatchingFrom : ℕ → ClauseLog → Trail → Watches → Type 0
IsWatchingFrom q log trail watches = IsWatching (clauses_of log) trail.path.items q trail.starts.items watches.pairs.items
