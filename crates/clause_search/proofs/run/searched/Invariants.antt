use Rattle.std.proofs.Common.{◌≡◌, ◌≤◌, length}
use Rattle.clause_log.specs.Log.{EachIsNew}
use Rattle.clause_search.specs.State.{IsSearching, HasLists, IsWatchingFrom}
use Rattle.clause_search.proofs.run.searched.Given as goal

abbrev pub invariant-lines : goal.invariant-lines
invariant-lines l =
    (l.log.formula ≡ l.fn.log.formula)
    × (length l.log.lines ≡ l.i)
    × EachIsNew l.log.formula.clauses l.log.lines
    × IsSearching l.log l.trail
    × (length l.trail.places.items ≡ l.fn.log.formula.variables)
    × (l.scratch.variables ≡ l.fn.log.formula.variables)
    × HasLists l.log l.trail l.watches
    × (l.head ≤ length l.trail.path.items)
    × IsWatchingFrom l.head l.log l.trail l.watches
