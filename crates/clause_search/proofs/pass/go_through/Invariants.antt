use Rattle.std.proofs.Common.{◌≡◌, ◌+◌, ◌-◌, ◌≤◌, length, get_or, []}
use Rattle.cnf_clauses.specs.Literal.{Literal, opposite, code_of}
use Rattle.clause_log.specs.Log.{clauses_of}
use Rattle.clause_search.specs.Path.{IsSearch, free_count}
use Rattle.clause_search.specs.Pass.{IsPassing, AreLists}
use Rattle.clause_search.proofs.pass.go_through.Given as goal

abbrev pub invariant-entries : goal.invariant-entries
invariant-entries l =
    IsSearch (clauses_of l.log) l.trail.path.items l.trail.reasons.items l.trail.starts.items (length l.trail.places.items)
    × AreLists (clauses_of l.log) (length l.trail.places.items) l.watches.pairs.items l.watches.lists.items
    × (l.trail.starts.items ≡ l.initial.trail.starts.items)
    × (length l.trail.places.items ≡ length l.initial.trail.places.items)
    × (free_count l.trail.places.items + length l.trail.path.items ≡ free_count l.initial.trail.places.items + length l.initial.trail.path.items)
    × (length l.initial.trail.path.items ≤ length l.trail.path.items)
    × ((d : Literal) → l.gone ≡ opposite (get_or l.trail.path.items l.q d))
    × (l.i ≤ length (get_or l.watches.lists.items (code_of l.gone) []))
    × IsPassing (clauses_of l.log) l.trail.path.items l.q l.trail.starts.items l.watches.pairs.items (get_or l.watches.lists.items (code_of l.gone) []) l.i

abbrev pub decreases-entries : goal.decreases-entries
decreases-entries l = length (get_or l.watches.lists.items (code_of l.gone) []) - l.i
