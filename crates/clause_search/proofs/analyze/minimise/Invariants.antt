use Rattle.std.proofs.Common.{◌≡◌, ◌≤◌}
use Rattle.clause_log.specs.Log.{clauses_of}
use Rattle.clause_log.specs.Resolution.{IsWithin}
use Rattle.clause_search.specs.Learnt.{IsLearnt, last_start}
use Rattle.clause_search.proofs.analyze.minimise.Given as goal

abbrev pub invariant-down : goal.invariant-down
invariant-down l =
    IsLearnt (clauses_of l.log) l.initial.derivation.start l.trail.path.items (last_start l.trail.starts.items) l.scratch.literals l.derivation.steps.items l.fn.first
    × (l.n ≤ last_start l.trail.starts.items)
    × (l.derivation.start ≡ l.initial.derivation.start)
    × (l.scratch.variables ≡ l.initial.scratch.variables)
    × IsWithin l.scratch.literals l.initial.scratch.literals

abbrev pub decreases-down : goal.decreases-down
decreases-down l = l.n
